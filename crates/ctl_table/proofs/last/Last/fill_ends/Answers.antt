use Rattle.std.proofs.Common.{ℕ, ◌++◌, [], ◌∷◌, length, ap, sym, ◌∙◌, arith}
use Rattle.std.proofs.lemmas.List.FromFn.{length-map-range_with_len, map-range_with_len_more}
use Rattle.rendezvous_steps.specs.declared.ends.End.{End}
use Rattle.uc_rendezvous.specs.Ends.{end_in}
use Rattle.ctl_table.specs.Lasts.{plan_at, words_at}
use Rattle.ctl_table.proofs.last.Last.fill_ends.Goals as goal

pub push-requires : goal.push-requires
push-requires c =
    let came : ℕ → End = end_in (plan_at c.args.self.now) (words_at c.args.self.now) in
    let so_far = ap length c.loop-thread.invariant.so_far ∙ length-map-range_with_len came 0 c.loop-thread.thread in
    let counted = c.loop-thread.ends.entries.ok.0 in
    record {
      few = omega (arith, so_far, counted, c.args.self.now.sound.tables.few_threads, c.loop-thread-test.true);
      room = omega (arith, so_far, counted, c.loop-thread.invariant.room, c.loop-thread-test.true);
    }

pub loop-thread-preserved : goal.loop-thread-preserved
loop-thread-preserved c =
    let came : ℕ → End = end_in (plan_at c.args.self.now) (words_at c.args.self.now) in
    let n = c.loop-thread.thread in
    record {
      so_far = c.push.ensures.entries ∙ ap (λ xs. xs ++ c.end.result ∷ []) c.loop-thread.invariant.so_far
          ∙ rw c.end.ensures (sym (map-range_with_len_more came 0 n n (omega arith)));
      room = omega (arith, c.push.ensures.room, c.loop-thread.invariant.room);
    }
