use Rattle.std.proofs.Common.{ℕ, ◌++◌, [], ◌∷◌, length, ap, sym, ◌∙◌, arith}
use Rattle.std.proofs.lemmas.List.FromFn.{length-map-range_with_len, map-range_with_len_more}
use Rattle.rendezvous_steps.specs.declared.operations.Word.TheVariants.{Rev}
use Rattle.ctl_table.specs.Lasts.{words_at}
use Rattle.ctl_table.proofs.last.Last.fill_revisions.Goals as goal

pub push-requires : goal.push-requires
push-requires c =
    let came : ℕ → ℕ = λ g. words_at c.args.self.now (Rev g) in
    let so_far = ap length c.loop-group.invariant.so_far ∙ length-map-range_with_len came 0 c.loop-group.group in
    let counted = c.loop-group.revisions.entries.ok.0 in
    record {
      few = omega (arith, so_far, counted, c.groups-group-end.ensures.few, c.loop-group-test.true);
      room = omega (arith, so_far, counted, c.loop-group.invariant.room, c.groups-group-end.ensures.value, c.loop-group-test.true);
    }

pub loop-group-preserved : goal.loop-group-preserved
loop-group-preserved c =
    let came : ℕ → ℕ = λ g. words_at c.args.self.now (Rev g) in
    let n = c.loop-group.group in
    record {
      so_far = c.push.ensures.entries ∙ ap (λ xs. xs ++ c.revision.result ∷ []) c.loop-group.invariant.so_far
          ∙ rw c.revision.ensures (sym (map-range_with_len_more came 0 n n (omega arith)));
      room = omega (arith, c.push.ensures.room, c.loop-group.invariant.room);
    }
