use Rattle.std.proofs.Common.{ℕ, ◌++◌, [], ◌∷◌, length, ap, sym, ◌∙◌, arith}
use Rattle.std.proofs.lemmas.List.FromFn.{length-map-range_with_len, map-range_with_len_more}
use Rattle.rendezvous_steps.specs.declared.ends.End.{End}
use Rattle.ctl_words.specs.Plans.{plan_of}
use Rattle.ctl_words.specs.Lists.{word_of}
use Rattle.uc_rendezvous.specs.Ends.{end_in}
use Rattle.ctl_core.proofs.moments.Moment.fill_ends.Goals as goal

pub push-requires : goal.push-requires
push-requires c =
    let came : ℕ → End = end_in (plan_of c.args.plan.now) (word_of c.self.inside.words) in
    let so_far = ap length c.threads.invariant ∙ length-map-range_with_len came 0 c.threads.thread in
    (omega arith, omega (arith, so_far, c.requires.tables.few_threads, c.threads-test.true))

pub threads-preserved : goal.threads-preserved
threads-preserved c =
    let came : ℕ → End = end_in (plan_of c.args.plan.now) (word_of c.self.inside.words) in
    let n = c.threads.thread in
    c.push.ensures.items ∙ ap (λ xs. xs ++ c.end.result ∷ []) c.threads.invariant
    ∙ rw c.end.ensures (sym (map-range_with_len_more came 0 n n (omega arith)))
