use Rattle.std.proofs.Common.{◌≡◌, ℕ, Bool, not, cond, sym, ap, ◌∙◌, arith}
use Rattle.rendezvous_steps.specs.Events.{shows_finished}
use Rattle.ctl_words.specs.Lists.{word_of}
use Rattle.ctl_words.specs.Plans.{plan_of}
use Rattle.ctl_core.proofs.Counting.{from_zero}
use Rattle.ctl_core.proofs.looks.unfinished.Goals as goal
use Rattle.ctl_core.proofs.looks.unfinished.Goals.{then-not-is_finished, else-not-is_finished}

pub loop-thread-preserved : goal.loop-thread-preserved
loop-thread-preserved c =
    let test : ℕ → Bool = λ t. not (shows_finished (plan_of c.args.plan.now) (word_of c.args.words.now) t) in
    let more = from_zero test c.loop-thread.thread in
    elim c.if-not-is_finished.branch [
      | then-not-is_finished w ↦
          let passes : cond (test c.loop-thread.thread) 1 0 ≡ 1 = ap {B = ℕ} (λ b. cond (not b) 1 0) (sym c.is_finished.ensures ∙ w.if-not-is_finished.true) in
          record { so_far = omega (arith, more, passes, c.loop-thread.invariant.so_far); few = omega arith }
      | else-not-is_finished w ↦
          let fails : cond (test c.loop-thread.thread) 1 0 ≡ 0 = ap {B = ℕ} (λ b. cond (not b) 1 0) (sym c.is_finished.ensures ∙ w.if-not-is_finished.false) in
          record { so_far = omega (arith, more, fails, c.loop-thread.invariant.so_far); few = omega arith }
    ]
