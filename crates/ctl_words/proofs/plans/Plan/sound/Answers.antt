use Rattle.std.proofs.Common.{◌≡◌, true, rules}
use Rattle.ctl_words.proofs.Soundness.{IsSound-from_parts, GroupsFit-of_sound}
use Rattle.ctl_words.proofs.plans.Plan.sound.Goals as goal
use Rattle.ctl_words.proofs.plans.Plan.sound.Goals.{then-tables_fit, else-tables_fit, then-first_is_online, else-first_is_online}

-- each test says its part, and the parts together are soundness
pub returns-then-threads_fit : goal.returns-then-threads_fit
returns-then-threads_fit c =
    elim c.if-first_is_online.branch [
      | then-first_is_online w ↦ elim c.if-tables_fit.branch [
        | then-tables_fit v ↦
            let first : v.first_is_online.result ≡ true = cc in
            let threads : w.threads_fit.result ≡ true = cc in (
              λ fits. IsSound-from_parts _ (c.tables_fit.ensures.0 v.if-tables_fit.true) (v.first_is_online.ensures.0 first) (w.threads_fit.ensures.0 threads) (c.groups_fit.ensures.0 fits),
              λ sound. c.groups_fit.ensures.1 (GroupsFit-of_sound _ sound),
            )
        | else-tables_fit v ↦ absurd (search rules)
      ]
      | else-first_is_online w ↦ absurd (search rules)
    ]
