-- A run that was held is one of a rendezvous that prints nothing.
use Rattle.std.proofs.Common.{ℕ, false, List, [], Result, Ok, Err, refl, sym, subst, arith}
use Rattle.std.proofs.lemmas.List.{append-nil}
use Rattle.uc_io.specs.Writing.{Grew}
use Rattle.rendezvous_steps.specs.declared.ends.Beat.{Beat}
use Rattle.rendezvous_steps.specs.Plan.{Plan}
use Rattle.rendezvous_rule.specs.Runs.{RunOf}
use Rattle.uc_rendezvous.specs.declared.outcomes.Outcome.{Outcome as Tables}
use Rattle.uc_rendezvous.specs.declared.runs.RunAnswer.{RunAnswer}
use Rattle.uc_rendezvous.specs.declared.runs.RunAnswer.TheVariants.{WriteFault, NoMemory}
use Rattle.uc_rendezvous.specs.Runs.{IsRun}
use Rattle.uc_live.specs.Runs.{HeldTo}

module _ {D : Type 0} (stands : D → List ℕ → Type 0) (faults : D → ℕ) (plan : Plan) (beats : List Beat) (before after' : List RunOf) (sink : D) where
  stays : Grew stands sink sink []
  stays = record { each = λ taken held. subst (λ (bytes : List ℕ). stands sink bytes) (sym (append-nil taken)) held }

  pub held_is_run : (result : Result Tables RunAnswer) → HeldTo plan before after' result → IsRun (record { stands = stands; faults = faults; lists = false }) plan beats (record { runs = before; sink = sink }) (record { runs = after'; sink = sink }) result
  held_is_run (Ok outcome) held =
      record {
        later = omega arith;
        still = refl;
        answer = record { text = []; late = held.late; ran = held.unlisted; grew = stays; kept = λ _. held.kept };
      }
  held_is_run (Err WriteFault) held = absurd held
  held_is_run (Err NoMemory) held =
      record { later = omega arith; still = tt; answer = record { same_sink = refl; kept = λ _. held } }
