-- How the words show that a thread came out.
use Rattle.std.specs.Prelude.{ℕ}
use Rattle.rendezvous_steps.specs.declared.ends.End.{End}
use Rattle.rendezvous_steps.specs.declared.operations.Word.{Word}
use Rattle.rendezvous_steps.specs.declared.operations.Word.TheVariants.{Mode, Ctrl, Nmi}
use Rattle.rendezvous_steps.specs.Plan.{Plan}
use Rattle.rendezvous_model.specs.Outcome.{end_of}
use Rattle.rendezvous_rule.specs.Shown.{place_of}

-- as the place that they show for it
abbrev pub end_in : Plan → (Word → ℕ) → ℕ → End
end_in plan words t = end_of (place_of (plan.kind t) (words (Mode t)) (words (Ctrl t)) (words (Nmi t)))
