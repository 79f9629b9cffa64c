-- What a load leaves, by the outcome of its rendezvous.
use Rattle.std.specs.Prelude.{◌≡◌, ℕ, ◌≤◌, Bool, true, false, Some, option_map}
use Rattle.rendezvous_steps.specs.declared.steps.ThreadResult.TheVariants as results
use Rattle.rendezvous_steps.specs.declared.ends.End.{End}
use Rattle.rendezvous_steps.specs.declared.ends.End.TheVariants as ends
use Rattle.rendezvous_steps.specs.Plan.{Plan}
use Rattle.rendezvous_model.specs.Verdict.{end_at}
use Rattle.rendezvous_rule.specs.Runs.{RunOf}
use Rattle.machine_steps.specs.BringUps.{revision}
use Rattle.script_text.specs.declared.command.Command.{Command}
use Rattle.session_steps.specs.State.{Setting, State, machine_of, cached_patches}
use Rattle.session_steps.specs.Did.{Did}
use Rattle.session_steps.specs.Step.{SessionStep}

-- the thread left with Updated or with Okay: it wrote its group's offer, or the group's primary did
abbrev pub has_succeeded : End → Bool
has_succeeded (ends.Left results.Updated) = true
has_succeeded (ends.Left results.Okay) = true
has_succeeded end = false

-- the group runs the revision that it was offered, and caches a patch of that revision
pub record HoldsOffer (plan : Plan) (state : State) (g : ℕ) : Type 0 where
  pub runs : plan.offer g ≡ Some (state.hardware.rev g)
  pub caches : option_map revision (cached_patches state g) ≡ Some (state.hardware.rev g)

pub record Leaves (setting : Setting) (before after : State) (run : RunOf) : Type 0 where
  -- a rendezvous that was dropped changes no revision
  pub dropped : 2 ≤ run.outcome.decide → (g : ℕ) → after.hardware.rev g ≡ before.hardware.rev g
  -- a thread that left with success stands in a group that holds its offer
  pub succeeded :
      (t : ℕ) → has_succeeded (end_at run.outcome t) ≡ true → HoldsOffer run.plan after ((machine_of setting).group t)

-- what every command leaves in which a rendezvous ran
abbrev pub LoadsLeave : Type 0
LoadsLeave =
    (lists : Bool) (setting : Setting) (state : State) (one : Command) (did : Did) (run : RunOf) →
    SessionStep lists setting state one did → did.ran ≡ Some run → Leaves setting state did.after run
