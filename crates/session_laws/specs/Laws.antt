-- What holds of every command of a session.
use Rattle.std.specs.Prelude.{◌≡◌, ◌≢◌, ℕ, ◌≤◌, Bool, true, false}
use Rattle.rendezvous_rule.specs.Runs.{RanGrows}
use Rattle.rendezvous_steps.specs.ItemText.{item_line}
use Rattle.script_text.specs.declared.command.Command.{Command}
use Rattle.script_text.specs.declared.command.Command.TheVariants as command
use Rattle.session_text.specs.declared.answers.CommandAnswer.{CommandAnswer}
use Rattle.session_text.specs.declared.answers.CommandAnswer.TheVariants.{Hot, Load}
use Rattle.session_text.specs.declared.answers.LoadAnswer.TheVariants as load
use Rattle.session_steps.specs.State.{Setting, State}
use Rattle.session_steps.specs.Did.{Did}
use Rattle.session_steps.specs.Step.{SessionStep}

-- the answer is a refusal: the command was not done, and no rendezvous ran
abbrev pub is_refusal : CommandAnswer → Bool
is_refusal (Hot answer) = true
is_refusal (Load (load.Busy t)) = true
is_refusal (Load (load.ReadFault file)) = true
is_refusal (Load (load.BadFile file fault)) = true
is_refusal (Load load.NotFound) = true
is_refusal (Load (load.PoolFull needed)) = true
is_refusal answer = false

-- a refusal leaves the state as it was
abbrev pub RefusalsKeep : Type 0
RefusalsKeep =
    (lists : Bool) (setting : Setting) (state : State) (one : Command) (did : Did) →
    SessionStep lists setting state one did → is_refusal did.answer ≡ true → did.after ≡ state

-- no command but a suspend lets a group's revision fall, where no rendezvous does
abbrev pub NeverFalls : Type 0
NeverFalls =
    (lists : Bool) (setting : Setting) (state : State) (one : Command) (did : Did) (g : ℕ) →
    RanGrows item_line lists → one ≢ command.Suspend →
    SessionStep lists setting state one did → state.hardware.rev g ≤ did.after.hardware.rev g
