-- The law on one step, by the words, the threads' states and the latches alone.
use Rattle.std.specs.Prelude.{◌≡◌, ℕ, Bool, true, Some}
use Rattle.rendezvous_steps.specs.declared.steps.Local.{Local}
use Rattle.rendezvous_steps.specs.declared.steps.How.{How}
use Rattle.rendezvous_steps.specs.declared.operations.Word.{Word}
use Rattle.rendezvous_steps.specs.declared.operations.Op.{Op}
use Rattle.rendezvous_steps.specs.Plan.{Plan, Sound}
use Rattle.rendezvous_steps.specs.Padded.{Padded}
use Rattle.rendezvous_steps.specs.Words.{families, touched, written, put_word}
use Rattle.rendezvous_steps.specs.StepTable.{operation, after}
use Rattle.rendezvous_steps.specs.Events.{put}
use Rattle.rendezvous_model.specs.RoundStep.{Round}
use Rattle.rendezvous_rule.specs.Shown.{shown}
use Rattle.rendezvous_rule.specs.Rule.{Rule}
use Rattle.rule_laws.specs.Kept.{event_of, is_step}

-- Thread t does the operation of its state, without patience or with, and finds what the word held.
-- From words and threads' states that meet the rule
-- this leads to words and threads' states that meet it,
-- and its item is a step of the model between the states that these stand for, whatever is latched.
abbrev pub StepLaw : Type 0
StepLaw =
    (plan : Plan) (words : Word → ℕ) (locals : ℕ → Local) (latched : ℕ → Bool) →
    (t : ℕ) (local : Local) (h : How) (op : Op) (found : ℕ) →
    Sound plan →
    Padded plan →
    Rule plan (families words) locals →
    is_step h ≡ true →
    local ≡ locals t →
    operation plan t local h ≡ Some op →
    words (touched op) ≡ found →
    (let next = after plan t local h found in
    let words' = put_word words (touched op) (written op found) in
    let locals' = put locals t next.0 in
    Rule plan (families words') locals'
    × (let before = shown plan (families words) locals latched in
    let after' = shown plan (families words') locals' latched in Round plan before (event_of h t) next.1 after'))
