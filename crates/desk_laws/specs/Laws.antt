-- Laws on histories.
use Rattle.std.specs.Prelude.{◌≡◌, ℕ, Bool, true, false, List, [], ◌∷◌, ◌++◌}
use Rattle.session_steps.specs.script_text.declared.command.Command.TheVariants.{Boot}
use Rattle.session_steps.specs.State.{Setting, State, opening_state}
use Rattle.session_steps.specs.Did.{Did}
use Rattle.session_steps.specs.Step.{SessionStep}
use Rattle.session_steps.specs.session_text.declared.answers.CommandAnswer.TheVariants.{Done, Load}
use Rattle.session_steps.specs.session_text.declared.answers.LoadAnswer.TheVariants.{Busy, BadFile, NotFound, PoolFull}
use Rattle.desk_steps.specs.declared.calls.DeskCall.TheVariants.{Reload}
use Rattle.desk_steps.specs.declared.calls.DeskReply.{DeskReply}
use Rattle.desk_steps.specs.declared.calls.DeskReply.TheVariants.{Command}
use Rattle.desk_steps.specs.declared.calls.DeskEntry.{DeskEntry}
use Rattle.desk_steps.specs.Run.{CallLeads, EntryLeads, DeskRun}

-- after a boot without files there is the history without entries
abbrev pub Begins : Type 0
Begins =
    (setting : Setting) (file : List ℕ) (boot : Did) →
    SessionStep true setting (opening_state setting) (Boot []) boot → DeskRun setting file [] boot.after

-- an entry that leads on from where a history ends makes it longer
abbrev pub GoesOn : Type 0
GoesOn =
    (setting : Setting) (file : List ℕ) (entries : List DeskEntry) (entry : DeskEntry) (state next : State) →
    DeskRun setting file entries state →
    EntryLeads setting file state entry next → DeskRun setting file (entries ++ entry ∷ []) next

-- where a history ends no group refuses a write
abbrev pub NoneRefuses : Type 0
NoneRefuses =
    (setting : Setting) (file : List ℕ) (entries : List DeskEntry) (state : State) →
    DeskRun setting file entries state → (g : ℕ) → state.hardware.refuses g ≡ false

-- the five replies of a reload
abbrev pub is_reload_reply : DeskReply → Bool
is_reload_reply (Command Done) = true
is_reload_reply (Command (Load (Busy t))) = true
is_reload_reply (Command (Load (BadFile file fault))) = true
is_reload_reply (Command (Load NotFound)) = true
is_reload_reply (Command (Load (PoolFull needed))) = true
is_reload_reply reply = false

-- where a history ends, a reload has one of the five, and no other
abbrev pub ReloadReplies : Type 0
ReloadReplies =
    (setting : Setting) (file : List ℕ) (entries : List DeskEntry) (state next : State) (reply : DeskReply) →
    DeskRun setting file entries state →
    CallLeads setting file state Reload reply next → is_reload_reply reply ≡ true
