-- The text of a history, a line for each entry, numbered from 0; and how a run ends that wrote it.
use Rattle.std.specs.Prelude.{ℕ, suc, Bool, true, false, ◌&&◌, ◌||◌, if◌then◌else◌, List, [], ◌∷◌, ◌++◌, codes, decimal}
use Rattle.std.specs.List.{list_any, list_all}
use Rattle.uc_text.specs.Digits.{hex8_of}
use Rattle.status_rule.specs.declared.status.Status.{Status}
use Rattle.status_rule.specs.declared.status.Status.TheVariants as status
use Rattle.session_text.specs.declared.answers.CommandAnswer.TheVariants.{Done, Load}
use Rattle.session_text.specs.declared.answers.LoadAnswer.TheVariants.{BadFile}
use Rattle.session_text.specs.Lines.{answer_text}
use Rattle.desk_steps.specs.declared.calls.DeskCall.{DeskCall}
use Rattle.desk_steps.specs.declared.calls.DeskCall.TheVariants.{Reload, Online, Offline, Version}
use Rattle.desk_steps.specs.declared.calls.DeskReply.{DeskReply}
use Rattle.desk_steps.specs.declared.calls.DeskReply.TheVariants.{Command, Revision}
use Rattle.desk_steps.specs.declared.calls.DeskEntry.{DeskEntry}

abbrev pub call_text : DeskCall → List ℕ
call_text Reload = codes "reload"
call_text (Online t) = codes "online " ++ decimal t
call_text (Offline t) = codes "offline " ++ decimal t
call_text (Version g) = codes "version " ++ decimal g

-- what was replied; a file that is refused is told by the name that the command line has for it
abbrev pub reply_text : List ℕ → DeskReply → List ℕ
reply_text name (Command answer) = codes " answer " ++ answer_text (name ∷ []) answer
reply_text name (Revision rev) = codes " rev " ++ hex8_of rev

unfoldable pub entry_line : List ℕ → ℕ → DeskEntry → List ℕ
entry_line name k entry =
    codes "entry " ++ decimal k ++ codes " " ++ call_text entry.call ++ reply_text name entry.reply ++ codes "\n"

-- the lines of entries, of which the first has number k
abbrev pub history_from : List ℕ → ℕ → List DeskEntry → List ℕ
history_from name k [] = []
history_from name k (entry ∷ entries) = entry_line name k entry ++ history_from name (suc k) entries

abbrev pub is_bad_file : DeskReply → Bool
is_bad_file (Command (Load (BadFile place fault))) = true
is_bad_file reply = false

-- a command that was done; what a revision is makes no difference
abbrev pub is_done : DeskReply → Bool
is_done (Command Done) = true
is_done (Command answer) = false
is_done (Revision rev) = true

-- a refused file is told by the status of bad input; else all was done, or something was not
unfoldable pub history_status : List DeskEntry → Status
history_status entries =
    if list_any (λ entry. is_bad_file entry.reply) entries then status.BadInput
    else if list_all (λ entry. is_done entry.reply) entries then status.Done
    else status.Short
