-- The lines of a session.
use Rattle.std.specs.Prelude.{ℕ, List, [], ◌++◌, Option, Some, None, codes, decimal, slice_index_or}
use Rattle.uc_bytes.specs.declared.causes.FileFault.{FileFault}
use Rattle.uc_text.specs.Digits.{hex8_of}
use Rattle.rendezvous_steps.specs.declared.ends.End.{End}
use Rattle.rendezvous_steps.specs.declared.ends.End.TheVariants as ends
use Rattle.rendezvous_steps.specs.ItemText.{result_text}
use Rattle.machine_steps.specs.declared.answers.HotAnswer.{HotAnswer}
use Rattle.machine_steps.specs.declared.answers.HotAnswer.TheVariants as hot
use Rattle.machine_steps.specs.declared.bring_ups.BringUp.{BringUp}
use Rattle.machine_steps.specs.declared.bring_ups.Written.{Written}
use Rattle.machine_steps.specs.declared.bring_ups.Written.TheVariants as written
use Rattle.entry_model.specs.declared.facts.EntryFacts.{EntryFacts}
use Rattle.report_text.specs.Lines.{cause_text, safe_text}
use Rattle.session_text.specs.declared.answers.CommandAnswer.{CommandAnswer}
use Rattle.session_text.specs.declared.answers.CommandAnswer.TheVariants as command
use Rattle.session_text.specs.declared.answers.LoadAnswer.{LoadAnswer}
use Rattle.session_text.specs.declared.answers.LoadAnswer.TheVariants as load

-- The heading.

abbrev pub number_text : Option ℕ → List ℕ
number_text (Some number) = codes " " ++ decimal number
number_text None = []

-- a command by its number in the script, from 1, with its word, and the thread or core that it is for
unfoldable pub command_line : ℕ → List ℕ → Option ℕ → List ℕ
command_line k word number = codes "command " ++ decimal k ++ codes " " ++ word ++ number_text number ++ codes "\n"

-- What is shown.

abbrev pub written_text : Written → List ℕ
written_text written.No = []
written_text written.Wrote = codes " wrote"
written_text written.Refused = codes " refused"

-- a thread that came up, the revision of its group then, and whether a write was made or refused
unfoldable pub up_line : BringUp → List ℕ
up_line up =
    codes "up " ++ decimal up.thread ++ codes " rev " ++ hex8_of up.rev ++ written_text up.written ++ codes "\n"

-- a core at a revision, and the entry that a load offers its group
unfoldable pub load_offer_line : ℕ → ℕ → ℕ → EntryFacts → List ℕ
load_offer_line core rev number facts =
    codes "offer core " ++ decimal core ++ codes " entry " ++ decimal number ++ codes " len " ++ decimal facts.len
    ++ codes " rev "
    ++ hex8_of facts.rev
    ++ safe_text facts.vendor facts.min rev
    ++ codes "\n"

-- how a thread came out of a rendezvous; one that took no part has no line
abbrev pub end_text : End → List ℕ
end_text (ends.Left result) = result_text result
end_text ends.Halted = codes "halted"
end_text ends.Withdrawn = codes "withdrawn"
end_text ends.Unfinished = codes "unfinished"
end_text ends.Absent = []

unfoldable pub cpu_line : ℕ → End → List ℕ
cpu_line t end = codes "cpu " ++ decimal t ++ codes " " ++ end_text end ++ codes "\n"

unfoldable pub core_line : ℕ → ℕ → List ℕ
core_line core rev = codes "core " ++ decimal core ++ codes " rev " ++ hex8_of rev ++ codes "\n"

-- The answer. A file is told by its name.

abbrev pub hot_text : HotAnswer → List ℕ
hot_text (hot.NotUp t) = codes "not-up " ++ decimal t
hot_text (hot.IsUp t) = codes "is-up " ++ decimal t
hot_text hot.BootThread = codes "boot-thread"
hot_text hot.PoweredDown = codes "powered-down"
hot_text hot.Booted = codes "booted"
hot_text hot.NotAsleep = codes "not-asleep"

abbrev pub bad_file_text : List ℕ → FileFault → List ℕ
bad_file_text name fault =
    codes "bad-file " ++ name ++ codes " at " ++ decimal fault.offset ++ codes " " ++ cause_text fault.cause

abbrev pub name_at : List (List ℕ) → ℕ → List ℕ
name_at names file = slice_index_or names file []

abbrev pub load_text : List (List ℕ) → LoadAnswer → List ℕ
load_text names load.Done = codes "done"
load_text names (load.Busy t) = codes "busy " ++ decimal t
load_text names (load.ReadFault file) = codes "read-fault " ++ name_at names file
load_text names (load.BadFile file fault) = bad_file_text (name_at names file) fault
load_text names load.NotFound = codes "not-found"
load_text names (load.PoolFull needed) = codes "pool-full " ++ decimal needed
load_text names (load.Panicked t) = codes "panicked " ++ decimal t
load_text names (load.Unfinished t) = codes "unfinished " ++ decimal t
load_text names (load.OfflineSilent kicks) = codes "offline-silent " ++ decimal kicks
load_text names (load.TimedOut t) = codes "timed-out " ++ decimal t
load_text names (load.Failed t) = codes "failed " ++ decimal t
load_text names (load.Incomplete t) = codes "incomplete " ++ decimal t

abbrev pub answer_text : List (List ℕ) → CommandAnswer → List ℕ
answer_text names command.Done = codes "done"
answer_text names (command.Hot answer) = hot_text answer
answer_text names (command.Load answer) = load_text names answer

unfoldable pub answer_line : List (List ℕ) → CommandAnswer → List ℕ
answer_line names answer = codes "answer " ++ answer_text names answer ++ codes "\n"
