-- The schedules of loads, read word by word.
use Rattle.std.specs.Prelude.{◌≡◌, ℕ, ◌<◌, ◌≤◌, ◌-◌, ◌^◌, Bool, true, false, not, List, [], ◌∷◌, ◌++◌, drop, length}
use Rattle.std.specs.Prelude.{map, min, nat_lt, slice_index, Option, Some, None, is_some, unwrap_or, Result, Ok, Err}
use Rattle.std.specs.Prelude.{if◌then◌else◌, IfOk}
use Rattle.std.specs.Borrow.{Bor}
use Rattle.std.specs.List.{list_all}
use Rattle.rendezvous_steps.specs.declared.ends.Beat.{Beat}
use Rattle.script_text.specs.declared.fault.ScriptCause.{ScriptCause}
use Rattle.script_text.specs.declared.fault.ScriptCause.TheVariants.{Word, Number, Range, TooMany}
use Rattle.script_text.specs.declared.forms.Limits.{Limits}
use Rattle.uc_text.specs.Lines.{counts, words_of}
use Rattle.uc_text.specs.Numbers.{number_of}
use Rattle.script_text.specs.declared.forms.Form.TheVariants.{End}
use Rattle.script_text.specs.Forms.{is_beat, kind_of, has_form}
use Rattle.script_text.specs.Stands.{beat_with_some, beats_of}
use Rattle.script_text.specs.Checks.{spells}
use Rattle.script_text.specs.Within.{fits_beat, events_of, events_of_beat}
use Rattle.uc_script.specs.declared.answer.LineAnswer.{LineAnswer}
use Rattle.uc_script.specs.declared.answer.LineAnswer.TheVariants.{Cause, NoMemory}
use Rattle.uc_script.specs.declared.answer.ScriptAnswer.{ScriptAnswer}
use Rattle.uc_script.specs.Answers.{answer_at}
use Rattle.uc_script.specs.FirstLine.{first_line, after_line, left_words, left_text}

-- the events of beats, counted up to the greatest number of 64 bits
abbrev pub Counted : Limits → List Beat → ℕ → Type 0
Counted limits beats events = events ≡ min (events_of limits beats) (2 ^ 64 - 1)

-- the beat of a word's first byte and of the number that the rest spells, where it does; or the first check that fails
abbrev pub IsBeatOf : Limits → ℕ → Option ℕ → Result Beat ScriptCause → Type 0
IsBeatOf limits first number (Ok beat) =
    (is_some (kind_of first) ≡ true) × (is_some number ≡ true)
    × (fits_beat limits (beat_with_some (kind_of first) (unwrap_or number 0)) ≡ true)
    × (beat ≡ beat_with_some (kind_of first) (unwrap_or number 0))
IsBeatOf limits first number (Err Word) = is_some (kind_of first) ≡ false
IsBeatOf limits first number (Err Number) = (is_some (kind_of first) ≡ true) × (is_some number ≡ false)
IsBeatOf limits first number (Err Range) =
    (is_some (kind_of first) ≡ true) × (is_some number ≡ true)
    × (fits_beat limits (beat_with_some (kind_of first) (unwrap_or number 0)) ≡ false)
IsBeatOf limits first number (Err cause) = ⊥

-- the beat of a word, or the first check that fails at the word alone
abbrev pub IsBeatRead : Limits → List ℕ → Result Beat ScriptCause → Type 0
IsBeatRead limits word read = IsBeatOf limits (slice_index word 0) (number_of (drop 1 word)) read

-- the same of the first of some words, which the others follow; none where there is no word
abbrev pub IsNextBeat : Limits → List (List ℕ) → List (List ℕ) → Option (Result Beat ScriptCause) → Type 0
IsNextBeat limits words left None = words ≡ []
IsNextBeat limits words left (Some read) = (word : List ℕ) × (words ≡ word ∷ left) × IsBeatRead limits word read

-- the first check that fails at the words of a schedule's line, after these beats
abbrev pub schedule_fault : Limits → List Beat → List (List ℕ) → Option ScriptCause
schedule_fault limits beats words =
    if not (list_all is_beat words) then Some Word
    else if not (list_all spells (map (drop 1) words)) then Some Number
    else if not (list_all (fits_beat limits) (beats_of words)) then Some Range
    else if nat_lt 4194304 (events_of limits (beats ++ beats_of words)) then Some TooMany
    else None

-- the line adds its beats, or fails at that check
abbrev pub IsScheduled : {A : Type 0} → Limits → List (List ℕ) → List Beat → List Beat → ℕ → Result A LineAnswer →
    Type 0
IsScheduled limits words old new events (Ok _) =
    (schedule_fault limits old words ≡ None) × (new ≡ old ++ beats_of words) × Counted limits new events
IsScheduled limits words old new events (Err (Cause cause)) = schedule_fault limits old words ≡ Some cause
IsScheduled limits words old new events (Err NoMemory) = Unit {0}

-- what a schedule's words state after these beats, and the first check that fails at them, is what the words that are
-- left state after those, and what fails at them
abbrev pub LeavesSchedule : Limits → List (List ℕ) → List Beat → List (List ℕ) → List Beat → Type 0
LeavesSchedule limits words old left beats =
    (schedule_fault limits old words ≡ schedule_fault limits beats left)
    × (old ++ beats_of words ≡ beats ++ beats_of left)

-- the first word of a text states this beat, and this is left of its line
pub record IsFirstBeat (limits : Limits) (text : List ℕ) (beat : Beat) (rest : List ℕ) (is_last : Bool) : Type 0 where
  pub mark : ℕ
  pub digits : List ℕ
  pub words : words_of (first_line text) ≡ (mark ∷ digits) ∷ left_words rest is_last
  pub read : IsBeatRead limits (mark ∷ digits) (Ok beat)
  pub after : after_line text ≡ left_text rest is_last
  pub first : slice_index (first_line text) 0 ≡ mark

-- the same, and the beat is one event
abbrev pub IsFirstEvent : Limits → List ℕ → Beat → List ℕ → Bool → Type 0
IsFirstEvent limits text event rest is_last =
    IsFirstBeat limits text event rest is_last × (events_of_beat limits event ≡ 1)

-- the words at the front of a text's first line are put, and the others are left; all that lines have after it is left
-- too
pub record AddsBeats (limits : Limits) (text : List ℕ) (old : List Beat) (rest : List ℕ)
    (new : List Beat) : Type 0 where
  pub leaves : LeavesSchedule limits (words_of (first_line text)) old (words_of (first_line rest)) new
  pub after : after_line text ≡ after_line rest
  pub fewer : length (words_of (first_line rest)) ≤ length (words_of (first_line text))

-- the first line of a text is none that is skipped, and does not end a load
pub record IsLineOfBeats (text : List ℕ) : Type 0 where
  pub some : 0 < length text
  pub counted : (number : ℕ) → counts (number, first_line text) ≡ true
  pub no_end : has_form (words_of (first_line text)) End ≡ false

-- the first line of a text is such a line, its beats are put and what follows it is left. Or it fails at a check
abbrev pub AddsLine : Limits → List ℕ → List Beat → List Beat → ℕ → Result (Bor (List ℕ)) LineAnswer → Type 0
AddsLine limits text old new events added =
    IsLineOfBeats text × IsScheduled limits (words_of (first_line text)) old new events added
    × IfOk added (λ rest. rest.now ≡ after_line text)

-- the first of some lines that count does not end a load, and its beats are put; the others are left. Or it fails at a
-- check
abbrev pub AddsShortLine : Limits → List (ℕ × List ℕ) → List Beat → List (ℕ × List ℕ) → List Beat → ℕ →
    Result (Unit {0}) ScriptAnswer → Type 0
AddsShortLine limits lines old left new events (Ok _) =
    (line : ℕ × List ℕ) × (lines ≡ line ∷ left) × (has_form (words_of line.1) End ≡ false)
    × IsScheduled {A = Unit {0}} limits (words_of line.1) old new events (Ok tt)
AddsShortLine limits lines old left new events (Err answer) =
    (line : ℕ × List ℕ) × (more : List (ℕ × List ℕ)) × (why : LineAnswer) × (lines ≡ line ∷ more)
    × (has_form (words_of line.1) End ≡ false)
    × IsScheduled {A = Unit {0}} limits (words_of line.1) old new events (Err why) × (answer ≡ answer_at line.0 why)
