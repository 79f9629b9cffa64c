-- The words of a schedule, one after the other.
use Rattle.std.proofs.Common.{◌≡◌, ◌+◌, ◌-◌, ◌^◌, ◌<◌, ℕ, Bool, true, false, ◌&&◌, List, [], ◌∷◌, ◌++◌, drop, map, min, refl, sym, ap, subst, ◌∙◌, ◌≤◌, arith, append_assoc, append-nil, length, not, nat_lt, Option, Some, None, Result, Ok, Err}
use Rattle.std.specs.Prelude.{if◌then◌else◌}
use Rattle.std.specs.List.{list_all}
use Rattle.std.proofs.lemmas.Bool.{le-ltb, lt-ltb}
use Rattle.rendezvous_steps.specs.declared.ends.Beat.{Beat}
use Rattle.script_text.specs.declared.fault.ScriptCause.{ScriptCause}
use Rattle.script_text.specs.declared.fault.ScriptCause.TheVariants.{Word, Number, Range, TooMany}
use Rattle.script_text.specs.declared.forms.Limits.{Limits}
use Rattle.script_text.specs.Forms.{is_beat}
use Rattle.script_text.specs.Stands.{beat_of, beats_of}
use Rattle.script_text.specs.Checks.{spells}
use Rattle.script_text.specs.Within.{fits_beat, events_of, events_of_beat}
use Rattle.uc_script.specs.declared.answer.LineAnswer.{LineAnswer}
use Rattle.uc_script.specs.declared.answer.LineAnswer.TheVariants.{Cause, NoMemory}
use Rattle.uc_text.specs.Lines.{words_of}
use Rattle.uc_script.specs.FirstLine.{first_line}
use Rattle.uc_script.specs.Schedules.{Counted, IsBeatRead, IsFirstBeat, IsScheduled, AddsBeats, LeavesSchedule, schedule_fault}

-- the tests of words so far, and of those that are left, come to the tests of all; the beats so far are counted
pub record IsScheduledSoFar (limits : Limits) (words : List (List ℕ)) (old : List Beat) (left : List (List ℕ)) (beats : List Beat) (events : ℕ) (spelled in_range : Bool) : Type 0 where
  pub forms : list_all is_beat left ≡ list_all is_beat words
  pub numbers : (spelled && list_all spells (map (drop 1) left)) ≡ list_all spells (map (drop 1) words)
  pub ranges : spelled ≡ true → (in_range && list_all (fits_beat limits) (beats_of left)) ≡ list_all (fits_beat limits) (beats_of words)
  pub stand : spelled ≡ true → in_range ≡ true → beats ++ beats_of left ≡ old ++ beats_of words
  pub counted : Counted limits beats events

-- one more beat
events_of-push : (limits : Limits) (beats : List Beat) (beat : Beat) → events_of limits (beats ++ beat ∷ []) ≡ events_of limits beats + events_of_beat limits beat
events_of-push limits [] beat = omega arith
events_of-push limits (first ∷ beats) beat = omega (arith, events_of-push limits beats beat)

pub counted-push : (limits : Limits) (beats : List Beat) (beat : Beat) (events more next : ℕ) → Counted limits beats events → more ≡ events_of_beat limits beat → next ≡ min (events + more) (2 ^ 64 - 1) → Counted limits (beats ++ beat ∷ []) next
counted-push limits beats beat events more next counted is is_next = omega (arith, counted, is, is_next, events_of-push limits beats beat)

and_rest : (b c d : Bool) → c ≡ true → (b && (c && d)) ≡ (b && d)
and_rest b true d is = refl
and_rest b false d is = absurd cc

module _ (limits : Limits) (words : List (List ℕ)) (old : List Beat) (items : List (List ℕ)) (word : List ℕ) (left : List (List ℕ)) (beats : List Beat) (events : ℕ) (spelled in_range : Bool)
    (split : items ≡ word ∷ left) (given : IsScheduledSoFar limits words old items beats events spelled in_range) (form : is_beat word ≡ true) where
  before : IsScheduledSoFar limits words old (word ∷ left) beats events spelled in_range
  before = subst (λ (ws : List (List ℕ)). IsScheduledSoFar limits words old ws beats events spelled in_range) split given

  all_forms : list_all is_beat left ≡ list_all is_beat words
  all_forms = sym (ap (λ (b : Bool). b && list_all is_beat left) form) ∙ before.forms

  -- a word that is a beat
  pub scheduled_beat : (beat : Beat) (pushed : List Beat) (more next : ℕ) → spells (drop 1 word) ≡ true → fits_beat limits (beat_of word) ≡ true → beat ≡ beat_of word → pushed ≡ beats ++ beat ∷ []
      → more ≡ events_of_beat limits beat → next ≡ min (events + more) (2 ^ 64 - 1) → IsScheduledSoFar limits words old left pushed next spelled in_range
  scheduled_beat beat pushed more next number fits is is_pushed is_more is_next = record {
    forms = all_forms;
    numbers = sym (and_rest spelled (spells (drop 1 word)) _ number) ∙ before.numbers;
    ranges = λ s. sym (and_rest in_range (fits_beat limits (beat_of word)) _ fits) ∙ before.ranges s;
    stand = λ s r. ap (λ (bs : List Beat). bs ++ beats_of left) is_pushed ∙ append_assoc beats (beat ∷ []) (beats_of left) ∙ ap (λ (b : Beat). beats ++ b ∷ beats_of left) is ∙ before.stand s r;
    counted = subst (λ (bs : List Beat). Counted limits bs next) (sym is_pushed) (counted-push limits beats beat events more next before.counted is_more is_next);
  }

-- the first check that fails is told by these four tests
abbrev first_failing : Bool → Bool → Bool → Bool → Option ScriptCause
first_failing forms numbers ranges many =
    if not forms then Some Word
    else if not numbers then Some Number
    else if not ranges then Some Range
    else if many then Some TooMany
    else None

same_failing : (a b c d e f g h : Bool) → a ≡ e → b ≡ f → c ≡ g → d ≡ h → first_failing a b c d ≡ first_failing e f g h
same_failing a b c d e f g h ae bf cg dh = cc

-- a word that passes goes over to the beats
pub leaves_less : (limits : Limits) (words : List (List ℕ)) (old : List Beat) (left : List (List ℕ)) (beats : List Beat) (word : List ℕ) (more : List (List ℕ)) (beat : Beat) (pushed : List Beat)
    → LeavesSchedule limits words old left beats → left ≡ word ∷ more → IsBeatRead limits word (Ok beat) → pushed ≡ beats ++ beat ∷ [] → LeavesSchedule limits words old more pushed
leaves_less limits words old left beats word more beat pushed so_far split read is_pushed =
    let is : beat ≡ beat_of word = read.3 in
    let stand : beats ++ beats_of (word ∷ more) ≡ pushed ++ beats_of more =
    sym (ap (λ (bs : List Beat). bs ++ beats_of more) is_pushed ∙ append_assoc beats (beat ∷ []) (beats_of more) ∙ ap (λ (b : Beat). beats ++ b ∷ beats_of more) is) in
    let fault : schedule_fault limits beats (word ∷ more) ≡ schedule_fault limits pushed more =
    same_failing (list_all is_beat (word ∷ more)) (list_all spells (map (drop 1) (word ∷ more))) (list_all (fits_beat limits) (beats_of (word ∷ more))) (nat_lt 4194304 (events_of limits (beats ++ beats_of (word ∷ more))))
    (list_all is_beat more) (list_all spells (map (drop 1) more)) (list_all (fits_beat limits) (beats_of more)) (nat_lt 4194304 (events_of limits (pushed ++ beats_of more)))
    (ap (λ (b : Bool). b && list_all is_beat more) read.0) (ap (λ (b : Bool). b && list_all spells (map (drop 1) more)) read.1) (ap (λ (b : Bool). b && list_all (fits_beat limits) (beats_of more)) read.2)
    (ap (λ (bs : List Beat). nat_lt 4194304 (events_of limits bs)) stand) in
    (so_far.0 ∙ ap (schedule_fault limits beats) split ∙ fault, so_far.1 ∙ ap (λ (ws : List (List ℕ)). beats ++ beats_of ws) split ∙ stand)

-- what the words that are left come to is what all come to
pub leaves_scheduled : {A : Type 0} (limits : Limits) (words : List (List ℕ)) (old : List Beat) (left : List (List ℕ)) (beats new : List Beat) (events : ℕ) (r : Result A LineAnswer)
    → LeavesSchedule limits words old left beats → IsScheduled limits left beats new events r → IsScheduled limits words old new events r
leaves_scheduled limits words old left beats new events (Ok _) leaves done = (leaves.0 ∙ done.0, done.1 ∙ sym leaves.1, done.2)
leaves_scheduled limits words old left beats new events (Err (Cause cause)) leaves done = leaves.0 ∙ done
leaves_scheduled limits words old left beats new events (Err NoMemory) leaves done = tt

-- where no word is left, the line is done, or has too many events
pub leaves_none : {A : Type 0} (x : A) (limits : Limits) (words : List (List ℕ)) (old beats : List Beat) (events : ℕ)
    → LeavesSchedule limits words old [] beats → Counted limits beats events → events ≤ 4194304 → IsScheduled limits words old beats events (Ok x)
leaves_none x limits words old beats events leaves counted few =
    let all : beats ++ [] ≡ beats = append-nil beats in
    let more : nat_lt 4194304 (events_of limits (beats ++ [])) ≡ false = le-ltb _ _ (omega (arith, counted, few, ap (events_of limits) all)) in
    leaves_scheduled limits words old [] beats beats events (Ok x) leaves (ap (first_failing true true true) more, sym all, counted)

pub leaves_many : (A : Type 0) (limits : Limits) (words : List (List ℕ)) (old beats : List Beat) (events : ℕ)
    → LeavesSchedule limits words old [] beats → Counted limits beats events → 4194304 < events → IsScheduled {A = A} limits words old beats events (Err (Cause TooMany))
leaves_many A limits words old beats events leaves counted many =
    let all : beats ++ [] ≡ beats = append-nil beats in
    let more : nat_lt 4194304 (events_of limits (beats ++ [])) ≡ true = lt-ltb _ _ (omega (arith, counted, many, ap (events_of limits) all)) in
    leaves.0 ∙ ap (first_failing true true true) more

-- one more event of a line is put
pub adds_beat : (limits : Limits) (text : List ℕ) (old : List Beat) (rest : List ℕ) (beats : List Beat) (beat : Beat) (more : List ℕ) (pushed : List Beat)
    → AddsBeats limits text old rest beats → IsFirstBeat limits rest beat more false → pushed ≡ beats ++ beat ∷ [] → AddsBeats limits text old more pushed
adds_beat limits text old rest beats beat more pushed so_far found is_pushed = record {
  leaves = leaves_less limits (words_of (first_line text)) old (words_of (first_line rest)) beats (found.mark ∷ found.digits) (words_of (first_line more)) beat pushed so_far.leaves found.words found.read is_pushed;
  after = so_far.after ∙ found.after;
  fewer = omega (arith, so_far.fewer, ap length found.words);
}

-- where two parts of a line are put one after the other
pub leaves_on : (limits : Limits) (words : List (List ℕ)) (old : List Beat) (left : List (List ℕ)) (beats : List Beat) (more : List (List ℕ)) (new : List Beat)
    → LeavesSchedule limits words old left beats → LeavesSchedule limits left beats more new → LeavesSchedule limits words old more new
leaves_on limits words old left beats more new first second = (first.0 ∙ second.0, first.1 ∙ second.1)
