-- The lines of a script, one after the other.
use Rattle.std.proofs.Common.{◌≡◌, ◌≢◌, inl, inr, ◌≤◌, ℕ, Bool, true, false, cond, List, [], ◌∷◌, ◌++◌, length, drop, filter, Option, Some, None, Result, Ok, Err, refl, sym, ap, subst, ◌∙◌, arith}
use Rattle.std.specs.List.{list_all}
use Rattle.std.proofs.lemmas.Bool.{le-leb, lt-leb}
use Rattle.uc_text.specs.Lines.{counts, words_of}
use Rattle.rendezvous_steps.specs.declared.ends.Beat.{Beat}
use Rattle.script_text.specs.declared.command.OpenLoad.{OpenLoad}
use Rattle.script_text.specs.declared.fault.ScriptCause.{ScriptCause}
use Rattle.script_text.specs.declared.fault.ScriptCause.TheVariants.{NoEnd, TooMany}
use Rattle.script_text.specs.declared.fault.ScriptFault.{ScriptFault}
use Rattle.script_text.specs.declared.forms.Form.{Form}
use Rattle.script_text.specs.declared.forms.Form.TheVariants as form
use Rattle.script_text.specs.declared.forms.Limits.{Limits}
use Rattle.script_text.specs.declared.forms.Place.{Place}
use Rattle.script_text.specs.declared.forms.Place.TheVariants.{Front, Top, AfterPool, Commands, InLoad}
use Rattle.script_text.specs.Forms.{form_of, has_form, is_beat}
use Rattle.script_text.specs.Stands.{Before, with_load, with_beats, with_end, beats_of}
use Rattle.script_text.specs.Reading.{after_form, after_line, unless_found, go_on, read_on}
use Rattle.script_text.proofs.FormsFound.{form_outside}
use Rattle.uc_script.specs.declared.answer.ScriptAnswer.{ScriptAnswer}
use Rattle.uc_script.specs.declared.answer.ScriptAnswer.TheVariants.{Fault, NoMemory}
use Rattle.uc_script.specs.declared.answer.LineAnswer.{LineAnswer}
use Rattle.uc_script.specs.declared.answer.LineAnswer.TheVariants as answer
use Rattle.uc_script.specs.Answers.{GoesOn, AddsLoad, EndsLoad, IsAdded, answer_at, is_single, without_form}
use Rattle.uc_script.specs.Schedules.{schedule_fault, IsScheduled}

abbrev fault_of : ℕ → ScriptCause → ScriptFault
fault_of line cause = record { line = line; cause = cause }

-- ---- any line

module _ (limits : Limits) (before : Before) (line : ℕ × List ℕ) (rest : List (ℕ × List ℕ)) where
  read_ok : (next : Before) → after_line limits before line ≡ Ok next → read_on limits before (line ∷ rest) ≡ read_on limits next rest
  unfolding read_on
  read_ok next is = ap (λ (r : Result Before ScriptCause). go_on line.0 r (λ next. read_on limits next rest)) is

  read_err : (cause : ScriptCause) → after_line limits before line ≡ Err cause → read_on limits before (line ∷ rest) ≡ Err (fault_of line.0 cause)
  unfolding read_on
  read_err cause is = ap (λ (r : Result Before ScriptCause). go_on line.0 r (λ next. read_on limits next rest)) is

  of_form : (one : Option Form) → form_of before.place (words_of line.1) ≡ one → after_line limits before line ≡ after_form limits before line.0 one (words_of line.1)
  unfolding after_line
  of_form one is = ap (λ (o : Option Form). after_form limits before line.0 o (words_of line.1)) is

  -- a line of a form that adds, or fails
  pub read_form : (one : Form) (next : Before) → form_of before.place (words_of line.1) ≡ Some one → after_form limits before line.0 (Some one) (words_of line.1) ≡ Ok next
      → read_on limits before (line ∷ rest) ≡ read_on limits next rest
  read_form one next is added = read_ok next (of_form (Some one) is ∙ added)

  pub read_form_fault : (one : Form) (cause : ScriptCause) → form_of before.place (words_of line.1) ≡ Some one → after_form limits before line.0 (Some one) (words_of line.1) ≡ Err cause
      → read_on limits before (line ∷ rest) ≡ Err (fault_of line.0 cause)
  read_form_fault one cause is fails = read_err cause (of_form (Some one) is ∙ fails)

  no_form_at : (place : Place) → before.place ≡ place → after_form limits before line.0 None (words_of line.1) ≡ Err (without_form place)
  no_form_at Front is = rw is refl
  no_form_at Top is = rw is refl
  no_form_at AfterPool is = rw is refl
  no_form_at Commands is = rw is refl
  no_form_at InLoad is = rw is refl

  -- a line without a form
  pub read_no_form : form_of before.place (words_of line.1) ≡ None → read_on limits before (line ∷ rest) ≡ Err (fault_of line.0 (without_form before.place))
  read_no_form is = read_err (without_form before.place) (of_form None is ∙ no_form_at before.place refl)

-- ---- loads

-- a line that begins a load
begins : (limits : Limits) (before : Before) (line : ℕ × List ℕ) (rest : List (ℕ × List ℕ)) (one : Form) (force : Bool) (names : List (List ℕ)) (next : Before) (left : List (ℕ × List ℕ)) (r : Result (Unit {0}) ScriptAnswer)
    → read_on limits before (line ∷ rest) ≡ read_on limits (with_load before line.0 force names) rest → GoesOn limits (with_load before line.0 force names) rest next left r → GoesOn limits before (line ∷ rest) next left r
begins limits before line rest one force names next left (Ok _) is goes = (is ∙ goes.0, omega (arith, goes.1))
begins limits before line rest one force names next left (Err (Fault fault)) is goes = is ∙ goes
begins limits before line rest one force names next left (Err NoMemory) is goes = tt

one_too_many : (limits : Limits) (before next : Before) (lines left : List (ℕ × List ℕ)) (fault : ScriptFault) (r : Result (Unit {0}) ScriptAnswer) → r ≡ Err (Fault fault) → read_on limits before lines ≡ Err fault → GoesOn limits before lines next left r
one_too_many limits before next lines left fault r is fails = subst (GoesOn limits before lines next left) (sym is) fails

-- the load that a line begins
abbrev pub load_at : ℕ × List ℕ → Bool → OpenLoad
load_at line force = record { line = line.0; force = force; names = drop 1 (words_of line.1); beats = [] }

pub load_goes_on : (limits : Limits) (before : Before) (line : ℕ × List ℕ) (rest : List (ℕ × List ℕ)) (next : Before) (left : List (ℕ × List ℕ)) (r : Result (Unit {0}) ScriptAnswer)
    → form_of before.place (words_of line.1) ≡ Some form.Load → AddsLoad limits before (load_at line false) rest next left r → GoesOn limits before (line ∷ rest) next left r
load_goes_on limits before line rest next left r is (inl many) =
    one_too_many limits before next (line ∷ rest) left (fault_of line.0 TooMany) r many.1 (read_form_fault limits before line rest form.Load TooMany is (rw (le-leb 4096 (length before.commands) many.0) refl))
load_goes_on limits before line rest next left r is (inr room) =
    begins limits before line rest form.Load false (drop 1 (words_of line.1)) next left r
    (read_form limits before line rest form.Load (with_load before line.0 false (drop 1 (words_of line.1))) is (rw (lt-leb 4096 (length before.commands) room.0) refl)) room.1

pub force_goes_on : (limits : Limits) (before : Before) (line : ℕ × List ℕ) (rest : List (ℕ × List ℕ)) (next : Before) (left : List (ℕ × List ℕ)) (r : Result (Unit {0}) ScriptAnswer)
    → form_of before.place (words_of line.1) ≡ Some form.LoadForce → AddsLoad limits before (load_at line true) rest next left r → GoesOn limits before (line ∷ rest) next left r
force_goes_on limits before line rest next left r is (inl many) =
    one_too_many limits before next (line ∷ rest) left (fault_of line.0 TooMany) r many.1 (read_form_fault limits before line rest form.LoadForce TooMany is (rw (le-leb 4096 (length before.commands) many.0) refl))
force_goes_on limits before line rest next left r is (inr room) =
    begins limits before line rest form.LoadForce true (drop 1 (words_of line.1)) next left r
    (read_form limits before line rest form.LoadForce (with_load before line.0 true (drop 1 (words_of line.1))) is (rw (lt-leb 4096 (length before.commands) room.0) refl)) room.1

-- ---- within a load

abbrev in_load : Before → OpenLoad → Before
in_load before load = record before { place = InLoad; load = load }

module _ (limits : Limits) (before : Before) (load : OpenLoad) (line : ℕ × List ℕ) (rest : List (ℕ × List ℕ)) where
  abbrev words : List (List ℕ)
  words = words_of line.1

  end_form : has_form words form.End ≡ true → form_of InLoad words ≡ Some form.End
  unfolding form_of
  end_form is = rw is refl

  -- the line ends the load
  pub read_end : has_form words form.End ≡ true → read_on limits (in_load before load) (line ∷ rest) ≡ read_on limits (with_end (in_load before load)) rest
  read_end is = read_form limits (in_load before load) line rest form.End (with_end (in_load before load)) (end_form is) refl

  beats_form : has_form words form.End ≡ false → form_of InLoad words ≡ cond (list_all is_beat words) (Some form.Beats) None
  unfolding form_of words_of
  beats_form is = rw is refl

  scheduled : (b : Bool) → list_all is_beat words ≡ b
      → after_form limits (in_load before load) line.0 (cond (list_all is_beat words) (Some form.Beats) None) words ≡ unless_found (schedule_fault limits load.beats words) (Ok (with_beats (in_load before load) (beats_of words)))
  scheduled true is = rw is refl
  scheduled false is = rw is refl

  after_schedule : has_form words form.End ≡ false → after_line limits (in_load before load) line ≡ unless_found (schedule_fault limits load.beats words) (Ok (with_beats (in_load before load) (beats_of words)))
  after_schedule is = of_form limits (in_load before load) line rest _ (beats_form is) ∙ scheduled (list_all is_beat words) refl

  -- the line adds beats, or fails
  pub read_beats : has_form words form.End ≡ false → schedule_fault limits load.beats words ≡ None
      → read_on limits (in_load before load) (line ∷ rest) ≡ read_on limits (with_beats (in_load before load) (beats_of words)) rest
  read_beats is sound = read_ok limits (in_load before load) line rest (with_beats (in_load before load) (beats_of words))
      (after_schedule is ∙ ap (λ (o : Option ScriptCause). unless_found o (Ok (with_beats (in_load before load) (beats_of words)))) sound)

  pub read_beats_fault : (cause : ScriptCause) → has_form words form.End ≡ false → schedule_fault limits load.beats words ≡ Some cause
      → read_on limits (in_load before load) (line ∷ rest) ≡ Err (fault_of line.0 cause)
  read_beats_fault cause is fails = read_err limits (in_load before load) line rest cause
      (after_schedule is ∙ ap (λ (o : Option ScriptCause). unless_found o (Ok (with_beats (in_load before load) (beats_of words)))) fails)

  -- a load that is read from its begin at other lines, to these
  module _ (first : OpenLoad) (lines all : List (ℕ × List ℕ)) (same : read_on limits (in_load before load) lines ≡ read_on limits (in_load before first) all) (split : lines ≡ line ∷ rest) where
    here : read_on limits (in_load before load) (line ∷ rest) ≡ read_on limits (in_load before first) all
    here = ap (read_on limits (in_load before load)) (sym split) ∙ same

    pub end_goes_on : (next : Before) (r : Result (Unit {0}) ScriptAnswer) → length lines ≤ length all → has_form words form.End ≡ true → EndsLoad before load next r → GoesOn limits (in_load before first) all next rest r
    end_goes_on next (Ok _) fewer is ends =
        (sym here ∙ read_end is ∙ ap (λ (b : Before). read_on limits b rest) (sym ends), omega (arith, fewer, ap length split))
    end_goes_on next (Err (Fault fault)) fewer is ends = absurd ends
    end_goes_on next (Err NoMemory) fewer is ends = tt

    pub beats_go_on : (beats : List Beat) → has_form words form.End ≡ false → schedule_fault limits load.beats words ≡ None → beats ≡ load.beats ++ beats_of words
        → read_on limits (in_load before (record load { beats = beats })) rest ≡ read_on limits (in_load before first) all
    beats_go_on beats is sound added =
        ap (λ (bs : List Beat). read_on limits (in_load before (record load { beats = bs })) rest) added ∙ sym (read_beats is sound) ∙ here

    pub beats_fail : (next : Before) (beats : List Beat) (events : ℕ) (answer : LineAnswer) (r : ScriptAnswer) → has_form words form.End ≡ false → IsScheduled {A = Unit {0}} limits words load.beats beats events (Err answer) → r ≡ answer_at line.0 answer
        → GoesOn limits (in_load before first) all next rest (Err r)
    beats_fail next beats events (answer.Cause cause) r is fails answers =
        subst (λ (a : ScriptAnswer). GoesOn limits (in_load before first) all next rest (Err a)) (sym answers) (sym here ∙ read_beats_fault cause is fails)
    beats_fail next beats events answer.NoMemory r is fails answers = subst (λ (a : ScriptAnswer). GoesOn limits (in_load before first) all next rest (Err a)) (sym answers) tt

-- where nothing was taken
pub unchanged : (limits : Limits) (before : Before) (load first : OpenLoad) (beats : List Beat) (lines now all : List (ℕ × List ℕ)) → read_on limits (in_load before load) (filter counts lines) ≡ read_on limits (in_load before first) all
    → now ≡ lines → beats ≡ load.beats → read_on limits (in_load before (record load { beats = beats })) (filter counts now) ≡ read_on limits (in_load before first) all
unchanged limits before load first beats lines now all same same_lines same_beats =
    ap (λ (bs : List Beat). read_on limits (in_load before (record load { beats = bs })) (filter counts now)) same_beats
    ∙ ap (λ (ls : List (ℕ × List ℕ)). read_on limits (in_load before load) (filter counts ls)) same_lines ∙ same

-- a fault is the same whatever is left
pub fails_anyhow : (limits : Limits) (before next other : Before) (lines rest left : List (ℕ × List ℕ)) (r : ScriptAnswer) → GoesOn limits before lines next rest (Err r) → GoesOn limits before lines other left (Err r)
fails_anyhow limits before next other lines rest left (Fault fault) fails = fails
fails_anyhow limits before next other lines rest left NoMemory fails = tt

-- no line is left, and the load has no end
pub none_left : (limits : Limits) (before : Before) (load first : OpenLoad) (lines all rest : List (ℕ × List ℕ)) (next : Before) (r : ScriptAnswer) → read_on limits (in_load before load) lines ≡ read_on limits (in_load before first) all → lines ≡ []
    → r ≡ Fault (fault_of load.line NoEnd) → GoesOn limits (in_load before first) all next rest (Err r)
unfolding read_on
none_left limits before load first lines all rest next r same none is =
    subst (λ (a : ScriptAnswer). GoesOn limits (in_load before first) all next rest (Err a)) (sym is) (sym same ∙ ap (read_on limits (in_load before load)) none)

-- ---- forms outside loads

pub single_outside : (place : Place) (words : List (List ℕ)) (one : Form) → place ≢ InLoad → form_of place words ≡ Some one → one ≢ form.Load → one ≢ form.LoadForce → is_single one ≡ true
single_outside place words one out is no_load no_force = at one (form_outside place words one out is) no_load no_force
  where
    at : (one : Form) → Rattle.script_text.proofs.FormsFound.is_outside one ≡ true → one ≢ form.Load → one ≢ form.LoadForce → is_single one ≡ true
    at form.Load is no_load no_force = absurd (no_load refl)
    at form.LoadForce is no_load no_force = absurd (no_force refl)
    at form.End is no_load no_force = absurd cc
    at form.Beats is no_load no_force = absurd cc
    at one is no_load no_force = refl

-- ---- single lines

pub single_ok : (limits : Limits) (before next : Before) (line : ℕ × List ℕ) (rest : List (ℕ × List ℕ)) (one : Form) → form_of before.place (words_of line.1) ≡ Some one → IsAdded limits before line.0 one (words_of line.1) next (Ok tt)
    → GoesOn limits before (line ∷ rest) next rest (Ok tt)
single_ok limits before next line rest one is added = (read_form limits before line rest one next is added, omega arith)

pub single_err : (limits : Limits) (before next : Before) (line : ℕ × List ℕ) (rest : List (ℕ × List ℕ)) (one : Form) (why : LineAnswer) (r : ScriptAnswer) → form_of before.place (words_of line.1) ≡ Some one
    → IsAdded limits before line.0 one (words_of line.1) next (Err why) → r ≡ answer_at line.0 why → GoesOn limits before (line ∷ rest) next rest (Err r)
single_err limits before next line rest one (answer.Cause cause) r is fails answers =
    subst (λ (a : ScriptAnswer). GoesOn limits before (line ∷ rest) next rest (Err a)) (sym answers) (read_form_fault limits before line rest one cause is fails)
single_err limits before next line rest one answer.NoMemory r is fails answers = subst (λ (a : ScriptAnswer). GoesOn limits before (line ∷ rest) next rest (Err a)) (sym answers) tt

pub none_goes_on : (limits : Limits) (before next : Before) (line : ℕ × List ℕ) (rest : List (ℕ × List ℕ)) (cause : ScriptCause) (r : ScriptAnswer) → form_of before.place (words_of line.1) ≡ None → cause ≡ without_form before.place
    → r ≡ Fault (fault_of line.0 cause) → GoesOn limits before (line ∷ rest) next rest (Err r)
none_goes_on limits before next line rest cause r is is_cause answers =
    subst (λ (a : ScriptAnswer). GoesOn limits before (line ∷ rest) next rest (Err a)) (sym answers) (read_no_form limits before line rest is ∙ ap (λ (c : ScriptCause). Err (fault_of line.0 c)) (sym is_cause))
