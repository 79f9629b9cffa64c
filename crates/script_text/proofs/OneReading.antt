-- Reading gives what the text states, or its first fault, and nothing else.
use Rattle.std.proofs.Common.{◌≡◌, ◌≢◌, ℕ, Bool, true, false, cond, not, List, [], ◌∷◌, ◌++◌, Option, Some, None, Result, Ok, Err, refl, sym, ap, subst, ◌∙◌, ◌⊎◌, inl, inr}
use Rattle.fault_rule.specs.Checks.{IsFirst, first_of}
use Rattle.fault_rule.proofs.Search.{first-from_find, pass-from_find, find-from_first, find-from_pass}
use Rattle.uc_text.specs.Lines.{counted_lines, words_of}
use Rattle.script_text.specs.declared.fault.ScriptCause.{ScriptCause}
use Rattle.script_text.specs.declared.fault.ScriptCause.TheVariants.{Head, Word, NoEnd}
use Rattle.script_text.specs.declared.fault.ScriptFault.{ScriptFault}
use Rattle.script_text.specs.declared.forms.Form.{Form}
use Rattle.script_text.specs.declared.forms.Form.TheVariants as form
use Rattle.script_text.specs.declared.forms.Limits.{Limits}
use Rattle.script_text.specs.declared.forms.Place.{Place}
use Rattle.script_text.specs.declared.forms.Place.TheVariants.{Front, Top, AfterPool, Commands, InLoad}
use Rattle.script_text.specs.Stated.{Stated}
use Rattle.script_text.specs.Forms.{form_of}
use Rattle.script_text.specs.Stands.{Before, opening, after, script_of}
use Rattle.script_text.specs.Checks.{checks, fails, fails_at, is_front}
use Rattle.script_text.specs.Texts.{LineFails, Adds, InTurn, FaultAtLine, NoLine, LoadWithoutEnd, States, FirstFault}
use Rattle.script_text.specs.Reading.{added, unless_found, after_line, finished, finished_at, go_on, read_on, reading}

-- ---- results

abbrev ok_of : Stated → Result Stated ScriptFault
ok_of script = Ok script

abbrev err_of : ScriptFault → Result Stated ScriptFault
err_of fault = Err fault

ok_is : (a b : Stated) → ok_of a ≡ ok_of b → a ≡ b
ok_is a b e = cc

err_is : (a b : ScriptFault) → err_of a ≡ err_of b → a ≡ b
err_is a b e = cc

ok_is_no_err : (script : Stated) (fault : ScriptFault) → ok_of script ≡ err_of fault → ⊥
ok_is_no_err script fault e = cc

abbrev fault_of : ℕ → ScriptCause → ScriptFault
fault_of line cause = record { line = line; cause = cause }

-- ---- one line

unless_ok : (found : Option ScriptCause) (r : Result Before ScriptCause) (next : Before) → unless_found found r ≡ Ok next → (found ≡ None) × (r ≡ Ok next)
unless_ok None r next e = (refl, e)
unless_ok (Some cause) r next e = absurd cc

unless_err : (found : Option ScriptCause) (r : Result Before ScriptCause) (cause : ScriptCause) → unless_found found r ≡ Err cause → (found ≡ Some cause) ⊎ ((found ≡ None) × (r ≡ Err cause))
unless_err None r cause e = inr (refl, e)
unless_err (Some other) r cause e = let same : other ≡ cause = cc in inl (ap Some same)

-- a line with a form adds what its form says
added_ok : (before : Before) (line : ℕ) (one : Option Form) (words : List (List ℕ)) (next : Before) → added before line one words ≡ Ok next → (form : Form) × (one ≡ Some form) × (next ≡ after before line form words)
added_ok before line None words next e = absurd cc
added_ok before line (Some form) words next e = let same : after before line form words ≡ next = cc in (form, refl, sym same)

-- a line without a form fails the check of its head or of its words
head_or_word : (front : Bool) (others : Option ScriptCause) → cond front (Some Head) (cond (not front) (Some Word) others) ≡ None → ⊥
head_or_word true others e = cc
head_or_word false others e = cc

form_found : (limits : Limits) (before : Before) (line : ℕ) (one : Option Form) (words : List (List ℕ)) (cause : ScriptCause) → first_of (fails_at limits before one words) checks ≡ None → added before line one words ≡ Err cause → ⊥
form_found limits before line None words cause none e = head_or_word (is_front before.place) None none
form_found limits before line (Some form) words cause none e = cc

line_ok : (limits : Limits) (before : Before) (line : ℕ × List ℕ) (next : Before) → after_line limits before line ≡ Ok next → Adds limits before line next
unfolding after_line
line_ok limits before line next e =
    let one : Option Form = form_of before.place (words_of line.1) in
    let parts = unless_ok (first_of (fails_at limits before one (words_of line.1)) checks) (added before line.0 one (words_of line.1)) next e in
    let form = added_ok before line.0 one (words_of line.1) next parts.1 in
    record { passes = pass-from_find (fails limits before (words_of line.1)) checks parts.0; form = form.0; has_form = form.1; next_is = form.2 }

line_err : (limits : Limits) (before : Before) (line : ℕ × List ℕ) (cause : ScriptCause) → after_line limits before line ≡ Err cause → IsFirst (LineFails limits before line) checks cause
unfolding after_line
line_err limits before line cause e =
    let one : Option Form = form_of before.place (words_of line.1) in
    elim (unless_err (first_of (fails_at limits before one (words_of line.1)) checks) (added before line.0 one (words_of line.1)) cause e) [
      | inl found ↦ first-from_find (fails limits before (words_of line.1)) checks cause found
      | inr other ↦ absurd (form_found limits before line.0 one (words_of line.1) cause other.0 other.1)
    ]

of_adds : (limits : Limits) (before : Before) (line : ℕ × List ℕ) (next : Before) → Adds limits before line next → after_line limits before line ≡ Ok next
unfolding after_line
of_adds limits before line next adds =
    let one : Option Form = form_of before.place (words_of line.1) in
    ap (λ (found : Option ScriptCause). unless_found found (added before line.0 one (words_of line.1))) (find-from_pass (fails limits before (words_of line.1)) checks adds.passes)
    ∙ ap (λ (form : Option Form). added before line.0 form (words_of line.1)) adds.has_form
    ∙ ap Ok (sym adds.next_is)

of_first : (limits : Limits) (before : Before) (line : ℕ × List ℕ) (cause : ScriptCause) → IsFirst (LineFails limits before line) checks cause → after_line limits before line ≡ Err cause
unfolding after_line
of_first limits before line cause first =
    let one : Option Form = form_of before.place (words_of line.1) in
    ap (λ (found : Option ScriptCause). unless_found found (added before line.0 one (words_of line.1))) (find-from_first (fails limits before (words_of line.1)) checks cause first)

-- ---- lines in turn

go_ok : (line : ℕ) (r : Result Before ScriptCause) (rest : Before → Result Stated ScriptFault) (script : Stated) → go_on line r rest ≡ Ok script → (next : Before) × (r ≡ Ok next) × (rest next ≡ Ok script)
go_ok line (Ok next) rest script e = (next, refl, e)
go_ok line (Err cause) rest script e = absurd cc

go_err : (line : ℕ) (r : Result Before ScriptCause) (rest : Before → Result Stated ScriptFault) (fault : ScriptFault) → go_on line r rest ≡ Err fault
    → ((r ≡ Err fault.cause) × (fault.line ≡ line)) ⊎ ((next : Before) × (r ≡ Ok next) × (rest next ≡ Err fault))
go_err line (Ok next) rest fault e = inr (next, refl, e)
go_err line (Err cause) rest fault e =
    let same : fault_of line cause ≡ fault = cc in inl (ap (λ (f : ScriptFault). Err f.cause) same, sym (ap (λ (f : ScriptFault). f.line) same))

reads_ok : (limits : Limits) (before : Before) (lines : List (ℕ × List ℕ)) (script : Stated) → read_on limits before lines ≡ Ok script → (last : Before) × InTurn limits before lines last × (finished last ≡ Ok script)
unfolding read_on
reads_ok limits before [] script e = (before, refl, e)
reads_ok limits before (line ∷ lines) script e =
    let step = go_ok line.0 (after_line limits before line) (λ next. read_on limits next lines) script e in
    let rest = reads_ok limits step.0 lines script step.2 in
    (rest.0, (step.0, line_ok limits before line step.0 step.1, rest.1), rest.2)

reads_err : (limits : Limits) (before : Before) (lines : List (ℕ × List ℕ)) (fault : ScriptFault) → read_on limits before lines ≡ Err fault
    → FaultAtLine limits before lines fault ⊎ ((last : Before) × InTurn limits before lines last × (finished last ≡ Err fault))
unfolding read_on
reads_err limits before [] fault e = inr (before, refl, e)
reads_err limits before (line ∷ lines) fault e =
    elim (go_err line.0 (after_line limits before line) (λ next. read_on limits next lines) fault e) [
      | inl here ↦
          inl (record { front = []; line = line; rest = lines; before = before; parts = refl; sound = refl; wrong = line_err limits before line fault.cause here.0; place = here.1 })
      | inr step ↦ elim (reads_err limits step.0 lines fault step.2) [
        | inl later ↦
            inl (
            record {
              front = line ∷ later.front;
              line = later.line;
              rest = later.rest;
              before = later.before;
              parts = ap (λ (ls : List (ℕ × List ℕ)). line ∷ ls) later.parts;
              sound = (step.0, line_ok limits before line step.0 step.1, later.sound);
              wrong = later.wrong;
              place = later.place;
            }
            )
        | inr last ↦ inr (last.0, (step.0, line_ok limits before line step.0 step.1, last.1), last.2)
      ]
    ]

-- reading goes on after lines that add in turn
read_past : (limits : Limits) (before : Before) (front rest : List (ℕ × List ℕ)) (next : Before) → InTurn limits before front next → read_on limits before (front ++ rest) ≡ read_on limits next rest
unfolding read_on
read_past limits before [] rest next sound = ap (λ (b : Before). read_on limits b rest) sound
read_past limits before (line ∷ front) rest next sound =
    ap (λ (r : Result Before ScriptCause). go_on line.0 r (λ next. read_on limits next (front ++ rest))) (of_adds limits before line sound.0 sound.1)
    ∙ read_past limits sound.0 front rest next sound.2

-- and ends with what stands after the last
read_all : (limits : Limits) (before : Before) (lines : List (ℕ × List ℕ)) (last : Before) → InTurn limits before lines last → read_on limits before lines ≡ finished last
unfolding read_on
read_all limits before [] last sound = ap finished sound
read_all limits before (line ∷ lines) last sound =
    ap (λ (r : Result Before ScriptCause). go_on line.0 r (λ next. read_on limits next lines)) (of_adds limits before line sound.0 sound.1)
    ∙ read_all limits sound.0 lines last sound.2

read_fault : (limits : Limits) (before : Before) (line : ℕ × List ℕ) (rest : List (ℕ × List ℕ)) (fault : ScriptFault) → IsFirst (LineFails limits before line) checks fault.cause → fault.line ≡ line.0
    → read_on limits before (line ∷ rest) ≡ Err fault
unfolding read_on
read_fault limits before line rest fault wrong place =
    ap (λ (r : Result Before ScriptCause). go_on line.0 r (λ next. read_on limits next rest)) (of_first limits before line fault.cause wrong)
    ∙ ap (λ (n : ℕ). Err (fault_of n fault.cause)) (sym place)

-- ---- places

-- no line leaves the front
past_front : (before : Before) (line : ℕ) (one : Form) (words : List (List ℕ)) → (after before line one words).place ≢ Front
past_front before line form.Title words e = cc
past_front before line form.Pool words e = cc
past_front before line form.Patience words e = cc
past_front before line form.Boot words e = cc
past_front before line form.Online words e = cc
past_front before line form.Offline words e = cc
past_front before line form.Suspend words e = cc
past_front before line form.Resume words e = cc
past_front before line form.Refuse words e = cc
past_front before line form.Accept words e = cc
past_front before line form.Load words e = cc
past_front before line form.LoadForce words e = cc
past_front before line form.End words e = cc
past_front before line form.Beats words e = cc

turn_past_front : (limits : Limits) (before : Before) (lines : List (ℕ × List ℕ)) (last : Before) → before.place ≢ Front → InTurn limits before lines last → last.place ≢ Front
turn_past_front limits before [] last begun sound = subst (λ (b : Before). b.place ≢ Front) sound begun
turn_past_front limits before (line ∷ lines) last begun sound =
    turn_past_front limits sound.0 lines last (subst (λ (b : Before). b.place ≢ Front) (sym sound.1.next_is) (past_front before line.0 sound.1.form (words_of line.1))) sound.2

finished_ok : (place : Place) (before : Before) (script : Stated) → finished_at place before ≡ Ok script → (place ≢ Front) × (place ≢ InLoad) × (script ≡ script_of before)
finished_ok Front before script e = absurd cc
finished_ok InLoad before script e = absurd cc
finished_ok Top before script e = let same : script_of before ≡ script = cc in (λ e. cc, λ e. cc, sym same)
finished_ok AfterPool before script e = let same : script_of before ≡ script = cc in (λ e. cc, λ e. cc, sym same)
finished_ok Commands before script e = let same : script_of before ≡ script = cc in (λ e. cc, λ e. cc, sym same)

finished_err : (place : Place) (before : Before) (fault : ScriptFault) → finished_at place before ≡ Err fault
    → ((place ≡ Front) × (fault ≡ fault_of 0 Head)) ⊎ ((place ≡ InLoad) × (fault ≡ fault_of before.load.line NoEnd))
finished_err Front before fault e = let same : fault_of 0 Head ≡ fault = cc in inl (refl, sym same)
finished_err InLoad before fault e = let same : fault_of before.load.line NoEnd ≡ fault = cc in inr (refl, sym same)
finished_err Top before fault e = absurd cc
finished_err AfterPool before fault e = absurd cc
finished_err Commands before fault e = absurd cc

of_finished : (place : Place) (before : Before) → place ≢ Front → place ≢ InLoad → finished_at place before ≡ Ok (script_of before)
of_finished Front before begun closed = absurd (begun refl)
of_finished InLoad before begun closed = absurd (closed refl)
of_finished Top before begun closed = refl
of_finished AfterPool before begun closed = refl
of_finished Commands before begun closed = refl

-- ---- texts

pub states : (limits : Limits) (text : List ℕ) (script : Stated) → reading limits text ≡ Ok script → States limits text script
unfolding reading
states limits text script e =
    let read = reads_ok limits opening (counted_lines text) script e in
    let last = finished_ok read.0.place read.0 script read.2 in
    record { last = read.0; sound = read.1; begun = last.0; closed = last.1; script_is = last.2 }

-- where the last place is the front, there was no line
no_line : (limits : Limits) (lines : List (ℕ × List ℕ)) (last : Before) → InTurn limits opening lines last → last.place ≡ Front → lines ≡ []
no_line limits [] last sound front = refl
no_line limits (line ∷ lines) last sound front =
    absurd (turn_past_front limits sound.0 lines last (subst (λ (b : Before). b.place ≢ Front) (sym sound.1.next_is) (past_front opening line.0 sound.1.form (words_of line.1))) sound.2 front)

lines_fault : (limits : Limits) (lines : List (ℕ × List ℕ)) (fault : ScriptFault) → read_on limits opening lines ≡ Err fault
    → NoLine lines fault ⊎ FaultAtLine limits opening lines fault ⊎ LoadWithoutEnd limits lines fault
lines_fault limits lines fault e =
    elim (reads_err limits opening lines fault e) [
      | inl here ↦ inr (inl here)
      | inr last ↦ elim (finished_err last.0.place last.0 fault last.2) [
        | inl front ↦ inl (record { none = no_line limits lines last.0 last.1 front.0; which = front.1 })
        | inr left ↦ inr (inr (record { last = last.0; sound = last.1; left_open = left.0; which = left.1 }))
      ]
    ]

pub faults : (limits : Limits) (text : List ℕ) (fault : ScriptFault) → reading limits text ≡ Err fault → FirstFault limits text fault
unfolding reading
faults limits text fault e = lines_fault limits (counted_lines text) fault e

reads : (limits : Limits) (text : List ℕ) (script : Stated) → States limits text script → reading limits text ≡ Ok script
unfolding reading
reads limits text script s =
    read_all limits opening (counted_lines text) s.last s.sound ∙ of_finished s.last.place s.last s.begun s.closed ∙ ap Ok (sym s.script_is)

none_read : (limits : Limits) (lines : List (ℕ × List ℕ)) (fault : ScriptFault) → NoLine lines fault → read_on limits opening lines ≡ Err fault
unfolding read_on
none_read limits lines fault none =
    ap (read_on limits opening) none.none ∙ ap Err (sym none.which)

lines_fail : (limits : Limits) (lines : List (ℕ × List ℕ)) (fault : ScriptFault) → NoLine lines fault ⊎ FaultAtLine limits opening lines fault ⊎ LoadWithoutEnd limits lines fault
    → read_on limits opening lines ≡ Err fault
lines_fail limits lines fault (inl none) = none_read limits lines fault none
lines_fail limits lines fault (inr (inl here)) =
    ap (read_on limits opening) here.parts
    ∙ read_past limits opening here.front (here.line ∷ here.rest) here.before here.sound
    ∙ read_fault limits here.before here.line here.rest fault here.wrong here.place
lines_fail limits lines fault (inr (inr left)) =
    read_all limits opening lines left.last left.sound ∙ ap (λ (place : Place). finished_at place left.last) left.left_open ∙ ap Err (sym left.which)

fails_so : (limits : Limits) (text : List ℕ) (fault : ScriptFault) → FirstFault limits text fault → reading limits text ≡ Err fault
unfolding reading
fails_so limits text fault f = lines_fail limits (counted_lines text) fault f

either : (limits : Limits) (text : List ℕ) (r : Result Stated ScriptFault) → reading limits text ≡ r → ((script : Stated) × States limits text script) ⊎ ((fault : ScriptFault) × FirstFault limits text fault)
either limits text (Ok script) e = inl (script, states limits text script e)
either limits text (Err fault) e = inr (fault, faults limits text fault e)

pub one_each : (limits : Limits) (text : List ℕ) → ((script : Stated) × States limits text script) ⊎ ((fault : ScriptFault) × FirstFault limits text fault)
one_each limits text = either limits text (reading limits text) refl

pub one_script : (limits : Limits) (text : List ℕ) (a b : Stated) → States limits text a → States limits text b → a ≡ b
one_script limits text a b p q = ok_is a b (sym (reads limits text a p) ∙ reads limits text b q)

pub one_fault : (limits : Limits) (text : List ℕ) (a b : ScriptFault) → FirstFault limits text a → FirstFault limits text b → a ≡ b
one_fault limits text a b p q = err_is a b (sym (fails_so limits text a p) ∙ fails_so limits text b q)

pub never_both : (limits : Limits) (text : List ℕ) (script : Stated) (fault : ScriptFault) → States limits text script → FirstFault limits text fault → ⊥
never_both limits text script fault p q = ok_is_no_err script fault (sym (reads limits text script p) ∙ fails_so limits text fault q)
