-- Reading gives what the text states, or its first fault, and nothing else.
use Rattle.std.proofs.Common.{◌≡◌, ℕ, Bool, true, false, cond, List, [], ◌∷◌, ◌++◌, Result, Ok, Err, refl, sym, ap, subst, ◌∙◌, ◌⊎◌, inl, inr}
use Rattle.std.specs.Prelude.{MatchResult, IfOk, IfErr}
use Rattle.uc_text.specs.Lines.{counted_lines}
use Rattle.uc_bytes.specs.declared.causes.Vendor.{Vendor}
use Rattle.uc_topology.specs.declared.fault.TopoCause.{TopoCause}
use Rattle.uc_topology.specs.declared.fault.TopoCause.TheVariants.{Word, EmptyCore}
use Rattle.uc_topology.specs.declared.fault.TopoFault.{TopoFault}
use Rattle.uc_topology.specs.declared.forms.Version.{Version}
use Rattle.uc_topology.specs.Stated.{Stated, Machine}
use Rattle.uc_topology.specs.Grammar.{version_of, vendor_of, after_line, after_lines, at_line, ◌>>=◌, nothing, is_full, full, read_body, read_vendor, read_head, reading}
use Rattle.uc_topology.specs.Texts.{InTurn, FaultInTurn, EmptyAtEnd, LinesState, SecondFault, LinesFault, States, FirstFault}

-- ---- results

abbrev ok_of : Machine → Result Machine TopoFault
ok_of machine = Ok machine

abbrev fault_of : ℕ → TopoCause → TopoFault
fault_of line cause = record { line = line; cause = cause }

ok_is : (a b : Machine) → ok_of a ≡ ok_of b → a ≡ b
ok_is a b e = cc

abbrev err_of : TopoFault → Result Machine TopoFault
err_of fault = Err fault

err_is : (a b : TopoFault) → err_of a ≡ err_of b → a ≡ b
err_is a b e = cc

ok_is_no_err : (machine : Machine) (fault : TopoFault) → ok_of machine ≡ err_of fault → ⊥
ok_is_no_err machine fault e = cc

-- ---- one step, and what comes after it

bind_ok : {A B : Type 0} (r : Result A TopoFault) (next : A → Result B TopoFault) (y : B) → (r >>= next) ≡ Ok y → (x : A) × (r ≡ Ok x) × (next x ≡ Ok y)
bind_ok (Ok x) next y e = (x, refl, e)
bind_ok (Err fault) next y e = absurd cc

bind_err : {A B : Type 0} (r : Result A TopoFault) (next : A → Result B TopoFault) (fault : TopoFault) → (r >>= next) ≡ Err fault → (r ≡ Err fault) ⊎ ((x : A) × (r ≡ Ok x) × (next x ≡ Err fault))
bind_err (Ok x) next fault e = inr (x, refl, e)
bind_err {B = B} (Err other) next fault e = let same : other ≡ fault = cc in inl (ap Err same)

line_ok : {A : Type 0} (line : ℕ) (r : Result A TopoCause) (x : A) → at_line line r ≡ Ok x → r ≡ Ok x
line_ok line (Ok y) x e = let same : y ≡ x = cc in ap Ok same
line_ok line (Err cause) x e = absurd cc

line_err : {A : Type 0} (line : ℕ) (r : Result A TopoCause) (fault : TopoFault) → at_line line r ≡ Err fault → (r ≡ Err fault.cause) × (line ≡ fault.line)
line_err line (Ok y) fault e = absurd cc
line_err line (Err cause) fault e =
    let made : TopoFault = record { line = line; cause = cause } in
    let same : made ≡ fault = cc in (ap (λ (f : TopoFault). Err f.cause) same, ap (λ (f : TopoFault). f.line) same)

abbrev none_at : TopoFault
none_at = record { line = 0; cause = EmptyCore }

abbrev made : Vendor → Stated → Machine
made vendor stated = record { vendor = vendor; stated = stated }

full_ok_at : (b : Bool) (stated other : Stated) → cond b (Ok stated) (Err none_at) ≡ Ok other → (b ≡ true) × (stated ≡ other)
full_ok_at true stated other e = (refl, cc)
full_ok_at false stated other e = absurd cc

full_err_at : (b : Bool) (stated : Stated) (fault : TopoFault) → cond b (Ok stated) (Err none_at) ≡ Err fault → (b ≡ false) × (fault ≡ none_at)
full_err_at true stated fault e = absurd cc
full_err_at false stated fault e = (refl, cc)

-- ---- lines

in_turn : (version : Version) (before : Stated) (lines : List (ℕ × List ℕ)) (after : Stated) → after_lines version before lines ≡ Ok after → InTurn version before lines after
unfolding after_lines
in_turn version before [] after e = cc
in_turn version before (line ∷ lines) after e =
    let step = bind_ok (at_line line.0 (after_line version before line.1)) (λ stated. after_lines version stated lines) after e in
    (step.0, line_ok line.0 (after_line version before line.1) step.0 step.1, in_turn version step.0 lines after step.2)

fault_in_turn : (version : Version) (before : Stated) (lines : List (ℕ × List ℕ)) (fault : TopoFault) → after_lines version before lines ≡ Err fault → FaultInTurn version before lines fault
unfolding after_lines
fault_in_turn version before [] fault e = absurd cc
fault_in_turn version before (line ∷ lines) fault e =
    elim (bind_err (at_line line.0 (after_line version before line.1)) (λ stated. after_lines version stated lines) fault e) [
      | inl here ↦
          let wrong = line_err line.0 (after_line version before line.1) fault here in
          record { front = []; line = line; rest = lines; stated = before; parts = refl; sound = refl; wrong = wrong.0; place = wrong.1 }
      | inr step ↦
          let later = fault_in_turn version step.0 lines fault step.2 in
          record {
            front = line ∷ later.front;
            line = later.line;
            rest = later.rest;
            stated = later.stated;
            parts = ap (λ (ls : List (ℕ × List ℕ)). line ∷ ls) later.parts;
            sound = (step.0, line_ok line.0 (after_line version before line.1) step.0 step.1, later.sound);
            wrong = later.wrong;
            place = later.place;
          }
    ]

lines_ok : (version : Version) (before : Stated) (lines : List (ℕ × List ℕ)) (after : Stated) → InTurn version before lines after → after_lines version before lines ≡ Ok after
unfolding after_lines
lines_ok version before [] after sound = ap Ok sound
lines_ok version before (line ∷ lines) after sound = rw sound.1 (lines_ok version sound.0 lines after sound.2)

lines_err : (version : Version) (before : Stated) (front : List (ℕ × List ℕ)) (line : ℕ × List ℕ) (rest : List (ℕ × List ℕ)) (stated : Stated) (fault : TopoFault) → InTurn version before front stated
    → after_line version stated line.1 ≡ Err fault.cause → line.0 ≡ fault.line → after_lines version before (front ++ line ∷ rest) ≡ Err fault
unfolding after_lines
lines_err version before [] line rest stated fault sound wrong place =
    rw (sound, wrong) (ap (λ (n : ℕ). Err (record { line = n; cause = fault.cause })) place)
lines_err version before (first ∷ front) line rest stated fault sound wrong place = rw sound.1 (lines_err version sound.0 front line rest stated fault sound.2 wrong place)

-- ---- what was read is stated

lines_state : (lines : List (ℕ × List ℕ)) (machine : Machine) → read_head lines ≡ Ok machine → LinesState lines machine
lines_state [] machine e = absurd cc
lines_state (head ∷ []) machine e =
    let h = bind_ok (at_line head.0 (version_of head.1)) (λ version. read_vendor version []) machine e in
    absurd (ok_is_no_err machine (fault_of 0 Word) (sym h.2))
lines_state (head ∷ second ∷ body) machine e =
    let h = bind_ok (at_line head.0 (version_of head.1)) (λ version. read_vendor version (second ∷ body)) machine e in
    let s = bind_ok (at_line second.0 (vendor_of second.1)) (λ vendor. read_body h.0 vendor body) machine h.2 in
    let b = bind_ok (after_lines h.0 nothing body) (λ stated. full stated >>= λ stated. Ok (made s.0 stated)) machine s.2 in
    let f = bind_ok (full b.0) (λ stated. Ok (made s.0 stated)) machine b.2 in
    let whole = full_ok_at (is_full b.0) b.0 f.0 f.1 in
    let is : made s.0 b.0 ≡ machine = ok_is (made s.0 b.0) machine (ap (λ (x : Stated). ok_of (made s.0 x)) whole.1 ∙ f.2) in
    subst (LinesState (head ∷ second ∷ body)) is (
      h.0,
      line_ok head.0 (version_of head.1) h.0 h.1,
      line_ok second.0 (vendor_of second.1) s.0 s.1,
      in_turn h.0 nothing body b.0 b.1,
      whole.0,
    )

body_fault : (version : Version) (vendor : Vendor) (body : List (ℕ × List ℕ)) (fault : TopoFault) → read_body version vendor body ≡ Err fault → FaultInTurn version nothing body fault ⊎ EmptyAtEnd version body fault
body_fault version vendor body fault e =
    elim (bind_err (after_lines version nothing body) (λ stated. full stated >>= λ stated. Ok (made vendor stated)) fault e) [
      | inl here ↦ inl (fault_in_turn version nothing body fault here)
      | inr step ↦ elim (bind_err (full step.0) (λ stated. Ok (made vendor stated)) fault step.2) [
        | inl here ↦
            let empty = full_err_at (is_full step.0) step.0 fault here in
            inr (record { stated = step.0; sound = in_turn version nothing body step.0 step.1; empty = empty.0; which = empty.1 })
        | inr last ↦ absurd (ok_is_no_err (made vendor last.0) fault last.2)
      ]
    ]

second_fault : (version : Version) (lines : List (ℕ × List ℕ)) (fault : TopoFault) → read_vendor version lines ≡ Err fault → SecondFault version lines fault
second_fault version [] fault e = sym (err_is _ fault e)
second_fault version (second ∷ body) fault e =
    let P : Result Vendor TopoCause → Type 0 = λ v. MatchResult v (λ _. FaultInTurn version nothing body fault ⊎ EmptyAtEnd version body fault) (λ cause. fault ≡ fault_of second.0 cause) in
    elim (bind_err (at_line second.0 (vendor_of second.1)) (λ vendor. read_body version vendor body) fault e) [
      | inl here ↦
          let wrong = line_err second.0 (vendor_of second.1) fault here in
          subst P (sym wrong.0) (ap (λ (n : ℕ). fault_of n fault.cause) (sym wrong.1))
      | inr step ↦ subst P (sym (line_ok second.0 (vendor_of second.1) step.0 step.1)) (body_fault version step.0 body fault step.2)
    ]

lines_fault : (lines : List (ℕ × List ℕ)) (fault : TopoFault) → read_head lines ≡ Err fault → LinesFault lines fault
lines_fault [] fault e = sym (err_is _ fault e)
lines_fault (head ∷ rest) fault e =
    let P : Result Version TopoCause → Type 0 = λ v. MatchResult v (λ version. SecondFault version rest fault) (λ cause. fault ≡ fault_of head.0 cause) in
    elim (bind_err (at_line head.0 (version_of head.1)) (λ version. read_vendor version rest) fault e) [
      | inl here ↦
          let wrong = line_err head.0 (version_of head.1) fault here in
          subst P (sym wrong.0) (ap (λ (n : ℕ). fault_of n fault.cause) (sym wrong.1))
      | inr step ↦ subst P (sym (line_ok head.0 (version_of head.1) step.0 step.1)) (second_fault step.0 rest fault step.2)
    ]

-- ---- what is stated is read

of_states : (lines : List (ℕ × List ℕ)) (machine : Machine) → LinesState lines machine → read_head lines ≡ Ok machine
of_states [] machine s = absurd s
of_states (head ∷ []) machine s = absurd s
of_states (head ∷ second ∷ body) machine s =
    ap (λ (v : Result Version TopoCause). at_line head.0 v >>= λ version. read_vendor version (second ∷ body)) s.1
    ∙ ap (λ (v : Result Vendor TopoCause). at_line second.0 v >>= λ vendor. read_body s.0 vendor body) s.2
    ∙ ap (λ (r : Result Stated TopoFault). r >>= λ stated. full stated >>= λ stated. Ok (made machine.vendor stated)) (lines_ok s.0 nothing body machine.stated s.3)
    ∙ ap (λ (b : Bool). cond b (Ok machine.stated) (Err none_at) >>= λ stated. Ok (made machine.vendor stated)) s.4

of_body : (version : Version) (vendor : Vendor) (body : List (ℕ × List ℕ)) (fault : TopoFault) → FaultInTurn version nothing body fault ⊎ EmptyAtEnd version body fault → read_body version vendor body ≡ Err fault
of_body version vendor body fault (inl wrong) =
    let here : after_lines version nothing body ≡ Err fault = subst (λ (ls : List (ℕ × List ℕ)). after_lines version nothing ls ≡ Err fault) (sym wrong.parts) (lines_err version nothing wrong.front wrong.line wrong.rest wrong.stated fault wrong.sound wrong.wrong wrong.place) in
    ap (λ (r : Result Stated TopoFault). r >>= λ stated. full stated >>= λ stated. Ok (made vendor stated)) here
of_body version vendor body fault (inr empty) =
    ap (λ (r : Result Stated TopoFault). r >>= λ stated. full stated >>= λ stated. Ok (made vendor stated)) (lines_ok version nothing body empty.stated empty.sound)
    ∙ ap (λ (b : Bool). cond b (Ok empty.stated) (Err none_at) >>= λ stated. Ok (made vendor stated)) empty.empty
    ∙ ap Err (sym empty.which)

of_vendor : (version : Version) (line : ℕ) (v : Result Vendor TopoCause) (body : List (ℕ × List ℕ)) (fault : TopoFault)
    → MatchResult v (λ _. FaultInTurn version nothing body fault ⊎ EmptyAtEnd version body fault) (λ cause. fault ≡ fault_of line cause) → (at_line line v >>= λ vendor. read_body version vendor body) ≡ Err fault
of_vendor version line (Ok vendor) body fault is = of_body version vendor body fault is
of_vendor version line (Err cause) body fault is = ap Err (sym is)

of_second : (version : Version) (lines : List (ℕ × List ℕ)) (fault : TopoFault) → SecondFault version lines fault → read_vendor version lines ≡ Err fault
of_second version [] fault is = ap Err (sym is)
of_second version (second ∷ body) fault is = of_vendor version second.0 (vendor_of second.1) body fault is

of_head : (line : ℕ) (v : Result Version TopoCause) (rest : List (ℕ × List ℕ)) (fault : TopoFault) → MatchResult v (λ version. SecondFault version rest fault) (λ cause. fault ≡ fault_of line cause)
    → (at_line line v >>= λ version. read_vendor version rest) ≡ Err fault
of_head line (Ok version) rest fault is = of_second version rest fault is
of_head line (Err cause) rest fault is = ap Err (sym is)

of_fault : (lines : List (ℕ × List ℕ)) (fault : TopoFault) → LinesFault lines fault → read_head lines ≡ Err fault
of_fault [] fault is = ap Err (sym is)
of_fault (head ∷ rest) fault is = of_head head.0 (version_of head.1) rest fault is

-- ---- texts

pub states : (text : List ℕ) (machine : Machine) → reading text ≡ Ok machine → States text machine
unfolding reading
states text machine e = record { lines = lines_state (counted_lines text) machine e }

pub faults : (text : List ℕ) (fault : TopoFault) → reading text ≡ Err fault → FirstFault text fault
unfolding reading
faults text fault e = record { lines = lines_fault (counted_lines text) fault e }

reads : (text : List ℕ) (machine : Machine) → States text machine → reading text ≡ Ok machine
unfolding reading
reads text machine s = of_states (counted_lines text) machine s.lines

fails : (text : List ℕ) (fault : TopoFault) → FirstFault text fault → reading text ≡ Err fault
unfolding reading
fails text fault f = of_fault (counted_lines text) fault f.lines

either : (text : List ℕ) (r : Result Machine TopoFault) → reading text ≡ r → ((machine : Machine) × States text machine) ⊎ ((fault : TopoFault) × FirstFault text fault)
either text (Ok machine) e = inl (machine, states text machine e)
either text (Err fault) e = inr (fault, faults text fault e)

pub one_each : (text : List ℕ) → ((machine : Machine) × States text machine) ⊎ ((fault : TopoFault) × FirstFault text fault)
one_each text = either text (reading text) refl

pub one_machine : (text : List ℕ) (a b : Machine) → States text a → States text b → a ≡ b
one_machine text a b p q = ok_is a b (sym (reads text a p) ∙ reads text b q)

pub one_fault : (text : List ℕ) (a b : TopoFault) → FirstFault text a → FirstFault text b → a ≡ b
one_fault text a b p q = err_is a b (sym (fails text a p) ∙ fails text b q)

pub never_both : (text : List ℕ) (machine : Machine) (fault : TopoFault) → States text machine → FirstFault text fault → ⊥
never_both text machine fault p q = ok_is_no_err machine fault (sym (reads text machine p) ∙ fails text fault q)

-- what was read, in these words
pub read_states : (text : List ℕ) (r : Result Machine TopoFault) → MatchResult r (λ machine. reading text ≡ Ok machine) (λ fault. reading text ≡ Err fault) → IfOk r (States text) × IfErr r (FirstFault text)
read_states text (Ok machine) e = (states text machine e, tt)
read_states text (Err fault) e = (tt, faults text fault e)
