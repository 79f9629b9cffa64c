-- How a walk over a piece goes on.
use Rattle.std.proofs.Common.{◌≡◌, ℕ, ◌+◌, ◌≤◌, List, ◌++◌, length, take, drop, sym, ◌∙◌, ap, subst, arith, append_assoc, take-append-drop, take-add, length-take}
use Rattle.std.proofs.lemmas.List.{take-append-le}
use Rattle.uc_bytes.specs.declared.causes.FileCause.{FileCause}
use Rattle.intel_format.specs.Settled.{IsSettled}
use Rattle.intel_format.proofs.Settled.{settled_stays}

-- what was listed first stays in front
pub kept_through : {X : Type 0} (old items new : List X) → take (length old) items ≡ old → take (length items) new ≡ items → take (length old) new ≡ old
kept_through {X} old items new kept later =
    let within : length old ≤ length items = omega (arith, ap length kept, length-take (length old) items) in
    ap (λ (l : List X). take (length old) l) (sym (take-append-drop (length items) new) ∙ ap (λ (l : List X). l ++ drop (length items) new) later)
    ∙ take-append-le (length old) items (drop (length items) new) within ∙ kept

-- what was taken joins what came of the piece
pub come_on : (bytes piece : List ℕ) (at n : ℕ) → (bytes ++ take at piece) ++ take n (drop at piece) ≡ bytes ++ take (at + n) piece
come_on bytes piece at n =
    append_assoc bytes (take at piece) (take n (drop at piece)) ∙ ap (λ (l : List ℕ). bytes ++ l) (sym (take-add at n piece))

-- a fault that is settled within the piece is so of the whole
pub settled_in_piece : (bytes piece : List ℕ) (at n offset : ℕ) (cause : FileCause) → IsSettled ((bytes ++ take at piece) ++ take n (drop at piece)) offset cause → IsSettled (bytes ++ piece) offset cause
settled_in_piece bytes piece at n offset cause settled =
    let here : IsSettled (bytes ++ take (at + n) piece) offset cause = subst (λ (l : List ℕ). IsSettled l offset cause) (come_on bytes piece at n) settled in
    subst (λ (l : List ℕ). IsSettled l offset cause) (append_assoc bytes (take (at + n) piece) (drop (at + n) piece) ∙ ap (λ (l : List ℕ). bytes ++ l) (take-append-drop (at + n) piece))
    (settled_stays (bytes ++ take (at + n) piece) (drop (at + n) piece) offset cause here)
