-- The first word that may not stand in its place.
use Rattle.std.proofs.Common.{◌≡◌, ℕ, zero, suc, ◌+◌, ◌<◌, ◌≤◌, Bool, true, false, List, [], ◌∷◌, length, get_or, drop, Option, Some, None, refl, sym, ap, arith}
use Rattle.std.specs.Prelude.{◌&&◌, nat_le, if◌then◌else◌}
use Rattle.std.proofs.lemmas.Option.{none-some}
use Rattle.tool_text.specs.Words.{is_name, may_name, wrong_word}

module _ (may : ℕ → List ℕ → Bool) (wanted : ℕ) where
  -- a word that may not stand there is the first wrong one from there on
  pub wrong_at : (index : ℕ) (words : List (List ℕ)) (i : ℕ) (d : List ℕ) → i < length words → may index (get_or words i d) ≡ false → wrong_word may wanted index (drop i words) ≡ Some index
  wrong_at index [] i d inside wrong = absurd (omega arith)
  wrong_at index (word ∷ words) zero d inside wrong =
      ap (λ (b : Bool). if b then wrong_word may wanted (index + 1) words else Some index) wrong
  wrong_at index (word ∷ words) (suc i) d inside wrong = wrong_at index words i d (omega arith) wrong

  -- one that may is passed over
  pub right_at : (index : ℕ) (words : List (List ℕ)) (i : ℕ) (d : List ℕ) → i < length words → may index (get_or words i d) ≡ true
      → wrong_word may wanted index (drop i words) ≡ wrong_word may wanted (index + 1) (drop (suc i) words)
  right_at index [] i d inside right = absurd (omega arith)
  right_at index (word ∷ words) zero d inside right =
      ap (λ (b : Bool). if b then wrong_word may wanted (index + 1) words else Some index) right
  right_at index (word ∷ words) (suc i) d inside right = right_at index words i d (omega arith) right

  -- behind the last word none is missing where enough are there
  pub wrong_past : (index : ℕ) (words : List (List ℕ)) (i : ℕ) → length words ≤ i → wanted ≤ index → wrong_word may wanted index (drop i words) ≡ None
  wrong_past index [] zero past enough = grind arith
  wrong_past index [] (suc i) past enough = grind arith
  wrong_past index (word ∷ words) zero past enough = absurd (omega arith)
  wrong_past index (word ∷ words) (suc i) past enough = wrong_past index words i (omega arith) enough

-- where no word is wrong, no more stand there than may
few_behind : (last wanted index : ℕ) (rest : Option ℕ) (name fits : Bool) → (if fits && name then rest else Some index) ≡ None → (fits ≡ true) × (rest ≡ None)
few_behind last wanted index rest true true none = (refl, none)
few_behind last wanted index rest true false none = absurd (none-some index (sym none))
few_behind last wanted index rest false true none = absurd (none-some index (sym none))
few_behind last wanted index rest false false none = absurd (none-some index (sym none))

pub few_names : (last wanted index : ℕ) (words : List (List ℕ)) → index ≤ last + 1 → wrong_word (may_name last) wanted index words ≡ None → index + length words ≤ last + 1
few_names last wanted index [] within none = omega arith
few_names last wanted index (word ∷ words) within none =
    let here = few_behind last wanted index (wrong_word (may_name last) wanted (index + 1) words) (is_name word) (nat_le index last) none in
    let inside : index ≤ last = grind (arith, here.0) in
    omega (arith, few_names last wanted (index + 1) words (omega arith) here.1)
