-- Words in UTF-8, and the form that is found for a line.
use Rattle.std.proofs.Common.{◌≡◌, ◌&&◌, ℕ, Bool, true, false, List, [], ◌∷◌, length, codes, not, ◌∙◌, Option, None, Some, Result, Ok, Err, refl, ap, sym, arith}
use Rattle.std.specs.Prelude.{◌==◌, MatchOption, MatchResult, is_ok, is_some}
use Rattle.std.specs.Str.{IsUtf8, bytes_eq, is_utf8}
use Rattle.std.proofs.lemmas.Bool.{false_from_ne_true}
use Rattle.std.proofs.lemmas.Bool.Decides.{nat_tests}
use Rattle.uc_text.specs.Lines.{words_of}
use Rattle.script_text.specs.declared.forms.Form.TheVariants.{End}
use Rattle.script_text.specs.Forms.{has_form}
use Rattle.std.proofs.lemmas.Str.{IsUtf8-from_is_utf8, is_utf8-from_IsUtf8}

module _ {S E : Type 0} (P : S → Type 0) (Q : E → Type 0) (bytes : List ℕ) where
  -- what a check of bytes answers is whether they are UTF-8
  pub is_ok-utf8 : (r : Result S E) → MatchResult r (λ s. P s × IsUtf8 bytes) (λ e. (IsUtf8 bytes → ⊥) × Q e) → is_ok r ≡ is_utf8 bytes
  is_ok-utf8 (Ok s) cases = sym (is_utf8-from_IsUtf8 bytes cases.1)
  is_ok-utf8 (Err e) cases = sym (false_from_ne_true _ (λ is. cases.0 (IsUtf8-from_is_utf8 bytes is)))

-- no words are not the form that ends a load
pub not_end : (words : List (List ℕ)) → words ≡ [] → has_form words End ≡ false
unfolding words_of
not_end words is = ap (λ (ws : List (List ℕ)). has_form ws End) is

-- some have it where they are one word, which is as written
pub end_alone : (words rest : List (List ℕ)) (word : List ℕ) → words ≡ word ∷ rest → has_form words End ≡ (bytes_eq word (codes "end") && (length rest == 0))
unfolding words_of
end_alone words rest word is = ap (λ (ws : List (List ℕ)). has_form ws End) is

twice : (b : Bool) → b ≡ not (not b)
twice true = refl
twice false = refl

-- a test of bytes for another text, as it came out
pub test_is : (word text other : List ℕ) (differs value : Bool) → differs ≡ not (bytes_eq word text) → differs ≡ value → text ≡ other → bytes_eq word other ≡ not value
test_is word text other differs value test is same =
    ap (bytes_eq word) (sym same) ∙ twice (bytes_eq word text) ∙ ap not (sym test ∙ is)

-- whether no word comes next is whether none is left
pub none_next : {A : Type 0} (view : A → List ℕ) (left next : List (List ℕ)) (r : Option A) (is_none : Bool) → MatchOption r ((left ≡ []) × (next ≡ [])) (λ x. left ≡ view x ∷ next) → is_some r ≡ not is_none → is_none ≡ (length left == 0)
none_next view left next None is_none steps is = twice is_none ∙ ap not (sym is) ∙ sym (ap (λ (words : List (List ℕ)). length words == 0) steps.0)
none_next view left next (Some x) is_none steps is =
    let some : (length (view x ∷ next) == 0) ≡ false = grind (arith, nat_tests) in
    twice is_none ∙ ap not (sym is) ∙ sym (ap (λ (words : List (List ℕ)). length words == 0) steps ∙ some)
