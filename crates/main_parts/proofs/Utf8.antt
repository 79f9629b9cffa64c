-- What a word of the command line stands for.
use Rattle.std.proofs.Common.{true, false, ◌≡◌, ◌≤◌, ℕ, Bool, List, length, codes, ap, sym, if◌then◌else◌}
use Rattle.std.specs.Str.{IsUtf8, is_utf8}
use Rattle.std.proofs.lemmas.Bool.{false_from_ne_true}
use Rattle.std.proofs.lemmas.Str.{IsUtf8-from_is_utf8, is_utf8-from_IsUtf8}
use Rattle.main_parts.specs.Words.{word_from}

module _ (bytes : List ℕ) where
  -- bytes in UTF-8 stand for themselves
  pub as_text : IsUtf8 bytes → bytes ≡ word_from bytes
  as_text is = sym (ap (λ (holds : Bool). if holds then bytes else codes "-") (is_utf8-from_IsUtf8 bytes is))

  -- other bytes stand for a dash
  pub as_dash : (IsUtf8 bytes → ⊥) → codes "-" ≡ word_from bytes
  as_dash isnt = sym (ap (λ (holds : Bool). if holds then bytes else codes "-") (false_from_ne_true _ (λ is. isnt (IsUtf8-from_is_utf8 bytes is))))

few_if : (bytes : List ℕ) (room : ℕ) → length bytes ≤ room → 1 ≤ room → (holds : Bool) → length (if holds then bytes else codes "-") ≤ room
few_if bytes room fits some true = fits
few_if bytes room fits some false = some

-- where bytes have room, and a dash has, what they stand for has
pub few : (bytes : List ℕ) (room : ℕ) → length bytes ≤ room → 1 ≤ room → length (word_from bytes) ≤ room
few bytes room fits some = few_if bytes room fits some (is_utf8 bytes)
