-- Short words at the front of a text.
use Rattle.std.specs.Prelude.{◌≡◌, ℕ, Bool, true, false, List, ◌∷◌, Some, is_some, slice_index}
use Rattle.uc_text.specs.Lines.{is_blank, words_of}
use Rattle.uc_text.specs.Numbers.{number_of}
use Rattle.script_text.specs.Forms.{kind_of}
use Rattle.uc_script.specs.FirstLine.{first_line, after_line, left_words, left_text}

-- a byte that says what beat a word is
abbrev pub is_mark : ℕ → Bool
is_mark byte = is_some (kind_of byte)

-- a byte that ends a word, and the line too or not
abbrev pub EndsWord : ℕ → Bool → Type 0
EndsWord byte true = byte ≡ 10
EndsWord byte false = is_blank byte ≡ true

-- the first word of a text is this byte and the digits of this number, and this is left of its line
pub record IsFirstShort (text : List ℕ) (mark number : ℕ) (rest : List ℕ) (is_last : Bool) : Type 0 where
  pub digits : List ℕ
  pub words : words_of (first_line text) ≡ (mark ∷ digits) ∷ left_words rest is_last
  pub spelled : number_of digits ≡ Some number
  pub after : after_line text ≡ left_text rest is_last
  pub first : slice_index (first_line text) 0 ≡ mark
