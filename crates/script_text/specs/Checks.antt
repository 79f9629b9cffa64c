-- The checks of a script's line, in their order. Each is made of the whole line before the next one is.
use Rattle.std.specs.Prelude.{ℕ, Bool, true, false, not, List, [], ◌∷◌, ◌++◌, ◌&&◌, length, nat_le, nat_lt, ◌^◌, Option}
use Rattle.std.specs.Prelude.{Some, None, is_some}
use Rattle.std.specs.List.{list_all}
use Rattle.uc_text.specs.Numbers.{number_of}
use Rattle.script_text.specs.declared.fault.ScriptCause.{ScriptCause}
use Rattle.script_text.specs.declared.fault.ScriptCause.TheVariants.{Head, Word, Number, Range, TooMany}
use Rattle.script_text.specs.declared.forms.Form.{Form}
use Rattle.script_text.specs.declared.forms.Form.TheVariants as form
use Rattle.script_text.specs.declared.forms.Limits.{Limits}
use Rattle.script_text.specs.declared.forms.Place.{Place}
use Rattle.script_text.specs.declared.forms.Place.TheVariants.{Front}
use Rattle.script_text.specs.Forms.{form_of}
use Rattle.script_text.specs.Stands.{Before, numbers_in, second, beats_of}
use Rattle.script_text.specs.Within.{fits_beat, events_of}

abbrev pub checks : List ScriptCause
checks = Head ∷ Word ∷ Number ∷ Range ∷ TooMany ∷ []

abbrev pub is_front : Place → Bool
is_front Front = true
is_front place = false

-- the text spells a number of 64 bits
abbrev pub spells : List ℕ → Bool
spells text = is_some (number_of text)

-- what words of a form state is in range
abbrev pub in_range : Limits → Form → List (List ℕ) → Bool
in_range limits form.Pool words = nat_le 1 (second words) && nat_le (second words) 65536
in_range limits form.Patience words = nat_lt (second words) (2 ^ 32)
in_range limits form.Online words = nat_lt (second words) limits.threads
in_range limits form.Offline words = nat_lt (second words) limits.threads
in_range limits form.Refuse words = nat_lt (second words) limits.cores
in_range limits form.Accept words = nat_lt (second words) limits.cores
in_range limits form.Beats words = list_all (fits_beat limits) (beats_of words)
in_range limits one words = true

-- a 4,097th command begins, or a load has more than 4,194,304 events
abbrev pub is_too_many : Limits → Before → Form → List (List ℕ) → Bool
is_too_many limits before form.Title words = false
is_too_many limits before form.Pool words = false
is_too_many limits before form.Patience words = false
is_too_many limits before form.End words = false
is_too_many limits before form.Beats words = nat_lt 4194304 (events_of limits (before.load.beats ++ beats_of words))
is_too_many limits before one words = nat_le 4096 (length before.commands)

-- the check that a cause names fails at words that have this form, or none of the forms of their place
abbrev pub fails_at : Limits → Before → Option Form → List (List ℕ) → ScriptCause → Bool
fails_at limits before None words Head = is_front before.place
fails_at limits before None words Word = not (is_front before.place)
fails_at limits before (Some one) words Number = not (list_all spells (numbers_in one words))
fails_at limits before (Some one) words Range = not (in_range limits one words)
fails_at limits before (Some one) words TooMany = is_too_many limits before one words
fails_at limits before one words cause = false

-- the check that a cause names fails at a line of these words
abbrev pub fails : Limits → Before → List (List ℕ) → ScriptCause → Bool
fails limits before words cause = fails_at limits before (form_of before.place words) words cause
