-- The day that an update's date names: mmddyyyy in binary-coded decimal, a digit in each half of a byte.
use Rattle.std.specs.Prelude.{ℕ, ◌+◌, ◌*◌, ◌/◌, ◌%◌, ◌^◌, ◌<◌, Option, Some, None, pos}
use Rattle.jiff_core.specs.declared.civil.date.Date.{Date}
use Rattle.jiff_core.specs.Calendar.{IsDate}
use Rattle.jiff_core.specs.Date.{IsYmd}

abbrev pub month_byte : ℕ → ℕ
month_byte date = date / 2 ^ 24 % 256

abbrev pub day_byte : ℕ → ℕ
day_byte date = date / 2 ^ 16 % 256

abbrev pub century_byte : ℕ → ℕ
century_byte date = date / 2 ^ 8 % 256

abbrev pub year_byte : ℕ → ℕ
year_byte date = date % 256

-- both halves of the byte are decimal digits
abbrev pub AreDigits : ℕ → Type 0
AreDigits byte = (byte / 16 < 10) × (byte % 16 < 10)

-- the number that the two digits stand for
abbrev pub two_digits : ℕ → ℕ
two_digits byte = 10 * (byte / 16) + byte % 16

abbrev pub year_of : ℕ → ℕ
year_of date = 100 * two_digits (century_byte date) + two_digits (year_byte date)

-- all eight digits are decimal, and the calendar has the day
pub record NamesDay (date : ℕ) : Type 0 where
  pub month : AreDigits (month_byte date)
  pub day : AreDigits (day_byte date)
  pub century : AreDigits (century_byte date)
  pub year : AreDigits (year_byte date)
  pub in_calendar : IsDate (pos (year_of date)) (pos (two_digits (month_byte date))) (pos (two_digits (day_byte date)))

-- the day, or that there is none
abbrev pub IsDayOf : ℕ → Option Date → Type 0
IsDayOf date (Some day) =
    NamesDay date × IsYmd (pos (year_of date)) (pos (two_digits (month_byte date))) (pos (two_digits (day_byte date))) day
IsDayOf date None = NamesDay date → ⊥
