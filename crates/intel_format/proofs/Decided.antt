-- Each date names a day or names none.
use Rattle.std.proofs.Common.{inl, inr, ℕ, Bool, true, false, ℤ, ◌≤ℤ◌}
use Rattle.std.proofs.Math.Dec.{T}
use Rattle.std.specs.Int.Signed.{le_z}
use Rattle.fault_rule.proofs.Decided.{Decided, decided_le, both, three, decided_by}
use Rattle.jiff_core.specs.Calendar.{IsDate, IsBetween}
use Rattle.intel_format.specs.Date.{NamesDay, AreDigits, month_byte, day_byte, century_byte, year_byte}

decided_digits : (byte : ℕ) → Decided (AreDigits byte)
decided_digits byte = both (decided_le _ _) (decided_le _ _)

decided_T : (b : Bool) → Decided (T b)
decided_T true = inl tt
decided_T false = inr (λ no. no)

decided_signed : (a b : ℤ) → Decided (a ≤ℤ b)
decided_signed a b = decided_by (λ le. record { le = le }) (λ (le : a ≤ℤ b). le.le) (decided_T (le_z a b))

decided_between : (low high z : ℤ) → Decided (IsBetween low high z)
decided_between low high z = both (decided_signed low z) (decided_signed z high)

decided_date : (y m d : ℤ) → Decided (IsDate y m d)
decided_date y m d = three (decided_between _ _ y) (decided_between _ _ m) (decided_between _ _ d)

-- a date names a day or names none
pub decided_day : (date : ℕ) → Decided (NamesDay date)
decided_day date =
    decided_by
    (λ (month, day, years). record { month = month; day = day; century = years.0; year = years.1; in_calendar = years.2 })
    (λ (names : NamesDay date). (names.month, names.day, (names.century, names.year, names.in_calendar)))
    (three (decided_digits (month_byte date)) (decided_digits (day_byte date))
    (three (decided_digits (century_byte date)) (decided_digits (year_byte date)) (decided_date _ _ _)))
