use Rattle.std.proofs.Common.{◌≡◌, ℕ, ◌<◌, ◌^◌, take, get_or}
use Rattle.std.specs.Char.{digit_value}
use Rattle.uc_text.specs.Numbers.{place_value}
use Rattle.uc_text.proofs.numbers.number_in.Given as goal

-- the digits so far are digits, and the value is theirs
abbrev pub invariant-loop-byte : goal.invariant-loop-byte
invariant-loop-byte l = record {
  digits : (k : ℕ) → k < l.byte-index → digit_value (get_or l.digits k 0) < l.radix;
  fits : l.value < 2 ^ 64;
  value : l.value ≡ place_value l.radix (take l.byte-index l.digits);
}
