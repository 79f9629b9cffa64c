use Rattle.std.proofs.Common.{◌≡◌, ℕ, ◌<◌, take, get_or}
use Rattle.std.specs.Char.{digit_value}
use Rattle.uc_text.specs.Numbers.{place_value}
use Rattle.uc_text.proofs.numbers.leading_number.Given as goal

-- the bytes so far are digits, and the value is theirs
abbrev pub invariant-loop-byte : goal.invariant-loop-byte
invariant-loop-byte l = record {
  digits : (k : ℕ) → k < l.byte-index → digit_value (get_or l.text k 0) < 10;
  value : l.value ≡ place_value 10 (take l.byte-index l.text);
  count : l.count ≡ l.byte-index;
}
