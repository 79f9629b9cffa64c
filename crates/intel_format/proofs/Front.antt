-- What stands at the front of bytes does not depend on what follows it.
use Rattle.std.proofs.Common.{◌≡◌, ℕ, ◌≤◌, List, ◌++◌, length, arith}
use Rattle.uc_bytes.proofs.Fronts.{word-append}
use Rattle.intel_format.specs.Header.{header_of}

-- a header is read from its 48 bytes
pub header_of-append : (xs ys : List ℕ) → 48 ≤ length xs → header_of (xs ++ ys) ≡ header_of xs
header_of-append xs ys inside = λ i. record {
  version = word-append xs ys 0 (omega arith) i;
  rev = word-append xs ys 4 (omega arith) i;
  date = word-append xs ys 8 (omega arith) i;
  sig = word-append xs ys 12 (omega arith) i;
  cksum = word-append xs ys 16 (omega arith) i;
  loader = word-append xs ys 20 (omega arith) i;
  flags = word-append xs ys 24 (omega arith) i;
  size_field = word-append xs ys 28 (omega arith) i;
  total_field = word-append xs ys 32 (omega arith) i;
  meta = word-append xs ys 36 (omega arith) i;
  min = word-append xs ys 40 (omega arith) i;
  reserved = word-append xs ys 44 (omega arith) i;
}
