-- Words as bytes.
use Rattle.std.specs.Prelude.{ℕ, List, flat_map}
use Rattle.std.specs.Int.{to_le_bytes, w32}

-- the bytes of words of 32 bits, the lowest byte of each first
abbrev pub bytes_of : List ℕ → List ℕ
bytes_of words = flat_map (to_le_bytes w32) words
