-- The equivalence table that begins a container: which processor signatures share which patches.
use Rattle.std.specs.Prelude.{◌≡◌, ℕ, ◌+◌, ◌*◌, ◌/◌, ◌≤◌, ◌==◌, if◌then◌else◌, List, [], ◌∷◌, length, drop, map}
use Rattle.std.specs.List.{range_with_len}
use Rattle.uc_bytes.specs.Words.{word, half}

-- the word that begins a container
abbrev pub amd_magic : ℕ
amd_magic = 0x00414d44

-- The head of a container and its table: the magic, the type 0, the table's length, and then that many bytes, which are
-- enough for a row.
pub record IsEquiv (bytes : List ℕ) : Type 0 where
  pub head : 12 ≤ length bytes
  pub magic : word bytes 0 ≡ amd_magic
  pub kind : word bytes 4 ≡ 0
  pub some_row : 16 ≤ word bytes 8
  pub whole : length bytes ≡ 12 + word bytes 8

-- a row of 16 bytes: the signature of a processor, and the id of the patches that are for it
abbrev pub row_at : List ℕ → ℕ → ℕ × ℕ
row_at table i = (word table (16 * i), half table (12 + 16 * i))

-- the rows of a table that follows a head: bytes after the last whole row are none
abbrev pub rows_of : List ℕ → List (ℕ × ℕ)
rows_of bytes =
    map (row_at (drop 12 bytes)) (range_with_len 0 (length (drop 12 bytes) / 16))

-- the id in the first row with a signature; 0, which means none, where no row has it
abbrev pub id_of : List (ℕ × ℕ) → ℕ → ℕ
id_of [] sig = 0
id_of (row ∷ rows) sig = if row.0 == sig then row.1 else id_of rows sig
