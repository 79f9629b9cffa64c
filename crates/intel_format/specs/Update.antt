-- What an Intel update is.
use Rattle.std.specs.Prelude.{◌≡◌, ◌⊎◌, ℕ, ◌+◌, ◌*◌, ◌%◌, ◌^◌, ◌<◌, ◌≤◌, List, [], length, take, drop, map}
use Rattle.std.specs.List.{range_with_len}
use Rattle.uc_bytes.specs.Words.{word, word_sum_of}
use Rattle.intel_format.specs.declared.header.IntelHeader.{IntelHeader}
use Rattle.intel_format.specs.Header.{header_of, data_len, total_len, header_triple}

-- how many entries an extended signature table has, by its first word
abbrev pub entry_count : List ℕ → ℕ
entry_count table = word table 0

-- the signature and the processor flags of an entry: entries of 12 bytes follow a head of 20
abbrev pub pair_at : List ℕ → ℕ → ℕ × ℕ
pair_at table i = (word table (20 + 12 * i), word table (24 + 12 * i))

-- an entry's signature, flags and checksum, added up modulo 2^32
abbrev pub entry_sum : List ℕ → ℕ → ℕ
entry_sum table i =
    (word table (20 + 12 * i) + word table (24 + 12 * i) + word table (28 + 12 * i)) % 2 ^ 32

-- an extended signature table: its words sum to 0, and each of its entries to what the header's signature, flags and
-- checksum sum to
pub record IsExtTable (triple : ℕ) (table : List ℕ) (pairs : List (ℕ × ℕ)) : Type 0 where
  pub whole : length table ≡ 20 + 12 * entry_count table
  pub sum : word_sum_of table ≡ 0
  pub sums : (i : ℕ) → i < entry_count table → entry_sum table i ≡ triple
  pub entries : pairs ≡ map (pair_at table) (range_with_len 0 (entry_count table))

-- what stands after the data: nothing, or an extended signature table
abbrev pub IsTable : ℕ → List ℕ → List (ℕ × ℕ) → Type 0
IsTable triple rest pairs = ((rest ≡ []) × (pairs ≡ [])) ⊎ IsExtTable triple rest pairs

-- the sizes that a header states go with each other, and it is of the one version that there is
pub record IsSoundHeader (h : IntelHeader) : Type 0 where
  pub data_in_words : data_len h % 4 ≡ 0
  pub total_in_words : total_len h % 4 ≡ 0
  pub header_fits : 48 ≤ total_len h
  pub data_fits : 48 + data_len h ≤ total_len h
  pub version : h.version ≡ 1
  pub loader : h.loader ≡ 1

-- the bytes are an update with this header, and with these signatures and flags in its table
pub record IsIntelUpdate (bytes : List ℕ) (h : IntelHeader) (pairs : List (ℕ × ℕ)) : Type 0 where
  pub header : h ≡ header_of bytes
  pub sound : IsSoundHeader h
  pub whole : length bytes ≡ total_len h
  pub sum : word_sum_of (take (48 + data_len h) bytes) ≡ 0
  pub table : IsTable (header_triple h) (drop (48 + data_len h) bytes) pairs
