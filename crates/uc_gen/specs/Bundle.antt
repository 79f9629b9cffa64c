-- The generated Intel file: 512 updates of 2,048 bytes, for each of which 503 numbers are drawn.
use Rattle.std.specs.Prelude.{ℕ, ◌+◌, ◌-◌, ◌*◌, ◌%◌, ◌^◌, List, [], ◌∷◌, ◌++◌, map, sum, flat_map}
use Rattle.std.specs.Int.{to_le_bytes, w32}
use Rattle.std.specs.List.{range_with_len}
use Rattle.uc_gen.specs.Draws.{draw}

-- the bytes of words
abbrev pub bytes_of : List ℕ → List ℕ
bytes_of words = flat_map (to_le_bytes w32) words

-- the twelve words of a header, whose sizes are 0 and stand for 2,000 bytes of data in 2,048
abbrev pub header_words : ℕ → ℕ → ℕ → ℕ → List ℕ
header_words rev sig cksum flags =
    1 ∷ rev ∷ 0x07112023 ∷ sig ∷ cksum ∷ 1 ∷ flags ∷ 0 ∷ 0 ∷ 0 ∷ 0 ∷ 0 ∷ []

-- the word that makes the sum of words 0, modulo 2^32
abbrev pub completing : List ℕ → ℕ
completing words = (2 ^ 32 - sum words % 2 ^ 32) % 2 ^ 32

-- the next numbers that are drawn behind some draws
unfoldable pub draws_behind : ℕ → ℕ → ℕ → List ℕ
draws_behind number before count =
    map (λ k. draw number (before + k + 1)) (range_with_len 0 count)

-- the update that is made behind some draws: its signature, its flags and its revision are drawn, and then its data
abbrev pub update_words : ℕ → ℕ → List ℕ
update_words number before =
    let sig = 0x906e0 + draw number (before + 1) % 16 in
    let flags = draw number (before + 2) % 256 in
    let rev = 0x81 + draw number (before + 3) % 64 in
    let payload = draws_behind number (before + 3) 500 in
    header_words rev sig (completing (header_words rev sig 0 flags ++ payload)) flags ++ payload

-- the bytes of the first updates
unfoldable pub updates : ℕ → ℕ → List ℕ
updates number count =
    flat_map (λ update. bytes_of (update_words number (503 * update))) (range_with_len 0 count)

abbrev pub intel_file : ℕ → List ℕ
intel_file number = updates number 512
