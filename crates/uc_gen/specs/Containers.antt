-- The generated AMD file: 16 containers, for each of which five numbers are drawn. Each has a table of one row, and
-- four patches of 64 bytes.
use Rattle.std.specs.Prelude.{ℕ, ◌+◌, ◌*◌, ◌/◌, ◌%◌, List, [], ◌∷◌, ◌++◌, flat_map}
use Rattle.std.specs.List.{range_with_len}
use Rattle.uc_gen.specs.Bundle.{bytes_of}
use Rattle.uc_gen.specs.Draws.{draw}

-- the head of a container, with a table of 16 bytes, and the table's row for a signature and an id
abbrev pub equiv_words : ℕ → ℕ → List ℕ
equiv_words sig id = 0x00414d44 ∷ 0 ∷ 16 ∷ sig ∷ 0 ∷ 0 ∷ id ∷ []

-- the head of a section, and its patch
abbrev pub section_words : ℕ → ℕ → List ℕ
section_words rev id =
    1 ∷ 64 ∷ 0 ∷ rev ∷ 0 ∷ 0 ∷ 0 ∷ 0 ∷ id ∷ 0 ∷ 0 ∷ 0 ∷ 0 ∷ 0 ∷ 0 ∷ 0 ∷ 0 ∷ 0 ∷ []

-- the signature of family 19h for a number of 12 bits, whose highest four stand for the extended model
abbrev pub sig_for : ℕ → ℕ
sig_for a = 0x00a00f00 + a / 256 * 65536 + a % 256

-- the first sections for an id, whose revisions are drawn behind some draws
unfoldable pub sections : ℕ → ℕ → ℕ → ℕ → List ℕ
sections number before id count =
    flat_map (λ patch. section_words (0x0a000000 + draw number (before + patch + 1) % 65536) id)
    (range_with_len 0 count)

-- the container that is made behind some draws: a number of 12 bits is drawn, and then the revisions of four patches
abbrev pub container_words : ℕ → ℕ → List ℕ
container_words number before =
    let a = draw number (before + 1) % 4096 in
    equiv_words (sig_for a) (0xa000 + a) ++ sections number (before + 1) (0xa000 + a) 4

-- the bytes of the first containers
unfoldable pub containers : ℕ → ℕ → List ℕ
containers number count =
    flat_map (λ container. bytes_of (container_words number (5 * container))) (range_with_len 0 count)

abbrev pub amd_file : ℕ → List ℕ
amd_file number = containers number 16
