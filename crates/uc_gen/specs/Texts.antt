-- The generated topology, of 128 cores with two threads each, and the script for it.
use Rattle.std.specs.Prelude.{ℕ, ◌+◌, ◌*◌, ◌/◌, ◌%◌, ◌^◌, ◌==◌, if◌then◌else◌, List, [], ◌∷◌, ◌++◌, flat_map, codes}
use Rattle.std.specs.Prelude.{decimal}
use Rattle.std.specs.List.{range_with_len}
use Rattle.uc_text.specs.Digits.{hex8_of}
use Rattle.uc_gen.specs.Draws.{draw}

-- the line of some words: a blank stands between two of them, and LF ends it
abbrev pub line_of : List (List ℕ) → List ℕ
line_of [] = 10 ∷ []
line_of (word ∷ []) = word ++ 10 ∷ []
line_of (word ∷ words) = word ++ 32 ∷ line_of words

-- two numbers are drawn for each core: its signature, and one of eight flags
abbrev pub core_sig : ℕ → ℕ → ℕ
core_sig number core = 0x906e0 + draw number (2 * core + 1) % 16

abbrev pub core_flags : ℕ → ℕ → ℕ
core_flags number core = 2 ^ (draw number (2 * core + 2) % 8)

abbrev pub core_words : ℕ → ℕ → ℕ → List (List ℕ)
core_words core sig flags =
    codes "core" ∷ decimal core ∷ codes "sig" ∷ hex8_of sig ∷ codes "flags" ∷ hex8_of flags ∷ codes "rev" ∷ hex8_of 0x80
    ∷ []

abbrev pub core_line : ℕ → ℕ → ℕ → List ℕ
core_line core sig flags = line_of (core_words core sig flags)

-- two threads are on each core
abbrev pub thread_words : ℕ → List (List ℕ)
thread_words thread = codes "cpu" ∷ decimal thread ∷ codes "core" ∷ decimal (thread / 2) ∷ []

abbrev pub thread_line : ℕ → List ℕ
thread_line thread = line_of (thread_words thread)

-- the lines of the first cores, and those of the first threads
unfoldable pub core_lines : ℕ → ℕ → List ℕ
core_lines number count =
    flat_map (λ core. core_line core (core_sig number core) (core_flags number core)) (range_with_len 0 count)

unfoldable pub thread_lines : ℕ → List ℕ
thread_lines count = flat_map thread_line (range_with_len 0 count)

abbrev pub topology_text : ℕ → List ℕ
topology_text number =
    codes "ucode-topology 1\nvendor intel\n" ++ core_lines number 128 ++ thread_lines 256

-- the line of a thread that goes offline, where the number that is drawn for it is a multiple of 4
abbrev pub offline_line : ℕ → ℕ → List ℕ
offline_line thread drawn =
    if drawn % 4 == 0 then line_of (codes "offline" ∷ decimal thread ∷ []) else []

-- the lines of the first odd threads, in their order, for each of which one number is drawn
unfoldable pub offline_lines : ℕ → ℕ → List ℕ
offline_lines number count =
    flat_map (λ k. offline_line (2 * k + 1) (draw number (k + 1))) (range_with_len 0 count)

abbrev pub script_text : ℕ → List ℕ
script_text number =
    codes "ucode-script 1\nboot\n" ++ offline_lines number 128 ++ codes "load bundle.bin\n*5128\nend\n"
