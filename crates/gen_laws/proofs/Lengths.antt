-- The generated texts are short.
use Rattle.std.proofs.Common.{◌≡◌, ℕ, ◌+◌, ◌*◌, ◌/◌, ◌%◌, ◌<◌, ◌≤◌, Bool, true, false, if◌then◌else◌, List, [], ◌∷◌, ◌++◌, length, refl, arith, length-append}
use Rattle.std.specs.Prelude.{◌==◌, codes, decimal}
use Rattle.std.specs.List.{All, flat_map, range_with_len}
use Rattle.std.proofs.lemmas.Fmt.{length-decimal-le}
use Rattle.std.proofs.lemmas.List.Elements.{All-head, All-tail}
use Rattle.std.proofs.lemmas.List.FromFn.{length-range_with_len, get_or-range_with_len}
use Rattle.uc_text.specs.Digits.{hex8_of}
use Rattle.uc_gen.specs.Draws.{draw}
use Rattle.uc_gen.specs.Texts.{line_of, core_sig, core_flags, core_line, thread_line, core_lines, thread_lines, topology_text, offline_line, offline_lines, script_text}

-- ---- lines of at most 100 bytes, made of numbers below a top

lines_fit : (line : ℕ → List ℕ) (top : ℕ) (numbers : List ℕ) → ((k : ℕ) → k < top → length (line k) ≤ 100) →
    All (λ k. k < top) numbers → length (flat_map line numbers) ≤ 100 * length numbers
lines_fit line top [] each within = omega arith
lines_fit line top (k ∷ numbers) each within =
    omega (
      arith,
      length-append (line k) (flat_map line numbers),
      each k (All-head (λ k. k < top) k numbers within),
      lines_fit line top numbers each (All-tail (λ k. k < top) k numbers within),
    )

all_below : (top : ℕ) → All (λ k. k < top) (range_with_len 0 top)
all_below top k d below =
    let inside : k < top = omega (arith, below, length-range_with_len 0 top) in
    omega (arith, get_or-range_with_len 0 top k d inside, inside)

first_lines : (line : ℕ → List ℕ) (top : ℕ) → ((k : ℕ) → k < top → length (line k) ≤ 100) →
    length (flat_map line (range_with_len 0 top)) ≤ 100 * top
first_lines line top each =
    omega (arith, lines_fit line top (range_with_len 0 top) each (all_below top), length-range_with_len 0 top)

-- ---- the words of a line

last_word : (word : List ℕ) → length (line_of (word ∷ [])) ≡ length word + 1
last_word word = length-append word (10 ∷ [])

next_word : (word next : List ℕ) (words : List (List ℕ)) →
    length (line_of (word ∷ next ∷ words)) ≡ length word + (1 + length (line_of (next ∷ words)))
next_word word next words = omega (arith, length-append word (32 ∷ line_of (next ∷ words)))

hex_length : (value : ℕ) → length (hex8_of value) ≡ 10
unfolding hex8_of
hex_length value = refl

decimal_short : (k : ℕ) → k < 256 → length (decimal k) ≤ 3
decimal_short k below = length-decimal-le 3 k (omega arith) (omega (arith, below)) (omega (arith, below))

core_fits : (sig flags core : ℕ) → core < 128 → length (core_line core sig flags) ≤ 100
core_fits sig flags core below =
    let rev = hex8_of 0x80 in
    let words_8 = rev ∷ [] in
    let words_7 = codes "rev" ∷ words_8 in
    let words_6 = hex8_of flags ∷ words_7 in
    let words_5 = codes "flags" ∷ words_6 in
    let words_4 = hex8_of sig ∷ words_5 in
    let words_3 = codes "sig" ∷ words_4 in
    omega (
      arith,
      next_word (codes "core") (decimal core) words_3,
      next_word (decimal core) (codes "sig") words_4,
      next_word (codes "sig") (hex8_of sig) words_5,
      next_word (hex8_of sig) (codes "flags") words_6,
      next_word (codes "flags") (hex8_of flags) words_7,
      next_word (hex8_of flags) (codes "rev") words_8,
      next_word (codes "rev") rev [],
      last_word rev,
      hex_length sig,
      hex_length flags,
      hex_length 0x80,
      decimal_short core (omega (arith, below)),
    )

thread_fits : (thread : ℕ) → thread < 256 → length (thread_line thread) ≤ 100
thread_fits thread below =
    let half : ℕ = thread / 2 in
    omega (
      arith,
      next_word (codes "cpu") (decimal thread) (codes "core" ∷ decimal half ∷ []),
      next_word (decimal thread) (codes "core") (decimal half ∷ []),
      next_word (codes "core") (decimal half) [],
      last_word (decimal half),
      decimal_short thread below,
      decimal_short half (omega (arith, below)),
    )

where_drawn : (goes : Bool) (line : List ℕ) → length line ≤ 100 → length (if goes then line else []) ≤ 100
where_drawn true line short = short
where_drawn false line short = omega arith

offline_fits : (thread drawn : ℕ) → thread < 256 → length (offline_line thread drawn) ≤ 100
offline_fits thread drawn below =
    where_drawn (drawn % 4 == 0) (line_of (codes "offline" ∷ decimal thread ∷ []))
    (omega (arith, next_word (codes "offline") (decimal thread) [], last_word (decimal thread), decimal_short thread below))

-- ---- the texts

cores_fit : (number : ℕ) → length (core_lines number 128) ≤ 12800
unfolding core_lines
cores_fit number =
    omega (
      arith,
      first_lines (λ core. core_line core (core_sig number core) (core_flags number core)) 128
          (λ core below. core_fits (core_sig number core) (core_flags number core) core below),
    )

threads_fit : length (thread_lines 256) ≤ 25600
unfolding thread_lines
threads_fit = omega (arith, first_lines thread_line 256 thread_fits)

offlines_fit : (number : ℕ) → length (offline_lines number 128) ≤ 12800
unfolding offline_lines
offlines_fit number =
    omega (
      arith,
      first_lines (λ k. offline_line (2 * k + 1) (draw number (k + 1))) 128
          (λ k below. offline_fits (2 * k + 1) (draw number (k + 1)) (omega (arith, below))),
    )

pub topology_short : (number : ℕ) → length (topology_text number) ≤ 1048576
topology_short number =
    let head = codes "ucode-topology 1\nvendor intel\n" in
    omega (
      arith,
      length-append head (core_lines number 128 ++ thread_lines 256),
      length-append (core_lines number 128) (thread_lines 256),
      cores_fit number,
      threads_fit,
    )

pub script_short : (number : ℕ) → length (script_text number) ≤ 16777216
script_short number =
    let head = codes "ucode-script 1\nboot\n" in
    let tail = codes "load bundle.bin\n*5128\nend\n" in
    omega (
      arith,
      length-append head (offline_lines number 128 ++ tail),
      length-append (offline_lines number 128) tail,
      offlines_fit number,
    )
