-- The generated topology, line by line.
use Rattle.std.proofs.Common.{◌≡◌, ℕ, zero, suc, ◌+◌, ◌*◌, ◌/◌, ◌%◌, ◌<◌, ◌≤◌, Bool, true, false, List, [], ◌∷◌, ◌++◌, length, map, Ok, refl, sym, ◌∙◌, ap, subst, arith, append_assoc}
use Rattle.std.specs.Prelude.{◌==◌, nat_lt, codes, flat_map, filter}
use Rattle.std.specs.List.{list_all, list_any, fold, range_with_len, enumerate_from}
use Rattle.std.proofs.lemmas.Bool.{eq-eqb, ne_eqb, lt-ltb}
use Rattle.std.proofs.lemmas.List.{append-nil, map-id}
use Rattle.std.proofs.lemmas.List.FromFn.{length-range_with_len, length-map-range_with_len, map-range_with_len_more, get_or-map-range_with_len}
use Rattle.std.proofs.lemmas.List.Sums.{position_or_len_is}
use Rattle.std.proofs.lemmas.Simd.{map-map}
use Rattle.uc_text.specs.Digits.{hex8_of}
use Rattle.uc_text.specs.Lines.{counted_lines, counts, lines_of, words_of}
use Rattle.uc_bytes.specs.declared.causes.Vendor.TheVariants.{Intel}
use Rattle.uc_topology.specs.declared.forms.Version.TheVariants.{Cores}
use Rattle.uc_topology.specs.Stated.{Stated, group_of, with_new, groups_of, group_count, lead}
use Rattle.uc_topology.specs.Grammar.{version_of, vendor_of, after_line, nothing, is_full}
use Rattle.uc_topology.specs.Texts.{InTurn, LinesState, States}
use Rattle.uc_gen.specs.Draws.{draw}
use Rattle.uc_gen.specs.Texts.{line_of, core_words, core_sig, core_flags, core_lines, thread_words, thread_line, thread_lines, topology_text}
use Rattle.gen_laws.specs.Stated.{core_of, cores_of, threads_of, machine_of}
use Rattle.gen_laws.proofs.Counted.{AreCounted, kept, counted_append}
use Rattle.gen_laws.proofs.Words.{AreWords, body_of, first_line, no_lines, body_words}
use Rattle.gen_laws.proofs.Numbers.{Spells, sig_spells, flags_spells, flags_less}
use Rattle.gen_laws.proofs.Body.{core_words_are, after_core, thread_words_are, after_thread}

-- ---- the lines of the text

-- lines of words for each number of a range
unfoldable bodies : (ℕ → List (List ℕ)) → ℕ → ℕ → List (List ℕ)
bodies words a n = map (λ k. body_of (words k)) (range_with_len a n)

bodies-none : (words : ℕ → List (List ℕ)) (a : ℕ) → bodies words a 0 ≡ []
unfolding bodies
bodies-none words a = refl

bodies-first : (words : ℕ → List (List ℕ)) (a n : ℕ) → bodies words a (suc n) ≡ body_of (words a) ∷ bodies words (a + 1) n
unfolding bodies
bodies-first words a n = refl

lines_first : (words : ℕ → List (List ℕ)) (a n : ℕ) (rest : List ℕ) → ((k : ℕ) → k < a + n → AreWords (words k))
    → lines_of (flat_map (λ k. line_of (words k)) (range_with_len a n) ++ rest) ≡ bodies words a n ++ lines_of rest
lines_first words a zero rest are = ap (λ (l : List (List ℕ)). l ++ lines_of rest) (sym (bodies-none words a))
lines_first words a (suc n) rest are =
    ap lines_of (append_assoc (line_of (words a)) (flat_map (λ k. line_of (words k)) (range_with_len (a + 1) n)) rest)
    ∙ first_line (words a) (flat_map (λ k. line_of (words k)) (range_with_len (a + 1) n) ++ rest) (are a (omega arith))
    ∙ ap (λ (l : List (List ℕ)). body_of (words a) ∷ l) (lines_first words (a + 1) n rest (λ k below. are k (omega (arith, below))))
    ∙ ap (λ (l : List (List ℕ)). l ++ lines_of rest) (sym (bodies-first words a n))

-- the words of the line of a core
module _ (number : ℕ) where
  words_of_core : ℕ → List (List ℕ)
  words_of_core core = core_words core (core_sig number core) (core_flags number core)

  sig_of : (core : ℕ) → Spells (hex8_of (core_sig number core)) (core_sig number core)
  sig_of core = sig_spells (draw number (2 * core + 1) % 16) (omega arith)

  flags_of : (core : ℕ) → Spells (hex8_of (core_flags number core)) (core_flags number core)
  flags_of core = flags_spells (draw number (2 * core + 2) % 8) (omega arith)

  core_are : (core : ℕ) → core < 128 → AreWords (core_words core (core_sig number core) (core_flags number core))
  core_are core below = core_words_are core (core_sig number core) (core_flags number core) (omega (arith, below)) (sig_of core) (flags_of core)

thread_are : (thread : ℕ) → thread < 256 → AreWords (thread_words thread)
thread_are thread below = thread_words_are thread below (omega (arith, below))

-- the lines of cores and threads
body_lines : (number cores threads : ℕ) → cores ≤ 128 → threads ≤ 256
    → lines_of (core_lines number cores ++ thread_lines threads) ≡ bodies (words_of_core number) 0 cores ++ bodies thread_words 0 threads
unfolding core_lines thread_lines words_of_core
body_lines number cores threads few_cores few_threads =
    let lines : List ℕ = flat_map thread_line (range_with_len 0 threads) in
    lines_first (words_of_core number) 0 cores lines (λ k below. core_are number k (omega (arith, below, few_cores)))
    ∙ ap (λ (l : List ℕ). bodies (words_of_core number) 0 cores ++ lines_of l) (sym (append-nil lines))
    ∙ ap (λ (l : List (List ℕ)). bodies (words_of_core number) 0 cores ++ l) (lines_first thread_words 0 threads [] (λ k below. thread_are k (omega (arith, below, few_threads))))
    ∙ ap (λ (l : List (List ℕ)). bodies (words_of_core number) 0 cores ++ (bodies thread_words 0 threads ++ l)) no_lines
    ∙ ap (λ (l : List (List ℕ)). bodies (words_of_core number) 0 cores ++ l) (append-nil (bodies thread_words 0 threads))

-- ---- lines that count

counted_bodies : (words : ℕ → List (List ℕ)) (a n : ℕ) → ((k m : ℕ) → k < a + n → counts (m, body_of (words k)) ≡ true) → AreCounted (bodies words a n)
unfolding bodies
counted_bodies words a zero each = tt
counted_bodies words a (suc n) each = (λ m. each a m (omega arith), counted_bodies words (a + 1) n (λ k m below. each k m (omega (arith, below))))

core_counts : (number k m : ℕ) → k < 128 → counts (m, body_of (words_of_core number k)) ≡ true
unfolding words_of_core
core_counts number k m below = rw (body_words (core_words k (core_sig number k) (core_flags number k)) (core_are number k below)) refl

thread_counts : (k m : ℕ) → k < 256 → counts (m, body_of (thread_words k)) ≡ true
thread_counts k m below = rw (body_words (thread_words k) (thread_are k below)) refl

-- ---- lines in turn

abbrev Turns : Stated → List (List ℕ) → Stated → Type 0
Turns before [] after = before ≡ after
Turns before (line ∷ lines) after = (next : Stated) × (after_line Cores before line ≡ Ok next) × Turns next lines after

in_turn : (n : ℕ) (before : Stated) (lines : List (List ℕ)) (after : Stated) → Turns before lines after → InTurn Cores before (enumerate_from n lines) after
in_turn n before [] after turns = turns
in_turn n before (line ∷ lines) after turns = (turns.0, turns.1, in_turn (n + 1) turns.0 lines after turns.2)

turns_append : (before mid after : Stated) (lines more : List (List ℕ)) → Turns before lines mid → Turns mid more after → Turns before (lines ++ more) after
turns_append before mid after [] more first second = subst (λ (s : Stated). Turns s more after) (sym first) second
turns_append before mid after (line ∷ lines) more first second = (first.0, first.1, turns_append first.0 mid after lines more first.2 second)

range_more : (n : ℕ) → range_with_len 0 (n + 1) ≡ range_with_len 0 n ++ n ∷ []
range_more n =
    let id : ℕ → ℕ = λ k. k in
    sym (map-id (range_with_len 0 (n + 1))) ∙ map-range_with_len_more id 0 n n (omega arith) ∙ ap (λ (l : List ℕ). l ++ n ∷ []) (map-id (range_with_len 0 n))

-- numbers that are not among those before them
none_of : (number a n : ℕ) → a + n ≤ number → list_any (λ other. other == number) (range_with_len a n) ≡ false
none_of number a zero past = refl
none_of number a (suc n) past = rw (ne_eqb a number (λ same. omega (arith, same, past))) (none_of number (a + 1) n (omega (arith, past)))

new_each : (a n : ℕ) → fold with_new (range_with_len 0 a) (range_with_len a n) ≡ range_with_len 0 (a + n)
new_each a zero = ap (range_with_len 0) (omega arith)
new_each a (suc n) =
    let one : with_new (range_with_len 0 a) a ≡ range_with_len 0 (a + 1) = rw (none_of a 0 a (omega arith)) (sym (range_more a)) in
    ap (λ (l : List ℕ). fold with_new l (range_with_len (a + 1) n)) one ∙ new_each (a + 1) n ∙ ap (range_with_len 0) (omega arith)

groups_are : (number count : ℕ) → group_count (cores_of number count) ≡ count
unfolding groups_of cores_of
groups_are number count =
    ap (λ (l : List ℕ). length (fold with_new [] l)) (map-map group_of (core_of number) (range_with_len 0 count) ∙ map-id (range_with_len 0 count))
    ∙ ap length (new_each 0 count) ∙ length-range_with_len 0 (0 + count) ∙ omega arith

count_of : (number count : ℕ) → length (cores_of number count) ≡ count
unfolding cores_of
count_of number count = length-map-range_with_len (core_of number) 0 count

cores_more : (number count : ℕ) → cores_of number (count + 1) ≡ cores_of number count ++ core_of number count ∷ []
unfolding cores_of
cores_more number count = map-range_with_len_more (core_of number) 0 count count (omega arith)

threads_count : (count : ℕ) → length (threads_of count) ≡ count
unfolding threads_of
threads_count count = length-map-range_with_len (λ thread. thread / 2) 0 count

threads_more : (count : ℕ) → threads_of (count + 1) ≡ threads_of count ++ count / 2 ∷ []
unfolding threads_of
threads_more count = map-range_with_len_more (λ thread. thread / 2) 0 count count (omega arith)

threads_none : threads_of 0 ≡ []
unfolding threads_of
threads_none = refl

cores_none : (number : ℕ) → cores_of number 0 ≡ []
unfolding cores_of
cores_none number = refl

module _ (number : ℕ) where
  abbrev with_cores : ℕ → Stated
  with_cores count = record { cores = cores_of number count; threads = [] }

  core_turns : (a n : ℕ) → a + n ≤ 128 → Turns (with_cores a) (bodies (words_of_core number) a n) (with_cores (a + n))
  unfolding bodies words_of_core
  core_turns a zero within = ap with_cores (omega arith)
  core_turns a (suc n) within =
      let here = after_core (with_cores a) a (core_sig number a) (core_flags number a) (omega (arith, within)) (sig_of number a) (omega arith) (flags_of number a) (flags_less (draw number (2 * a + 2) % 8) (omega arith)) (count_of number a) (groups_are number a) in (
        with_cores (a + 1),
        here ∙ (λ i. Ok (record { cores = sym (cores_more number a) i; threads = [] })),
        subst (λ (m : ℕ). Turns (with_cores (a + 1)) (bodies (words_of_core number) (a + 1) n) (with_cores m)) (omega arith) (core_turns (a + 1) n (omega (arith, within))),
      )

  abbrev with_threads : ℕ → Stated
  with_threads count = record { cores = cores_of number 128; threads = threads_of count }

  thread_turns : (a n : ℕ) → a + n ≤ 256 → Turns (with_threads a) (bodies thread_words a n) (with_threads (a + n))
  unfolding bodies
  thread_turns a zero within = ap with_threads (omega arith)
  thread_turns a (suc n) within =
      let here = after_thread (with_threads a) a (omega (arith, within)) (sym (threads_count a)) (omega (arith, within, count_of number 128)) in (
        with_threads (a + 1),
        here ∙ (λ i. Ok (record { cores = cores_of number 128; threads = sym (threads_more a) i })),
        subst (λ (m : ℕ). Turns (with_threads (a + 1)) (bodies thread_words (a + 1) n) (with_threads m)) (omega arith) (thread_turns (a + 1) n (omega (arith, within))),
      )

-- ---- each core has a thread

all_range : (p : ℕ → Bool) (a n : ℕ) → ((k : ℕ) → k < a + n → p k ≡ true) → list_all p (range_with_len a n) ≡ true
all_range p a zero each = refl
all_range p a (suc n) each = rw (each a (omega arith)) (all_range p (a + 1) n (λ k below. each k (omega (arith, below))))

-- the lowest thread of a core, which has the double number
lead_is : (number core : ℕ) → core < 128 → lead (with_threads number 256) core ≡ 2 * core
unfolding threads_of
lead_is number core below =
    position_or_len_is (λ other. other == core) (map (λ thread. thread / 2) (range_with_len 0 256)) (2 * core) 0 (omega (arith, below, length-map-range_with_len (λ thread. thread / 2) 0 256))
    (λ k before. rw (get_or-map-range_with_len (λ thread. thread / 2) 0 256 k k 0 (omega (arith, before, below)) (omega arith)) (ne_eqb (k / 2) core (λ same. omega (arith, before, same))))
    (λ inside. rw (get_or-map-range_with_len (λ thread. thread / 2) 0 256 (2 * core) (2 * core) 0 (omega (arith, below)) (omega arith)) (eq-eqb (2 * core / 2) core (omega arith)))

full_is : (number : ℕ) → is_full (with_threads number 256) ≡ true
full_is number =
    let some : nat_lt 0 (length (threads_of 256)) ≡ true = lt-ltb 0 (length (threads_of 256)) (omega (arith, threads_count 256)) in
    let each : (k : ℕ) → k < 0 + 128 → nat_lt (lead (with_threads number 256) k) (length (threads_of 256)) ≡ true =
    λ k below. lt-ltb (lead (with_threads number 256) k) (length (threads_of 256)) (omega (arith, below, lead_is number k (omega (arith, below)), threads_count 256)) in
    rw some (rw (count_of number 128) (all_range (λ core. nat_lt (lead (with_threads number 256) core) (length (threads_of 256))) 0 128 each))

-- ---- the whole text

abbrev head_words : List (List ℕ)
head_words = codes "ucode-topology" ∷ codes "1" ∷ []

abbrev vendor_words : List (List ℕ)
vendor_words = codes "vendor" ∷ codes "intel" ∷ []

abbrev all_bodies : ℕ → List (List ℕ)
all_bodies number = bodies (words_of_core number) 0 128 ++ bodies thread_words 0 256

text_lines : (number : ℕ) → lines_of (topology_text number) ≡ body_of head_words ∷ body_of vendor_words ∷ all_bodies number
text_lines number =
    let rest : List ℕ = core_lines number 128 ++ thread_lines 256 in
    first_line head_words (line_of vendor_words ++ rest) (refl, (refl, tt))
    ∙ ap (λ (l : List (List ℕ)). body_of head_words ∷ l) (first_line vendor_words rest (refl, (refl, tt)))
    ∙ ap (λ (l : List (List ℕ)). body_of head_words ∷ body_of vendor_words ∷ l) (body_lines number 128 256 (omega arith) (omega arith))

head_counts : (m : ℕ) → counts (m, body_of head_words) ≡ true
unfolding words_of
head_counts m = refl

vendor_counts : (m : ℕ) → counts (m, body_of vendor_words) ≡ true
unfolding words_of
vendor_counts m = refl

version_is : version_of (body_of head_words) ≡ Ok Cores
unfolding words_of
version_is = refl

vendor_is : vendor_of (body_of vendor_words) ≡ Ok Intel
unfolding words_of
vendor_is = refl

all_counted : (number : ℕ) → AreCounted (body_of head_words ∷ body_of vendor_words ∷ all_bodies number)
all_counted number = (
  head_counts,
  (
    vendor_counts,
    counted_append (bodies (words_of_core number) 0 128) (bodies thread_words 0 256) (counted_bodies (words_of_core number) 0 128 (λ k m below. core_counts number k m (omega (arith, below))))
        (counted_bodies thread_words 0 256 (λ k m below. thread_counts k m (omega (arith, below)))),
  ),
)

all_turns : (number : ℕ) → Turns nothing (all_bodies number) (with_threads number 256)
all_turns number =
    let begin : nothing ≡ with_cores number 0 = λ i. record { cores = sym (cores_none number) i; threads = [] } in
    let between : with_cores number (0 + 128) ≡ with_threads number 0 = λ i. record { cores = cores_of number 128; threads = sym threads_none i } in
    let cores = core_turns number 0 128 (omega arith) in
    let threads = thread_turns number 0 256 (omega arith) in
    subst (λ (s : Stated). Turns s (all_bodies number) (with_threads number 256)) (sym begin)
    (turns_append (with_cores number 0) (with_cores number 128) (with_threads number 256) (bodies (words_of_core number) 0 128) (bodies thread_words 0 256) cores
    (subst (λ (s : Stated). Turns s (bodies thread_words 0 256) (with_threads number 256)) (sym between) threads))

pub topology_states : (number : ℕ) → States (topology_text number) (machine_of number)
topology_states number =
    let lines : List (List ℕ) = body_of head_words ∷ body_of vendor_words ∷ all_bodies number in
    let counted : counted_lines (topology_text number) ≡ enumerate_from 1 lines =
    ap (λ (l : List (List ℕ)). filter counts (enumerate_from 1 l)) (text_lines number) ∙ kept 1 lines (all_counted number) in
    record {
      lines = subst (λ (l : List (ℕ × List ℕ)). LinesState l (machine_of number)) (sym counted)
          (Cores, version_is, vendor_is, in_turn 3 nothing (all_bodies number) (with_threads number 256) (all_turns number), full_is number);
    }
