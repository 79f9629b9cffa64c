-- The pieces of the files and texts, for one number more.
use Rattle.std.proofs.Common.{◌≡◌, ℕ, ◌+◌, ◌*◌, ◌%◌, List, [], ◌∷◌, ◌++◌, length, refl, sym, ◌∙◌, ap, arith, append_assoc}
use Rattle.std.proofs.lemmas.Grind.{flat_map-append}
use Rattle.std.proofs.lemmas.List.{append-nil}
use Rattle.std.proofs.lemmas.List.FromFn.{map-range_with_len_more, length-map-range_with_len}
use Rattle.std.specs.Int.{to_le_bytes, w32}
use Rattle.uc_gen.specs.Draws.{draw}
use Rattle.uc_gen.specs.Bundle.{bytes_of, header_words, completing, draws_behind, update_words, updates}
use Rattle.uc_gen.specs.Containers.{equiv_words, section_words, sections, sig_for, container_words, containers}
use Rattle.uc_gen.specs.Texts.{core_line, core_sig, core_flags, core_lines, thread_line, thread_lines, offline_line, offline_lines}
use Rattle.uc_gen.proofs.Lists.{flat_map_range_more}

pub draws_behind-none : (number before : ℕ) → draws_behind number before 0 ≡ []
unfolding draws_behind
draws_behind-none number before = refl

pub draws_behind-more : (number before count : ℕ) → draws_behind number before (count + 1) ≡ draws_behind number before count ++ draw number (before + count + 1) ∷ []
unfolding draws_behind
draws_behind-more number before count =
    map-range_with_len_more (λ k. draw number (before + k + 1)) 0 count count (omega arith)

pub length-draws_behind : (number before count : ℕ) → length (draws_behind number before count) ≡ count
unfolding draws_behind
length-draws_behind number before count = length-map-range_with_len (λ k. draw number (before + k + 1)) 0 count

pub updates-none : (number : ℕ) → updates number 0 ≡ []
unfolding updates
updates-none number = refl

pub updates-more : (number count : ℕ) → updates number (count + 1) ≡ updates number count ++ bytes_of (update_words number (503 * count))
unfolding updates
updates-more number count = flat_map_range_more (λ update. bytes_of (update_words number (503 * update))) count

pub sections-none : (number before id : ℕ) → sections number before id 0 ≡ []
unfolding sections
sections-none number before id = refl

pub sections-more : (number before id count : ℕ) → sections number before id (count + 1) ≡ sections number before id count ++ section_words (0x0a000000 + draw number (before + count + 1) % 65536) id
unfolding sections
sections-more number before id count =
    flat_map_range_more (λ patch. section_words (0x0a000000 + draw number (before + patch + 1) % 65536) id) count

pub containers-none : (number : ℕ) → containers number 0 ≡ []
unfolding containers
containers-none number = refl

pub containers-more : (number count : ℕ) → containers number (count + 1) ≡ containers number count ++ bytes_of (container_words number (5 * count))
unfolding containers
containers-more number count = flat_map_range_more (λ container. bytes_of (container_words number (5 * container))) count

pub core_lines-none : (number : ℕ) → core_lines number 0 ≡ []
unfolding core_lines
core_lines-none number = refl

pub core_lines-more : (number count : ℕ) → core_lines number (count + 1) ≡ core_lines number count ++ core_line count (core_sig number count) (core_flags number count)
unfolding core_lines
core_lines-more number count = flat_map_range_more (λ core. core_line core (core_sig number core) (core_flags number core)) count

pub thread_lines-none : thread_lines 0 ≡ []
unfolding thread_lines
thread_lines-none = refl

pub thread_lines-more : (count : ℕ) → thread_lines (count + 1) ≡ thread_lines count ++ thread_line count
unfolding thread_lines
thread_lines-more count = flat_map_range_more thread_line count

pub offline_lines-none : (number : ℕ) → offline_lines number 0 ≡ []
unfolding offline_lines
offline_lines-none number = refl

pub offline_lines-more : (number count : ℕ) → offline_lines number (count + 1) ≡ offline_lines number count ++ offline_line (2 * count + 1) (draw number (count + 1))
unfolding offline_lines
offline_lines-more number count = flat_map_range_more (λ k. offline_line (2 * k + 1) (draw number (k + 1))) count

-- the bytes of more words
pub bytes_of-append : (words more : List ℕ) → bytes_of (words ++ more) ≡ bytes_of words ++ bytes_of more
bytes_of-append words more = flat_map-append (to_le_bytes w32) words more

-- a loop that puts a piece more behind what stood first
pub behind_more : (first pieces piece before after more : List ℕ) → before ≡ first ++ pieces → after ≡ before ++ piece → more ≡ pieces ++ piece → after ≡ first ++ more
behind_more first pieces piece before after more so_far pushed is =
    pushed ∙ ap (λ (l : List ℕ). l ++ piece) so_far ∙ append_assoc first pieces piece ∙ ap (λ (l : List ℕ). first ++ l) (sym is)

-- nothing is put yet
pub behind_none : (first pieces : List ℕ) → pieces ≡ [] → first ≡ first ++ pieces
behind_none first pieces none = sym (append-nil first) ∙ ap (λ (l : List ℕ). first ++ l) (sym none)

pub core_line_same : (core sig other flags others : ℕ) → sig ≡ other → flags ≡ others → core_line core sig flags ≡ core_line core other others
core_line_same core sig other flags others same_sig same_flags = λ i. core_line core (same_sig i) (same_flags i)

-- an update that is put behind bytes, header and data
pub update_put : (number before sig flags rev cksum : ℕ) (payload old mid new : List ℕ) → sig ≡ 0x906e0 + draw number (before + 1) % 16 → flags ≡ draw number (before + 2) % 256 → rev ≡ 0x81 + draw number (before + 3) % 64
    → payload ≡ draws_behind number (before + 3) 500 → cksum ≡ completing (header_words rev sig 0 flags ++ payload) → mid ≡ old ++ bytes_of (header_words rev sig cksum flags) → new ≡ mid ++ bytes_of payload
    → new ≡ old ++ bytes_of (update_words number before)
update_put number before sig flags rev cksum payload old mid new of_sig of_flags of_rev of_payload of_cksum front back =
    let header = header_words rev sig cksum flags in
    let whole : header ++ payload ≡ header_words rev sig (completing (header_words rev sig 0 flags ++ payload)) flags ++ payload = λ i. header_words rev sig (of_cksum i) flags ++ payload in
    let drawn : header_words rev sig (completing (header_words rev sig 0 flags ++ payload)) flags ++ payload ≡ update_words number before =
    λ i. header_words (of_rev i) (of_sig i) (completing (header_words (of_rev i) (of_sig i) 0 (of_flags i) ++ of_payload i)) (of_flags i) ++ of_payload i in
    back ∙ ap (λ (l : List ℕ). l ++ bytes_of payload) front ∙ append_assoc old (bytes_of header) (bytes_of payload)
    ∙ ap (λ (l : List ℕ). old ++ l) (sym (bytes_of-append header payload))
    ∙ ap (λ (l : List ℕ). old ++ bytes_of l) (whole ∙ drawn)

-- a container that is put behind bytes, its table and its sections
pub container_put : (number before a sig : ℕ) (old mid new : List ℕ) → a ≡ draw number (before + 1) % 4096 → sig ≡ sig_for a → mid ≡ old ++ bytes_of (equiv_words sig (0xa000 + a)) → new ≡ mid ++ bytes_of (sections number (before + 1) (0xa000 + a) 4)
    → new ≡ old ++ bytes_of (container_words number before)
container_put number before a sig old mid new of_a of_sig front back =
    let rest = sections number (before + 1) (0xa000 + a) 4 in
    let table = equiv_words sig (0xa000 + a) in
    let whole : table ++ rest ≡ equiv_words (sig_for a) (0xa000 + a) ++ rest = λ i. equiv_words (of_sig i) (0xa000 + a) ++ rest in
    let drawn : equiv_words (sig_for a) (0xa000 + a) ++ rest ≡ container_words number before = λ i. equiv_words (sig_for (of_a i)) (0xa000 + of_a i) ++ sections number (before + 1) (0xa000 + of_a i) 4 in
    back ∙ ap (λ (l : List ℕ). l ++ bytes_of rest) front ∙ append_assoc old (bytes_of table) (bytes_of rest)
    ∙ ap (λ (l : List ℕ). old ++ l) (sym (bytes_of-append table rest))
    ∙ ap (λ (l : List ℕ). old ++ bytes_of l) (whole ∙ drawn)
