-- What one line of a core or a thread states after those before it.
use Rattle.std.proofs.Common.{◌≡◌, ℕ, ◌/◌, ◌^◌, ◌<◌, List, [], ◌∷◌, ◌++◌, length, Some, Result, Ok, Err, refl, sym, ◌∙◌, ap, arith}
use Rattle.std.specs.Prelude.{codes, decimal, if◌then◌else◌}
use Rattle.std.proofs.lemmas.Bool.{lt-leb, le-ltb, eq-eqb}
use Rattle.uc_text.specs.Digits.{hex8_of}
use Rattle.uc_text.specs.Lines.{words_of}
use Rattle.uc_topology.specs.declared.fault.TopoCause.{TopoCause}
use Rattle.uc_topology.specs.declared.fault.TopoCause.TheVariants.{Word}
use Rattle.uc_topology.specs.declared.forms.Version.TheVariants.{Cores}
use Rattle.uc_topology.specs.declared.tables.Core.{Core}
use Rattle.uc_topology.specs.Stated.{Stated, group_count}
use Rattle.uc_topology.specs.Forms.{have_form, numbers_of}
use Rattle.uc_topology.specs.Grammar.{core_form, core_from, thread_from, after_line, next_core, next_thread}
use Rattle.uc_gen.specs.Texts.{core_words, thread_words}
use Rattle.gen_laws.proofs.Words.{AreWords, body_of, body_words}
use Rattle.gen_laws.proofs.Numbers.{Spells, below_limit, decimal_spells, rev_spells}

-- the forms of the two lines, as words
abbrev core_parts : List (List ℕ)
core_parts = codes "core" ∷ codes "C" ∷ codes "sig" ∷ codes "S" ∷ codes "flags" ∷ codes "F" ∷ codes "rev" ∷ codes "R" ∷ []

abbrev thread_parts : List (List ℕ)
thread_parts = codes "cpu" ∷ codes "T" ∷ codes "core" ∷ codes "C" ∷ []

core_parts_are : words_of (core_form Cores) ≡ core_parts
unfolding words_of
core_parts_are = refl

thread_parts_are : words_of (codes "cpu T core C") ≡ thread_parts
unfolding words_of
thread_parts_are = refl

-- what words state by the two forms
abbrev after_words : List (List ℕ) → List (List ℕ) → List (List ℕ) → Stated → Result Stated TopoCause
after_words core thread words before =
    if have_form core words then core_from Cores before (numbers_of core words) else if have_form thread words then thread_from before (numbers_of thread words) else Err Word

by_words : (before : Stated) (line : List ℕ) → after_line Cores before line ≡ after_words (words_of (core_form Cores)) (words_of (codes "cpu T core C")) (words_of line) before
unfolding after_line
by_words before line = refl

-- a line of words states what the words do
after_body : (before : Stated) (words : List (List ℕ)) → AreWords words → after_line Cores before (body_of words) ≡ after_words core_parts thread_parts words before
after_body before words are =
    by_words before (body_of words) ∙ (λ i. after_words (core_parts_are i) (thread_parts_are i) (body_words words are i) before)

-- ---- a core's line

pub core_words_are : (core sig flags : ℕ) → core < 256 → Spells (hex8_of sig) sig → Spells (hex8_of flags) flags → AreWords (core_words core sig flags)
core_words_are core sig flags less of_sig of_flags =
    (refl, ((decimal_spells core less).word, (refl, (of_sig.word, (refl, (of_flags.word, (refl, (rev_spells.word, tt))))))))

core_numbers : (core sig flags : ℕ) → core < 256 → Spells (hex8_of sig) sig → sig < 2 ^ 32 → Spells (hex8_of flags) flags → flags < 2 ^ 32
    → numbers_of core_parts (core_words core sig flags) ≡ Some (core ∷ sig ∷ flags ∷ 0x80 ∷ [])
core_numbers core sig flags less of_sig sig_less of_flags flags_less =
    rw (below_limit (2 ^ 16) (decimal core) core (decimal_spells core less).is_spelled (omega (arith, less)))
    (rw (below_limit (2 ^ 32) (hex8_of sig) sig of_sig.is_spelled sig_less)
    (rw (below_limit (2 ^ 32) (hex8_of flags) flags of_flags.is_spelled flags_less) (rw (below_limit (2 ^ 32) (hex8_of 0x80) 0x80 rev_spells.is_spelled (omega arith)) refl)))

-- the next core, in a group of its own
next_is : (before : Stated) (core : Core) → length before.cores < 256 → core.group ≡ length before.cores → group_count before.cores ≡ length before.cores
    → next_core before core.group core ≡ Ok (record { cores = before.cores ++ core ∷ []; threads = before.threads })
next_is before core less is groups =
    rw (lt-leb 256 (length before.cores) less)
    (rw (eq-eqb core.group (length before.cores) is)
    (rw (le-ltb (group_count before.cores) core.group (omega (arith, is, groups))) (rw (le-ltb core.group (group_count before.cores) (omega (arith, is, groups))) refl)))

pub after_core : (before : Stated) (core sig flags : ℕ) → core < 256 → Spells (hex8_of sig) sig → sig < 2 ^ 32 → Spells (hex8_of flags) flags → flags < 2 ^ 32 → length before.cores ≡ core → group_count before.cores ≡ core
    → after_line Cores before (body_of (core_words core sig flags)) ≡ Ok (record { cores = before.cores ++ record { group = core; facts = record { sig = sig; flags = flags; rev = 0x80 } } ∷ []; threads = before.threads })
after_core before core sig flags less of_sig sig_less of_flags flags_less count groups =
    let stated : Core = record { group = core; facts = record { sig = sig; flags = flags; rev = 0x80 } } in
    after_body before (core_words core sig flags) (core_words_are core sig flags less of_sig of_flags)
    ∙ ap (core_from Cores before) (core_numbers core sig flags less of_sig sig_less of_flags flags_less)
    ∙ next_is before stated (omega (arith, less, count)) (sym count) (groups ∙ sym count)

-- ---- a thread's line

pub thread_words_are : (thread : ℕ) → thread < 256 → thread / 2 < 256 → AreWords (thread_words thread)
thread_words_are thread less half = (refl, ((decimal_spells thread less).word, (refl, ((decimal_spells (thread / 2) half).word, tt))))

thread_numbers : (thread : ℕ) → thread < 256 → thread / 2 < 256 → numbers_of thread_parts (thread_words thread) ≡ Some (thread ∷ thread / 2 ∷ [])
thread_numbers thread less half =
    rw (below_limit (2 ^ 16) (decimal thread) thread (decimal_spells thread less).is_spelled (omega (arith, less)))
    (rw (below_limit (2 ^ 16) (decimal (thread / 2)) (thread / 2) (decimal_spells (thread / 2) half).is_spelled (omega (arith, half))) refl)

next_thread_is : (before : Stated) (number core : ℕ) → number < 256 → number ≡ length before.threads → core < length before.cores
    → next_thread before number core ≡ Ok (record { cores = before.cores; threads = before.threads ++ core ∷ [] })
next_thread_is before number core less is inside =
    rw (lt-leb 256 (length before.threads) (omega (arith, less, is))) (rw (eq-eqb number (length before.threads) is) (rw (lt-leb (length before.cores) core inside) refl))

pub after_thread : (before : Stated) (thread : ℕ) → thread < 256 → thread ≡ length before.threads → thread / 2 < length before.cores
    → after_line Cores before (body_of (thread_words thread)) ≡ Ok (record { cores = before.cores; threads = before.threads ++ thread / 2 ∷ [] })
after_thread before thread less is inside =
    let half : thread / 2 < 256 = omega (arith, less) in
    after_body before (thread_words thread) (thread_words_are thread less half) ∙ ap (thread_from before) (thread_numbers thread less half)
    ∙ next_thread_is before thread (thread / 2) less is inside
