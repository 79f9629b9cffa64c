-- The generated script, line by line.
use Rattle.std.proofs.Common.{◌≡◌, ℕ, zero, suc, ◌+◌, ◌*◌, ◌%◌, ◌^◌, ◌<◌, ◌≤◌, Bool, true, false, List, [], ◌∷◌, ◌++◌, length, Option, Some, Result, Ok, refl, sym, ◌∙◌, ap, arith, append_assoc, length-append}
use Rattle.std.specs.Prelude.{All, ◌==◌, nat_lt, filter, codes, decimal, flat_map, if◌then◌else◌}
use Rattle.std.specs.List.{list_all, range_with_len, enumerate_from}
use Rattle.std.specs.Str.{is_utf8}
use Rattle.std.proofs.lemmas.Bool.{lt-leb, lt-ltb, ltb-true}
use Rattle.std.proofs.lemmas.Str.{is_utf8-from_IsUtf8, IsUtf8-from_ascii}
use Rattle.std.proofs.lemmas.Str.Ascii.{IsAscii-from_all}
use Rattle.uc_text.specs.Lines.{counted_lines, counts, lines_of, words_of}
use Rattle.uc_text.specs.Numbers.{number_of, spelled}
use Rattle.rendezvous_steps.specs.declared.ends.Beat.{Beat}
use Rattle.rendezvous_steps.specs.declared.ends.Beat.TheVariants.{Rounds}
use Rattle.script_text.specs.declared.command.Command.{Command}
use Rattle.script_text.specs.declared.command.Command.TheVariants.{Boot, Offline, Load}
use Rattle.script_text.specs.declared.fault.ScriptCause.{ScriptCause}
use Rattle.script_text.specs.declared.fault.ScriptFault.{ScriptFault}
use Rattle.script_text.specs.declared.forms.Form.{Form}
use Rattle.script_text.specs.declared.forms.Form.TheVariants as form
use Rattle.script_text.specs.declared.forms.Place.TheVariants.{Top, Commands, InLoad}
use Rattle.script_text.specs.Stated.{Stated}
use Rattle.script_text.specs.Forms.{form_of}
use Rattle.script_text.specs.Stands.{Before, opening, no_load}
use Rattle.script_text.specs.Reading.{after_form, after_line, go_on, read_on, reading}
use Rattle.script_text.specs.Texts.{States}
use Rattle.script_text.proofs.OneReading.{states}
use Rattle.uc_gen.specs.Draws.{draw}
use Rattle.uc_gen.specs.Texts.{line_of, offline_line, offline_lines, script_text}
use Rattle.gen_laws.specs.Stated.{limits_of, offlines_of, script_of}
use Rattle.gen_laws.proofs.Counted.{AreCounted, kept, counted_append}
use Rattle.gen_laws.proofs.Words.{and_left, and_right, AreWords, body_of, first_line, no_lines, body_words}
use Rattle.gen_laws.proofs.Numbers.{below_limit, decimal_spells}

-- ---- the lines of the text

abbrev offline_words : ℕ → List (List ℕ)
offline_words thread = codes "offline" ∷ decimal thread ∷ []

abbrev title_words : List (List ℕ)
title_words = codes "ucode-script" ∷ codes "1" ∷ []

abbrev boot_words : List (List ℕ)
boot_words = codes "boot" ∷ []

abbrev load_words : List (List ℕ)
load_words = codes "load" ∷ codes "bundle.bin" ∷ []

abbrev rounds_words : List (List ℕ)
rounds_words = codes "*5128" ∷ []

abbrev end_words : List (List ℕ)
end_words = codes "end" ∷ []

-- the bodies of the lines behind those that take threads offline
abbrev last_bodies : List (List ℕ)
last_bodies = body_of load_words ∷ body_of rounds_words ∷ body_of end_words ∷ []

-- what is made of each place, where its draw is a multiple of 4
abbrev where_drawn : {A : Type 0} → Bool → A → List A
where_drawn true a = a ∷ []
where_drawn false a = []

abbrev is_drawn : ℕ → ℕ → Bool
is_drawn number k = draw number (k + 1) % 4 == 0

chosen : {A : Type 0} (b : Bool) (a : A) → where_drawn b a ≡ (if b then a ∷ [] else [])
chosen true a = refl
chosen false a = refl

-- the bodies of those lines, and their commands
offline_bodies : ℕ → ℕ → ℕ → List (List ℕ)
offline_bodies number a zero = []
offline_bodies number a (suc n) = where_drawn (is_drawn number a) (body_of (offline_words (2 * a + 1))) ++ offline_bodies number (a + 1) n

offline_commands : ℕ → ℕ → ℕ → List Command
offline_commands number a zero = []
offline_commands number a (suc n) = where_drawn (is_drawn number a) (Offline (2 * a + 1)) ++ offline_commands number (a + 1) n

offline_are : (thread : ℕ) → thread < 256 → AreWords (offline_words thread)
offline_are thread below = (refl, ((decimal_spells thread below).word, tt))

offline_text : ℕ → ℕ → ℕ → List ℕ
offline_text number a n = flat_map (λ k. offline_line (2 * k + 1) (draw number (k + 1))) (range_with_len a n)

one_line : (drawn : Bool) (thread : ℕ) (rest : List ℕ) → thread < 256
    → lines_of ((if drawn then line_of (offline_words thread) else []) ++ rest) ≡ where_drawn drawn (body_of (offline_words thread)) ++ lines_of rest
one_line true thread rest below = first_line (offline_words thread) rest (offline_are thread below)
one_line false thread rest below = refl

lines_first : (number a n : ℕ) (rest : List ℕ) → a + n ≤ 128 → lines_of (offline_text number a n ++ rest) ≡ offline_bodies number a n ++ lines_of rest
unfolding offline_text offline_bodies
lines_first number a zero rest within = refl
lines_first number a (suc n) rest within =
    let here : List ℕ = offline_line (2 * a + 1) (draw number (a + 1)) in
    let behind : List ℕ = offline_text number (a + 1) n in
    let first : List (List ℕ) = where_drawn (is_drawn number a) (body_of (offline_words (2 * a + 1))) in
    ap lines_of (append_assoc here behind rest)
    ∙ one_line (is_drawn number a) (2 * a + 1) (behind ++ rest) (omega (arith, within))
    ∙ ap (λ (l : List (List ℕ)). first ++ l) (lines_first number (a + 1) n rest (omega (arith, within)))
    ∙ sym (append_assoc first (offline_bodies number (a + 1) n) (lines_of rest))

last_lines : lines_of (line_of load_words ++ (line_of rounds_words ++ (line_of end_words ++ []))) ≡ last_bodies
last_lines =
    first_line load_words (line_of rounds_words ++ (line_of end_words ++ [])) (refl, (refl, tt))
    ∙ ap (λ (l : List (List ℕ)). body_of load_words ∷ l)
    (first_line rounds_words (line_of end_words ++ []) (refl, tt) ∙ ap (λ (l : List (List ℕ)). body_of rounds_words ∷ l) (first_line end_words [] (refl, tt) ∙ ap (λ (l : List (List ℕ)). body_of end_words ∷ l) no_lines))

abbrev bodies_for : ℕ → ℕ → List (List ℕ)
bodies_for number n = body_of title_words ∷ body_of boot_words ∷ (offline_bodies number 0 n ++ last_bodies)

text_lines : (number n : ℕ) → n ≤ 128 → lines_of (codes "ucode-script 1\nboot\n" ++ offline_lines number n ++ codes "load bundle.bin\n*5128\nend\n") ≡ bodies_for number n
unfolding offline_lines offline_text
text_lines number n within =
    let last : List ℕ = codes "load bundle.bin\n*5128\nend\n" in
    let rest : List ℕ = offline_text number 0 n ++ last in
    first_line title_words (line_of boot_words ++ rest) (refl, (refl, tt))
    ∙ ap (λ (l : List (List ℕ)). body_of title_words ∷ l)
    (first_line boot_words rest (refl, tt) ∙ ap (λ (l : List (List ℕ)). body_of boot_words ∷ l) (lines_first number 0 n last (omega (arith, within)) ∙ ap (λ (l : List (List ℕ)). offline_bodies number 0 n ++ l) last_lines))

-- ---- lines that count

one_counts : (drawn : Bool) (thread : ℕ) → thread < 256 → AreCounted (where_drawn drawn (body_of (offline_words thread)))
one_counts true thread below = (λ m. rw (body_words (offline_words thread) (offline_are thread below)) refl, tt)
one_counts false thread below = tt

offlines_count : (number a n : ℕ) → a + n ≤ 128 → AreCounted (offline_bodies number a n)
unfolding offline_bodies
offlines_count number a zero within = tt
offlines_count number a (suc n) within =
    counted_append (where_drawn (is_drawn number a) (body_of (offline_words (2 * a + 1)))) (offline_bodies number (a + 1) n) (one_counts (is_drawn number a) (2 * a + 1) (omega (arith, within)))
    (offlines_count number (a + 1) n (omega (arith, within)))

title_counts : (m : ℕ) → counts (m, body_of title_words) ≡ true
unfolding words_of
title_counts m = refl

boot_counts : (m : ℕ) → counts (m, body_of boot_words) ≡ true
unfolding words_of
boot_counts m = refl

last_count : AreCounted last_bodies
unfolding words_of
last_count = (λ m. refl, (λ m. refl, (λ m. refl, tt)))

all_counted : (number n : ℕ) → n ≤ 128 → AreCounted (bodies_for number n)
all_counted number n within =
    (title_counts, (boot_counts, counted_append (offline_bodies number 0 n) last_bodies (offlines_count number 0 n (omega (arith, within))) last_count))

-- ---- what each line states

-- one line more is read
read_next : (before next : Before) (line : ℕ × List ℕ) (lines : List (ℕ × List ℕ)) → after_line limits_of before line ≡ Ok next → read_on limits_of before (line ∷ lines) ≡ read_on limits_of next lines
unfolding read_on
read_next before next line lines is =
    ap (λ (r : Result Before ScriptCause). go_on line.0 r (λ (b : Before). read_on limits_of b lines)) is

by_words : (before : Before) (line : ℕ × List ℕ) → after_line limits_of before line ≡ after_form limits_of before line.0 (form_of before.place (words_of line.1)) (words_of line.1)
unfolding after_line
by_words before line = refl

-- after some commands, and within the load after them
abbrev with_commands : List Command → Before
with_commands commands = record { place = Commands; pool = 4096; patience = 10000000; commands = commands; load = no_load }

abbrev in_load : ℕ → List Beat → List Command → Before
in_load line beats commands = record {
  place = InLoad;
  pool = 4096;
  patience = 10000000;
  commands = commands;
  load = record { line = line; force = false; names = codes "bundle.bin" ∷ []; beats = beats };
}

offline_form : (text : List ℕ) → form_of Commands (codes "offline" ∷ text ∷ []) ≡ Some form.Offline
unfolding form_of words_of
offline_form text = refl

less_each : (bytes : List ℕ) → list_all (λ byte. nat_lt byte 128) bytes ≡ true → All (λ byte. byte < 128) bytes
less_each [] all k d below = absurd (omega (arith, below))
less_each (byte ∷ bytes) all zero d below = ltb-true byte 128 (and_left (nat_lt byte 128) (list_all (λ b. nat_lt b 128) bytes) all)
less_each (byte ∷ bytes) all (suc k) d below = less_each bytes (and_right (nat_lt byte 128) (list_all (λ b. nat_lt b 128) bytes) all) k d (omega (arith, below))

name_is_text : is_utf8 (codes "bundle.bin") ≡ true
name_is_text =
    let name : List ℕ = codes "bundle.bin" in
    is_utf8-from_IsUtf8 name (IsUtf8-from_ascii name (IsAscii-from_all name (less_each name refl)))

load_form : form_of Commands load_words ≡ Some form.Load
unfolding form_of words_of
load_form = rw name_is_text refl

thread_number : (thread : ℕ) → thread < 256 → number_of (decimal thread) ≡ Some thread
thread_number thread below = below_limit (2 ^ 64) (decimal thread) thread (decimal_spells thread below).is_spelled (omega (arith, below))

after_offline : (commands : List Command) (m thread : ℕ) → length commands < 4096 → thread < 256 → after_line limits_of (with_commands commands) (m, body_of (offline_words thread)) ≡ Ok (with_commands (commands ++ Offline thread ∷ []))
after_offline commands m thread few below =
    by_words (with_commands commands) (m, body_of (offline_words thread))
    ∙ ap (λ (words : List (List ℕ)). after_form limits_of (with_commands commands) m (form_of Commands words) words) (body_words (offline_words thread) (offline_are thread below))
    ∙ ap (λ (f : Option Form). after_form limits_of (with_commands commands) m f (offline_words thread)) (offline_form (decimal thread))
    ∙ rw (thread_number thread below) (rw (lt-ltb thread 256 below) (rw (lt-leb 4096 (length commands) few) refl))

after_load : (commands : List Command) (m : ℕ) → length commands < 4096 → after_line limits_of (with_commands commands) (m, body_of load_words) ≡ Ok (in_load m [] commands)
after_load commands m few =
    by_words (with_commands commands) (m, body_of load_words)
    ∙ ap (λ (words : List (List ℕ)). after_form limits_of (with_commands commands) m (form_of Commands words) words) (body_words load_words (refl, (refl, tt)))
    ∙ ap (λ (f : Option Form). after_form limits_of (with_commands commands) m f load_words) load_form
    ∙ rw (lt-leb 4096 (length commands) few) refl

after_rounds : (commands : List Command) (m line : ℕ) → after_line limits_of (in_load line [] commands) (m, body_of rounds_words) ≡ Ok (in_load line (Rounds 5128 ∷ []) commands)
unfolding after_line form_of words_of spelled
after_rounds commands m line = refl

after_end : (commands : List Command) (m line : ℕ) (beats : List Beat) → after_line limits_of (in_load line beats commands) (m, body_of end_words) ≡ Ok (with_commands (commands ++ Load false (codes "bundle.bin" ∷ []) beats ∷ []))
unfolding after_line form_of words_of
after_end commands m line beats = refl

after_title : (m : ℕ) → after_line limits_of opening (m, body_of title_words) ≡ Ok (record opening { place = Top })
unfolding after_line form_of words_of
after_title m = refl

after_boot : (m : ℕ) → after_line limits_of (record opening { place = Top }) (m, body_of boot_words) ≡ Ok (with_commands (Boot [] ∷ []))
unfolding after_line form_of words_of
after_boot m = refl

-- ---- the lines in turn

abbrev stated : List Command → Result Stated ScriptFault
stated commands = Ok (record { pool = 4096; patience = 10000000; commands = commands })

read_end : (commands : List Command) → read_on limits_of (with_commands commands) [] ≡ stated commands
unfolding read_on
read_end commands = refl

read_last : (commands : List Command) (m : ℕ) → length commands < 4096 → read_on limits_of (with_commands commands) (enumerate_from m last_bodies) ≡ stated (commands ++ Load false (codes "bundle.bin" ∷ []) (Rounds 5128 ∷ []) ∷ [])
read_last commands m few =
    let beats : List Beat = Rounds 5128 ∷ [] in
    let all : List Command = commands ++ Load false (codes "bundle.bin" ∷ []) beats ∷ [] in
    let end : List (ℕ × List ℕ) = (m + 1 + 1, body_of end_words) ∷ [] in
    read_next (with_commands commands) (in_load m [] commands) (m, body_of load_words) ((m + 1, body_of rounds_words) ∷ end) (after_load commands m few)
    ∙ read_next (in_load m [] commands) (in_load m beats commands) (m + 1, body_of rounds_words) end (after_rounds commands (m + 1) m)
    ∙ read_next (in_load m beats commands) (with_commands all) (m + 1 + 1, body_of end_words) [] (after_end commands (m + 1 + 1) m beats)
    ∙ read_end all

read_offline : (drawn : Bool) (thread m : ℕ) (commands : List Command) (bodies : List (List ℕ)) (more : List Command) → thread < 256 → length commands < 4096
    → ((n : ℕ) (others : List Command) → length others ≤ length commands + 1 → read_on limits_of (with_commands others) (enumerate_from n bodies) ≡ stated (others ++ more))
    → read_on limits_of (with_commands commands) (enumerate_from m (where_drawn drawn (body_of (offline_words thread)) ++ bodies)) ≡ stated (commands ++ (where_drawn drawn (Offline thread) ++ more))
read_offline true thread m commands bodies more below few rest =
    let next : List Command = commands ++ Offline thread ∷ [] in
    read_next (with_commands commands) (with_commands next) (m, body_of (offline_words thread)) (enumerate_from (m + 1) bodies) (after_offline commands m thread few below)
    ∙ rest (m + 1) next (omega (arith, length-append commands (Offline thread ∷ [])))
    ∙ ap stated (append_assoc commands (Offline thread ∷ []) more)
read_offline false thread m commands bodies more below few rest = rest m commands (omega arith)

abbrev last_command : List Command
last_command = Load false (codes "bundle.bin" ∷ []) (Rounds 5128 ∷ []) ∷ []

read_offlines : (number a n m : ℕ) (commands : List Command) → a + n ≤ 128 → length commands ≤ a + 1
    → read_on limits_of (with_commands commands) (enumerate_from m (offline_bodies number a n ++ last_bodies)) ≡ stated (commands ++ (offline_commands number a n ++ last_command))
unfolding offline_bodies offline_commands
read_offlines number a zero m commands within few = read_last commands m (omega (arith, within, few))
read_offlines number a (suc n) m commands within few =
    let here : List (List ℕ) = where_drawn (is_drawn number a) (body_of (offline_words (2 * a + 1))) in
    let command : List Command = where_drawn (is_drawn number a) (Offline (2 * a + 1)) in
    let bodies : List (List ℕ) = offline_bodies number (a + 1) n in
    let more : List Command = offline_commands number (a + 1) n in
    ap (λ (l : List (List ℕ)). read_on limits_of (with_commands commands) (enumerate_from m l)) (append_assoc here bodies last_bodies)
    ∙ read_offline (is_drawn number a) (2 * a + 1) m commands (bodies ++ last_bodies) (more ++ last_command) (omega (arith, within)) (omega (arith, within, few))
    (λ k others count. read_offlines number (a + 1) n k others (omega (arith, within)) (omega (arith, count, few)))
    ∙ ap (λ (l : List Command). stated (commands ++ l)) (sym (append_assoc command more last_command))

-- those commands are the definition's
commands_are : (number a n : ℕ) → offline_commands number a n ≡ flat_map (λ k. if is_drawn number k then Offline (2 * k + 1) ∷ [] else []) (range_with_len a n)
unfolding offline_commands
commands_are number a zero = refl
commands_are number a (suc n) =
    let behind : List Command = flat_map (λ k. if is_drawn number k then Offline (2 * k + 1) ∷ [] else []) (range_with_len (a + 1) n) in
    ap (λ (l : List Command). where_drawn (is_drawn number a) (Offline (2 * a + 1)) ++ l) (commands_are number (a + 1) n)
    ∙ ap (λ (l : List Command). l ++ behind) (chosen (is_drawn number a) (Offline (2 * a + 1)))

offlines_are : (number n : ℕ) → offline_commands number 0 n ≡ offlines_of number n
unfolding offlines_of
offlines_are number n = commands_are number 0 n

-- ---- the whole text

read_all : (number n : ℕ) → n ≤ 128 → read_on limits_of opening (enumerate_from 1 (bodies_for number n)) ≡ stated (Boot [] ∷ (offlines_of number n ++ last_command))
read_all number n within =
    let bodies : List (List ℕ) = offline_bodies number 0 n ++ last_bodies in
    read_next opening (record opening { place = Top }) (1, body_of title_words) (enumerate_from 2 (body_of boot_words ∷ bodies)) (after_title 1)
    ∙ read_next (record opening { place = Top }) (with_commands (Boot [] ∷ [])) (2, body_of boot_words) (enumerate_from 3 bodies) (after_boot 2)
    ∙ read_offlines number 0 n 3 (Boot [] ∷ []) (omega (arith, within)) (omega arith)
    ∙ ap (λ (l : List Command). stated (Boot [] ∷ (l ++ last_command))) (offlines_are number n)

counted_are : (number n : ℕ) → n ≤ 128 → counted_lines (codes "ucode-script 1\nboot\n" ++ offline_lines number n ++ codes "load bundle.bin\n*5128\nend\n") ≡ enumerate_from 1 (bodies_for number n)
counted_are number n within =
    ap (λ (l : List (List ℕ)). filter counts (enumerate_from 1 l)) (text_lines number n within) ∙ kept 1 (bodies_for number n) (all_counted number n within)

is_read : (number : ℕ) → reading limits_of (script_text number) ≡ Ok (script_of number)
unfolding reading
is_read number = ap (read_on limits_of opening) (counted_are number 128 (omega arith)) ∙ read_all number 128 (omega arith)

pub script_states : (number : ℕ) → States limits_of (script_text number) (script_of number)
script_states number = states limits_of (script_text number) (script_of number) (is_read number)
