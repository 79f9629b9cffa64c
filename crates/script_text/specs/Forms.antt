-- The forms of a script's lines. A form is written as a line: `NAME..` stands for one to sixteen names, `[NAME..]` for
-- none to sixteen, `BEAT..` for beats, another word with a capital letter first for a number, and all others for
-- themselves.
use Rattle.std.specs.Prelude.{ℕ, Bool, ◌&&◌, ◌||◌, false, List, [], ◌∷◌, length, drop, codes, bytes_eq, ◌==◌}
use Rattle.std.specs.Prelude.{slice_index, nat_le, Option, Some, None, is_some, if◌then◌else◌}
use Rattle.std.specs.List.{find, list_all}
use Rattle.std.specs.Str.{byte, is_utf8}
use Rattle.rendezvous_steps.specs.declared.ends.Beat.{Beat}
use Rattle.rendezvous_steps.specs.declared.ends.Beat.TheVariants as beat
use Rattle.uc_text.specs.Lines.{words_of}
use Rattle.script_text.specs.declared.forms.BeatKind.{BeatKind}
use Rattle.script_text.specs.declared.forms.BeatKind.TheVariants as kind
use Rattle.script_text.specs.declared.forms.Form.{Form}
use Rattle.script_text.specs.declared.forms.Form.TheVariants as form
use Rattle.script_text.specs.declared.forms.Place.{Place}
use Rattle.script_text.specs.declared.forms.Place.TheVariants.{Front, Top, AfterPool, Commands, InLoad}

abbrev pub written : Form → List ℕ
written form.Title = codes "ucode-script 1"
written form.Pool = codes "pool BLOCKS"
written form.Patience = codes "patience POLLS"
written form.Boot = codes "boot [NAME..]"
written form.Online = codes "online THREAD"
written form.Offline = codes "offline THREAD"
written form.Suspend = codes "suspend"
written form.Resume = codes "resume"
written form.Refuse = codes "refuse CORE"
written form.Accept = codes "accept CORE"
written form.Load = codes "load NAME.."
written form.LoadForce = codes "load-force NAME.."
written form.End = codes "end"
written form.Beats = codes "BEAT.."

-- ---- the forms of a place

abbrev pub commands : List Form
commands = form.Boot ∷ form.Online ∷ form.Offline ∷ form.Suspend ∷ form.Resume ∷ form.Refuse ∷ form.Accept ∷ form.Load
    ∷ form.LoadForce ∷ []

-- `pool` and `patience` stand at most once each, in this order, before the commands; within a load stand beats alone
abbrev pub forms : Place → List Form
forms Front = form.Title ∷ []
forms Top = form.Pool ∷ form.Patience ∷ commands
forms AfterPool = form.Patience ∷ commands
forms Commands = commands
forms InLoad = form.End ∷ form.Beats ∷ []

-- ---- beats

-- what the first byte of a word says that its beat is
abbrev pub kind_of : ℕ → Option BeatKind
kind_of first =
    if first == byte "s" then Some kind.Step
    else if first == byte "t" then Some kind.Timeout
    else if first == byte "n" then Some kind.Nmi
    else if first == byte "r" then Some kind.Run
    else if first == byte "*" then Some kind.Rounds
    else None

-- the beat of a kind and a number: an event of a thread, or so many rounds
abbrev pub beat_with : BeatKind → ℕ → Beat
beat_with kind.Step number = beat.Step number
beat_with kind.Timeout number = beat.Timeout number
beat_with kind.Nmi number = beat.Nmi number
beat_with kind.Run number = beat.Run number
beat_with kind.Rounds number = beat.Rounds number

-- a word that has the form of a beat, whatever follows its first byte
abbrev pub is_beat : List ℕ → Bool
is_beat word = is_some (kind_of (slice_index word 0))

-- ---- whether words have a form

-- a part of a form that stands for a number
abbrev pub is_number : List ℕ → Bool
is_number part = nat_le 65 (slice_index part 0) && nat_le (slice_index part 0) 90

-- at least so many names and at most sixteen, each in UTF-8
abbrev pub are_names : ℕ → List (List ℕ) → Bool
are_names least words = (nat_le least (length words) && nat_le (length words) 16) && list_all is_utf8 words

-- a last part of a form that stands for all words that are left
abbrev pub takes_the_rest : List ℕ → Bool
takes_the_rest part =
    bytes_eq part (codes "NAME..") || bytes_eq part (codes "[NAME..]") || bytes_eq part (codes "BEAT..")

abbrev pub have_last : List ℕ → List (List ℕ) → Bool
have_last part words =
    if bytes_eq part (codes "BEAT..") then list_all is_beat words
    else if bytes_eq part (codes "NAME..") then are_names 1 words
    else are_names 0 words

-- the next word stands for a part
abbrev pub have_next : List ℕ → List (List ℕ) → Bool
have_next part [] = false
have_next part (word ∷ words) = is_number part || bytes_eq word part

abbrev pub have_form : List (List ℕ) → List (List ℕ) → Bool
have_form [] words = length words == 0
have_form (part ∷ parts) words =
    if takes_the_rest part then have_last part words else have_next part words && have_form parts (drop 1 words)

-- a line's words have the form that is written so
abbrev pub has_form : List (List ℕ) → Form → Bool
has_form words one = have_form (words_of (written one)) words

-- the form that words have at a place: the first of the place's forms, and no words have two
unfoldable pub form_of : Place → List (List ℕ) → Option Form
form_of place words = find (has_form words) (forms place)
