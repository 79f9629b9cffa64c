-- What stands before a line of a script, and what the line adds to it.
use Rattle.std.specs.Prelude.{ℕ, false, true, Bool, List, [], ◌∷◌, ◌++◌, drop, map, slice_index, slice_index_or, Option}
use Rattle.std.specs.Prelude.{Some, None, unwrap_or}
use Rattle.rendezvous_steps.specs.declared.ends.Beat.{Beat}
use Rattle.rendezvous_steps.specs.declared.ends.Beat.TheVariants.{Rounds}
use Rattle.uc_text.specs.Numbers.{number_of}
use Rattle.script_text.specs.declared.command.Command.{Command}
use Rattle.script_text.specs.declared.command.Command.TheVariants as command
use Rattle.script_text.specs.declared.command.OpenLoad.{OpenLoad}
use Rattle.script_text.specs.declared.forms.BeatKind.{BeatKind}
use Rattle.script_text.specs.declared.forms.Form.{Form}
use Rattle.script_text.specs.declared.forms.Form.TheVariants as form
use Rattle.script_text.specs.declared.forms.Place.{Place}
use Rattle.script_text.specs.declared.forms.Place.TheVariants.{Front, Top, AfterPool, Commands, InLoad}
use Rattle.script_text.specs.Stated.{Stated}
use Rattle.script_text.specs.Forms.{kind_of, beat_with}

-- what the lines before a line state: `load` is the load that has no end yet, where the place is in one
pub record Before : Type 0 where
  pub place : Place
  pub pool : ℕ
  pub patience : ℕ
  pub commands : List Command
  pub load : OpenLoad

abbrev pub no_load : OpenLoad
no_load = record { line = 0; force = false; names = []; beats = [] }

-- before the first line: a script that is silent has 4,096 blocks and 10,000,000 polls
abbrev pub opening : Before
opening = record { place = Front; pool = 4096; patience = 10000000; commands = []; load = no_load }

-- ---- numbers

-- how the numbers are spelled that words of a form state
abbrev pub numbers_in : Form → List (List ℕ) → List (List ℕ)
numbers_in form.Pool words = slice_index_or words 1 [] ∷ []
numbers_in form.Patience words = slice_index_or words 1 [] ∷ []
numbers_in form.Online words = slice_index_or words 1 [] ∷ []
numbers_in form.Offline words = slice_index_or words 1 [] ∷ []
numbers_in form.Refuse words = slice_index_or words 1 [] ∷ []
numbers_in form.Accept words = slice_index_or words 1 [] ∷ []
numbers_in form.Beats words = map (drop 1) words
numbers_in one words = []

-- the number that a text spells, where it spells one
abbrev pub value_of : List ℕ → ℕ
value_of text = unwrap_or (number_of text) 0

-- the number of a command's line is its second word
abbrev pub second : List (List ℕ) → ℕ
second words = value_of (slice_index_or words 1 [])

-- the beat of a kind and a number, where there is a kind
abbrev pub beat_with_some : Option BeatKind → ℕ → Beat
beat_with_some None number = Rounds 0
beat_with_some (Some kind) number = beat_with kind number

-- the beat of a word of a schedule: its first byte says the kind, and the rest is the number
abbrev pub beat_of : List ℕ → Beat
beat_of word = beat_with_some (kind_of (slice_index word 0)) (value_of (drop 1 word))

abbrev pub beats_of : List (List ℕ) → List Beat
beats_of words = map beat_of words

-- ---- what a line adds

abbrev pub with_command : Before → Command → Before
with_command before one = record before { place = Commands; commands = before.commands ++ one ∷ [] }

abbrev pub with_load : Before → ℕ → Bool → List (List ℕ) → Before
with_load before line force names =
    record before { place = InLoad; load = record { line = line; force = force; names = names; beats = [] } }

abbrev pub with_beats : Before → List Beat → Before
with_beats before beats =
    record before { place = InLoad; load = record before.load { beats = before.load.beats ++ beats } }

-- the end of a load makes it a command
abbrev pub with_end : Before → Before
with_end before =
    record before {
      place = Commands;
      commands = before.commands ++ command.Load before.load.force before.load.names before.load.beats ∷ [];
      load = no_load;
    }

-- what stands after a line of this number, whose words have this form
abbrev pub after : Before → ℕ → Form → List (List ℕ) → Before
after before line form.Title words = record before { place = Top }
after before line form.Pool words = record before { place = AfterPool; pool = second words }
after before line form.Patience words = record before { place = Commands; patience = second words }
after before line form.Boot words = with_command before (command.Boot (drop 1 words))
after before line form.Online words = with_command before (command.Online (second words))
after before line form.Offline words = with_command before (command.Offline (second words))
after before line form.Suspend words = with_command before command.Suspend
after before line form.Resume words = with_command before command.Resume
after before line form.Refuse words = with_command before (command.Refuse (second words))
after before line form.Accept words = with_command before (command.Accept (second words))
after before line form.Load words = with_load before line false (drop 1 words)
after before line form.LoadForce words = with_load before line true (drop 1 words)
after before line form.End words = with_end before
after before line form.Beats words = with_beats before (beats_of words)

-- the script, where nothing is left open
abbrev pub script_of : Before → Stated
script_of before = record { pool = before.pool; patience = before.patience; commands = before.commands }
