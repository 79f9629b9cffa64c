-- What a command is called where it is run: its word, the thread or core that it is for, and the names of its files.
use Rattle.std.specs.Prelude.{ℕ, Bool, true, false, List, [], Option, Some, None, codes}
use Rattle.script_text.specs.declared.command.Command.{Command}
use Rattle.script_text.specs.declared.command.Command.TheVariants as command
use Rattle.session_text.specs.Lines.{command_line}

abbrev pub load_word : Bool → List ℕ
load_word true = codes "load-force"
load_word false = codes "load"

abbrev pub word_of : Command → List ℕ
word_of (command.Boot names) = codes "boot"
word_of (command.Online t) = codes "online"
word_of (command.Offline t) = codes "offline"
word_of command.Suspend = codes "suspend"
word_of command.Resume = codes "resume"
word_of (command.Refuse core) = codes "refuse"
word_of (command.Accept core) = codes "accept"
word_of (command.Load force names beats) = load_word force

-- the thread or core that a command is for
abbrev pub number_in : Command → Option ℕ
number_in (command.Online t) = Some t
number_in (command.Offline t) = Some t
number_in (command.Refuse core) = Some core
number_in (command.Accept core) = Some core
number_in other = None

abbrev pub names_in : Command → List (List ℕ)
names_in (command.Boot names) = names
names_in (command.Load force names beats) = names
names_in other = []

-- the first line of a command's text
abbrev pub heading : ℕ → Command → List ℕ
heading k one = command_line k (word_of one) (number_in one)
