-- What words ask for, as a command.
use Rattle.std.specs.Prelude.{◌≡◌, ℕ, ◌≤◌, length, Result, Ok, Err}
use Rattle.tool_text.specs.Words.{Asked, Faulty, ListOf, ShowOf, SelectOf, PlayOf, GenOf}
use Rattle.tool_text.specs.declared.TheConstants.{MOST_FILES}
use Rattle.uc_cli.specs.declared.words.Command.{Command}
use Rattle.uc_cli.specs.declared.words.Command.TheVariants as commands

abbrev pub asked_of : Command → Asked
asked_of (commands.List names) = ListOf names.now
asked_of (commands.Show name number) = ShowOf name.now number
asked_of (commands.Select topology names) = SelectOf topology.now names.now
asked_of (commands.Play topology script) = PlayOf topology.now script.now
asked_of (commands.Gen number) = GenOf number

-- the command that is asked for, or the index of the word that is wrong
abbrev pub Asks : Asked → Result Command ℕ → Type 0
Asks line (Ok command) = line ≡ asked_of command
Asks line (Err index) = line ≡ Faulty index

-- a command names at most 16 update files
abbrev pub HasFewNames : Command → Type 0
HasFewNames (commands.List names) = length names.now ≤ MOST_FILES
HasFewNames (commands.Show name number) = Unit {0}
HasFewNames (commands.Select topology names) = length names.now ≤ MOST_FILES
HasFewNames (commands.Play topology script) = Unit {0}
HasFewNames (commands.Gen number) = Unit {0}
