-- What a script states.
use Rattle.std.specs.Prelude.{ℕ, List}
use Rattle.script_text.specs.declared.command.Command.{Command}

-- the blocks of the region for patches, the polls that a thread waits, and the commands
pub record Stated : Type 0 where
  pub pool : ℕ
  pub patience : ℕ
  pub commands : List Command
