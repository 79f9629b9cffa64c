-- Which statuses a command line can end with.
use Rattle.status_rule.specs.declared.status.Status.{Status}
use Rattle.status_rule.specs.declared.status.Status.TheVariants.{Short, Panicked}
use Rattle.tool_text.specs.Words.{Asked, PlayOf, GenOf}

-- no session was short, and in none a thread panicked
abbrev pub NoSession : Status → Type 0
NoSession Short = ⊥
NoSession (Panicked t) = ⊥
NoSession status = Unit {0}

-- only a session ends so
abbrev pub MayEnd : Asked → Status → Type 0
MayEnd (PlayOf topology script) status = Unit {0}
MayEnd (GenOf number) status = Unit {0}
MayEnd line status = NoSession status
