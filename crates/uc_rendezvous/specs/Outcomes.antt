-- An outcome, seen as lists.
use Rattle.std.specs.Prelude.{Result, Ok, Err}
use Rattle.rendezvous_model.specs.Outcome.{Outcome}
use Rattle.uc_rendezvous.specs.declared.outcomes.Outcome.{Outcome as Tables}

abbrev pub outcome_of : Tables → Outcome
outcome_of o = record { decide = o.decide; ends = o.ends.items; revs = o.revs.items }

-- what a call came to that fills an outcome: the outcome as it left it, or why it came to none
abbrev pub came_to : {E : Type 0} → Tables → Result (Unit {0}) E → Result Tables E
came_to outcome (Ok _) = Ok outcome
came_to outcome (Err error) = Err error
