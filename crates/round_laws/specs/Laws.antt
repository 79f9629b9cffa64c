-- Laws of the definitions.
use Rattle.std.specs.Prelude.{◌≡◌}
use Rattle.rendezvous_steps.specs.Plan.{Plan}
use Rattle.rendezvous_model.specs.Outcome.{Outcome}
use Rattle.rendezvous_model.specs.Verdict.{Verdict, LoadVerdict, load_verdict}

-- every outcome has its verdict, and no other
abbrev pub VerdictHolds : Type 0
VerdictHolds = (plan : Plan) (outcome : Outcome) → LoadVerdict plan outcome (load_verdict plan outcome)

abbrev pub VerdictIsOne : Type 0
VerdictIsOne =
    (plan : Plan) (outcome : Outcome) (verdict : Verdict) →
    LoadVerdict plan outcome verdict → verdict ≡ load_verdict plan outcome
