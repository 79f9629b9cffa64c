-- Why the laws on counts and on revisions have their premises and their bounds: without them each is false.
use Rattle.std.specs.Prelude.{ℕ, ◌+◌, ◌*◌, ◌≤◌, List, length}
use Rattle.rendezvous_steps.specs.declared.items.Event.{Event}
use Rattle.rendezvous_steps.specs.declared.items.Item.{Item}
use Rattle.rendezvous_steps.specs.Plan.{Plan}
use Rattle.rendezvous_steps.specs.Padded.{Padded}
use Rattle.rendezvous_steps.specs.Events.{opening_running}
use Rattle.rendezvous_model.specs.Round.{State}
use Rattle.rendezvous_model.specs.Run.{Run, NeverFalls}
use Rattle.play_steps.specs.Play.{play}
use Rattle.run_laws.specs.Counted.{count_of}

-- where threads past the plan's last take part, more items count than the bound says
abbrev pub PaddedIsNeeded : Type 0
PaddedIsNeeded =
    ¬ ((plan : Plan) (events : List Event) →
    count_of (play plan (opening_running plan) events) ≤ 20 * plan.threads + 8)

-- two primaries with an offer each come to more than 12
abbrev pub TwoAThreadAreFew : Type 0
TwoAThreadAreFew =
    ¬ ((plan : Plan) (events : List Event) → Padded plan →
    count_of (play plan (opening_running plan) events) ≤ 2 * plan.threads + 8)

-- an offer that is below what runs lets the revision fall
abbrev pub SoundIsNeeded : Type 0
SoundIsNeeded =
    ¬ ((plan : Plan) (events : List Event) (items : List Item) (states : ℕ → State) → Padded plan →
    Run plan events items states → NeverFalls (length items) states)
