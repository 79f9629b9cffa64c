-- Why the laws on events and on getting on have their premises and their bound: without them each is false.
use Rattle.std.specs.Prelude.{◌≡◌, ◌≤◌, true, false, List}
use Rattle.rendezvous_steps.specs.declared.items.Event.{Event}
use Rattle.rendezvous_steps.specs.declared.ends.Beat.{Beat}
use Rattle.rendezvous_steps.specs.Plan.{Plan, Sound}
use Rattle.rendezvous_steps.specs.Padded.{Padded}
use Rattle.rendezvous_steps.specs.Events.{Running, happens, opening_running}
use Rattle.rendezvous_model.specs.RoundStep.{Round}
use Rattle.rendezvous_model.specs.Safe.{Safe}
use Rattle.rendezvous_rule.specs.Shown.{shown_by}
use Rattle.rendezvous_rule.specs.Ran.{events_of}
use Rattle.play_steps.specs.Play.{is_over, last_moment}
use Rattle.rule_laws.specs.Kept.{Ruled}
use Rattle.play_laws.specs.Stuck.{SomeReady, rounds_in}

-- words that break the rule may show a group that is written while one of its threads is outside
abbrev pub RuleIsNeededForSafety : Type 0
RuleIsNeededForSafety =
    ¬ ((plan : Plan) (moment : Running) → Sound plan → Padded plan → Safe plan (shown_by plan moment))

-- from words that break the rule all that are unfinished may wait for one that has left
abbrev pub RuleIsNeededToGetOn : Type 0
RuleIsNeededToGetOn =
    ¬ ((plan : Plan) (moment : Running) →
    Sound plan → Padded plan → is_over plan moment ≡ false → SomeReady plan moment)

-- an NMI that is latched for an Offline thread outside outlives the ordinary code that another brings, so with the rule
-- alone an event need not be a step of the model
abbrev pub CalmIsNeeded : Type 0
CalmIsNeeded =
    ¬ ((plan : Plan) (event : Event) (moment : Running) →
    Sound plan → Padded plan → Ruled plan moment →
    Round plan (shown_by plan moment) event (happens plan event moment).1 (shown_by plan (happens plan event moment).0))

-- a thread that writes comes to more than eight items
abbrev pub EightRoundsAreFew : Type 0
EightRoundsAreFew =
    ¬ ((plan : Plan) (beats : List Beat) → Sound plan → Padded plan → 8 ≤ rounds_in beats →
    is_over plan (last_moment plan (opening_running plan) (events_of plan beats)) ≡ true)
