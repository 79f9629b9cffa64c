-- The law on one step of the table.
use Rattle.std.specs.Prelude.{◌≡◌, ℕ, true, false, IsTrue, Some, []}
use mathlib.Core.Option.{some}
use lib.ListN.{get_elem?}
use Rattle.atomic_table.specs.Table.{keeps, stepped}
use Rattle.rendezvous_steps.specs.declared.steps.How.{How}
use Rattle.rendezvous_steps.specs.declared.operations.Op.{Op}
use Rattle.rendezvous_steps.specs.Words.{families, touched, written}
use Rattle.rendezvous_steps.specs.StepTable.{operation, after}
use Rattle.rendezvous_model.specs.Round.{State as Model}
use Rattle.rendezvous_model.specs.RoundStep.{Round}
use Rattle.rendezvous_rule.specs.Shown.{shown}
use Rattle.rule_laws.specs.Kept.{event_of, is_step}
use Rattle.ctl_words.specs.declared.plans.Plan.{Plan as Tables}
use Rattle.ctl_words.specs.Plans.{plan_of, IsSound}
use Rattle.ctl_words.specs.Places.{is_word, place_of}
use Rattle.ctl_table.specs.declared.standings.Standing.{Standing}
use Rattle.ctl_table.specs.declared.standings.View.TheVariants.{Sits}
use Rattle.ctl_table.specs.Words.{words_of}
use Rattle.ctl_table.specs.Standings.{moved}
use Rattle.ctl_table.specs.Holds.{Desk, Holds}

-- the state of the model that the table shows. No NMI is latched in it
abbrev pub shown_on : (plan : Tables) (s : Desk) → Holds plan s → Model
shown_on plan s held = shown (plan_of plan) (families (words_of (plan_of plan) s.words)) held.locals (λ _. false)

-- the table once this post has done this operation, which found this
abbrev pub turned_desk : Tables → Desk → ℕ → Standing → How → Op → ℕ → Desk
turned_desk plan s id v h op found =
    stepped s (place_of (plan_of plan) (touched op)) (written op found) id [] (Sits (moved h v found)) keeps

abbrev pub TurnLaw : Type 0
TurnLaw =
    (plan : Tables) (s : Desk) (id : ℕ) (v : Standing) (h : How) (op : Op) (found : ℕ) →
    IsSound plan →
    (held : Holds plan s) →
    get_elem? s.views id ≡ some (Sits v) →
    is_step h ≡ true →
    operation (plan_of plan) v.thread v.local h ≡ Some op →
    IsTrue (is_word (plan_of plan) (touched op)) →
    words_of (plan_of plan) s.words (touched op) ≡ found →
    (let next = turned_desk plan s id v h op found in
    let item = (after (plan_of plan) v.thread v.local h found).1 in
    (held' : Holds plan next)
    × Round (plan_of plan) (shown_on plan s held) (event_of h v.thread) item (shown_on plan next held'))
