-- What a run as a whole comes to: where it lists its items, those that the step table gives for the schedule, their
-- lines and the outcome that they lead to; where it does not, what holds of every outcome.
use Rattle.std.specs.Prelude.{◌≡◌, ◌≢◌, ◌⊎◌, ◌↔◌, ℕ, zero, suc, ◌+◌, ◌-◌, ◌<◌, ◌≤◌, Bool, true, false, List, [], ◌∷◌}
use Rattle.std.specs.Prelude.{◌++◌, length, map, Option, Some, None, slice_get, slice_index, flat_map}
use Rattle.rendezvous_steps.specs.declared.steps.Kind.TheVariants.{Online, Offline, Absent}
use Rattle.rendezvous_steps.specs.declared.steps.ThreadResult.{ThreadResult}
use Rattle.rendezvous_steps.specs.declared.steps.ThreadResult.TheVariants as results
use Rattle.rendezvous_steps.specs.declared.items.Event.{Event}
use Rattle.rendezvous_steps.specs.declared.items.Event.TheVariants as event
use Rattle.rendezvous_steps.specs.declared.items.Item.{Item}
use Rattle.rendezvous_steps.specs.declared.ends.Beat.{Beat}
use Rattle.rendezvous_steps.specs.declared.ends.Beat.TheVariants as beat
use Rattle.rendezvous_steps.specs.declared.ends.End.{End}
use Rattle.rendezvous_steps.specs.declared.ends.End.TheVariants as ends
use Rattle.rendezvous_steps.specs.Plan.{Plan, is_primary, threads_from, online_count, offline_count}
use Rattle.rendezvous_steps.specs.Events.{Running, opening_running, happens}
use Rattle.rendezvous_model.specs.RoundEnds.{okay_for}
pub use Rattle.rendezvous_rule.specs.Knows.{primary_result}
use Rattle.rendezvous_rule.specs.Shown.{shown_by}
use Rattle.rendezvous_model.specs.Run.{Run, FewInner}
use Rattle.rendezvous_model.specs.Outcome.{Outcome, OutcomeShows}
use Rattle.rendezvous_model.specs.Verdict.{end_at}

-- The events of a schedule.

abbrev pub repeated : ℕ → List Event → List Event → List Event
repeated zero round rest = rest
repeated (suc n) round rest = round ++ repeated n round rest

abbrev pub events_of : Plan → List Beat → List Event
events_of plan [] = []
events_of plan (beat.Step t ∷ beats) = event.Step t ∷ events_of plan beats
events_of plan (beat.Timeout t ∷ beats) = event.Timeout t ∷ events_of plan beats
events_of plan (beat.Nmi t ∷ beats) = event.Nmi t ∷ events_of plan beats
events_of plan (beat.Run t ∷ beats) = event.Run t ∷ events_of plan beats
events_of plan (beat.Rounds n ∷ beats) =
    repeated n (map (λ t. event.Step t) (threads_from plan 0)) (events_of plan beats)

-- A run that lists its items, each by a line.

-- the items are those that the step table gives for the events, from the opening on
pub record Played (plan : Plan) (events : List Event) (items : List Item) (moments : ℕ → Running) : Type 0 where
  pub opens : moments 0 ≡ opening_running plan
  pub happens :
      (k : ℕ) (e : Event) (item : Item) →
      slice_get events k ≡ Some e → slice_get items k ≡ Some item →
      happens plan e (moments k) ≡ (moments (k + 1), item.what)

pub record Listed
    (line : Item → List ℕ) (plan : Plan) (beats : List Beat) (text : List ℕ) (outcome : Outcome) : Type 0 where
  pub items : List Item
  pub moments : ℕ → Running
  pub played : Played plan (events_of plan beats) items moments
  pub answers : Run plan (events_of plan beats) items (λ k. shown_by plan (moments k))
  pub few_inner : FewInner plan items
  pub lines : text ≡ flat_map line items
  pub comes_out : OutcomeShows plan outcome (shown_by plan (moments (length items)))

-- A run that lists nothing.

-- the revision of a group after a go
abbrev pub revision_after_go : Option ℕ → Bool → ℕ → ℕ
revision_after_go (Some offer) false first = offer
revision_after_go (Some offer) true first = first
revision_after_go None refuses first = first

-- what another Online thread than its primary, which leaves with what it reported, leaves with if it did not halt
abbrev pub sibling_result : Option ℕ → Bool → ThreadResult
sibling_result offer refuses = okay_for (primary_result offer refuses)

-- each group runs its offer where it does not refuse, and each thread leaves with what that makes of it, or halts
pub record AfterGo (plan : Plan) (outcome : Outcome) : Type 0 where
  pub revisions :
      (g : ℕ) → g < plan.groups →
      slice_index outcome.revs g ≡ revision_after_go (plan.offer g) (plan.refuse g) (plan.rev0 g)
  pub primaries :
      (t : ℕ) → t < plan.threads → plan.kind t ≡ Online → is_primary plan t ≡ true →
      end_at outcome t ≡ ends.Left (primary_result (plan.offer (plan.group t)) (plan.refuse (plan.group t)))
  pub siblings :
      (t : ℕ) → t < plan.threads → plan.kind t ≡ Online → is_primary plan t ≡ false →
      (end_at outcome t ≡ ends.Halted)
      ⊎ (end_at outcome t ≡ ends.Left (sibling_result (plan.offer (plan.group t)) (plan.refuse (plan.group t))))
  pub offlines :
      (t : ℕ) → t < plan.threads → plan.kind t ≡ Offline →
      (end_at outcome t ≡ ends.Halted) ⊎ (end_at outcome t ≡ ends.Left results.Offline)

abbrev pub ended_offline : End → Bool
ended_offline ends.Halted = true
ended_offline ends.Withdrawn = true
ended_offline (ends.Left results.Offline) = true
ended_offline end = false

-- nothing was written, and each Online thread left for the timeout
pub record AfterDrop (plan : Plan) (outcome : Outcome) : Type 0 where
  pub revisions : (g : ℕ) → g < plan.groups → slice_index outcome.revs g ≡ plan.rev0 g
  pub onlines : (t : ℕ) → t < plan.threads → plan.kind t ≡ Online → end_at outcome t ≡ ends.Left results.Timeout
  pub offlines : (t : ℕ) → t < plan.threads → plan.kind t ≡ Offline → ended_offline (end_at outcome t) ≡ true
  -- thread 0 drops by its own exchange only after every Offline thread has come, and only where it is not alone
  pub by_kick : outcome.decide ≡ 2 → 0 < offline_count plan
  pub by_online : 3 ≤ outcome.decide → plan.kind (outcome.decide - 3) ≡ Online
  pub by_zero : outcome.decide ≡ 3 → 1 < online_count plan
  pub by_zero_after_all :
      outcome.decide ≡ 3 → (t : ℕ) → t < plan.threads → end_at outcome t ≢ ends.Withdrawn

pub record Unlisted (plan : Plan) (text : List ℕ) (outcome : Outcome) (late : Bool) : Type 0 where
  pub no_text : text ≡ []
  pub an_end_each : length outcome.ends ≡ plan.threads
  pub a_revision_each : length outcome.revs ≡ plan.groups
  pub absents : (t : ℕ) → t < plan.threads → (end_at outcome t ≡ ends.Absent) ↔ (plan.kind t ≡ Absent)
  pub none_unfinished : (t : ℕ) → t < plan.threads → end_at outcome t ≢ ends.Unfinished
  pub decided : 0 < outcome.decide
  pub after_go : outcome.decide ≡ 1 → AfterGo plan outcome
  pub after_drop : 2 ≤ outcome.decide → AfterDrop plan outcome
  pub in_time : late ≡ false → outcome.decide ≡ 1
  pub in_time_none_halted : late ≡ false → (t : ℕ) → t < plan.threads → end_at outcome t ≢ ends.Halted

-- The bytes of an item's line are given by whoever prints it.
abbrev pub Ran : (Item → List ℕ) → Bool → Plan → List Beat → List ℕ → Outcome → Bool → Type 0
Ran line true plan beats text outcome late = Listed line plan beats text outcome
Ran line false plan beats text outcome late = Unlisted plan text outcome late
