-- What holds of the revisions and ends that a run of a plan comes to.
use Rattle.std.proofs.Common.{◌≡◌, ◌⊎◌, ℕ, zero, suc, ◌+◌, ◌-◌, ◌<◌, ◌≤◌, Bool, true, false, List, [], ◌∷◌, length, get_or, Option, Some, None, slice_get, refl, sym, ap, ◌∙◌, subst, inl, inr, arith}
use Rattle.std.specs.List.{slice_index}
use Rattle.std.proofs.lemmas.Bool.{false≢true, cases_lt}
use Rattle.std.proofs.lemmas.List.{get_or_past}
use Rattle.std.proofs.lemmas.List.FromFn.{get_or-map-range_with_len, length-map-range_with_len}
use Rattle.rendezvous_steps.specs.declared.steps.Kind.{Kind}
use Rattle.rendezvous_steps.specs.declared.steps.Kind.TheVariants.{Online, Offline, Absent as KindAbsent}
use Rattle.rendezvous_steps.specs.declared.steps.ThreadResult.TheVariants as results
use Rattle.rendezvous_steps.specs.declared.items.Item.{Item}
use Rattle.rendezvous_steps.specs.declared.ends.Beat.{Beat}
use Rattle.rendezvous_steps.specs.declared.ends.End.{End}
use Rattle.rendezvous_steps.specs.declared.ends.End.TheVariants as ends
use Rattle.rendezvous_steps.specs.Plan.{Plan, Sound, is_primary}
use Rattle.rendezvous_steps.specs.Words.{families}
use Rattle.rendezvous_steps.specs.Padded.{Padded}
use Rattle.rendezvous_model.specs.Round.{Place, Left, Stage, Gathering, Going, DroppedByKick, DroppedBy, State, is_going}
use Rattle.rendezvous_model.specs.Safe.{Safe}
use Rattle.rendezvous_model.specs.Outcome.{Outcome, end_of, decide_of}
use Rattle.rendezvous_model.specs.Verdict.{end_at}
use Rattle.rendezvous_rule.specs.Shown.{shown_by}
use Rattle.rendezvous_rule.specs.Ran.{Ran, Listed, Unlisted, AfterGo, AfterDrop, events_of, ended_offline, revision_after_go, primary_result, sibling_result}
use Rattle.rule_laws.specs.Kept.{Ruled}
use Rattle.rule_laws.proofs.Assemble.{shown_is_seen}
use Rattle.rule_laws.proofs.Safety.{ruled_is_safe}
use Rattle.play_laws.specs.Lawful.{Lawful, EventLaw, OpeningIsLawful}
use Rattle.command_laws.specs.Left.{has_succeeded}

-- what a run comes to, by groups and threads of its plan
pub record RanLeaves (plan : Plan) (outcome : Outcome) : Type 0 where
  pub an_end_each : length outcome.ends ≡ plan.threads
  pub decided : outcome.decide < 3 + plan.threads
  pub a_revision_each : length outcome.revs ≡ plan.groups
  pub dropped : 2 ≤ outcome.decide → (g : ℕ) → g < plan.groups → slice_index outcome.revs g ≡ plan.rev0 g
  pub succeeded : (t : ℕ) → t < plan.threads → has_succeeded (end_at outcome t) ≡ true →
      plan.offer (plan.group t) ≡ Some (slice_index outcome.revs (plan.group t))
  pub within : (t : ℕ) → has_succeeded (end_at outcome t) ≡ true → t < plan.threads

-- no success is an end of another kind
fails : {A : Type 0} (end other : End) → end ≡ other → has_succeeded other ≡ false → has_succeeded end ≡ true → A
fails end other same none success = absurd (false≢true (sym none ∙ (sym (ap has_succeeded same) ∙ success)))

past_no_end : (ends_of : List End) (t : ℕ) → has_succeeded (get_or ends_of t ends.Absent) ≡ true → t < length ends_of
past_no_end ends_of t success = elim (cases_lt t (length ends_of)) [
  | inl below ↦ below
  | inr past ↦ fails (get_or ends_of t ends.Absent) ends.Absent (get_or_past ends_of t ends.Absent past) refl success
]

-- ---- decisions

-- an Online thread is one of the plan's
online_within : (plan : Plan) (t : ℕ) → Padded plan → plan.kind t ≡ Online → t < plan.threads
online_within plan t padded online = elim (cases_lt t plan.threads) [
  | inl below ↦ below
  | inr past ↦ let wrong : KindAbsent ≡ Online = sym (padded.no_thread t past) ∙ online in absurd cc
]

-- what is decided names a thread of the plan, if any
stage_within : (threads : ℕ) (stage : Stage) → ((t : ℕ) → stage ≡ DroppedBy t → t < threads) →
    decide_of stage < 3 + threads
stage_within threads Gathering within = omega arith
stage_within threads Going within = omega arith
stage_within threads DroppedByKick within = omega arith
stage_within threads (DroppedBy t) within = let below : t < threads = within t refl in omega (arith, below)

-- ---- runs that list nothing

not_both : {A : Type 0} (end : End) → ended_offline end ≡ true → has_succeeded end ≡ true → A
not_both ends.Halted offline success = absurd (false≢true success)
not_both ends.Withdrawn offline success = absurd (false≢true success)
not_both (ends.Left results.Offline) offline success = absurd (false≢true success)
not_both end offline success = absurd (false≢true offline)

primary_success : (offer : Option ℕ) (refuses : Bool) (first : ℕ) →
    has_succeeded (ends.Left (primary_result offer refuses)) ≡ true →
    offer ≡ Some (revision_after_go offer refuses first)
primary_success None refuses first success = absurd (false≢true success)
primary_success (Some offer) true first success = absurd (false≢true success)
primary_success (Some offer) false first success = refl

sibling_success : (offer : Option ℕ) (refuses : Bool) (first : ℕ) →
    has_succeeded (ends.Left (sibling_result offer refuses)) ≡ true →
    offer ≡ Some (revision_after_go offer refuses first)
sibling_success None refuses first success = absurd (false≢true success)
sibling_success (Some offer) true first success = absurd (false≢true success)
sibling_success (Some offer) false first success = refl

module _ (plan : Plan) (text : List ℕ) (outcome : Outcome) (late : Bool) (sound : Sound plan)
    (ran : Unlisted plan text outcome late) (t : ℕ) (within : t < plan.threads)
    (success : has_succeeded (end_at outcome t) ≡ true) where
  abbrev g : ℕ
  g = plan.group t

  abbrev Holds : Type 0
  Holds = plan.offer g ≡ Some (slice_index outcome.revs g)

  after_a_drop : AfterDrop plan outcome → (kind : Kind) → plan.kind t ≡ kind → Holds
  after_a_drop drop Online is = fails (end_at outcome t) (ends.Left results.Timeout)
      (drop.onlines t within is) refl success
  after_a_drop drop Offline is = not_both (end_at outcome t) (drop.offlines t within is) success
  after_a_drop drop KindAbsent is = fails (end_at outcome t) ends.Absent ((ran.absents t within).1 is) refl success

  -- its group's revision is what a go makes of it
  as_written : AfterGo plan outcome → plan.offer g ≡ Some (revision_after_go (plan.offer g) (plan.refuse g)
      (plan.rev0 g)) → Holds
  as_written go is = is ∙ ap Some (sym (go.revisions g (sound.groups_in_range t within)))

  moved : (end other : End) → end ≡ other → has_succeeded end ≡ true → has_succeeded other ≡ true
  moved end other same is = sym (ap has_succeeded same) ∙ is

  online_after_a_go : AfterGo plan outcome → plan.kind t ≡ Online → (primary : Bool) → is_primary plan t ≡ primary →
      Holds
  online_after_a_go go is true leads =
      as_written go (primary_success (plan.offer g) (plan.refuse g) (plan.rev0 g)
      (moved (end_at outcome t) (ends.Left (primary_result (plan.offer g) (plan.refuse g)))
      (go.primaries t within is leads) success))
  online_after_a_go go is false follows = elim (go.siblings t within is follows) [
    | inl halted ↦ fails (end_at outcome t) ends.Halted halted refl success
    | inr left ↦ as_written go (sibling_success (plan.offer g) (plan.refuse g) (plan.rev0 g)
        (moved (end_at outcome t) (ends.Left (sibling_result (plan.offer g) (plan.refuse g))) left success))
  ]

  after_a_go : AfterGo plan outcome → (kind : Kind) → plan.kind t ≡ kind → Holds
  after_a_go go Online is = online_after_a_go go is (is_primary plan t) refl
  after_a_go go Offline is = elim (go.offlines t within is) [
    | inl halted ↦ fails (end_at outcome t) ends.Halted halted refl success
    | inr left ↦ fails (end_at outcome t) (ends.Left results.Offline) left refl success
  ]
  after_a_go go KindAbsent is = fails (end_at outcome t) ends.Absent ((ran.absents t within).1 is) refl success

  unlisted_holds : Holds
  unlisted_holds = elim (cases_lt outcome.decide 2) [
    | inl less ↦ let some = ran.decided in after_a_go (ran.after_go (omega arith)) (plan.kind t) refl
    | inr more ↦ after_a_drop (ran.after_drop more) (plan.kind t) refl
  ]

unlisted_decided : (plan : Plan) (text : List ℕ) (outcome : Outcome) (late : Bool) → Padded plan →
    Unlisted plan text outcome late → outcome.decide < 3 + plan.threads
unlisted_decided plan text outcome late padded ran = elim (cases_lt outcome.decide 3) [
  | inl less ↦ omega (arith, less)
  | inr more ↦
      let within : outcome.decide - 3 < plan.threads =
      online_within plan (outcome.decide - 3) padded ((ran.after_drop (omega (arith, more))).by_online more) in
      omega (arith, more, within)
]

unlisted_leaves : (plan : Plan) (text : List ℕ) (outcome : Outcome) (late : Bool) → Sound plan → Padded plan →
    Unlisted plan text outcome late → RanLeaves plan outcome
unlisted_leaves plan text outcome late sound padded ran = record {
  an_end_each = ran.an_end_each;
  decided = unlisted_decided plan text outcome late padded ran;
  a_revision_each = ran.a_revision_each;
  dropped = λ two. (ran.after_drop two).revisions;
  succeeded = λ t within success. unlisted_holds plan text outcome late sound ran t within success;
  within = λ t success. subst (λ (n : ℕ). t < n) ran.an_end_each (past_no_end outcome.ends t success);
}

-- ---- runs that list their items

there : {X : Type 0} (xs : List X) (k : ℕ) → k < length xs → (x : X) × (slice_get xs k ≡ Some x)
there [] k below = absurd (omega (arith, below))
there (x ∷ xs) zero below = (x, refl)
there (x ∷ xs) (suc k) below = there xs k (omega (arith, below))

success_is : (place : Place) → has_succeeded (end_of place) ≡ true → (place ≡ Left results.Updated)
    ⊎ (place ≡ Left results.Okay)
success_is (Left results.Updated) success = inl refl
success_is (Left results.Okay) success = inr refl
success_is place success = absurd (false≢true success)

dropped_is_no_go : (stage : Stage) → 2 ≤ decide_of stage → is_going stage ≡ false
dropped_is_no_go Gathering two = refl
dropped_is_no_go Going two = absurd (omega (arith, two))
dropped_is_no_go DroppedByKick two = refl
dropped_is_no_go (DroppedBy t) two = refl

module _ (line : Item → List ℕ) (plan : Plan) (beats : List Beat) (text : List ℕ) (outcome : Outcome) (law : EventLaw)
    (opens : OpeningIsLawful) (sound : Sound plan) (padded : Padded plan)
    (ran : Listed line plan beats text outcome) where
  -- each moment of it is lawful
  lawful : (k : ℕ) → k ≤ length ran.items → Lawful plan (ran.moments k)
  lawful zero within = subst (Lawful plan) (sym ran.played.opens) (opens plan sound padded)
  lawful (suc k) within =
      let more = ran.answers.no_more in
      let event = there (events_of plan beats) k (omega (arith, within, more)) in
      let item = there ran.items k (omega (arith, within)) in
      let led = law plan event.0 (ran.moments k) sound padded (lawful k (omega (arith, within))) in
      let next : k + 1 ≡ suc k = omega arith in
      subst (λ (n : ℕ). Lawful plan (ran.moments n)) next
      (subst (Lawful plan) (ap (λ after. after.0) (ran.played.happens k event.0 item.0 event.1 item.1)) led.lawful)

  abbrev last : State
  last = shown_by plan (ran.moments (length ran.items))

  safe : Safe plan last
  safe = ruled_is_safe plan (ran.moments (length ran.items)) sound padded
      (lawful (length ran.items) (omega arith)).ruled

  end_is : (t : ℕ) → t < plan.threads → end_at outcome t ≡ end_of (last.place t)
  end_is t within =
      ap (λ (xs : List End). get_or xs t ends.Absent) ran.comes_out.ends
      ∙ get_or-map-range_with_len (λ u. end_of (last.place u)) 0 (plan.threads - 0) t t ends.Absent (omega arith)
      (omega arith)

  revision_is : (g : ℕ) → g < plan.groups → slice_index outcome.revs g ≡ last.revision g
  revision_is g below = ap (λ (xs : List ℕ). slice_index xs g) ran.comes_out.revs
      ∙ get_or-map-range_with_len last.revision 0 plan.groups g g 0 below (omega arith)

  offer_is : (t : ℕ) → t < plan.threads → plan.offer (plan.group t) ≡ Some (last.revision (plan.group t)) →
      plan.offer (plan.group t) ≡ Some (slice_index outcome.revs (plan.group t))
  offer_is t within is = is ∙ ap Some (sym (revision_is (plan.group t) (sound.groups_in_range t within)))

  -- a thread that dropped is one of the plan's
  dropper_within : (t : ℕ) → last.stage ≡ DroppedBy t → t < plan.threads
  dropper_within t is =
      let ruled : Ruled plan (ran.moments (length ran.items)) = (lawful (length ran.items) (omega arith)).ruled in
      let seen : last.stage ≡ ruled.stage =
      ap (λ (s : State). s.stage)
      (shown_is_seen plan (families (ran.moments (length ran.items)).words) (ran.moments (length ran.items)).locals ruled.first
      ruled.stage (ran.moments (length ran.items)).latched sound padded ruled.by) in
      online_within plan t padded (ruled.by.gathered.dropped_by_online t (sym seen ∙ is))

  ends_count : length outcome.ends ≡ plan.threads
  ends_count =
      ap length ran.comes_out.ends ∙ length-map-range_with_len (λ u. end_of (last.place u)) 0 (plan.threads - 0) ∙ omega arith

  listed_leaves : RanLeaves plan outcome
  listed_leaves = record {
    an_end_each = ends_count;
    decided = subst (λ (n : ℕ). n < 3 + plan.threads) (sym ran.comes_out.decide)
        (stage_within plan.threads last.stage dropper_within);
    a_revision_each = ap length ran.comes_out.revs ∙ length-map-range_with_len last.revision 0 plan.groups;
    dropped = λ two g below.
        revision_is g below ∙ (safe.nothing_without_go
        (dropped_is_no_go last.stage (subst (λ (n : ℕ). 2 ≤ n) ran.comes_out.decide two)) g).1;
    succeeded = λ t within success. elim (success_is (last.place t)
        (sym (ap has_succeeded (end_is t within)) ∙ success)) [
          | inl updated ↦ offer_is t within (safe.left_updated t updated)
          | inr okay ↦ offer_is t within (safe.left_okay t okay)
        ];
    within = λ t success.
        let below : t < length outcome.ends = past_no_end outcome.ends t success in
        subst (λ (n : ℕ). t < n) ends_count below;
  }

pub ran_leaves : EventLaw → OpeningIsLawful →
    (line : Item → List ℕ) (lists : Bool) (plan : Plan) (beats : List Beat) (text : List ℕ) (outcome : Outcome)
    (late : Bool) → Sound plan → Padded plan → Ran line lists plan beats text outcome late → RanLeaves plan outcome
ran_leaves law opens line true plan beats text outcome late sound padded ran =
    listed_leaves line plan beats text outcome law opens sound padded ran
ran_leaves law opens line false plan beats text outcome late sound padded ran =
    unlisted_leaves plan text outcome late sound padded ran
