-- What a step of one thread leaves true for all others: the sets and places that they know of only grow.
use Rattle.std.proofs.Common.{◌≡◌, ◌≢◌, ℕ, Bool, true, false, refl, ap, sym, ◌∙◌, true≢false}
use Rattle.rendezvous_steps.specs.declared.steps.Kind.{Kind}
use Rattle.rendezvous_steps.specs.declared.steps.Kind.TheVariants.{Online, Offline, Absent}
use Rattle.rendezvous_steps.specs.declared.steps.Phase.{Phase}
use Rattle.rendezvous_steps.specs.declared.steps.Phase.TheVariants as phase
use Rattle.rendezvous_steps.specs.declared.steps.Local.{Local}
use Rattle.rendezvous_steps.specs.Plan.{Plan}
use Rattle.rendezvous_steps.specs.Events.{put}
use Rattle.rendezvous_model.specs.Round.{Place, Withdrawn, Stage, Gathering, Going, DroppedByKick, DroppedBy, GroupPlace, State, is_dropped}
use Rattle.rendezvous_rule.specs.Knows.{Knows, OnlineKnows, OfflineKnows, Ends, has_come}
use Rattle.rule_laws.proofs.Frame.{put_all, grows}

-- After a step of thread t what was known is known still. Of those that decide, none goes but t.
pub record Later (t : ℕ) (s s' : State) : Type 0 where
  pub kicked : (u : ℕ) → s.kicked u ≡ true → s'.kicked u ≡ true
  pub arrived : (u : ℕ) → s.arrived u ≡ true → s'.arrived u ≡ true
  pub freed : (u : ℕ) → s.freed u ≡ true → s'.freed u ≡ true
  pub come : (u : ℕ) → has_come (s.place u) ≡ true → has_come (s'.place u) ≡ true
  pub withdrawn : (u : ℕ) → s.place u ≡ Withdrawn → s'.place u ≡ Withdrawn
  pub going : s.stage ≡ Going → s'.stage ≡ Going
  pub dropped : is_dropped s.stage ≡ true → is_dropped s'.stage ≡ true
  pub goes_alone : s.stage ≡ Gathering → s'.stage ≡ Going → (u : ℕ) → s.is_decider u ≡ true → u ≡ t

pub not_both : (stage : Stage) → stage ≡ Gathering → stage ≡ Going → ⊥
not_both stage e f = let same : Gathering ≡ Going = sym e ∙ f in cc

-- Steps that change one part of the state.

pub later_same : (t : ℕ) (s : State) → Later t s s
later_same t s =
    record {
      kicked = λ u e. e;
      arrived = λ u e. e;
      freed = λ u e. e;
      come = λ u e. e;
      withdrawn = λ u e. e;
      going = λ e. e;
      dropped = λ e. e;
      goes_alone = λ e f. absurd (not_both s.stage e f);
    }

pub later_kicked : (t : ℕ) (s : State) (k : ℕ) → Later t s (record s { kicked = put s.kicked k true })
later_kicked t s k =
    record {
      kicked = grows s.kicked k;
      arrived = λ u e. e;
      freed = λ u e. e;
      come = λ u e. e;
      withdrawn = λ u e. e;
      going = λ e. e;
      dropped = λ e. e;
      goes_alone = λ e f. absurd (not_both s.stage e f);
    }

pub later_arrived :
    (t : ℕ) (s : State) (k : ℕ) (decider : ℕ → Bool) →
    Later t s (record s { arrived = put s.arrived k true; is_decider = decider })
later_arrived t s k decider =
    record {
      kicked = λ u e. e;
      arrived = grows s.arrived k;
      freed = λ u e. e;
      come = λ u e. e;
      withdrawn = λ u e. e;
      going = λ e. e;
      dropped = λ e. e;
      goes_alone = λ e f. absurd (not_both s.stage e f);
    }

pub later_freed : (t : ℕ) (s : State) (k : ℕ) → Later t s (record s { freed = put s.freed k true })
later_freed t s k =
    record {
      kicked = λ u e. e;
      arrived = λ u e. e;
      freed = grows s.freed k;
      come = λ u e. e;
      withdrawn = λ u e. e;
      going = λ e. e;
      dropped = λ e. e;
      goes_alone = λ e f. absurd (not_both s.stage e f);
    }

pub later_place :
    (t : ℕ) (s : State) (k : ℕ) (x : Place) →
    (has_come (s.place k) ≡ true → has_come x ≡ true) →
    (s.place k ≡ Withdrawn → x ≡ Withdrawn) → Later t s (record s { place = put s.place k x })
later_place t s k x come withdrawn =
    record {
      kicked = λ u e. e;
      arrived = λ u e. e;
      freed = λ u e. e;
      come =
          put_all (λ u y. has_come (s.place u) ≡ true → has_come y ≡ true) s.place k x come (λ u other e. e);
      withdrawn = put_all (λ u y. s.place u ≡ Withdrawn → y ≡ Withdrawn) s.place k x withdrawn (λ u other e. e);
      going = λ e. e;
      dropped = λ e. e;
      goes_alone = λ e f. absurd (not_both s.stage e f);
    }

pub later_group :
    (t : ℕ) (s : State) (group : ℕ → GroupPlace) (revision : ℕ → ℕ) →
    Later t s (record s { group = group; revision = revision })
later_group t s group revision =
    record {
      kicked = λ u e. e;
      arrived = λ u e. e;
      freed = λ u e. e;
      come = λ u e. e;
      withdrawn = λ u e. e;
      going = λ e. e;
      dropped = λ e. e;
      goes_alone = λ e f. absurd (not_both s.stage e f);
    }

-- the decision: the decider goes, or a thread drops
pub later_stage :
    (t : ℕ) (s : State) (stage : Stage) (decider : ℕ → Bool) →
    s.stage ≡ Gathering →
    (stage ≡ Going → (u : ℕ) → s.is_decider u ≡ true → u ≡ t) →
    Later t s (record s { stage = stage; is_decider = decider })
later_stage t s stage decider gathering alone =
    record {
      kicked = λ u e. e;
      arrived = λ u e. e;
      freed = λ u e. e;
      come = λ u e. e;
      withdrawn = λ u e. e;
      going = λ e. absurd (not_both s.stage gathering e);
      dropped = λ e. absurd (true≢false (sym e ∙ ap is_dropped gathering));
      goes_alone = λ e f. alone f;
    }

-- The others' rows of what they know.

goes_not :
    (stage : Stage) (t u : ℕ) (s s' : State) →
    Later t s s' →
    u ≢ t →
    s.stage ≡ stage → (s.stage ≡ Gathering → s.is_decider u ≡ true) → s.stage ≢ Going → s'.stage ≢ Going
goes_not Gathering t u s s' later other e decides not_yet f = other (later.goes_alone e f u (decides e))
goes_not Going t u s s' later other e decides not_yet f = not_yet e
goes_not DroppedByKick t u s s' later other e decides not_yet f =
    true≢false (sym (later.dropped (ap is_dropped e)) ∙ ap is_dropped f)
goes_not (DroppedBy d) t u s s' later other e decides not_yet f =
    true≢false (sym (later.dropped (ap is_dropped e)) ∙ ap is_dropped f)

ends_still :
    (dropped : Bool) (plan : Plan) (t u mine : ℕ) (s s' : State) →
    Later t s s' → Ends dropped plan u mine s → Ends dropped plan u mine s'
ends_still true plan t u mine s s' later knows = later.dropped knows
ends_still false plan t u mine s s' later knows =
    (later.going knows.0, knows.1, λ e. later.freed u (knows.2 e))

online_still :
    (plan : Plan) (p : Phase) (t u at mine : ℕ) (s s' : State) →
    Later t s s' →
    u ≢ t →
    (s.stage ≡ Gathering → p ≡ phase.Deciding → s.is_decider u ≡ true) →
    OnlineKnows p plan u at mine s → OnlineKnows p plan u at mine s'
online_still plan phase.Outside t u at mine s s' later other decides knows = knows
online_still plan phase.Kicking t u at mine s s' later other decides knows = knows
online_still plan phase.OfflineWait t u at mine s s' later other decides knows = knows
online_still plan phase.Arriving t u at mine s s' later other decides knows =
    λ zero k e. later.arrived k (knows zero k e)
online_still plan phase.Deciding t u at mine s s' later other decides knows =
    goes_not s.stage t u s s' later other refl (λ e. decides e refl) knows
online_still plan phase.Waiting t u at mine s s' later other decides knows = knows
online_still plan phase.Reading t u at mine s s' later other decides knows = (knows.0, later.going knows.1)
online_still plan phase.Beginning t u at mine s s' later other decides knows = (knows.0, later.going knows.1, knows.2)
online_still plan phase.Writing t u at mine s s' later other decides knows = (knows.0, later.going knows.1, knows.2)
online_still plan phase.Checking t u at mine s s' later other decides knows = (knows.0, later.going knows.1, knows.2)
online_still plan phase.Reporting t u at mine s s' later other decides knows = (knows.0, later.going knows.1, knows.2)
online_still plan phase.Freeing t u at mine s s' later other decides knows =
    ((knows.0.0, later.going knows.0.1, knows.0.2), knows.1)
online_still plan phase.SiblingWait t u at mine s s' later other decides knows = (knows.0, later.going knows.1)
online_still plan phase.SiblingCheck t u at mine s s' later other decides knows =
    ((knows.0.0, later.going knows.0.1), later.freed u knows.1, knows.2)
online_still plan phase.SiblingCopy t u at mine s s' later other decides knows =
    ((knows.0.0, later.going knows.0.1), later.freed u knows.1, knows.2)
online_still plan phase.Withdrawing t u at mine s s' later other decides knows =
    (knows.0, later.dropped knows.1, knows.2)
online_still plan phase.Releasing t u at mine s s' later other decides knows =
    ((knows.0.0, later.dropped knows.0.1, knows.0.2), later.come at knows.1)
online_still plan phase.OfflineCount t u at mine s s' later other decides knows = knows
online_still plan phase.OfflineHold t u at mine s s' later other decides knows = knows
online_still plan phase.Leaving t u at mine s s' later other decides knows = ends_still _ plan t u mine s s' later knows
online_still plan phase.Left t u at mine s s' later other decides knows = ends_still _ plan t u mine s s' later knows
online_still plan phase.Halted t u at mine s s' later other decides knows = (knows.0, later.going knows.1)
online_still plan phase.Withdrawn t u at mine s s' later other decides knows = knows
online_still plan phase.Nothing t u at mine s s' later other decides knows = knows

offline_still :
    (p : Phase) (t u mine : ℕ) (s s' : State) →
    Later t s s' → OfflineKnows p u mine s → OfflineKnows p u mine s'
offline_still phase.Outside t u mine s s' later knows = knows
offline_still phase.OfflineCount t u mine s s' later knows = (later.kicked u knows.0, knows.1)
offline_still phase.OfflineHold t u mine s s' later knows = (later.kicked u knows.0, knows.1)
offline_still phase.Leaving t u mine s s' later knows =
    ((later.kicked u knows.0.0, knows.0.1), later.freed u knows.1)
offline_still phase.Left t u mine s s' later knows =
    ((later.kicked u knows.0.0, knows.0.1), later.freed u knows.1)
offline_still phase.Halted t u mine s s' later knows = (later.kicked u knows.0, knows.1)
offline_still phase.Withdrawn t u mine s s' later knows = (later.withdrawn u knows.0, knows.1)
offline_still p t u mine s s' later knows = absurd knows

pub still :
    (plan : Plan) (kind : Kind) (t u : ℕ) (local : Local) (s s' : State) →
    Later t s s' →
    u ≢ t →
    (s.stage ≡ Gathering → local.phase ≡ phase.Deciding → s.is_decider u ≡ true) →
    Knows kind plan u local s → Knows kind plan u local s'
still plan Online t u local s s' later other decides knows =
    online_still plan local.phase t u local.at local.mine s s' later other decides knows
still plan Offline t u local s s' later other decides knows =
    offline_still local.phase t u local.mine s s' later knows
still plan Absent t u local s s' later other decides knows = knows
