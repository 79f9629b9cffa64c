-- What the rule says of a rendezvous where each thread has come to its last phase.
use Rattle.std.proofs.Common.{◌≡◌, ◌⊎◌, ℕ, ◌-◌, ◌<◌, ◌≤◌, Bool, true, false, not, ◌||◌, ◌==◌, if◌then◌else◌, Option, Some, None, refl, ap, sym, ◌∙◌, subst, arith, true≢false, inl, inr}
use Rattle.std.proofs.lemmas.Bool.{cases_lt}
use Rattle.rendezvous_steps.specs.declared.steps.Kind.TheVariants.{Online, Offline, Absent as KindAbsent}
use Rattle.rendezvous_steps.specs.declared.steps.ThreadResult.TheVariants as results
use Rattle.rendezvous_steps.specs.declared.steps.Phase.{Phase}
use Rattle.rendezvous_steps.specs.declared.steps.Phase.TheVariants as phase
use Rattle.rendezvous_steps.specs.Plan.{Plan, Sound, is_primary}
use Rattle.rendezvous_steps.specs.Padded.{Padded}
use Rattle.rendezvous_steps.specs.Words.{families}
use Rattle.rendezvous_steps.specs.StepTable.{is_last, result_of, write_of}
use Rattle.rendezvous_steps.specs.Events.{Running}
use Rattle.rendezvous_model.specs.Round.{Out, Left, Halted, Withdrawn, Absent, Stage, Gathering, Going, DroppedByKick, DroppedBy, Waiting, Reported, State, nobody, is_dropped, is_going}
use Rattle.rendezvous_model.specs.Outcome.{decide_of}
use Rattle.rendezvous_rule.specs.View.{Views, views, arrived_in, write_in, is_timeout}
use Rattle.rendezvous_rule.specs.Seen.{seen, place_seen, revision_in}
use Rattle.rendezvous_rule.specs.Knows.{Knows, OnlineKnows, OfflineKnows, Ends, primary_result, result_for}
use Rattle.rendezvous_rule.specs.Rule.{RuleBy}
use Rattle.rendezvous_rule.specs.Ran.{revision_after_go}
use Rattle.rule_laws.proofs.Frame.{equal_numbers, same_numbers}
use Rattle.rule_laws.proofs.Search.{online_in_range}
use Rattle.rule_laws.proofs.Assemble.{number_back, led}
use Rattle.rule_laws.proofs.Facts.{settled_dropped, going_undropped}
use Rattle.play_laws.proofs.Ready.{knows_online, knows_offline, place_at}

no : {A : Type 0} (b : Bool) → b ≡ false → b ≡ true → A
no b off on = absurd (true≢false (sym on ∙ off))

-- What was decided, by its number.

pub went_by : (stage : Stage) → decide_of stage ≡ 1 → stage ≡ Going
went_by Going e = refl
went_by Gathering e = absurd (omega arith)
went_by DroppedByKick e = absurd (omega arith)
went_by (DroppedBy t) e = absurd (omega arith)

pub dropped_by : (stage : Stage) → 2 ≤ decide_of stage → is_dropped stage ≡ true
dropped_by DroppedByKick e = refl
dropped_by (DroppedBy t) e = refl
dropped_by Gathering e = absurd (omega arith)
dropped_by Going e = absurd (omega arith)

pub kick_by : (stage : Stage) → decide_of stage ≡ 2 → stage ≡ DroppedByKick
kick_by DroppedByKick e = refl
kick_by Gathering e = absurd (omega arith)
kick_by Going e = absurd (omega arith)
kick_by (DroppedBy t) e = absurd (omega arith)

pub thread_by : (stage : Stage) → 3 ≤ decide_of stage → stage ≡ DroppedBy (decide_of stage - 3)
thread_by (DroppedBy t) e = ap DroppedBy (omega arith)
thread_by Gathering e = absurd (omega arith)
thread_by Going e = absurd (omega arith)
thread_by DroppedByKick e = absurd (omega arith)

gathering_not : (stage : Stage) → is_dropped stage ≡ true ⊎ stage ≡ Going → 0 < decide_of stage
gathering_not DroppedByKick why = omega arith
gathering_not (DroppedBy t) why = omega arith
gathering_not Going why = omega arith
gathering_not Gathering (inl e) = cc
gathering_not Gathering (inr e) = cc

pub not_going : (stage : Stage) → is_dropped stage ≡ true → is_going stage ≡ false
not_going DroppedByKick e = refl
not_going (DroppedBy t) e = refl
not_going Going e = cc
not_going Gathering e = cc

module _ (plan : Plan) (m : Running) (first : Bool) (stage : Stage) (sound : Sound plan) (padded : Padded plan)
    (rule : RuleBy plan (families m.words) m.locals first stage) where
  abbrev v : Views
  v = views plan first m.locals

  abbrev s : State
  s = seen plan v stage nobody

  -- an Online thread at its end
  pub data OnlineEnd (t : ℕ) : Type 0 where
    after_go : stage ≡ Going → s.place t ≡ Left (result_for plan t) → OnlineEnd t
    after_drop : is_dropped stage ≡ true → s.place t ≡ Left results.Timeout → OnlineEnd t
    in_halt :
        stage ≡ Going → is_primary plan t ≡ false → s.place t ≡ Halted → (m.locals t).phase ≡ phase.Halted →
        OnlineEnd t

  timed_out : (mine : ℕ) → is_timeout mine ≡ true → result_of mine ≡ results.Timeout
  timed_out mine e = let five : mine ≡ 5 = equal_numbers mine 5 e in ap result_of five

  left_end : (t : ℕ) (b : Bool) →
      is_timeout (m.locals t).mine ≡ b → Ends b plan t (m.locals t).mine s →
      s.place t ≡ Left (result_of (m.locals t).mine) → OnlineEnd t
  left_end t true e ends place = after_drop ends (place ∙ ap Left (timed_out (m.locals t).mine e))
  left_end t false e ends place = after_go ends.0
      (place ∙ ap Left (ap result_of ends.1 ∙ number_back (result_for plan t)))

  online_by : (t : ℕ) (p : Phase) →
      (m.locals t).phase ≡ p → OnlineKnows p plan t (m.locals t).at (m.locals t).mine s → is_last p ≡ true → OnlineEnd t
  online_by t phase.Left e knows last =
      left_end t (is_timeout (m.locals t).mine) refl knows
      (place_at plan m first stage sound padded rule t phase.Left e)
  online_by t phase.Halted e knows last = in_halt knows.1 knows.0
      (place_at plan m first stage sound padded rule t phase.Halted e) e
  online_by t phase.Withdrawn e knows last = absurd knows
  online_by t phase.Nothing e knows last = absurd knows
  online_by t p e knows last = cc

  pub online_end : (t : ℕ) → plan.kind t ≡ Online → is_last (m.locals t).phase ≡ true → OnlineEnd t
  online_end t online last =
      online_by t (m.locals t).phase refl (knows_online plan m first stage sound padded rule t (m.locals t).phase
      online refl) last

  -- an Offline thread at its end
  pub data OfflineEnd (t : ℕ) : Type 0 where
    freed : s.place t ≡ Left results.Offline → OfflineEnd t
    held : s.place t ≡ Halted → (m.locals t).phase ≡ phase.Halted → OfflineEnd t
    withdrawn : s.place t ≡ Withdrawn → (m.locals t).phase ≡ phase.Withdrawn → OfflineEnd t

  offline_by : (t : ℕ) (p : Phase) →
      (m.locals t).phase ≡ p → OfflineKnows p t (m.locals t).mine s → is_last p ≡ true → OfflineEnd t
  offline_by t phase.Left e knows last =
      freed (place_at plan m first stage sound padded rule t phase.Left e ∙ ap Left (ap result_of knows.0.1))
  offline_by t phase.Halted e knows last = held (place_at plan m first stage sound padded rule t phase.Halted e) e
  offline_by t phase.Withdrawn e knows last = withdrawn knows.0 e
  offline_by t phase.Nothing e knows last = absurd knows
  offline_by t p e knows last = cc

  pub offline_end : (t : ℕ) → plan.kind t ≡ Offline → is_last (m.locals t).phase ≡ true → OfflineEnd t
  offline_end t offline last =
      offline_by t (m.locals t).phase refl (knows_offline plan m first stage sound padded rule t (m.locals t).phase
      offline refl) last

  pub absent_end : (t : ℕ) → plan.kind t ≡ KindAbsent → s.place t ≡ Absent
  absent_end t absent =
      let nothing : (m.locals t).phase ≡ phase.Nothing =
      subst (λ kind. Knows kind plan t (m.locals t) s) absent (rule.knows t) in
      place_at plan m first stage sound padded rule t phase.Nothing nothing

  -- it was decided
  zero_leads : is_primary plan 0 ≡ true
  zero_leads =
      let lowest = sound.primary_is_the_lowest 0 sound.some_thread in
      same_numbers 0 (plan.primary (plan.group 0)) (omega arith)

  decided_by : OnlineEnd 0 → 0 < decide_of stage
  decided_by (after_go going place) = gathering_not stage (inr going)
  decided_by (after_drop dropped place) = gathering_not stage (inl dropped)
  decided_by (in_halt going follows place e) = gathering_not stage (inr going)

  pub decided : is_last (m.locals 0).phase ≡ true → 0 < decide_of stage
  decided last = decided_by (online_end 0 sound.thread_0_is_online last)

  -- one whose kick was taken back was not there
  pub withdrawn_dropped :
      (t : ℕ) → s.place t ≡ Withdrawn → (m.locals t).phase ≡ phase.Withdrawn → is_dropped stage ≡ true
  unfolding views
  withdrawn_dropped t place e =
      settled_dropped plan (families m.words) m.locals first stage t sound rule
      (settled_by (v.settles 0 t) (sym (place_at plan m first stage sound padded rule t phase.Withdrawn e) ∙ place))
    where
      settled_by : (b : Bool) → place_seen Out b ≡ Withdrawn → b ≡ true
      settled_by true f = refl
      settled_by false f = cc

  pub withdrawn_away : (t : ℕ) → (m.locals t).phase ≡ phase.Withdrawn → s.arrived t ≡ false
  unfolding views
  withdrawn_away t e = ap (λ p. arrived_in p (m.locals t).mine (not (t == 0) || first)) e

  -- a group's revision after a go

  revision_by : (offer : Option ℕ) (refuses : Bool) (g : ℕ) → plan.offer g ≡ offer → plan.refuse g ≡ refuses →
      write_of plan g ≡ revision_after_go offer refuses (plan.rev0 g)
  revision_by (Some offer) true g e f = rw f refl
  revision_by (Some offer) false g e f = rw (f, e) refl
  revision_by None true g e f = rw f refl
  revision_by None false g e f = rw (f, e) refl

  lead_revision :
      (g : ℕ) → stage ≡ Going → is_primary plan (plan.primary g) ≡ true →
      (m.locals (plan.primary g)).phase ≡ phase.Left →
      is_timeout (m.locals (plan.primary g)).mine ≡ false → s.revision g ≡ write_of plan g
  unfolding views
  lead_revision g going leads e none =
      let p = plan.primary g in
      ap (λ b. revision_in plan g (if b then write_in (m.locals p).phase (m.locals p).mine else Waiting)) leads
      ∙ (ap (λ x. revision_in plan g (write_in x (m.locals p).mine)) e
      ∙ ap (λ b. revision_in plan g (if b then Waiting else Reported (result_of (m.locals p).mine))) none)

  absent_revision : (g : ℕ) → (m.locals (plan.primary g)).phase ≡ phase.Nothing → s.revision g ≡ plan.rev0 g
  unfolding views
  absent_revision g e =
      ap (λ x. revision_in plan g (if is_primary plan (plan.primary g) then write_in x
      (m.locals (plan.primary g)).mine else Waiting)) e
      ∙ waits (is_primary plan (plan.primary g))
    where
      waits : (b : Bool) → revision_in plan g (if b then Waiting else Waiting) ≡ plan.rev0 g
      waits true = refl
      waits false = refl

  lead_phase : (p : ℕ) (x : Phase) →
      stage ≡ Going → is_primary plan p ≡ true → (m.locals p).phase ≡ x → is_last x ≡ true →
      OnlineKnows x plan p (m.locals p).at (m.locals p).mine s →
      ((m.locals p).phase ≡ phase.Left) × (is_timeout (m.locals p).mine ≡ false)
  lead_phase p phase.Left going leads e last knows = (e, in_time (is_timeout (m.locals p).mine) knows)
    where
      in_time : (b : Bool) → Ends b plan p (m.locals p).mine s → b ≡ false
      in_time true ends = no _ (going_undropped stage going) ends
      in_time false ends = refl
  lead_phase p phase.Halted going leads e last knows = no _ knows.0 leads
  lead_phase p phase.Withdrawn going leads e last knows = absurd knows
  lead_phase p phase.Nothing going leads e last knows = absurd knows
  lead_phase p x going leads e last knows = cc

  no_offer_by : (g : ℕ) (offer : Option ℕ) → plan.kind (plan.primary g) ≡ KindAbsent → plan.offer g ≡ offer →
      plan.rev0 g ≡ revision_after_go offer (plan.refuse g) (plan.rev0 g)
  no_offer_by g None absent e = refl
  no_offer_by g (Some o) absent e =
      elim (cases_lt g plan.groups) [
        | inl within ↦ let same : KindAbsent ≡ Online = sym absent ∙ sound.offer_to_present g o within e in cc
        | inr past ↦ let none : Some o ≡ None = sym e ∙ padded.no_offer g past in cc
      ]

  pub revision_went : (g : ℕ) →
      stage ≡ Going → ((u : ℕ) → u < plan.threads → is_last (m.locals u).phase ≡ true) →
      s.revision g ≡ revision_after_go (plan.offer g) (plan.refuse g) (plan.rev0 g)
  revision_went g going last =
      elim (led plan g sound padded) [
        | inl lead ↦
            let p = plan.primary g in
            let leads : is_primary plan p ≡ true =
            same_numbers p (plan.primary (plan.group p)) (ap plan.primary (sym lead.1)) in
            let here = lead_phase p (m.locals p).phase going leads refl (last p (online_in_range plan padded p lead.0))
            (knows_online plan m first stage sound padded rule p (m.locals p).phase lead.0 refl) in
            lead_revision g going leads here.0 here.1 ∙ revision_by (plan.offer g) (plan.refuse g) g refl refl
        | inr absent ↦
            let nothing : (m.locals (plan.primary g)).phase ≡ phase.Nothing =
            subst (λ kind. Knows kind plan (plan.primary g) (m.locals (plan.primary g)) s) absent
            (rule.knows (plan.primary g)) in
            absent_revision g nothing ∙ no_offer_by g (plan.offer g) absent refl
      ]
