-- A step of a thread, with or without patience left, and the step of an Offline thread outside at an NMI.
use Rattle.std.proofs.Common.{◌≡◌, ◌≢◌, ℕ, Bool, true, false, ◌&&◌, ◌||◌, ◌==◌, if◌then◌else◌, Option, Some, None, refl, ap, sym, ◌∙◌, subst, true≢false}
use Rattle.rendezvous_steps.specs.declared.steps.Kind.{Kind}
use Rattle.rendezvous_steps.specs.declared.steps.Kind.TheVariants.{Offline}
use Rattle.rendezvous_steps.specs.declared.steps.Phase.TheVariants as phase
use Rattle.rendezvous_steps.specs.declared.steps.Local.{Local}
use Rattle.rendezvous_steps.specs.declared.steps.How.{How}
use Rattle.rendezvous_steps.specs.declared.steps.How.TheVariants as how
use Rattle.rendezvous_steps.specs.declared.operations.Op.{Op}
use Rattle.rendezvous_steps.specs.declared.operations.Op.TheVariants.{Cas}
use Rattle.rendezvous_steps.specs.declared.operations.Word.TheVariants as word
use Rattle.rendezvous_steps.specs.declared.items.What.{What}
use Rattle.rendezvous_steps.specs.declared.items.What.TheVariants as what
use Rattle.rendezvous_steps.specs.Plan.{Plan, Sound}
use Rattle.rendezvous_steps.specs.Padded.{Padded}
use Rattle.rendezvous_steps.specs.StepTable.{operation, enter_operation, after, after_outside, after_kick, to, is_last}
use Rattle.rendezvous_steps.specs.Events.{Running, put, steps, performs, runs_ordinary, idles, left_with_latch}
use Rattle.rendezvous_model.specs.Round.{State, Cause, Step, Timeout, Nmi, Place, Out, In, Left, Halted, Withdrawn, Absent, is_own, is_withdrawn}
use Rattle.rendezvous_model.specs.RoundItems.{may_enter}
use Rattle.rendezvous_model.specs.RoundEnds.{is_free_to_run, comes_through, MayWait, for_kick, for_offline, for_decision, for_primary, to_be_freed}
use Rattle.rendezvous_rule.specs.Shown.{shown_by}
use Rattle.rendezvous_rule.specs.Knows.{has_come}
use Rattle.rule_laws.specs.Kept.{Kept, event_of, is_step}
use Rattle.rule_laws.proofs.Frame.{put_back, not_so, at_phase, is_at}
use Rattle.rule_laws.proofs.Step.{moved, stepped}
use Rattle.play_laws.specs.Lawful.{Lawful, Calm}
use Rattle.play_laws.proofs.OneStep.{moment_step}
use Rattle.play_laws.proofs.Told.{told}
use Rattle.play_laws.proofs.Places.{no_operation, ended, outside_is_not_in}
use Rattle.play_laws.proofs.Quiet.{LedBy, led_by, idle_led, ordinary_led, quiet_end, through}

abbrev pub cause_how : How → Cause
cause_how how.Step = Step
cause_how how.Timeout = Timeout
cause_how how.Nmi = Nmi

-- Without an operation.

rests :
    (plan : Plan) (moment : Running) (t : ℕ) (cause : Cause) (latch : Bool) →
    Sound plan → Padded plan → Lawful plan moment →
    is_own cause ≡ true → cause ≢ Nmi → is_last (moment.locals t).phase ≡ true →
    left_with_latch t moment ≡ latch →
    LedBy plan t cause moment (if latch then runs_ordinary t moment else idles moment)
rests plan moment t cause true sound padded lawful own not_nmi last e =
    let left = (told plan moment t sound padded lawful.ruled).left in
    ordinary_led plan t cause moment lawful
    (through (plan.kind t) cause _ _ (moment.latched t) not_nmi (ap (λ b. b && moment.latched t) (sym left) ∙ e))
rests plan moment t cause false sound padded lawful own not_nmi last e =
    let left = (told plan moment t sound padded lawful.ruled).left in
    idle_led plan t cause moment lawful
    (quiet_end (plan.kind t) cause _ (moment.latched t) own (ended plan moment t sound padded lawful.ruled last)
    (ap (λ b. b && moment.latched t) (sym left) ∙ e))

rests_how :
    (plan : Plan) (moment : Running) (t : ℕ) (h : How) →
    Sound plan → Padded plan → Lawful plan moment →
    is_step h ≡ true → operation plan t (moment.locals t) h ≡ None →
    LedBy plan t (cause_how h) moment (performs plan t h moment None)
rests_how plan moment t how.Step sound padded lawful own none =
    rests plan moment t Step (left_with_latch t moment) sound padded lawful refl (λ e. cc)
    (no_operation plan t (moment.locals t) how.Step none) refl
rests_how plan moment t how.Timeout sound padded lawful own none =
    rests plan moment t Timeout (left_with_latch t moment) sound padded lawful refl (λ e. cc)
    (no_operation plan t (moment.locals t) how.Timeout none) refl
rests_how plan moment t how.Nmi sound padded lawful own none = cc

-- With one.

kept_led :
    (plan : Plan) (moment : Running) (t : ℕ) (h : How) →
    Lawful plan moment →
    is_step h ≡ true → Kept plan (event_of h t) moment (steps plan t h moment) →
    LedBy plan t (cause_how h) moment (steps plan t h moment)
kept_led plan moment t how.Step lawful own kept =
    led_by plan t Step moment (steps plan t how.Step moment) lawful kept.rule kept.round
kept_led plan moment t how.Timeout lawful own kept =
    led_by plan t Timeout moment (steps plan t how.Timeout moment) lawful kept.rule kept.round
kept_led plan moment t how.Nmi lawful own kept = cc

steps_by :
    (plan : Plan) (moment : Running) (t : ℕ) (h : How) (op : Option Op) →
    Sound plan → Padded plan → Lawful plan moment →
    is_step h ≡ true → operation plan t (moment.locals t) h ≡ op →
    LedBy plan t (cause_how h) moment (steps plan t h moment)
steps_by plan moment t h (Some op) sound padded lawful own e =
    kept_led plan moment t h lawful own (moment_step plan moment t h op sound padded lawful.ruled own e)
steps_by plan moment t h None sound padded lawful own e =
    subst (λ op. LedBy plan t (cause_how h) moment (performs plan t h moment op)) (sym e)
    (rests_how plan moment t h sound padded lawful own e)

pub steps_led :
    (plan : Plan) (moment : Running) (t : ℕ) (h : How) →
    Sound plan → Padded plan → Lawful plan moment →
    is_step h ≡ true → LedBy plan t (cause_how h) moment (steps plan t h moment)
steps_led plan moment t h sound padded lawful own =
    steps_by plan moment t h (operation plan t (moment.locals t) h) sound padded lawful own refl

-- An Offline thread outside looks for its kick at an NMI: it enters, or runs ordinary code and is where a step had led it.

-- the exchange by which it does
abbrev kick : ℕ → Op
kick t = Cas (word.Nmi t) 1 2

kick_steps :
    (plan : Plan) (moment : Running) (t : ℕ) (h : How) (next : Local × What) →
    plan.kind t ≡ Offline → (moment.locals t).phase ≡ phase.Outside →
    after_kick (at_phase phase.Outside (moment.locals t).at (moment.locals t).polls (moment.locals t).mine) h
    (moment.words (word.Nmi t)) ≡ next →
    steps plan t h moment ≡ moved moment t (kick t) next
unfolding operation after
kick_steps plan moment t h next offline outside e =
    let l = moment.locals t in
    let local = at_phase phase.Outside l.at l.polls l.mine in
    stepped plan t h moment (kick t) local next (is_at l phase.Outside outside)
    (ap (λ kind. Some (enter_operation kind t)) offline)
    (ap (λ kind. after_outside kind plan t local h (moment.words (word.Nmi t))) offline ∙ e)

kick_operation :
    (plan : Plan) (moment : Running) (t : ℕ) (h : How) →
    plan.kind t ≡ Offline → (moment.locals t).phase ≡ phase.Outside →
    operation plan t (moment.locals t) h ≡ Some (kick t)
unfolding operation
kick_operation plan moment t h offline outside =
    ap (λ l. operation plan t l h) (is_at (moment.locals t) phase.Outside outside)
    ∙ ap (λ kind. Some (enter_operation kind t)) offline

-- it does not wait for anything else than its kick
waits_for_kick :
    (plan : Plan) (t : ℕ) (s : State) → s.place t ≢ In → MayWait plan t s → (s.place t ≡ Out) × (s.kicked t ≡ false)
waits_for_kick plan t s outside (for_kick w) = (w.is_out, w.not_kicked)
waits_for_kick plan t s outside (for_offline w) = absurd (outside w.is_in)
waits_for_kick plan t s outside (for_decision w) = absurd (outside w.is_in)
waits_for_kick plan t s outside (for_primary w) = absurd (outside w.is_in)
waits_for_kick plan t s outside (to_be_freed w) = absurd (outside w.is_in)

-- a state in which nobody is latched for t stays as it is where t's latch is cleared
unlatched : (s : State) (t : ℕ) → s.latched t ≡ false → record s { latched = put s.latched t false } ≡ s
unlatched s t e = ap (λ (latched : ℕ → Bool). record s { latched = latched }) (put_back s.latched t false (sym e))

not_come : (s : State) (t : ℕ) → Calm s → has_come (s.place t) ≡ false → s.latched t ≡ false
not_come s t calm out = not_so (s.latched t) (λ on. true≢false (sym (calm t on) ∙ out))

-- an NMI comes through outside
free_withdrawn :
    (kind : Kind) (place : Place) (kicked latched : Bool) →
    kind ≡ Offline → place ≡ Withdrawn →
    (is_free_to_run kind Nmi place kicked || comes_through Nmi place latched) ≡ true
free_withdrawn kind place kicked latched offline withdrawn = rw (offline, withdrawn) refl

free_unkicked :
    (kind : Kind) (place : Place) (kicked latched : Bool) →
    kind ≡ Offline → place ≡ Out → kicked ≡ false →
    (is_free_to_run kind Nmi place kicked || comes_through Nmi place latched) ≡ true
free_unkicked kind place kicked latched offline out unkicked = rw (offline, out, unkicked) refl

-- the found kick, by its two tests
found_by :
    (plan : Plan) (moment : Running) (t : ℕ) (stands gone : Bool) →
    Sound plan → Padded plan → Lawful plan moment →
    plan.kind t ≡ Offline → (moment.locals t).phase ≡ phase.Outside →
    (moment.words (word.Nmi t) == 1) ≡ stands → (moment.words (word.Nmi t) == 3) ≡ gone →
    LedBy plan t Nmi moment (steps plan t how.Nmi moment)
found_by plan moment t true gone sound padded lawful offline outside one three =
    let l = moment.locals t in
    let local = at_phase phase.Outside l.at l.polls l.mine in
    let next : Local × What = (to local phase.OfflineCount, what.Enter) in
    let kept : Kept plan (event_of how.Step t) moment (moved moment t (kick t) next) =
    subst (λ x. Kept plan (event_of how.Step t) moment x)
    (kick_steps plan moment t how.Step next offline outside (rw one refl))
    (moment_step plan moment t how.Step (kick t) sound padded lawful.ruled refl
    (kick_operation plan moment t how.Step offline outside)) in
    let kicked : may_enter Offline Step ((shown_by plan moment).kicked t) ≡ true =
    ap (λ kind. may_enter kind Step ((shown_by plan moment).kicked t)) (sym offline) ∙ kept.round.may in
    subst (λ x. LedBy plan t Nmi moment x) (sym (kick_steps plan moment t how.Nmi next offline outside (rw one refl)))
    (led_by plan t Nmi moment (moved moment t (kick t) next) lawful kept.rule
    (record {
      is_out = kept.round.is_out;
      may = ap (λ kind. may_enter kind Nmi ((shown_by plan moment).kicked t)) offline ∙ kicked;
      change = kept.round.change;
    }))
found_by plan moment t false true sound padded lawful offline outside one three =
    let l = moment.locals t in
    let s = shown_by plan moment in
    let local = at_phase phase.Outside l.at l.polls l.mine in
    let idle : Local × What = (to local phase.Withdrawn, what.Idle) in
    let next : Local × What = (to local phase.Withdrawn, what.Ordinary) in
    let kept : Kept plan (event_of how.Step t) moment (moved moment t (kick t) idle) =
    subst (λ x. Kept plan (event_of how.Step t) moment x)
    (kick_steps plan moment t how.Step idle offline outside (rw (one, three) refl))
    (moment_step plan moment t how.Step (kick t) sound padded lawful.ruled refl
    (kick_operation plan moment t how.Step offline outside)) in
    let gone : is_withdrawn (s.place t) ≡ true =
    sym (told plan moment t sound padded lawful.ruled).withdrawn
    ∙ rw (offline, three) refl in
    let place : s.place t ≡ Withdrawn = withdrawn_by (s.place t) gone in
    subst (λ x. LedBy plan t Nmi moment x) (sym
    (kick_steps plan moment t how.Nmi next offline outside (rw (one, three) refl)))
    (led_by plan t Nmi moment (moved moment t (kick t) next) lawful kept.rule
    (record {
      may = free_withdrawn (plan.kind t) (s.place t) (s.kicked t) (moment.latched t) offline place;
      change = kept.round.change ∙ sym (unlatched s t (not_come s t lawful.calm (ap has_come place)));
    }))
  where
    withdrawn_by : (place : Place) → is_withdrawn place ≡ true → place ≡ Withdrawn
    withdrawn_by Withdrawn e = refl
    withdrawn_by Out e = cc
    withdrawn_by In e = cc
    withdrawn_by (Left x) e = cc
    withdrawn_by Halted e = cc
    withdrawn_by Absent e = cc
found_by plan moment t false false sound padded lawful offline outside one three =
    let l = moment.locals t in
    let s = shown_by plan moment in
    let local = at_phase phase.Outside l.at l.polls l.mine in
    let poll : Local × What = (local, what.Poll) in
    let next : Local × What = (local, what.Ordinary) in
    let kept : Kept plan (event_of how.Step t) moment (moved moment t (kick t) poll) =
    subst (λ x. Kept plan (event_of how.Step t) moment x)
    (kick_steps plan moment t how.Step poll offline outside (rw (one, three) refl))
    (moment_step plan moment t how.Step (kick t) sound padded lawful.ruled refl
    (kick_operation plan moment t how.Step offline outside)) in
    let waits = waits_for_kick plan t s (outside_is_not_in plan moment t sound padded lawful.ruled outside)
    kept.round.1.may in
    subst (λ x. LedBy plan t Nmi moment x) (sym
    (kick_steps plan moment t how.Nmi next offline outside (rw (one, three) refl)))
    (led_by plan t Nmi moment (moved moment t (kick t) next) lawful kept.rule
    (record {
      may = free_unkicked (plan.kind t) (s.place t) (s.kicked t) (moment.latched t) offline waits.0 waits.1;
      change = kept.round.1.change ∙ sym (unlatched s t (not_come s t lawful.calm (ap has_come waits.0)));
    }))

pub nmi_outside_led :
    (plan : Plan) (moment : Running) (t : ℕ) →
    Sound plan → Padded plan → Lawful plan moment →
    plan.kind t ≡ Offline → (moment.locals t).phase ≡ phase.Outside →
    LedBy plan t Nmi moment (steps plan t how.Nmi moment)
nmi_outside_led plan moment t sound padded lawful offline outside =
    found_by plan moment t (moment.words (word.Nmi t) == 1) (moment.words (word.Nmi t) == 3) sound padded lawful
    offline outside refl refl
