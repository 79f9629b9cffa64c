-- A thread that waits to be freed: it polls, goes on where it was freed, or out of patience halts.
use Rattle.std.proofs.Common.{◌≡◌, ℕ, Bool, true, false, not, ◌&&◌, ◌==◌, if◌then◌else◌, Option, Some, None, refl, ap, sym, ◌∙◌, subst, true≢false}
use Rattle.rendezvous_steps.specs.declared.steps.Kind.{Kind}
use Rattle.rendezvous_steps.specs.declared.steps.Kind.TheVariants.{Online, Offline, Absent as KindAbsent}
use Rattle.rendezvous_steps.specs.declared.steps.ThreadResult.TheVariants as results
use Rattle.rendezvous_steps.specs.declared.steps.Phase.TheVariants as phase
use Rattle.rendezvous_steps.specs.declared.steps.Local.{Local}
use Rattle.rendezvous_steps.specs.declared.steps.How.{How}
use Rattle.rendezvous_steps.specs.declared.steps.How.TheVariants as how
use Rattle.rendezvous_steps.specs.declared.operations.Word.TheVariants as word
use Rattle.rendezvous_steps.specs.declared.operations.Op.{Op}
use Rattle.rendezvous_steps.specs.declared.operations.Op.TheVariants.{Load, Cas}
use Rattle.rendezvous_steps.specs.declared.items.What.TheVariants as what
use Rattle.rendezvous_steps.specs.Plan.{Plan, Sound, is_primary}
use Rattle.rendezvous_steps.specs.Padded.{Padded}
use Rattle.rendezvous_steps.specs.Words.{Families, families, touched, words_after}
use Rattle.rendezvous_steps.specs.StepTable.{operation, after, to, polled, by_release}
use Rattle.rendezvous_steps.specs.Events.{Running, put, steps}
use Rattle.rendezvous_model.specs.Round as round
use Rattle.rendezvous_model.specs.Round.{In, Halted, Withdrawn, GroupPlace, Reported, Stage, Going, State, nobody}
use Rattle.rendezvous_model.specs.RoundEnds.{Halts, may_halt, for_primary, to_be_freed}
use Rattle.rendezvous_rule.specs.View.{View, view, views, is_timeout}
use Rattle.rendezvous_rule.specs.Seen.{seen, words_of, mode_code, ctrl_code, nmi_code, release_code, writes_now}
use Rattle.rendezvous_rule.specs.Knows.{Knows, Came, report_of, primary_result}
use Rattle.rendezvous_rule.specs.Rule.{RuleBy}
use Rattle.rule_laws.specs.Kept.{Kept, event_of, is_step}
use Rattle.rule_laws.proofs.Frame.{at_phase, coded, code_kept, offline_leads_not}
use Rattle.rule_laws.proofs.Tables.{only_place, sees_place_here}
use Rattle.rule_laws.proofs.Later.{later_place}
use Rattle.rule_laws.proofs.Step.{step_kept, inner_kept, poll_kept, stands_in}
use Rattle.rule_laws.proofs.Facts.{state, view_is, is_inside, freed_reported}
use Rattle.round_laws.proofs.Kind.{KeepsTheRule}
use Rattle.round_laws.proofs.Found.{load_keeps, cas_keeps, not_taken}
use Rattle.round_laws.proofs.Paths.{plain}
use Rattle.round_laws.proofs.Siblings.{no_primary_leaves}
use Rattle.round_laws.proofs.Standing.{stands_offline}
use Rattle.round_laws.proofs.Writing.{at_going}

-- Halting changes its place, and its control word.

halts_mode : (kind : Kind) (writes : Bool) → mode_code kind writes Halted ≡ mode_code kind writes In
halts_mode Online writes = refl
halts_mode Offline writes = refl
halts_mode KindAbsent writes = refl

halts_nmi : (kind : Kind) (kicked : Bool) → nmi_code kind kicked Halted ≡ nmi_code kind kicked In
halts_nmi Online kicked = refl
halts_nmi Offline true = refl
halts_nmi Offline false = refl
halts_nmi KindAbsent kicked = refl

halted_view :
    (plan : Plan) (t : ℕ) (first : Bool) (local : Local) →
    view plan t first (to local phase.Halted) ≡ record (plain plan t true false) { place = Halted }
halted_view plan t first local = refl

-- the words, where the code of its place stays in all but its control word
halted_says :
    (plan : Plan) (s : State) (t : ℕ) →
    s.place t ≡ In →
    record (words_of plan s) { ctrl = put (words_of plan s).ctrl t 3 }
    ≡ words_of plan (record s { place = put s.place t Halted })
unfolding words_of
halted_says plan s t inside =
    let modes : (λ (u : ℕ). mode_code (plan.kind u) (writes_now plan u s.group) (put s.place t Halted u))
    ≡ (λ u. mode_code (plan.kind u) (writes_now plan u s.group) (s.place u)) =
    code_kept (λ u p. mode_code (plan.kind u) (writes_now plan u s.group) p) s.place t Halted
    (halts_mode (plan.kind t) (writes_now plan t s.group)
    ∙ ap (mode_code (plan.kind t) (writes_now plan t s.group)) (sym inside)) in
    let nmis : (λ (u : ℕ). nmi_code (plan.kind u) (s.kicked u) (put s.place t Halted u))
    ≡ (λ u. nmi_code (plan.kind u) (s.kicked u) (s.place u)) =
    code_kept (λ u p. nmi_code (plan.kind u) (s.kicked u) p) s.place t Halted
    (halts_nmi (plan.kind t) (s.kicked t) ∙ ap (nmi_code (plan.kind t) (s.kicked t)) (sym inside)) in
    λ i. record (words_of plan s) {
      mode = (sym modes) i;
      ctrl = coded (λ u p. ctrl_code p (s.freed u) (s.group (plan.group u))) s.place t Halted 3 refl i;
      nmi = (sym nmis) i;
    }

halt_kept :
    (plan : Plan) (moment : Running) (t : ℕ) (local : Local) (first : Bool) (stage : Stage) →
    Sound plan →
    Padded plan →
    RuleBy plan (families moment.words) moment.locals first stage →
    moment.locals t ≡ local →
    operation plan t local how.Timeout ≡ Some (Cas (word.Ctrl t) 0 3) →
    after plan t local how.Timeout 0 ≡ (to local phase.Halted, what.Halt) →
    view plan t first local ≡ plain plan t true false →
    (let s = state plan first moment.locals stage in
    s.place t ≡ In →
    s.freed t ≡ false →
    may_halt (plan.kind t) (is_primary plan t) stage ≡ true →
    Knows (plan.kind t) plan t (to local phase.Halted) (record s { place = put s.place t Halted }) →
    Kept plan (event_of how.Timeout t) moment (steps plan t how.Timeout moment))
unfolding words_of put views
halt_kept plan moment t local first stage sound padded rule here op step shows inside freed may knows =
    let new = to local phase.Halted in
    let v = views plan first moment.locals in
    let s = λ (latched : ℕ → Bool). seen plan v stage latched in
    let next = λ (latched : ℕ → Bool). record (s latched) { place = put (s latched).place t Halted } in
    let found : moment.words (word.Ctrl t) ≡ 0 =
    ap (λ (w : Families). w.ctrl t) rule.says
    ∙ ap (λ p. ctrl_code p ((s nobody).freed t) ((s nobody).group (plan.group t))) inside
    ∙ ap (λ b. ctrl_code In b ((s nobody).group (plan.group t))) freed in
    let own = view_is plan moment.locals first t local here ∙ shows in
    let halts : Halts plan t round.Timeout (s moment.latched) (next moment.latched) =
    record {
      out_of_patience = refl;
      is_in = inside;
      has_arrived = ap (λ (w : View). w.arrived) own;
      not_freed = freed;
      may = may;
      change = refl;
    } in
    step_kept plan moment t how.Timeout (Cas (word.Ctrl t) 0 3) local new what.Halt first first stage stage next
    sound padded rule here op (ap (after plan t local how.Timeout) found ∙ step) (λ other. refl)
    (record {
      sees = λ latched.
          ap (λ x. seen plan x stage latched)
          (only_place v t (view plan t first new) Halted
          (halted_view plan t first local
          ∙ ap (λ (w : View). record w { place = Halted }) (sym own)))
          ∙ sees_place_here plan v stage latched t Halted (sym freed);
      says =
          ap (λ n. record (families moment.words)
          { ctrl = put (families moment.words).ctrl t (if n == 0 then 3 else n) }) found
          ∙ ap (λ (w : Families). record w { ctrl = put w.ctrl t 3 }) rule.says
          ∙ halted_says plan (s nobody) t inside;
      gathered = rule.gathered;
      later = later_place t (s nobody) t Halted (λ e. refl) (λ e. let same : In ≡ Withdrawn = sym inside ∙ e in cc);
    })
    knows
    halts

-- The own control word, as it is found: nothing, or what a release says.

found_unfreed :
    (plan : Plan) (words : Families) (s : State) (t : ℕ) →
    words ≡ words_of plan s → s.place t ≡ In → s.freed t ≡ false → words.ctrl t ≡ 0
unfolding words_of
found_unfreed plan words s t says inside freed =
    ap (λ (w : Families). w.ctrl t) says
    ∙ ap (λ p. ctrl_code p (s.freed t) (s.group (plan.group t))) inside
    ∙ ap (λ b. ctrl_code In b (s.group (plan.group t))) freed

found_freed :
    (plan : Plan) (words : Families) (s : State) (t : ℕ) →
    words ≡ words_of plan s → s.place t ≡ In → s.freed t ≡ true → words.ctrl t ≡ release_code (s.group (plan.group t))
unfolding words_of
found_freed plan words s t says inside freed =
    ap (λ (w : Families). w.ctrl t) says
    ∙ ap (λ p. ctrl_code p (s.freed t) (s.group (plan.group t))) inside
    ∙ ap (λ b. ctrl_code In b (s.group (plan.group t))) freed

release_told : (group : GroupPlace) → (release_code group == 0) ≡ false
release_told (Reported results.Updated) = refl
release_told group = refl

-- the operation of a wait on the own control word
wait_op : ℕ → How → Op
wait_op t how.Timeout = Cas (word.Ctrl t) 0 3
wait_op t h = Load (word.Ctrl t)

wait_touches : (t : ℕ) (h : How) → touched (wait_op t h) ≡ word.Ctrl t
unfolding wait_op
wait_touches t how.Step = refl
wait_touches t how.Timeout = refl
wait_touches t how.Nmi = refl

wait_words :
    (t : ℕ) (h : How) (moment : Running) →
    (moment.words (word.Ctrl t) == 0) ≡ false →
    families (words_after moment.words (wait_op t h)) ≡ families moment.words
unfolding wait_op
wait_words t how.Step moment e = load_keeps moment.words (word.Ctrl t)
wait_words t how.Timeout moment e = cas_keeps moment.words (word.Ctrl t) 0 3 e
wait_words t how.Nmi moment e = load_keeps moment.words (word.Ctrl t)

-- A sibling.

sibling_op :
    (plan : Plan) (t : ℕ) (h : How) (at polls mine : ℕ) →
    operation plan t (at_phase phase.SiblingWait at polls mine) h ≡ Some (wait_op t h)
unfolding operation wait_op
sibling_op plan t how.Step at polls mine = refl
sibling_op plan t how.Timeout at polls mine = refl
sibling_op plan t how.Nmi at polls mine = refl

sibling_goes :
    (plan : Plan) (t : ℕ) (h : How) (at polls mine d : ℕ) →
    is_step h ≡ true →
    (d == 0) ≡ false →
    after plan t (at_phase phase.SiblingWait at polls mine) h d
    ≡ by_release (at_phase phase.SiblingWait at polls mine) d
unfolding after
sibling_goes plan t how.Step at polls mine d own e =
    let local =
    at_phase phase.SiblingWait at polls mine in not_taken (d == 0) (polled local, what.Poll) (by_release local d) e
sibling_goes plan t how.Timeout at polls mine d own e =
    let local =
    at_phase phase.SiblingWait at polls mine in not_taken (d == 0) (to local phase.Halted, what.Halt)
    (by_release local d) e
sibling_goes plan t how.Nmi at polls mine d own e = cc

-- freed, it goes by what its group reported
sibling_freed :
    (plan : Plan) (moment : Running) (t : ℕ) (h : How) (first : Bool) (at polls mine : ℕ) (offer : Option ℕ)
    (refuses : Bool) →
    Sound plan →
    Padded plan →
    RuleBy plan (families moment.words) moment.locals first Going →
    is_step h ≡ true →
    moment.locals t ≡ at_phase phase.SiblingWait at polls mine →
    plan.kind t ≡ Online →
    is_primary plan t ≡ false →
    (state plan first moment.locals Going).freed t ≡ true →
    report_of plan (plan.group t) ≡ primary_result offer refuses → Kept plan (event_of h t) moment (steps plan t h moment)
sibling_freed plan moment t h first at polls mine offer refuses sound padded rule own here online primary freed report =
    let local = at_phase phase.SiblingWait at polls mine in
    let s = state plan first moment.locals Going in
    let inside = is_inside plan moment.locals first Going nobody t local here refl in
    let reported : s.group (plan.group t) ≡ Reported (primary_result offer refuses) =
    freed_reported plan (families moment.words) moment.locals first Going t sound padded rule refl freed
    ∙ ap (λ x. Reported x) report in
    let found : moment.words (word.Ctrl t) ≡ release_code (Reported (primary_result offer refuses)) =
    found_freed plan (families moment.words) s t rule.says inside freed ∙ ap release_code reported in
    let goes =
    sibling_goes plan t h at polls mine (release_code (Reported (primary_result offer refuses))) own
    (release_told (Reported (primary_result offer refuses))) in
    by offer refuses report found
    (ap (λ w. after plan t local h (moment.words w)) (wait_touches t h) ∙ ap (after plan t local h) found ∙ goes)
  where
    kept :
        (new : Local) →
        after plan t (at_phase phase.SiblingWait at polls mine) h (moment.words (touched (wait_op t h)))
        ≡ (new, what.Inner) →
        (moment.words (word.Ctrl t) == 0) ≡ false →
        view plan t first new ≡ view plan t first (at_phase phase.SiblingWait at polls mine) →
        Knows Online plan t new (state plan first moment.locals Going) →
        Kept plan (event_of h t) moment (steps plan t h moment)
    kept new step some shows row =
        inner_kept plan moment t h (wait_op t h)
        (at_phase phase.SiblingWait at polls mine) new first first Going sound padded rule own here
        (sibling_op plan t h at polls mine)
        step
        (λ other. refl)
        shows
        (wait_words t h moment some)
        (subst (λ kind. Knows kind plan t new (state plan first moment.locals Going)) (sym online) row)
        (is_inside plan moment.locals first Going nobody t (at_phase phase.SiblingWait at polls mine) here refl)

    by :
        (offer : Option ℕ) (refuses : Bool) →
        report_of plan (plan.group t) ≡ primary_result offer refuses →
        moment.words (word.Ctrl t) ≡ release_code (Reported (primary_result offer refuses)) →
        after plan t (at_phase phase.SiblingWait at polls mine) h (moment.words (touched (wait_op t h)))
        ≡ by_release (at_phase phase.SiblingWait at polls mine) (release_code (Reported (primary_result offer refuses))) →
        Kept plan (event_of h t) moment (steps plan t h moment)
    by None refuses report found step =
        kept (at_phase phase.SiblingCopy at polls mine) step (ap (λ n. n == 0) found) refl
        ((primary, refl), freed, λ e. let same : results.Current ≡ results.Updated = sym report ∙ e in cc)
    by (Some o) true report found step =
        kept (at_phase phase.SiblingCopy at polls mine) step (ap (λ n. n == 0) found) refl
        ((primary, refl), freed, λ e. let same : results.Error ≡ results.Updated = sym report ∙ e in cc)
    by (Some o) false report found step =
        kept (at_phase phase.SiblingCheck at polls mine) step (ap (λ n. n == 0) found) refl
        ((primary, refl), freed, report)

sibling_by :
    (plan : Plan) (moment : Running) (t : ℕ) (h : How) (first : Bool) (at polls mine : ℕ) (freed : Bool) →
    Sound plan →
    Padded plan →
    RuleBy plan (families moment.words) moment.locals first Going →
    is_step h ≡ true →
    moment.locals t ≡ at_phase phase.SiblingWait at polls mine →
    plan.kind t ≡ Online →
    is_primary plan t ≡ false →
    (state plan first moment.locals Going).freed t ≡ freed → Kept plan (event_of h t) moment (steps plan t h moment)
unfolding operation after report_of
sibling_by plan moment t h first at polls mine true sound padded rule own here online primary freed =
    sibling_freed plan moment t h first at polls mine (plan.offer (plan.group t))
    (plan.refuse (plan.group t)) sound padded rule own here online primary freed refl
sibling_by plan moment t how.Step first at polls mine false sound padded rule own here online primary freed =
    let local = at_phase phase.SiblingWait at polls mine in
    let s = state plan first moment.locals Going in
    let found =
    found_unfreed plan (families moment.words) s t rule.says
    (is_inside plan moment.locals first Going nobody t local here refl) freed in
    poll_kept plan moment t how.Step (Load (word.Ctrl t)) local
    (polled local) first Going sound padded rule refl here refl
    (ap (after plan t local how.Step) found)
    refl
    (load_keeps moment.words (word.Ctrl t))
    (subst (λ kind. Knows kind plan t (polled local) s) (sym online) (primary, refl))
    (for_primary (record {
      is_online = online;
      is_in = is_inside plan moment.locals first Going moment.latched t local here refl;
      is_no_primary = primary;
      going = refl;
      not_freed = freed;
    }))
sibling_by plan moment t how.Timeout first at polls mine false sound padded rule own here online primary freed =
    let local = at_phase phase.SiblingWait at polls mine in
    let s = state plan first moment.locals Going in
    halt_kept plan moment t local first Going sound padded rule here refl refl refl
    (is_inside plan moment.locals first Going nobody t local here refl)
    freed
    (ap (λ k. may_halt k (is_primary plan t) Going) online ∙ ap (λ b. not b && true) primary)
    (subst (λ kind. Knows kind plan t (to local phase.Halted) (record s { place = put s.place t Halted })) (sym online)
    (primary, refl))
sibling_by plan moment t how.Nmi first at polls mine false sound padded rule own here online primary freed =
    absurd (true≢false (sym own))

sibling_wait_kept : (h : How) → is_step h ≡ true → KeepsTheRule phase.SiblingWait h
unfolding KeepsTheRule
sibling_wait_kept h own plan moment t sound padded rule phase_is =
    let l = moment.locals t in
    let at_thread =
    stands_in phase.SiblingWait plan
    (families moment.words) moment.locals rule.first rule.stage t rule.by phase_is refl in
    let row = at_thread.row in
    sibling_by plan moment t h rule.first l.at l.polls l.mine
    ((state plan rule.first moment.locals Going).freed t) sound padded
    (at_going plan (families moment.words) moment.locals rule.first rule.stage row.1 rule.by)
    own at_thread.here at_thread.online row.0 refl

pub sibling_wait_step : KeepsTheRule phase.SiblingWait how.Step
sibling_wait_step = sibling_wait_kept how.Step refl

pub sibling_wait_timeout : KeepsTheRule phase.SiblingWait how.Timeout
sibling_wait_timeout = sibling_wait_kept how.Timeout refl

-- An Offline thread.

hold_op :
    (plan : Plan) (t : ℕ) (h : How) (at polls mine : ℕ) →
    operation plan t (at_phase phase.OfflineHold at polls mine) h ≡ Some (wait_op t h)
unfolding operation wait_op
hold_op plan t how.Step at polls mine = refl
hold_op plan t how.Timeout at polls mine = refl
hold_op plan t how.Nmi at polls mine = refl

hold_goes :
    (plan : Plan) (t : ℕ) (h : How) (at polls mine d : ℕ) →
    is_step h ≡ true →
    (d == 0) ≡ false →
    after plan t (at_phase phase.OfflineHold at polls mine) h d ≡ (at_phase phase.Leaving at polls mine, what.Inner)
unfolding after
hold_goes plan t how.Step at polls mine d own e =
    let local = at_phase phase.OfflineHold at polls mine in
    not_taken (d == 0) (polled local, what.Poll) (at_phase phase.Leaving at polls mine, what.Inner) e
hold_goes plan t how.Timeout at polls mine d own e =
    let local = at_phase phase.OfflineHold at polls mine in
    not_taken (d == 0) (to local phase.Halted, what.Halt) (at_phase phase.Leaving at polls mine, what.Inner) e
hold_goes plan t how.Nmi at polls mine d own e = cc

hold_by :
    (plan : Plan) (moment : Running) (t : ℕ) (h : How) (first : Bool) (stage : Stage) (at polls mine : ℕ)
    (freed : Bool) →
    Sound plan →
    Padded plan →
    RuleBy plan (families moment.words) moment.locals first stage →
    is_step h ≡ true →
    moment.locals t ≡ at_phase phase.OfflineHold at polls mine →
    plan.kind t ≡ Offline →
    Came t mine (state plan first moment.locals stage) →
    (state plan first moment.locals stage).freed t ≡ freed → Kept plan (event_of h t) moment (steps plan t h moment)
unfolding operation after
hold_by plan moment t h first stage at polls mine true sound padded rule own here offline row freed =
    let local = at_phase phase.OfflineHold at polls mine in
    let new = at_phase phase.Leaving at polls mine in
    let s = state plan first moment.locals stage in
    let inside = is_inside plan moment.locals first stage nobody t local here refl in
    let found = found_freed plan (families moment.words) s t rule.says inside freed in
    let some : (moment.words (word.Ctrl t) == 0) ≡ false =
    ap (λ n. n == 0) found ∙ release_told (s.group (plan.group t)) in
    inner_kept plan moment t h (wait_op t h) local new first first stage sound padded rule own here
    (hold_op plan t h at polls mine)
    (ap (λ w. after plan t local h (moment.words w)) (wait_touches t h)
    ∙ hold_goes plan t h at polls mine (moment.words (word.Ctrl t)) own some)
    (λ other. refl)
    (no_primary_leaves plan t first at polls mine (offline_leads_not plan t sound padded offline) (ap is_timeout row.1))
    (wait_words t h moment some)
    (subst (λ kind. Knows kind plan t new s) (sym offline) (row, freed))
    inside
hold_by plan moment t how.Step first stage at polls mine false sound padded rule own here offline row freed =
    let local = at_phase phase.OfflineHold at polls mine in
    let s = state plan first moment.locals stage in
    let found =
    found_unfreed plan (families moment.words) s t rule.says
    (is_inside plan moment.locals first stage nobody t local here refl) freed in
    poll_kept plan moment t how.Step (Load (word.Ctrl t)) local
    (polled local) first stage sound padded rule refl here refl
    (ap (after plan t local how.Step) found)
    refl
    (load_keeps moment.words (word.Ctrl t))
    (subst (λ kind. Knows kind plan t (polled local) s) (sym offline) row)
    (to_be_freed (record {
      is_offline = offline;
      is_in = is_inside plan moment.locals first stage moment.latched t local here refl;
      has_arrived = ap (λ (w : View). w.arrived) (view_is plan moment.locals first t local here);
      not_freed = freed;
    }))
hold_by plan moment t how.Timeout first stage at polls mine false sound padded rule own here offline row freed =
    let local = at_phase phase.OfflineHold at polls mine in
    let s = state plan first moment.locals stage in
    halt_kept plan moment t local first stage sound padded rule here refl refl refl
    (is_inside plan moment.locals first stage nobody t local here refl)
    freed
    (ap (λ k. may_halt k (is_primary plan t) stage) offline)
    (subst (λ kind. Knows kind plan t (to local phase.Halted) (record s { place = put s.place t Halted }))
    (sym offline) row)
hold_by plan moment t how.Nmi first stage at polls mine false sound padded rule own here offline row freed =
    absurd (true≢false (sym own))

offline_hold_kept : (h : How) → is_step h ≡ true → KeepsTheRule phase.OfflineHold h
unfolding KeepsTheRule
offline_hold_kept h own plan moment t sound padded rule phase_is =
    let l = moment.locals t in
    let at_thread =
    stands_offline phase.OfflineHold plan
    (families moment.words) moment.locals rule.first rule.stage t rule.by phase_is refl in
    hold_by plan moment t h rule.first rule.stage l.at l.polls l.mine
    ((state plan rule.first moment.locals rule.stage).freed t) sound padded rule.by
    own at_thread.here at_thread.offline at_thread.row refl

pub offline_hold_step : KeepsTheRule phase.OfflineHold how.Step
offline_hold_step = offline_hold_kept how.Step refl

pub offline_hold_timeout : KeepsTheRule phase.OfflineHold how.Timeout
offline_hold_timeout = offline_hold_kept how.Timeout refl
