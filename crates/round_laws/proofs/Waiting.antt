-- A thread that has arrived waits for the decision: it polls, takes the path that it finds, or drops.
use Rattle.std.proofs.Common.{◌≡◌, ◌≢◌, ◌⊎◌, Some, ℕ, ◌+◌, ◌-◌, ◌<◌, Bool, true, false, cond, ◌||◌, ◌==◌, if◌then◌else◌, refl, ap, sym, ◌∙◌, subst, arith, inl, inr, true≢false, eq-zero-or-pos}
use Rattle.rendezvous_steps.specs.declared.steps.Kind.{Kind}
use Rattle.rendezvous_steps.specs.declared.steps.Kind.TheVariants.{Online, Offline, Absent}
use Rattle.rendezvous_steps.specs.declared.steps.Phase.{Phase}
use Rattle.rendezvous_steps.specs.declared.steps.Phase.TheVariants as phase
use Rattle.rendezvous_steps.specs.declared.steps.Local.{Local}
use Rattle.rendezvous_steps.specs.declared.steps.How.{How}
use Rattle.rendezvous_steps.specs.declared.steps.How.TheVariants as how
use Rattle.rendezvous_steps.specs.declared.operations.Word.TheVariants as word
use Rattle.rendezvous_steps.specs.declared.operations.Op.{Op}
use Rattle.rendezvous_steps.specs.declared.operations.Op.TheVariants.{Cas, Load}
use Rattle.rendezvous_steps.specs.declared.items.What.TheVariants as what
use Rattle.rendezvous_steps.specs.Plan.{Plan, Sound, is_online, online_count}
use Rattle.rendezvous_steps.specs.Padded.{Padded}
use Rattle.rendezvous_steps.specs.Words.{Families, families, touched, words_after}
use Rattle.rendezvous_steps.specs.StepTable.{operation, after, after_in, go_path, drop_path, polled, by_decision}
use Rattle.rendezvous_steps.specs.Events.{Running, steps}
use Rattle.rendezvous_model.specs.Round.{Stage, Gathering, Going, DroppedByKick, DroppedBy, State, nobody, is_dropped, is_gathering}
use Rattle.rendezvous_model.specs.Round as round
use Rattle.rendezvous_model.specs.RoundItems.{Drops}
use Rattle.rendezvous_model.specs.RoundEnds.{for_decision}
use Rattle.rendezvous_model.specs.Outcome.{decide_of}
use Rattle.rendezvous_rule.specs.View.{View, view, views, decides_in}
use Rattle.rendezvous_rule.specs.Seen.{seen, words_of}
use Rattle.rendezvous_rule.specs.Knows.{Knows}
use Rattle.rendezvous_rule.specs.Rule.{RuleBy, AllOnlineHere}
use Rattle.rule_laws.specs.Kept.{Kept, event_of, is_step}
use Rattle.rule_laws.proofs.Count.{count, count_some, same_or_not}
use Rattle.rule_laws.proofs.Threads.{count_zero_first}
use Rattle.rule_laws.proofs.Search.{online_in_range}
use Rattle.rule_laws.proofs.Frame.{at_phase, and_true}
use Rattle.rule_laws.proofs.Tables.{same_view}
use Rattle.rule_laws.proofs.Later.{later_stage}
use Rattle.rule_laws.proofs.Step.{step_kept, inner_kept, poll_kept, stands_in}
use Rattle.rule_laws.proofs.Facts.{state, view_is, is_inside}
use Rattle.round_laws.proofs.Kind.{KeepsTheRule}
use Rattle.round_laws.proofs.Found.{load_keeps, cas_keeps, dropped_not_0, dropped_not_1, not_taken}
use Rattle.round_laws.proofs.Paths.{plain, go_view, go_row, drop_arrived, drop_row, given_anew}

-- Thread 0 that waits while nothing is decided is not the only Online thread.

-- another Online thread than thread 0 is counted
another_online :
    (plan : Plan) → Sound plan → Padded plan → (u : ℕ) → 0 ≢ u → plan.kind u ≡ Online → 1 < online_count plan
unfolding online_count
another_online plan sound padded u other online =
    let test = λ (v : ℕ). is_online (plan.kind v) in
    let within = online_in_range plan padded u online in
    let some : 0 < count test 1 (plan.threads - 1) =
    count_some test 1 (plan.threads - 1) u (omega arith) (omega arith) (ap is_online online) in
    let first : test 0 ≡ true = ap is_online sound.thread_0_is_online in
    let all : online_count plan ≡ cond (test 0) 1 0 + count test 1 (plan.threads - 1) =
    count_zero_first plan test sound.some_thread in
    let all' : online_count plan ≡ 1 + count test 1 (plan.threads - 1) = rw first at all in
    omega arith

-- where thread 0 is the only Online thread and has arrived, all Online threads have
alone_here :
    (plan : Plan) (arrived : ℕ → Bool) →
    Sound plan → Padded plan → (1 < online_count plan → ⊥) → arrived 0 ≡ true → AllOnlineHere plan arrived
alone_here plan arrived sound padded alone here t online =
    elim (same_or_not 0 t) [
      | inl zero ↦ ap arrived (sym zero) ∙ here
      | inr other ↦ absurd (alone (another_online plan sound padded t other online))
    ]

decider_by :
    (p : Phase) (plan : Plan) (t at polls mine : ℕ) (s : State) (kind : Kind) → decides_in p ≡ true →
    Knows kind plan t (at_phase p at polls mine) s → kind ≡ Online
decider_by p plan t at polls mine s Online e knows = refl
decider_by phase.Deciding plan t at polls mine s Offline e knows = absurd knows
decider_by p plan t at polls mine s Offline e knows = cc
decider_by p plan t at polls mine s Absent e knows = absurd (true≢false (sym e ∙ ap decides_in knows))

-- who decides is Online
decider_online :
    (plan : Plan) (words : Families) (locals : ℕ → Local) (first : Bool) (stage : Stage) (t : ℕ) →
    RuleBy plan words locals first stage → (state plan first locals stage).is_decider t ≡ true → plan.kind t ≡ Online
unfolding views
decider_online plan words locals first stage t rule e =
    let l = locals t in
    decider_by l.phase plan t l.at l.polls l.mine (state plan first locals stage) (plan.kind t)
    (and_true (is_gathering stage) (decides_in l.phase) e).1
    (rule.knows t)

not_alone :
    (plan : Plan) (words : Families) (locals : ℕ → Local) (first : Bool) →
    Sound plan →
    Padded plan →
    RuleBy plan words locals first Gathering →
    (views plan first locals).arrived 0 ≡ true → (views plan first locals).deciding 0 ≡ false → 1 < online_count plan
not_alone plan words locals first sound padded rule arrived decides =
    elim (more_or_not (online_count plan)) [
      | inl more ↦ more
      | inr alone ↦
          let there =
          rule.gathered.somebody_decides refl
          (alone_here plan (views plan first locals).arrived sound padded alone arrived) in
          elim (same_or_not 0 there.0) [
            | inl same ↦ absurd (true≢false (sym there.1 ∙ ap (views plan first locals).deciding (sym same) ∙ decides))
            | inr other ↦
                another_online plan sound padded there.0 other
                (decider_online plan words locals first Gathering there.0 rule there.1)
          ]
    ]
  where
    more_or_not : (n : ℕ) → (1 < n) ⊎ (1 < n → ⊥)
    more_or_not n =
        elim (eq-zero-or-pos (n - 1)) [
          | inl none ↦ inr (λ h. omega arith)
          | inr some ↦ inl (omega arith)
        ]

-- What others see of it.

waiting_view :
    (plan : Plan) (t : ℕ) (first : Bool) (at polls mine : ℕ) →
    view plan t first (at_phase phase.Waiting at polls mine) ≡ plain plan t true false
waiting_view plan t first at polls mine = refl

-- Nothing is decided, and it is out of patience: it drops.
drops_kept :
    (plan : Plan) (moment : Running) (t : ℕ) (first : Bool) (at polls mine : ℕ) →
    Sound plan →
    Padded plan →
    RuleBy plan (families moment.words) moment.locals first Gathering →
    moment.locals t ≡ at_phase phase.Waiting at polls mine →
    plan.kind t ≡ Online → Kept plan (event_of how.Timeout t) moment (steps plan t how.Timeout moment)
unfolding operation after words_of views
drops_kept plan moment t first at polls mine sound padded rule here online =
    let local = at_phase phase.Waiting at polls mine in
    let new = drop_path plan t local in
    let v = views plan first moment.locals in
    let s = λ (latched : ℕ → Bool). seen plan v Gathering latched in
    let next = λ (latched : ℕ → Bool). record (s latched) { stage = DroppedBy t; is_decider = nobody } in
    let found : moment.words word.Decide ≡ 0 = ap (λ (w : Families). w.decide) rule.says in
    let arrived : v.arrived t ≡ true =
    ap (λ (w : View). w.arrived)
    (view_is plan moment.locals first t local here ∙ waiting_view plan t first at polls mine) in
    let decides : v.deciding t ≡ false =
    ap (λ (w : View). w.deciding) (view_is plan moment.locals first t local here) in
    let drops : Drops plan t round.Timeout (s moment.latched) (next moment.latched) =
    record {
      out_of_patience = refl;
      gathering = refl;
      is_online = online;
      is_in = is_inside plan moment.locals first Gathering moment.latched t local here refl;
      has_arrived = arrived;
      decides_not = decides;
      change = refl;
    } in
    step_kept plan moment t how.Timeout (Cas word.Decide 0 (3 + t)) local new what.Drop first
    ((t == 0) || first) Gathering (DroppedBy t) next
    sound padded rule here refl (ap (after plan t local how.Timeout) found) (given_anew t first)
    (record {
      sees = λ latched.
          ap (λ x. seen plan x (DroppedBy t) latched)
          (same_view v t (view plan t ((t == 0) || first) new)
          (drop_arrived plan t first local padded ∙ sym (view_is plan moment.locals first t local here)));
      says =
          ap (λ d. record (families moment.words) { decide = if d == 0 then 3 + t else d }) found
          ∙ ap (λ (w : Families). record w { decide = 3 + t }) rule.says;
      gathered =
          record {
            zero_last = rule.gathered.zero_last;
            decides_last = λ u e. cc;
            one_decides = λ u w e. cc;
            somebody_decides = λ e. cc;
            go_after_all = λ e. cc;
            kick_dropped = λ e. cc;
            dropped_by_online = λ u e. ap plan.kind (sym (same_thread t u e)) ∙ online;
            zero_dropped = λ e.
                let zero = same_thread t 0 e in
                let zero_arrived : v.arrived 0 ≡ true = ap v.arrived (sym zero) ∙ arrived in (
                  zero_arrived,
                  not_alone plan
                      (families moment.words) moment.locals first sound padded rule zero_arrived
                      (ap v.deciding (sym zero) ∙ decides),
                );
          };
      later = later_stage t (state plan first moment.locals Gathering) (DroppedBy t) nobody refl (λ e u f. cc);
    })
    (subst (λ kind. Knows kind plan t new (next nobody)) (sym online) (drop_row plan t local (next nobody) refl))
    drops
  where
    open_thread : Stage → ℕ
    open_thread (DroppedBy u) = u
    open_thread stage = 0

    same_thread : (t u : ℕ) → DroppedBy t ≡ DroppedBy u → t ≡ u
    same_thread t u e = ap open_thread e

-- The decision is made: it takes the path that it finds.

took :
    (plan : Plan) (t : ℕ) (local : Local) (h : How) (d : ℕ) → is_step h ≡ true → local.phase ≡ phase.Waiting →
    (d == 0) ≡ false → after plan t local h d ≡ by_decision plan t local d
unfolding after
took plan t local how.Step d own e f =
    ap (λ p. after_in plan t local how.Step d p) e
    ∙ not_taken (d == 0) (polled local, what.Poll) (by_decision plan t local d) f
took plan t local how.Timeout d own e f =
    ap (λ p. after_in plan t local how.Timeout d p) e
    ∙ not_taken (d == 0) (drop_path plan t local, what.Drop) (by_decision plan t local d) f
took plan t local how.Nmi d own e f = cc

took_op : (plan : Plan) (t : ℕ) (h : How) → Op
took_op plan t how.Timeout = Cas word.Decide 0 (3 + t)
took_op plan t h = Load word.Decide

took_words :
    (plan : Plan) (t : ℕ) (h : How) (moment : Running) →
    (moment.words word.Decide == 0) ≡ false →
    families (words_after moment.words (took_op plan t h)) ≡ families moment.words
unfolding took_op
took_words plan t how.Step moment e = load_keeps moment.words word.Decide
took_words plan t how.Timeout moment e = cas_keeps moment.words word.Decide 0 (3 + t) e
took_words plan t how.Nmi moment e = load_keeps moment.words word.Decide

took_does :
    (plan : Plan) (t : ℕ) (h : How) (at polls mine : ℕ) →
    operation plan t (at_phase phase.Waiting at polls mine) h ≡ Some (took_op plan t h)
unfolding operation took_op
took_does plan t how.Step at polls mine = refl
took_does plan t how.Timeout at polls mine = refl
took_does plan t how.Nmi at polls mine = refl

took_touches : (plan : Plan) (t : ℕ) (h : How) → touched (took_op plan t h) ≡ word.Decide
unfolding took_op
took_touches plan t how.Step = refl
took_touches plan t how.Timeout = refl
took_touches plan t how.Nmi = refl

takes_go :
    (plan : Plan) (moment : Running) (t : ℕ) (h : How) (first : Bool) (at polls mine : ℕ) →
    Sound plan →
    Padded plan →
    RuleBy plan (families moment.words) moment.locals first Going →
    is_step h ≡ true →
    moment.locals t ≡ at_phase phase.Waiting at polls mine →
    plan.kind t ≡ Online → Kept plan (event_of h t) moment (steps plan t h moment)
unfolding words_of
takes_go plan moment t h first at polls mine sound padded rule own here online =
    let local = at_phase phase.Waiting at polls mine in
    let new = go_path plan t local in
    let found : moment.words word.Decide ≡ 1 = ap (λ (w : Families). w.decide) rule.says in
    let s = state plan first moment.locals Going in
    inner_kept plan moment t h (took_op plan t h) local new first first Going sound padded rule own here
    (took_does plan t h at polls mine)
    (ap (λ w. after plan t local h (moment.words w)) (took_touches plan t h)
    ∙ ap (after plan t local h) found
    ∙ took plan t local h 1 own refl refl)
    (λ other. refl)
    (go_view plan t first local ∙ sym (waiting_view plan t first at polls mine))
    (took_words plan t h moment (ap (λ n. n == 0) found))
    (subst (λ kind. Knows kind plan t new s) (sym online) (go_row plan t local s refl))
    (is_inside plan moment.locals first Going nobody t local here refl)

takes_drop :
    (plan : Plan) (moment : Running) (t : ℕ) (h : How) (first : Bool) (stage : Stage) (at polls mine : ℕ) →
    Sound plan →
    Padded plan →
    RuleBy plan (families moment.words) moment.locals first stage →
    is_step h ≡ true →
    is_dropped stage ≡ true →
    moment.locals t ≡ at_phase phase.Waiting at polls mine →
    plan.kind t ≡ Online → Kept plan (event_of h t) moment (steps plan t h moment)
unfolding words_of
takes_drop plan moment t h first stage at polls mine sound padded rule own dropped here online =
    let local = at_phase phase.Waiting at polls mine in
    let new = drop_path plan t local in
    let d = decide_of stage in
    let found : moment.words word.Decide ≡ d = ap (λ (w : Families). w.decide) rule.says in
    let s = state plan first moment.locals stage in
    inner_kept plan moment t h (took_op plan t h) local new first ((t == 0) || first) stage sound padded rule own here
    (took_does plan t h at polls mine)
    (ap (λ w. after plan t local h (moment.words w)) (took_touches plan t h)
    ∙ ap (after plan t local h) found
    ∙ took plan t local h d own refl (dropped_not_0 stage dropped)
    ∙ not_taken (d == 1) (go_path plan t local, what.Inner) (new, what.Inner) (dropped_not_1 stage dropped))
    (given_anew t first)
    (drop_arrived plan t first local padded ∙ sym (waiting_view plan t first at polls mine))
    (took_words plan t h moment (ap (λ n. n == 0) found ∙ dropped_not_0 stage dropped))
    (subst (λ kind. Knows kind plan t new s) (sym online) (drop_row plan t local s dropped))
    (is_inside plan moment.locals first stage nobody t local here refl)

-- Nothing is decided: it polls.
polls_kept :
    (plan : Plan) (moment : Running) (t : ℕ) (first : Bool) (at polls mine : ℕ) →
    Sound plan →
    Padded plan →
    RuleBy plan (families moment.words) moment.locals first Gathering →
    moment.locals t ≡ at_phase phase.Waiting at polls mine →
    plan.kind t ≡ Online → Kept plan (event_of how.Step t) moment (steps plan t how.Step moment)
unfolding operation after words_of views
polls_kept plan moment t first at polls mine sound padded rule here online =
    let local = at_phase phase.Waiting at polls mine in
    let v = views plan first moment.locals in
    let found : moment.words word.Decide ≡ 0 = ap (λ (w : Families). w.decide) rule.says in
    poll_kept plan moment t how.Step (Load word.Decide) local
    (polled local) first Gathering sound padded rule refl here refl
    (ap (after plan t local how.Step) found)
    refl
    (load_keeps moment.words word.Decide)
    (subst (λ kind. Knows kind plan t (polled local) (state plan first moment.locals Gathering)) (sym online) tt)
    (for_decision (record {
      is_online = online;
      is_in = is_inside plan moment.locals first Gathering moment.latched t local here refl;
      has_arrived =
          ap (λ (w : View). w.arrived)
          (view_is plan moment.locals first t local here ∙ waiting_view plan t first at polls mine);
      gathering = refl;
      decides_not = ap (λ (w : View). w.deciding) (view_is plan moment.locals first t local here);
    }))

waits_by :
    (plan : Plan) (moment : Running) (t : ℕ) (h : How) (first : Bool) (stage : Stage) (at polls mine : ℕ) →
    Sound plan →
    Padded plan →
    RuleBy plan (families moment.words) moment.locals first stage →
    is_step h ≡ true →
    moment.locals t ≡ at_phase phase.Waiting at polls mine →
    plan.kind t ≡ Online → Kept plan (event_of h t) moment (steps plan t h moment)
waits_by plan moment t how.Step first Gathering at polls mine sound padded rule own here online =
    polls_kept plan moment t first at polls mine sound padded rule here online
waits_by plan moment t how.Timeout first Gathering at polls mine sound padded rule own here online =
    drops_kept plan moment t first at polls mine sound padded rule here online
waits_by plan moment t how.Nmi first Gathering at polls mine sound padded rule own here online =
    absurd (true≢false (sym own))
waits_by plan moment t h first Going at polls mine sound padded rule own here online =
    takes_go plan moment t h first at polls mine sound padded rule own here online
waits_by plan moment t h first DroppedByKick at polls mine sound padded rule own here online =
    takes_drop plan moment t h first DroppedByKick at polls mine sound padded rule own refl here online
waits_by plan moment t h first (DroppedBy u) at polls mine sound padded rule own here online =
    takes_drop plan moment t h first (DroppedBy u) at polls mine sound padded rule own refl here online

waiting_kept : (h : How) → is_step h ≡ true → KeepsTheRule phase.Waiting h
unfolding KeepsTheRule
waiting_kept h own plan moment t sound padded rule phase_is =
    let l = moment.locals t in
    let at_thread =
    stands_in phase.Waiting plan (families moment.words) moment.locals rule.first rule.stage t rule.by phase_is refl in
    waits_by plan moment t h rule.first rule.stage l.at l.polls l.mine sound padded rule.by own at_thread.here
    at_thread.online

pub waiting_step : KeepsTheRule phase.Waiting how.Step
waiting_step = waiting_kept how.Step refl

pub waiting_timeout : KeepsTheRule phase.Waiting how.Timeout
waiting_timeout = waiting_kept how.Timeout refl
