-- A thread counts itself in.
use Rattle.std.proofs.Common.{◌≡◌, ◌≢◌, ℕ, ◌+◌, ◌-◌, ◌%◌, ◌^◌, Bool, true, false, ◌&&◌, ◌==◌, if◌then◌else◌, refl, ap, sym, ◌∙◌, subst, arith, inl, inr, true≢false}
use mathlib.Core.Path.{fun_ext}
use Rattle.rendezvous_steps.specs.declared.steps.Kind.TheVariants.{Online}
use Rattle.rendezvous_steps.specs.declared.steps.Phase.TheVariants as phase
use Rattle.rendezvous_steps.specs.declared.steps.Local.{Local}
use Rattle.rendezvous_steps.specs.declared.steps.How.{How}
use Rattle.rendezvous_steps.specs.declared.steps.How.TheVariants as how
use Rattle.rendezvous_steps.specs.declared.operations.Word.TheVariants as word
use Rattle.rendezvous_steps.specs.declared.operations.Op.TheVariants.{Sub}
use Rattle.rendezvous_steps.specs.declared.items.What.TheVariants as what
use Rattle.rendezvous_steps.specs.Plan.{Plan, Sound, is_online}
use Rattle.rendezvous_steps.specs.Padded.{Padded}
use Rattle.rendezvous_steps.specs.Words.{Families, families}
use Rattle.rendezvous_steps.specs.StepTable.{operation, after, to, wait_in}
use Rattle.rendezvous_steps.specs.Events.{Running, put, steps}
use Rattle.rendezvous_model.specs.Round.{Stage, Going, State, nobody, only, is_gathering, still_awaited}
use Rattle.rendezvous_model.specs.RoundItems.{Arrives, decider_after}
use Rattle.rendezvous_rule.specs.View.{View, view, views}
use Rattle.rendezvous_rule.specs.Seen.{seen, words_of}
use Rattle.rendezvous_rule.specs.Knows.{Knows, AllHere}
use Rattle.rendezvous_rule.specs.Rule.{RuleBy, Gathered, AllOnlineHere}
use Rattle.rule_laws.specs.Kept.{Kept, event_of, is_step}
use Rattle.rule_laws.proofs.Count.{same_or_not}
use Rattle.rule_laws.proofs.Frame.{at_phase, put_same, put_other, put_all, put_back, grows, and_true, equal_numbers, same_numbers, different}
use Rattle.rule_laws.proofs.Tables.{only_arrived}
use Rattle.rule_laws.proofs.Later.{later_arrived}
use Rattle.rule_laws.proofs.Step.{step_kept, stands_in}
use Rattle.rule_laws.proofs.Facts.{state, view_is, is_inside, own_round}
use Rattle.round_laws.proofs.Kind.{KeepsTheRule}
use Rattle.round_laws.proofs.Paths.{plain}
use Rattle.round_laws.proofs.Arrivals.{one_less, few_awaited, awaited_less, offline_same, none_awaited, all_online_here}

-- What is so once an Online thread more has arrived.

grown_all : (plan : Plan) (arrived : ℕ → Bool) (t : ℕ) → AllHere plan arrived → AllHere plan (put arrived t true)
grown_all plan arrived t here u offline = grows arrived t u (here u offline)

-- while an Online thread is awaited nobody decides, and no go was decided
no_decider :
    (plan : Plan) (words : Families) (locals : ℕ → Local) (first : Bool) (stage : Stage) (t u : ℕ) →
    RuleBy plan words locals first stage →
    plan.kind t ≡ Online →
    (state plan first locals stage).arrived t ≡ false → (state plan first locals stage).is_decider u ≡ true → ⊥
no_decider plan words locals first stage t u rule online missing e =
    true≢false (sym (rule.gathered.decides_last u e t online) ∙ missing)

no_go :
    (plan : Plan) (words : Families) (locals : ℕ → Local) (first : Bool) (stage : Stage) (t : ℕ) →
    RuleBy plan words locals first stage →
    plan.kind t ≡ Online → (state plan first locals stage).arrived t ≡ false → stage ≢ Going
no_go plan words locals first stage t rule online missing e =
    true≢false (sym (rule.gathered.go_after_all e t online) ∙ missing)

-- the decider, by who stands in Deciding
decides_now : (stage : Stage) (table : ℕ → Bool) (t : ℕ) (last : Bool) → ℕ → Bool
decides_now stage table t last u = is_gathering stage && put table t last u

gathers_last :
    (g : Bool) (table : ℕ → Bool) (t : ℕ) (last : Bool) →
    table t ≡ false →
    (g ≡ true → last ≡ true → (u : ℕ) → table u ≡ false) →
    ◌≡◌ {A = ℕ → Bool} (λ u. g && put table t last u) (if g && last then only t else (λ u. g && table u))
gathers_last false table t last own none = refl
gathers_last true table t true own none =
    fun_ext
    (put_all (λ u b. b ≡ only t u) table t true (sym (same_numbers t t refl))
    (λ u other. none refl refl u ∙ sym (different u t other)))
gathers_last true table t false own none = put_back table t false (sym own)

counts_down : (n m : ℕ) → n ≡ m + 1 → (n == 1) ≡ (m == 0)
counts_down n m e = ap (λ x. x == 1) e ∙ by_zero m
  where
    by_zero : (m : ℕ) → (m + 1 == 1) ≡ (m == 0)
    by_zero m =
        elim (same_or_not m 0) [
          | inl zero ↦ same_numbers (m + 1) 1 (omega arith) ∙ sym (same_numbers m 0 zero)
          | inr more ↦ different (m + 1) 1 (λ f. more (omega arith)) ∙ sym (different m 0 more)
        ]

-- What others see of it: it has arrived, and decides or waits.
arrives_view :
    (plan : Plan) (t : ℕ) (first : Bool) (local : Local) (last : Bool) →
    view plan t first (if last then to local phase.Deciding else wait_in local phase.Waiting) ≡ plain plan t true last
arrives_view plan t first local true = refl
arrives_view plan t first local false = refl

arrives_row :
    (plan : Plan) (t : ℕ) (local : Local) (last : Bool) (s : State) →
    s.stage ≢ Going → Knows Online plan t (if last then to local phase.Deciding else wait_in local phase.Waiting) s
arrives_row plan t local true s not_yet = not_yet
arrives_row plan t local false s not_yet = tt

-- by whether it is the last of the Online threads
arrived_gathered :
    (plan : Plan) (words : Families) (locals : ℕ → Local) (first : Bool) (stage : Stage) (t : ℕ) (last : Bool) →
    Sound plan →
    Padded plan →
    RuleBy plan words locals first stage →
    plan.kind t ≡ Online →
    (let v = views plan first locals in
    v.arrived t ≡ false →
    v.deciding t ≡ false →
    (t ≡ 0 → AllHere plan v.arrived) →
    (last ≡ true → AllOnlineHere plan (put v.arrived t true)) →
    (AllOnlineHere plan (put v.arrived t true) → last ≡ true) →
    Gathered plan (put v.arrived t true) stage (decides_now stage v.deciding t last))
unfolding decides_now
arrived_gathered plan words locals first stage t last sound padded rule online missing undecided row complete full =
    let v = views plan first locals in
    let arrived = put v.arrived t true in
    let decider : (u : ℕ) → (is_gathering stage && put v.deciding t last u) ≡ true → (u ≡ t) × (last ≡ true) =
    λ u e.
    let parts = and_true (is_gathering stage) (put v.deciding t last u) e in
    elim (same_or_not u t) [
      | inl same ↦ (same, sym (put_same v.deciding t last) ∙ ap (put v.deciding t last) (sym same) ∙ parts.1)
      | inr other ↦
          absurd (no_decider plan words locals first stage t u rule online missing
          (both (is_gathering stage) (v.deciding u) parts.0 (sym (put_other v.deciding t u last other) ∙ parts.1)))
    ] in
    record {
      zero_last = λ e.
          elim (same_or_not 0 t) [
            | inl zero ↦ grown_all plan v.arrived t (row (sym zero))
            | inr other ↦
                grown_all plan v.arrived t (rule.gathered.zero_last (sym (put_other v.arrived t 0 true other) ∙ e))
          ];
      decides_last = λ u e. complete (decider u e).1;
      one_decides = λ u w e f. (decider u e).0 ∙ sym ((decider w f).0);
      somebody_decides = λ gathering here. (
        t,
        both (is_gathering stage) (put v.deciding t last t) (ap is_gathering gathering)
            (put_same v.deciding t last ∙ full here),
      );
      go_after_all = λ e. absurd (no_go plan words locals first stage t rule online missing e);
      kick_dropped = rule.gathered.kick_dropped;
      dropped_by_online = rule.gathered.dropped_by_online;
      zero_dropped = λ e. let was = rule.gathered.zero_dropped e in (grows v.arrived t 0 was.0, was.1);
    }
  where
    both : (a b : Bool) → a ≡ true → b ≡ true → (a && b) ≡ true
    both a b e f = rw (e, f) refl

arrives_kept :
    (plan : Plan) (moment : Running) (t : ℕ) (h : How) (first : Bool) (stage : Stage) (at polls mine : ℕ) →
    Sound plan →
    Padded plan →
    RuleBy plan (families moment.words) moment.locals first stage →
    is_step h ≡ true →
    moment.locals t ≡ at_phase phase.Arriving at polls mine →
    plan.kind t ≡ Online →
    (t ≡ 0 → AllHere plan (state plan first moment.locals stage).arrived) →
    Kept plan (event_of h t) moment (steps plan t h moment)
unfolding operation after words_of views decides_now
arrives_kept plan moment t h first stage at polls mine sound padded rule own here online row =
    let local = at_phase phase.Arriving at polls mine in
    let v = views plan first moment.locals in
    let s = λ (latched : ℕ → Bool). seen plan v stage latched in
    let n = still_awaited plan v.arrived in
    let arrived = put v.arrived t true in
    let m = still_awaited plan arrived in
    let last : Bool = moment.words word.Arrive == 1 in
    let new = if last then to local phase.Deciding else wait_in local phase.Waiting in
    let shows = view_is plan moment.locals first t local here in
    let missing : v.arrived t ≡ false = ap (λ (w : View). w.arrived) shows in
    let undecided : v.deciding t ≡ false = ap (λ (w : View). w.deciding) shows in
    let found : moment.words word.Arrive ≡ n = ap (λ (w : Families). w.arrive) rule.says in
    let down : n ≡ m + 1 = awaited_less plan v.arrived t padded online missing in
    let last_is : last ≡ (m == 0) = ap (λ x. x == 1) found ∙ counts_down n m down in
    let complete : last ≡ true → AllOnlineHere plan arrived =
    λ e. none_awaited plan arrived padded (equal_numbers m 0 (sym last_is ∙ e)) in
    let full : AllOnlineHere plan arrived → last ≡ true =
    λ everyone. last_is ∙ same_numbers m 0 (all_online_here plan arrived everyone) in
    let next =
    λ (latched : ℕ → Bool). record
    (s latched) { arrived = arrived; is_decider = decides_now stage v.deciding t last } in
    let by_count : decides_now stage v.deciding t last ≡ decider_after plan t (s moment.latched) arrived =
    gathers_last (is_gathering stage) v.deciding t last undecided
    (λ g e u. nobody_decides (v.deciding u)
    (λ f. no_decider plan (families moment.words) moment.locals first stage t u rule online missing
    (ap (λ b. b && v.deciding u) g ∙ f)))
    ∙ ap {A = Bool} {B = ℕ → Bool}
    (λ b. if is_gathering stage && b then only t else (s moment.latched).is_decider) last_is
    ∙ ap {A = Bool} {B = ℕ → Bool} (λ b. if b && (m == 0) then only t else (s moment.latched).is_decider)
    (sym (and_one (is_gathering stage)))
    ∙ ap {A = Bool} {B = ℕ → Bool}
    (λ b. if (is_gathering stage && b) && (m == 0) then only t else (s moment.latched).is_decider)
    (sym (ap is_online online)) in
    let arrives : Arrives plan t (s moment.latched) (next moment.latched) =
    record {
      is_in = is_inside plan moment.locals first stage moment.latched t local here refl;
      not_arrived = missing;
      zero_after_offline = row;
      change = ap (λ d. record (s moment.latched) { arrived = arrived; is_decider = d }) by_count;
    } in
    step_kept plan moment t h (Sub word.Arrive 1) local new what.Arrive first first stage stage next
    sound padded rule here refl refl (λ other. refl)
    (record {
      sees = λ latched.
          ap (λ x. seen plan x stage latched)
          (only_arrived v t (view plan t first new) true last
          (arrives_view plan t first local last
          ∙ ap (λ (w : View). record w { arrived = true; deciding = last }) (sym shows)));
      says =
          ap (λ d. record (families moment.words) { arrive = (d + (2 ^ 64 - 1)) % 2 ^ 64 }) found
          ∙ ap (λ d. record (families moment.words) { arrive = d })
          (one_less n (omega arith) (few_awaited plan v.arrived sound) ∙ less n m down)
          ∙ ap (λ (w : Families). record w { arrive = m }) rule.says
          ∙ ap (λ k. record (words_of plan (s nobody)) { arrive = m; off_in = k })
          (offline_same plan v.arrived t online);
      gathered =
          arrived_gathered plan
          (families moment.words) moment.locals first stage t last sound padded rule online missing undecided row
          complete full;
      later = later_arrived t (s nobody) t (decides_now stage v.deciding t last);
    })
    (subst (λ kind. Knows kind plan t new (next nobody)) (sym online)
    (arrives_row plan t local last (next nobody)
    (no_go plan (families moment.words) moment.locals first stage t rule online missing)))
    (own_round plan t h (s moment.latched) (next moment.latched) what.Arrive own (refl, arrives) (refl, arrives))
  where
    nobody_decides : (b : Bool) → (b ≡ true → ⊥) → b ≡ false
    nobody_decides true f = absurd (f refl)
    nobody_decides false f = refl

    and_one : (b : Bool) → (b && true) ≡ b
    and_one true = refl
    and_one false = refl

    less : (n m : ℕ) → n ≡ m + 1 → n - 1 ≡ m
    less n m e = omega arith

arriving_kept : (h : How) → is_step h ≡ true → KeepsTheRule phase.Arriving h
unfolding KeepsTheRule
arriving_kept h own plan moment t sound padded rule phase_is =
    let l = moment.locals t in
    let at_thread =
    stands_in phase.Arriving plan (families moment.words) moment.locals rule.first rule.stage t rule.by phase_is refl in
    arrives_kept plan moment t h rule.first rule.stage l.at l.polls l.mine sound padded rule.by own at_thread.here
    at_thread.online at_thread.row

pub arriving_step : KeepsTheRule phase.Arriving how.Step
arriving_step = arriving_kept how.Step refl

pub arriving_timeout : KeepsTheRule phase.Arriving how.Timeout
arriving_timeout = arriving_kept how.Timeout refl
