-- Thread 0 kicks an Offline thread.
use Rattle.std.proofs.Common.{◌≡◌, ℕ, ◌+◌, Bool, true, false, ◌&&◌, nat_lt, Option, Some, None, refl, ap, sym, ◌∙◌, subst}
use mathlib.Core.Path.{fun_ext}
use Rattle.rendezvous_steps.specs.declared.steps.Kind.TheVariants.{Offline}
use Rattle.rendezvous_steps.specs.declared.steps.Phase.TheVariants as phase
use Rattle.rendezvous_steps.specs.declared.steps.How.{How}
use Rattle.rendezvous_steps.specs.declared.steps.How.TheVariants as how
use Rattle.rendezvous_steps.specs.declared.operations.Word.TheVariants as word
use Rattle.rendezvous_steps.specs.declared.operations.Op.TheVariants.{Store}
use Rattle.rendezvous_steps.specs.declared.items.What.TheVariants as what
use Rattle.rendezvous_steps.specs.Plan.{Plan, Sound, is_offline, offline_from}
use Rattle.rendezvous_steps.specs.Padded.{Padded}
use Rattle.rendezvous_steps.specs.Words.{Families, families}
use Rattle.rendezvous_steps.specs.StepTable.{operation, after, kick_at}
use Rattle.rendezvous_steps.specs.Events.{Running, put, steps}
use Rattle.rendezvous_model.specs.Round.{State, Stage}
use Rattle.rendezvous_model.specs.RoundItems.{Kicks}
use Rattle.rendezvous_rule.specs.View.{View, view, views}
use Rattle.rendezvous_rule.specs.Seen.{seen, words_of, nmi_code}
use Rattle.rendezvous_rule.specs.Knows.{Knows, OnlineKnows}
use Rattle.rendezvous_rule.specs.Rule.{RuleBy}
use Rattle.rule_laws.specs.Kept.{Kept, event_of, is_step}
use Rattle.rule_laws.proofs.Frame.{at_phase, coded, and_false, some_offline, not_itself}
use Rattle.rule_laws.proofs.Tables.{only_kicks, sees_kicks}
use Rattle.rule_laws.proofs.Later.{later_kicked}
use Rattle.rule_laws.proofs.Step.{step_kept, stands_in}
use Rattle.rule_laws.proofs.Loops.{past, offline_goes_on, offline_found}
use Rattle.rule_laws.proofs.Facts.{state, view_is, is_inside, own_round, unkicked_is_out}
use Rattle.round_laws.proofs.Kind.{KeepsTheRule}

-- what others see of it: whom it has kicked
kicks_view :
    (plan : Plan) (first : Bool) (k polls mine : ℕ) (next : Option ℕ) →
    view plan 0 first (kick_at (at_phase phase.Kicking k polls mine) next)
    ≡ record
    (view plan 0 first (at_phase phase.Kicking k polls mine)) { kicks = λ u. is_offline (plan.kind u) && past next u }
kicks_view plan first k polls mine (Some l) = refl
kicks_view plan first k polls mine None = refl

-- what it knows then
kicks_row :
    (plan : Plan) (k polls mine : ℕ) (next : Option ℕ) (s : State) →
    Padded plan →
    plan.kind k ≡ Offline →
    offline_from plan (k + 1) ≡ next →
    (let new = kick_at (at_phase phase.Kicking k polls mine) next in OnlineKnows new.phase plan 0 new.at new.mine s)
kicks_row plan k polls mine (Some l) s padded offline e = (refl, offline_found plan (k + 1) l e)
kicks_row plan k polls mine None s padded offline e = (refl, some_offline plan padded k offline)

kick_kept :
    (plan : Plan) (moment : Running) (h : How) (first : Bool) (stage : Stage) (k polls mine : ℕ) →
    Sound plan →
    Padded plan →
    RuleBy plan (families moment.words) moment.locals first stage →
    is_step h ≡ true →
    moment.locals 0 ≡ at_phase phase.Kicking k polls mine →
    plan.kind k ≡ Offline → Kept plan (event_of h 0) moment (steps plan 0 h moment)
unfolding operation after put words_of views
kick_kept plan moment h first stage k polls mine sound padded rule own here offline =
    let local = at_phase phase.Kicking k polls mine in
    let next = offline_from plan (k + 1) in
    let v = views plan first moment.locals in
    let s = λ (latched : ℕ → Bool). seen plan v stage latched in
    let set = λ (u : ℕ). is_offline (plan.kind u) && past next u in
    let was : v.kicks 0 ≡ (λ u. is_offline (plan.kind u) && nat_lt u k) =
    ap (λ w. w.kicks) (view_is plan moment.locals first 0 local here) in
    let now : set ≡ put (v.kicks 0) k true =
    fun_ext (offline_goes_on plan k next padded offline refl) ∙ ap (λ table. put table k true) (sym was) in
    let not_kicked : v.kicks 0 k ≡ false =
    ap (λ table. table k) was ∙ and_false (is_offline (plan.kind k)) (nat_lt k k) (not_itself k) in
    let out = unkicked_is_out plan (families moment.words) moment.locals first stage k rule offline not_kicked in
    let kicks : (latched : ℕ → Bool) →
    Kicks plan 0 k (s latched) (record (s latched) { kicked = put (s latched).kicked k true }) =
    λ latched. record {
      by_zero = refl;
      is_in = is_inside plan moment.locals first stage latched 0 local here refl;
      not_arrived = ap (λ l. (view plan 0 first l).arrived) here;
      of_offline = offline;
      not_kicked = not_kicked;
      change = refl;
    } in
    let code : 1 ≡ nmi_code (plan.kind k) true ((state plan first moment.locals stage).place k) =
    sym
    (ap (λ kind. nmi_code kind true ((state plan first moment.locals stage).place k)) offline
    ∙ ap (nmi_code Offline true) out) in
    step_kept plan moment 0 h (Store (word.Nmi k) 1) local (kick_at local next) (what.Kick k) first first stage stage
    (λ latched. record (s latched) { kicked = put (s latched).kicked k true })
    sound padded rule here refl refl (λ other. refl)
    (record {
      sees = λ latched.
          ap (λ x. seen plan x stage latched)
          (only_kicks v 0 (view plan 0 first (kick_at local next)) set
          (kicks_view plan first k polls mine next
          ∙ ap (λ (w : View). record w { kicks = set }) (sym (view_is plan moment.locals first 0 local here))))
          ∙ sees_kicks plan v stage latched set
          ∙ ap (λ z. record (s latched) { kicked = z }) now;
      says =
          ap (λ (w : Families). record w { nmi = put w.nmi k 1 }) rule.says
          ∙ ap (λ n. record (words_of plan (state plan first moment.locals stage)) { nmi = n })
          (coded (λ u b. nmi_code (plan.kind u) b ((state plan first moment.locals stage).place u))
          (v.kicks 0) k true 1 code);
      gathered = rule.gathered;
      later = later_kicked 0 (state plan first moment.locals stage) k;
    })
    (subst
    (λ kind. Knows kind plan 0 (kick_at local next)
    (record (state plan first moment.locals stage) { kicked = put (v.kicks 0) k true }))
    (sym sound.thread_0_is_online)
    (kicks_row plan k polls mine next _ padded offline refl))
    (own_round plan 0 h _ _ (what.Kick k) own (refl, kicks moment.latched) (refl, kicks moment.latched))

kicking_kept : (h : How) → is_step h ≡ true → KeepsTheRule phase.Kicking h
unfolding KeepsTheRule
kicking_kept h own plan moment t sound padded rule phase_is =
    let at_thread =
    stands_in phase.Kicking plan (families moment.words) moment.locals rule.first rule.stage t rule.by phase_is refl in
    let zero = at_thread.row.0 in
    subst (λ u. Kept plan (event_of h u) moment (steps plan u h moment)) (sym zero)
    (kick_kept plan moment h rule.first rule.stage (moment.locals t).at (moment.locals t).polls
    (moment.locals t).mine sound padded rule.by own
    (ap moment.locals (sym zero) ∙ at_thread.here)
    at_thread.row.1)

pub kicking_step : KeepsTheRule phase.Kicking how.Step
kicking_step = kicking_kept how.Step refl

pub kicking_timeout : KeepsTheRule phase.Kicking how.Timeout
kicking_timeout = kicking_kept how.Timeout refl
