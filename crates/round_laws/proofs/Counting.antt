-- An Offline thread counts itself in.
use Rattle.std.proofs.Common.{◌≡◌, ◌≢◌, ℕ, ◌+◌, ◌%◌, ◌^◌, Bool, true, false, ◌&&◌, ◌==◌, if◌then◌else◌, refl, ap, sym, ◌∙◌, subst}
use Rattle.rendezvous_steps.specs.declared.steps.Kind.TheVariants.{Offline}
use Rattle.rendezvous_steps.specs.declared.steps.Phase.TheVariants as phase
use Rattle.rendezvous_steps.specs.declared.steps.How.{How}
use Rattle.rendezvous_steps.specs.declared.steps.How.TheVariants as how
use Rattle.rendezvous_steps.specs.declared.operations.Word.TheVariants as word
use Rattle.rendezvous_steps.specs.declared.operations.Op.TheVariants.{Add}
use Rattle.rendezvous_steps.specs.declared.items.What.TheVariants as what
use Rattle.rendezvous_steps.specs.Plan.{Plan, Sound, is_online}
use Rattle.rendezvous_steps.specs.Padded.{Padded}
use Rattle.rendezvous_steps.specs.Words.{Families, families}
use Rattle.rendezvous_steps.specs.StepTable.{operation, after}
use Rattle.rendezvous_steps.specs.Events.{Running, put, steps}
use Rattle.rendezvous_model.specs.Round.{Stage, nobody, only, is_gathering, offline_arrived, still_awaited}
use Rattle.rendezvous_model.specs.RoundItems.{Arrives, decider_after}
use Rattle.rendezvous_rule.specs.View.{View, view, views}
use Rattle.rendezvous_rule.specs.Seen.{seen, words_of}
use Rattle.rendezvous_rule.specs.Knows.{Knows, Came}
use Rattle.rendezvous_rule.specs.Rule.{RuleBy, Gathered, AllOnlineHere}
use Rattle.rule_laws.specs.Kept.{Kept, event_of, is_step}
use Rattle.rule_laws.proofs.Frame.{at_phase, put_other, put_back, grows, another_kind}
use Rattle.rule_laws.proofs.Tables.{only_arrived}
use Rattle.rule_laws.proofs.Later.{later_arrived}
use Rattle.rule_laws.proofs.Step.{step_kept}
use Rattle.rule_laws.proofs.Facts.{state, view_is, is_inside, own_round}
use Rattle.round_laws.proofs.Kind.{KeepsTheRule}
use Rattle.round_laws.proofs.Arrivals.{one_more, few_arrived, arrived_more, awaited_same}
use Rattle.round_laws.proofs.Standing.{stands_offline}

-- the Online threads are here, or not, as before
online_here :
    (plan : Plan) (arrived : ℕ → Bool) (t : ℕ) →
    plan.kind t ≡ Offline → AllOnlineHere plan (put arrived t true) → AllOnlineHere plan arrived
online_here plan arrived t offline here u online =
    sym (put_other arrived t u true (λ e. another_kind plan u t online offline (sym e))) ∙ here u online

counted_gathered :
    (plan : Plan) (arrived : ℕ → Bool) (stage : Stage) (decider : ℕ → Bool) (t : ℕ) →
    Sound plan →
    plan.kind t ≡ Offline → Gathered plan arrived stage decider → Gathered plan (put arrived t true) stage decider
counted_gathered plan arrived stage decider t sound offline g =
    let zero : 0 ≢ t = λ e. another_kind plan 0 t sound.thread_0_is_online offline (sym e) in
    record {
      zero_last = λ e k f. grows arrived t k (g.zero_last (sym (put_other arrived t 0 true zero) ∙ e) k f);
      decides_last = λ u e w f. grows arrived t w (g.decides_last u e w f);
      one_decides = g.one_decides;
      somebody_decides = λ e here. g.somebody_decides e (online_here plan arrived t offline here);
      go_after_all = λ e u f. grows arrived t u (g.go_after_all e u f);
      kick_dropped = g.kick_dropped;
      dropped_by_online = g.dropped_by_online;
      zero_dropped = λ e. let was = g.zero_dropped e in (grows arrived t 0 was.0, was.1);
    }

never_last : (g b : Bool) (x y : ℕ → Bool) → ◌≡◌ {A = ℕ → Bool} (if (g && false) && b then x else y) y
never_last true b x y = refl
never_last false b x y = refl

counts_kept :
    (plan : Plan) (moment : Running) (t : ℕ) (h : How) (first : Bool) (stage : Stage) (at polls mine : ℕ) →
    Sound plan →
    Padded plan →
    RuleBy plan (families moment.words) moment.locals first stage →
    is_step h ≡ true →
    moment.locals t ≡ at_phase phase.OfflineCount at polls mine →
    plan.kind t ≡ Offline →
    Came t mine (state plan first moment.locals stage) → Kept plan (event_of h t) moment (steps plan t h moment)
unfolding operation after words_of views
counts_kept plan moment t h first stage at polls mine sound padded rule own here offline row =
    let local = at_phase phase.OfflineCount at polls mine in
    let new = at_phase phase.OfflineHold at 0 mine in
    let v = views plan first moment.locals in
    let s = λ (latched : ℕ → Bool). seen plan v stage latched in
    let n = offline_arrived plan v.arrived in
    let arrived = put v.arrived t true in
    let next = λ (latched : ℕ → Bool). record (s latched) { arrived = arrived; is_decider = (s latched).is_decider } in
    let shows = view_is plan moment.locals first t local here in
    let missing : v.arrived t ≡ false = ap (λ (w : View). w.arrived) shows in
    let undecided : v.deciding t ≡ false = ap (λ (w : View). w.deciding) shows in
    let found : moment.words word.OffIn ≡ n = ap (λ (w : Families). w.off_in) rule.says in
    let no_zero : t ≢ 0 = another_kind plan 0 t sound.thread_0_is_online offline in
    let decider : decider_after plan t (s moment.latched) arrived ≡ (s moment.latched).is_decider =
    ap {A = Bool} {B = ℕ → Bool}
    (λ b. if (is_gathering stage && b) && (still_awaited plan arrived == 0) then only t else
    (s moment.latched).is_decider) (ap is_online offline)
    ∙ never_last (is_gathering stage) (still_awaited plan arrived == 0) (only t) (s moment.latched).is_decider in
    let arrives : Arrives plan t (s moment.latched) (next moment.latched) =
    record {
      is_in = is_inside plan moment.locals first stage moment.latched t local here refl;
      not_arrived = missing;
      zero_after_offline = λ e. absurd (no_zero e);
      change = ap (λ d. record (s moment.latched) { arrived = arrived; is_decider = d }) (sym decider);
    } in
    step_kept plan moment t h (Add word.OffIn 1) local new what.Arrive first first stage stage next
    sound padded rule here refl refl (λ other. refl)
    (record {
      sees = λ latched.
          ap (λ x. seen plan x stage latched)
          (only_arrived v t (view plan t first new) true false
          (ap (λ (w : View). record w { arrived = true; deciding = false }) (sym shows))
          ∙ ap (λ d. record v { arrived = arrived; deciding = d }) (put_back v.deciding t false (sym undecided)));
      says =
          ap (λ d. record (families moment.words) { off_in = (d + 1) % 2 ^ 64 }) found
          ∙ ap (λ d. record (families moment.words) { off_in = d })
          (one_more n (few_arrived plan v.arrived sound) ∙ sym (arrived_more plan v.arrived t padded offline missing))
          ∙ ap (λ (w : Families). record w { off_in = offline_arrived plan arrived }) rule.says
          ∙ ap (λ k. record (words_of plan (s nobody)) { arrive = k; off_in = offline_arrived plan arrived })
          (awaited_same plan v.arrived t offline);
      gathered = counted_gathered plan v.arrived stage (s nobody).is_decider t sound offline rule.gathered;
      later = later_arrived t (s nobody) t (s nobody).is_decider;
    })
    (subst (λ kind. Knows kind plan t new (next nobody)) (sym offline) row)
    (own_round plan t h (s moment.latched) (next moment.latched) what.Arrive own (refl, arrives) (refl, arrives))

offline_count_kept : (h : How) → is_step h ≡ true → KeepsTheRule phase.OfflineCount h
unfolding KeepsTheRule
offline_count_kept h own plan moment t sound padded rule phase_is =
    let l = moment.locals t in
    let at_thread =
    stands_offline phase.OfflineCount plan
    (families moment.words) moment.locals rule.first rule.stage t rule.by phase_is refl in
    counts_kept plan moment t h rule.first rule.stage l.at l.polls l.mine sound padded rule.by own at_thread.here
    at_thread.offline at_thread.row

pub offline_count_step : KeepsTheRule phase.OfflineCount how.Step
offline_count_step = offline_count_kept how.Step refl

pub offline_count_timeout : KeepsTheRule phase.OfflineCount how.Timeout
offline_count_timeout = offline_count_kept how.Timeout refl
