-- Thread 0 waits for the kicked threads: it goes on when all have come, polls, or gives up on them.
use Rattle.std.proofs.Common.{◌≡◌, ◌≢◌, ℕ, ◌<◌, Bool, true, false, ◌==◌, if◌then◌else◌, refl, ap, sym, ◌∙◌, subst, inl, inr, true≢false}
use mathlib.Core.Path.{fun_ext}
use Rattle.rendezvous_steps.specs.declared.steps.Phase.TheVariants as phase
use Rattle.rendezvous_steps.specs.declared.steps.How.TheVariants as how
use Rattle.rendezvous_steps.specs.declared.operations.Word.TheVariants as word
use Rattle.rendezvous_steps.specs.declared.operations.Op.TheVariants.{Load, Cas}
use Rattle.rendezvous_steps.specs.declared.items.What.TheVariants as what
use Rattle.rendezvous_steps.specs.Plan.{Plan, Sound, is_offline, offline_count}
use Rattle.rendezvous_steps.specs.Padded.{Padded}
use Rattle.rendezvous_steps.specs.Words.{Families, families}
use Rattle.rendezvous_steps.specs.StepTable.{operation, after, drop_path, polled, to}
use Rattle.rendezvous_steps.specs.Events.{Running, steps}
use Rattle.rendezvous_model.specs.Round as round
use Rattle.rendezvous_model.specs.Round.{Stage, Gathering, Going, DroppedByKick, DroppedBy, nobody, is_dropped, offline_arrived}
use Rattle.rendezvous_model.specs.RoundItems.{DropsByKick}
use Rattle.rendezvous_model.specs.RoundEnds.{for_offline}
use Rattle.rendezvous_rule.specs.View.{View, view, views}
use Rattle.rendezvous_rule.specs.Seen.{seen, words_of}
use Rattle.rendezvous_rule.specs.Knows.{Knows}
use Rattle.rendezvous_rule.specs.Rule.{RuleBy}
use Rattle.rule_laws.specs.Kept.{Kept, event_of}
use Rattle.rule_laws.proofs.Count.{same_or_not}
use Rattle.rule_laws.proofs.Frame.{at_phase, same_numbers, different, not_so, and_both}
use Rattle.rule_laws.proofs.Tables.{same_view}
use Rattle.rule_laws.proofs.Later.{later_stage}
use Rattle.rule_laws.proofs.Step.{step_kept, inner_kept, poll_kept, stands_in}
use Rattle.rule_laws.proofs.Facts.{state, view_is, is_inside}
use Rattle.round_laws.proofs.Kind.{KeepsTheRule}
use Rattle.round_laws.proofs.Arrivals.{all_offline_here, offline_missing}
use Rattle.round_laws.proofs.Found.{load_keeps, cas_keeps, dropped_not_0, taken, not_taken}
use Rattle.round_laws.proofs.Paths.{drop_view, drop_row}

-- all have come: it goes on
goes_on_kept :
    (plan : Plan) (moment : Running) (first : Bool) (stage : Stage) (at polls mine : ℕ) →
    Sound plan →
    Padded plan →
    RuleBy plan (families moment.words) moment.locals first stage →
    moment.locals 0 ≡ at_phase phase.OfflineWait at polls mine →
    moment.words word.OffIn ≡ offline_count plan → Kept plan (event_of how.Step 0) moment (steps plan 0 how.Step moment)
unfolding operation after words_of views
goes_on_kept plan moment first stage at polls mine sound padded rule here full =
    let local = at_phase phase.OfflineWait at polls mine in
    let new = at_phase phase.Arriving at polls mine in
    let v = views plan first moment.locals in
    let found : moment.words word.OffIn ≡ offline_arrived plan v.arrived = ap (λ (w : Families). w.off_in) rule.says in
    inner_kept plan moment 0 how.Step (Load word.OffIn) local new first first stage sound padded rule refl here refl
    (taken (moment.words word.OffIn == offline_count plan) (new, what.Inner) (polled local, what.Poll)
    (same_numbers (moment.words word.OffIn) (offline_count plan) full))
    (λ other. refl)
    refl
    (load_keeps moment.words word.OffIn)
    (subst (λ kind. Knows kind plan 0 new (state plan first moment.locals stage)) (sym sound.thread_0_is_online)
    (λ zero. all_offline_here plan v.arrived padded (sym found ∙ full)))
    (is_inside plan moment.locals first stage nobody 0 local here refl)

-- one has not come: it polls
polls_kept :
    (plan : Plan) (moment : Running) (first : Bool) (stage : Stage) (at polls mine : ℕ) →
    Sound plan →
    Padded plan →
    RuleBy plan (families moment.words) moment.locals first stage →
    moment.locals 0 ≡ at_phase phase.OfflineWait at polls mine →
    0 < offline_count plan →
    moment.words word.OffIn ≢ offline_count plan → Kept plan (event_of how.Step 0) moment (steps plan 0 how.Step moment)
unfolding operation after words_of views
polls_kept plan moment first stage at polls mine sound padded rule here some other =
    let local = at_phase phase.OfflineWait at polls mine in
    let v = views plan first moment.locals in
    let shows = view_is plan moment.locals first 0 local here in
    let found : moment.words word.OffIn ≡ offline_arrived plan v.arrived = ap (λ (w : Families). w.off_in) rule.says in
    let absentee = offline_missing plan v.arrived (λ e. other (found ∙ e)) in
    poll_kept plan moment 0 how.Step (Load word.OffIn) local (polled local) first stage sound padded rule refl here refl
    (not_taken (moment.words word.OffIn == offline_count plan) (to local phase.Arriving, what.Inner)
    (polled local, what.Poll)
    (different (moment.words word.OffIn) (offline_count plan) other))
    refl
    (load_keeps moment.words word.OffIn)
    (subst (λ kind. Knows kind plan 0 (polled local) (state plan first moment.locals stage))
    (sym sound.thread_0_is_online) (refl, some))
    (for_offline (record {
      by_zero = refl;
      is_in = is_inside plan moment.locals first stage moment.latched 0 local here refl;
      not_arrived = ap (λ (w : View). w.arrived) shows;
      all_kicked =
          λ k offline. ap (λ (w : View). w.kicks k) shows
          ∙ and_both (is_offline (plan.kind k)) true (ap is_offline offline) refl;
      missing = absentee.who;
      missing_is_offline = absentee.is_offline;
      missing_has_not_arrived = absentee.not_arrived;
    }))

-- out of patience, and nothing is decided: it drops
drops_kept :
    (plan : Plan) (moment : Running) (first : Bool) (at polls mine : ℕ) →
    Sound plan →
    Padded plan →
    RuleBy plan (families moment.words) moment.locals first Gathering →
    moment.locals 0 ≡ at_phase phase.OfflineWait at polls mine →
    0 < offline_count plan → Kept plan (event_of how.Timeout 0) moment (steps plan 0 how.Timeout moment)
unfolding operation after words_of views
drops_kept plan moment first at polls mine sound padded rule here some =
    let local = at_phase phase.OfflineWait at polls mine in
    let new = drop_path plan 0 local in
    let v = views plan first moment.locals in
    let s = λ (latched : ℕ → Bool). seen plan v Gathering latched in
    let shows = view_is plan moment.locals first 0 local here in
    let missing : v.arrived 0 ≡ false = ap (λ (w : View). w.arrived) shows in
    let found : moment.words word.Decide ≡ 0 = ap (λ (w : Families). w.decide) rule.says in
    let nobody_decides : (s nobody).is_decider ≡ nobody =
    fun_ext (λ u.
    not_so ((s nobody).is_decider u)
    (λ e. true≢false (sym (rule.gathered.decides_last u e 0 sound.thread_0_is_online) ∙ missing))) in
    let next = λ (latched : ℕ → Bool). record (s latched) { stage = DroppedByKick; is_decider = nobody } in
    let drops : DropsByKick plan 0 round.Timeout (s moment.latched) (next moment.latched) =
    record {
      out_of_patience = refl;
      gathering = refl;
      by_zero = refl;
      is_in = is_inside plan moment.locals first Gathering moment.latched 0 local here refl;
      not_arrived = missing;
      all_kicked =
          λ k offline. ap (λ (w : View). w.kicks k) shows
          ∙ and_both (is_offline (plan.kind k)) true (ap is_offline offline) refl;
      one_kicked = some;
      change = ap (λ d. record (s moment.latched) { stage = DroppedByKick; is_decider = d }) (sym nobody_decides);
    } in
    step_kept plan moment 0 how.Timeout
    (Cas word.Decide 0 2) local new what.DropKick first false Gathering DroppedByKick next
    sound padded rule here refl (ap (after plan 0 local how.Timeout) found) (λ other. absurd (other refl))
    (record {
      sees = λ latched.
          ap (λ x. seen plan x DroppedByKick latched)
          (same_view v 0 (view plan 0 false new) (drop_view plan 0 false local padded ∙ sym shows));
      says =
          ap (λ d. record (families moment.words) { decide = if d == 0 then 2 else d }) found
          ∙ ap (λ (w : Families). record w { decide = 2 }) rule.says;
      gathered =
          record {
            zero_last = rule.gathered.zero_last;
            decides_last = λ u e. cc;
            one_decides = λ u w e. cc;
            somebody_decides = λ e. cc;
            go_after_all = λ e. cc;
            kick_dropped = λ e. some;
            dropped_by_online = λ u e. cc;
            zero_dropped = λ e. cc;
          };
      later = later_stage 0 (state plan first moment.locals Gathering) DroppedByKick nobody refl (λ e u f. cc);
    })
    (subst (λ kind. Knows kind plan 0 new (next nobody)) (sym sound.thread_0_is_online)
    (drop_row plan 0 local (next nobody) refl))
    drops

-- and another dropped: it takes the drop path too
finds_drop :
    (plan : Plan) (moment : Running) (first : Bool) (stage : Stage) (at polls mine : ℕ) →
    Sound plan →
    Padded plan →
    RuleBy plan (families moment.words) moment.locals first stage →
    moment.locals 0 ≡ at_phase phase.OfflineWait at polls mine →
    is_dropped stage ≡ true → Kept plan (event_of how.Timeout 0) moment (steps plan 0 how.Timeout moment)
unfolding operation after words_of
finds_drop plan moment first stage at polls mine sound padded rule here dropped =
    let local = at_phase phase.OfflineWait at polls mine in
    let new = drop_path plan 0 local in
    let found : (moment.words word.Decide == 0) ≡ false =
    ap (λ (w : Families). w.decide == 0) rule.says ∙ dropped_not_0 stage dropped in
    inner_kept plan moment 0 how.Timeout
    (Cas word.Decide 0 2) local new first false stage sound padded rule refl here refl
    (ap (λ b. (new, if b then what.DropKick else what.Inner)) found)
    (λ other. absurd (other refl))
    (drop_view plan 0 false local padded)
    (cas_keeps moment.words word.Decide 0 2 found)
    (subst (λ kind. Knows kind plan 0 new (state plan first moment.locals stage)) (sym sound.thread_0_is_online)
    (drop_row plan 0 local (state plan first moment.locals stage) dropped))
    (is_inside plan moment.locals first stage nobody 0 local here refl)

timeout_by :
    (plan : Plan) (moment : Running) (first : Bool) (stage : Stage) (at polls mine : ℕ) →
    Sound plan →
    Padded plan →
    RuleBy plan (families moment.words) moment.locals first stage →
    moment.locals 0 ≡ at_phase phase.OfflineWait at polls mine →
    0 < offline_count plan → Kept plan (event_of how.Timeout 0) moment (steps plan 0 how.Timeout moment)
unfolding views
timeout_by plan moment first Gathering at polls mine sound padded rule here some =
    drops_kept plan moment first at polls mine sound padded rule here some
timeout_by plan moment first Going at polls mine sound padded rule here some =
    let missing : (views plan first moment.locals).arrived 0 ≡ false =
    ap (λ (w : View). w.arrived) (view_is plan moment.locals first 0 (at_phase phase.OfflineWait at polls mine) here) in
    absurd (true≢false (sym (rule.gathered.go_after_all refl 0 sound.thread_0_is_online) ∙ missing))
timeout_by plan moment first DroppedByKick at polls mine sound padded rule here some =
    finds_drop plan moment first DroppedByKick at polls mine sound padded rule here refl
timeout_by plan moment first (DroppedBy u) at polls mine sound padded rule here some =
    finds_drop plan moment first (DroppedBy u) at polls mine sound padded rule here refl

pub offline_wait_step : KeepsTheRule phase.OfflineWait how.Step
unfolding KeepsTheRule
offline_wait_step plan moment t sound padded rule phase_is =
    let l = moment.locals t in
    let at_thread =
    stands_in phase.OfflineWait plan
    (families moment.words) moment.locals rule.first rule.stage t rule.by phase_is refl in
    let zero = at_thread.row.0 in
    let here = ap moment.locals (sym zero) ∙ at_thread.here in
    subst (λ u. Kept plan (event_of how.Step u) moment (steps plan u how.Step moment)) (sym zero)
    (elim (same_or_not (moment.words word.OffIn) (offline_count plan)) [
      | inl full ↦ goes_on_kept plan moment rule.first rule.stage l.at l.polls l.mine sound padded rule.by here full
      | inr other ↦
          polls_kept plan moment rule.first rule.stage l.at l.polls l.mine sound padded rule.by here at_thread.row.1
          other
    ])

pub offline_wait_timeout : KeepsTheRule phase.OfflineWait how.Timeout
unfolding KeepsTheRule
offline_wait_timeout plan moment t sound padded rule phase_is =
    let l = moment.locals t in
    let at_thread =
    stands_in phase.OfflineWait plan
    (families moment.words) moment.locals rule.first rule.stage t rule.by phase_is refl in
    let zero = at_thread.row.0 in
    subst (λ u. Kept plan (event_of how.Timeout u) moment (steps plan u how.Timeout moment)) (sym zero)
    (timeout_by plan moment rule.first rule.stage l.at l.polls l.mine sound padded rule.by
    (ap moment.locals (sym zero) ∙ at_thread.here) at_thread.row.1)
