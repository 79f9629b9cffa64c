-- A thread outside: it enters, or an Offline one waits for its kick, or finds that it was taken back.
use Rattle.std.proofs.Common.{◌≡◌, ◌≢◌, ℕ, Bool, true, false, ◌&&◌, ◌==◌, if◌then◌else◌, Option, Some, None, refl, ap, sym, ◌∙◌, subst, true≢false}
use mathlib.Core.Path.{fun_ext}
use Rattle.rendezvous_steps.specs.declared.steps.Kind.{Kind}
use Rattle.rendezvous_steps.specs.declared.steps.Kind.TheVariants.{Online, Offline, Absent as KindAbsent}
use Rattle.rendezvous_steps.specs.declared.steps.ThreadResult.TheVariants as results
use Rattle.rendezvous_steps.specs.declared.steps.Phase.{Phase}
use Rattle.rendezvous_steps.specs.declared.steps.Phase.TheVariants as phase
use Rattle.rendezvous_steps.specs.declared.steps.Local.{Local}
use Rattle.rendezvous_steps.specs.declared.steps.How.{How}
use Rattle.rendezvous_steps.specs.declared.steps.How.TheVariants as how
use Rattle.rendezvous_steps.specs.declared.operations.Word.TheVariants as word
use Rattle.rendezvous_steps.specs.declared.operations.Op.TheVariants.{Store, Cas}
use Rattle.rendezvous_steps.specs.declared.items.What.TheVariants as what
use Rattle.rendezvous_steps.specs.Plan.{Plan, Sound, is_offline, is_primary, offline_from}
use Rattle.rendezvous_steps.specs.Padded.{Padded}
use Rattle.rendezvous_steps.specs.Words.{Families, families}
use Rattle.rendezvous_steps.specs.StepTable.{operation, after, number_of, entered, loop_at, to, enter_operation, after_outside}
use Rattle.rendezvous_steps.specs.Events.{Running, put, steps}
use Rattle.rendezvous_model.specs.Round as round
use Rattle.rendezvous_model.specs.Round.{Place, Out, In, Withdrawn, Waiting, Stage, State, nobody}
use Rattle.rendezvous_model.specs.RoundItems.{Enters, may_enter}
use Rattle.rendezvous_model.specs.RoundEnds.{Idles, may_idle, for_kick}
use Rattle.rendezvous_rule.specs.View.{View, view, views}
use Rattle.rendezvous_rule.specs.Seen.{seen, words_of, place_seen, freed_seen, mode_code, ctrl_code, nmi_code, has_begun, writes_now}
use Rattle.rendezvous_rule.specs.Knows.{Knows, OfflineKnows}
use Rattle.rendezvous_rule.specs.Rule.{RuleBy}
use Rattle.rule_laws.specs.Kept.{Ruled, Kept, event_of, is_step}
use Rattle.rule_laws.proofs.Assemble.{unsettled, settled_kicked}
use Rattle.rule_laws.proofs.Frame.{at_phase, is_at, coded, code_kept, and_false, equal_numbers, same_numbers, different, another_kind}
use Rattle.rule_laws.proofs.Tables.{only_place, sees_place_here}
use Rattle.rule_laws.proofs.Later.{later_place}
use Rattle.rule_laws.proofs.Step.{step_kept, quiet_kept, poll_kept}
use Rattle.rule_laws.proofs.Loops.{offline_begins, offline_found, none_offline}
use Rattle.rule_laws.proofs.Facts.{state, view_is, own_round}
use Rattle.round_laws.proofs.Kind.{KeepsTheRule}
use Rattle.round_laws.proofs.Found.{cas_keeps}
use Rattle.round_laws.proofs.Writing.{own_group}

-- An Online thread.

abbrev enter_by : Local → Bool → Option ℕ → Local
enter_by local is_zero next =
    if is_zero then loop_at local phase.Kicking next phase.Arriving else to local phase.Arriving

enters_view :
    (plan : Plan) (t : ℕ) (first : Bool) (at polls mine : ℕ) (is_zero : Bool) (next : Option ℕ) →
    Padded plan →
    (t == 0) ≡ is_zero →
    offline_from plan 0 ≡ next →
    view plan t first (enter_by (at_phase phase.Outside at polls mine) is_zero next)
    ≡ record (view plan t first (at_phase phase.Outside at polls mine)) { place = In }
enters_view plan t first at polls mine true (Some k) padded zero e =
    ap (λ (f : ℕ → Bool). record (view plan t first (at_phase phase.Outside at polls mine)) { place = In; kicks = f })
    (fun_ext (λ u.
    ap (λ b. (t == 0) && b)
    (offline_begins plan (Some k) padded e u ∙ sym (and_false (is_offline (plan.kind u)) false refl))))
enters_view plan t first at polls mine true None padded zero e =
    ap (λ (f : ℕ → Bool). record (view plan t first (at_phase phase.Outside at polls mine)) { place = In; kicks = f })
    (fun_ext (λ u.
    ap (λ b. (t == 0) && b)
    (offline_begins plan None padded e u ∙ sym (and_false (is_offline (plan.kind u)) false refl))))
enters_view plan t first at polls mine false next padded zero e =
    ap (λ (f : ℕ → Bool). record (view plan t first (at_phase phase.Outside at polls mine)) { place = In; kicks = f })
    (fun_ext (λ u.
    ap (λ b. b && (is_offline (plan.kind u) && true)) zero
    ∙ sym (ap (λ b. b && (is_offline (plan.kind u) && false)) zero)))

enters_row :
    (plan : Plan) (t : ℕ) (local : Local) (is_zero : Bool) (next : Option ℕ) (s : State) →
    Padded plan →
    (t == 0) ≡ is_zero → offline_from plan 0 ≡ next → Knows Online plan t (enter_by local is_zero next) s
enters_row plan t local true (Some k) s padded zero e = (equal_numbers t 0 zero, offline_found plan 0 k e)
enters_row plan t local true None s padded zero e =
    λ z k offline. absurd (true≢false (sym (ap is_offline offline) ∙ none_offline plan padded e k))
enters_row plan t local false next s padded zero e = λ z. absurd (true≢false (sym (same_numbers t 0 z) ∙ zero))

-- the words, where the code of its place stays in all but its mode
entered_nmi :
    (kind : Kind) (kicked : Bool) (x y : Place) → kind ≡ Online → nmi_code kind kicked x ≡ nmi_code kind kicked y
entered_nmi kind kicked x y e = ap (λ k. nmi_code k kicked x) e ∙ sym (ap (λ k. nmi_code k kicked y) e)

entered_says :
    (plan : Plan) (s : State) (t : ℕ) →
    plan.kind t ≡ Online →
    s.place t ≡ Out →
    writes_now plan t s.group ≡ false →
    record (words_of plan s) { mode = put (words_of plan s).mode t 1 }
    ≡ words_of plan (record s { place = put s.place t In })
unfolding words_of
entered_says plan s t online out writes =
    let code : 1 ≡ mode_code (plan.kind t) (writes_now plan t s.group) In =
    sym (ap (λ k. mode_code k (writes_now plan t s.group) In) online ∙ ap (λ b. mode_code Online b In) writes) in
    let ctrls : (λ (u : ℕ). ctrl_code (put s.place t In u) (s.freed u) (s.group (plan.group u)))
    ≡ (λ u. ctrl_code (s.place u) (s.freed u) (s.group (plan.group u))) =
    code_kept (λ u p. ctrl_code p (s.freed u) (s.group (plan.group u))) s.place t In
    (ap (λ p. ctrl_code p (s.freed t) (s.group (plan.group t))) (sym out)) in
    let nmis : (λ (u : ℕ). nmi_code (plan.kind u) (s.kicked u) (put s.place t In u))
    ≡ (λ u. nmi_code (plan.kind u) (s.kicked u) (s.place u)) =
    code_kept (λ u p. nmi_code (plan.kind u) (s.kicked u) p) s.place t In
    (entered_nmi (plan.kind t) (s.kicked t) In (s.place t) online) in
    λ i. record (words_of plan s) {
      mode = coded (λ u p. mode_code (plan.kind u) (writes_now plan u s.group) p) s.place t In 1 code i;
      ctrl = (sym ctrls) i;
      nmi = (sym nmis) i;
    }

freed_same : (p z : Bool) → z ≡ false → freed_seen In p z ≡ freed_seen Out p z
freed_same true z e = refl
freed_same false z e = e

-- its group's write has not begun, if it leads it
writes_not :
    (plan : Plan) (locals : ℕ → Local) (first : Bool) (stage : Stage) (t at polls mine : ℕ) (primary : Bool) →
    locals t ≡ at_phase phase.Outside at polls mine →
    is_primary plan t ≡ primary → writes_now plan t (state plan first locals stage).group ≡ false
writes_not plan locals first stage t at polls mine true here primary =
    let s = state plan first locals stage in
    let waits : s.group (plan.group t) ≡ Waiting =
    own_group plan locals first t (at_phase phase.Outside at polls mine) here primary
    ∙ ap (λ b. if b then Waiting else Waiting) primary in
    ap (λ b. b && has_begun (s.group (plan.group t))) primary ∙ ap has_begun waits
writes_not plan locals first stage t at polls mine false here primary =
    ap (λ b. b && has_begun ((state plan first locals stage).group (plan.group t))) primary

enters_kept :
    (plan : Plan) (moment : Running) (t : ℕ) (h : How) (first : Bool) (stage : Stage) (at polls mine : ℕ) →
    Sound plan →
    Padded plan →
    RuleBy plan (families moment.words) moment.locals first stage →
    is_step h ≡ true →
    moment.locals t ≡ at_phase phase.Outside at polls mine →
    plan.kind t ≡ Online → Kept plan (event_of h t) moment (steps plan t h moment)
unfolding operation after put words_of views
enters_kept plan moment t h first stage at polls mine sound padded rule own here online =
    let local = at_phase phase.Outside at polls mine in
    let new = entered plan t local in
    let v = views plan first moment.locals in
    let s = λ (latched : ℕ → Bool). seen plan v stage latched in
    let next = λ (latched : ℕ → Bool). record (s latched) { place = put (s latched).place t In } in
    let shows = view_is plan moment.locals first t local here in
    let raw : v.place t ≡ Out = ap (λ (w : View). w.place) shows in
    let none : v.settles 0 t ≡ false = unsettled plan moment.locals first t (ap is_offline online) in
    let out : (s nobody).place t ≡ Out = ap (λ p. place_seen p (v.settles 0 t)) raw ∙ ap (place_seen Out) none in
    let frees = v.frees (plan.primary (plan.group t)) t in
    let by_step : Enters plan t round.Step (s moment.latched) (next moment.latched) =
    record {
      is_out = out;
      may =
          ap
          (λ k. may_enter k round.Step ((s moment.latched).kicked t)) online;
      change = refl;
    } in
    let by_timeout : Enters plan t round.Timeout (s moment.latched) (next moment.latched) =
    record {
      is_out = out;
      may =
          ap
          (λ k. may_enter k round.Timeout ((s moment.latched).kicked t)) online;
      change = refl;
    } in
    step_kept plan moment t h (Store (word.Mode t) 1) local new what.Enter first first stage stage next
    sound padded rule here
    (ap (λ k. Some (enter_operation k t)) online)
    (ap (λ k. after_outside k plan t local h (moment.words (word.Mode t))) online)
    (λ other. refl)
    (record {
      sees = λ latched.
          ap (λ y. seen plan y stage latched)
          (only_place v t (view plan t first new) In
          (enters_view plan t first at polls mine (t == 0) (offline_from plan 0) padded refl refl
          ∙ ap (λ (w : View). record w { place = In }) (sym shows)))
          ∙ sees_place_here plan v stage latched t In
          (freed_same frees (v.settles 0 t) none ∙ ap (λ p. freed_seen p frees (v.settles 0 t)) (sym raw));
      says =
          ap (λ (w : Families). record w { mode = put w.mode t 1 }) rule.says
          ∙ entered_says plan (s nobody) t online out
          (writes_not plan moment.locals first stage t at polls mine (is_primary plan t) here refl);
      gathered = rule.gathered;
      later =
          later_place t (s nobody) t In (λ e. refl)
          (λ e. let same : Out ≡ Withdrawn = sym out ∙ e in cc);
    })
    (subst (λ kind. Knows kind plan t new (next nobody)) (sym online)
    (enters_row plan t local (t == 0) (offline_from plan 0) (next nobody) padded refl refl))
    (own_round plan t h (s moment.latched) (next moment.latched) what.Enter own by_step by_timeout)

-- An Offline thread.

-- its own kick shows in no view of it
no_zero : (plan : Plan) (t : ℕ) (b b' : Bool) → t ≢ 0 → ((t == 0) && b) ≡ ((t == 0) && b')
no_zero plan t b b' other = let e = different t 0 other in ap (λ z. z && b) e ∙ sym (ap (λ z. z && b') e)

taken_view :
    (plan : Plan) (t : ℕ) (first : Bool) (at polls mine : ℕ) →
    t ≢ 0 →
    view plan t first (at_phase phase.OfflineCount at polls mine)
    ≡ record (view plan t first (at_phase phase.Outside at polls mine)) { place = In }
taken_view plan t first at polls mine other =
    ap (λ (f : ℕ → Bool). record (view plan t first (at_phase phase.Outside at polls mine)) { place = In; kicks = f })
    (fun_ext (λ u. no_zero plan t (is_offline (plan.kind u) && true) (is_offline (plan.kind u) && false) other))

withdrawn_view :
    (plan : Plan) (t : ℕ) (first : Bool) (at polls mine : ℕ) →
    t ≢ 0 →
    view plan t first (at_phase phase.Withdrawn at polls mine)
    ≡ view plan t first (at_phase phase.Outside at polls mine)
withdrawn_view plan t first at polls mine other =
    ap (λ (f : ℕ → Bool). record (view plan t first (at_phase phase.Outside at polls mine)) { kicks = f })
    (fun_ext (λ u. no_zero plan t (is_offline (plan.kind u) && true) (is_offline (plan.kind u) && false) other))

-- the words, where the code of its place stays in all but its kick
taken_mode : (kind : Kind) (writes : Bool) → kind ≡ Offline → mode_code kind writes In ≡ mode_code kind writes Out
taken_mode kind writes e = ap (λ k. mode_code k writes In) e ∙ sym (ap (λ k. mode_code k writes Out) e)

taken_says :
    (plan : Plan) (s : State) (t : ℕ) →
    plan.kind t ≡ Offline →
    s.place t ≡ Out →
    s.kicked t ≡ true →
    record (words_of plan s) { nmi = put (words_of plan s).nmi t 2 }
    ≡ words_of plan (record s { place = put s.place t In })
unfolding words_of
taken_says plan s t offline out kicked =
    let code : 2 ≡ nmi_code (plan.kind t) (s.kicked t) In =
    sym (ap (λ k. nmi_code k (s.kicked t) In) offline ∙ ap (λ b. nmi_code Offline b In) kicked) in
    let modes : (λ (u : ℕ). mode_code (plan.kind u) (writes_now plan u s.group) (put s.place t In u))
    ≡ (λ u. mode_code (plan.kind u) (writes_now plan u s.group) (s.place u)) =
    code_kept (λ u p. mode_code (plan.kind u) (writes_now plan u s.group) p) s.place t In
    (taken_mode (plan.kind t) (writes_now plan t s.group) offline
    ∙ ap (mode_code (plan.kind t) (writes_now plan t s.group)) (sym out)) in
    let ctrls : (λ (u : ℕ). ctrl_code (put s.place t In u) (s.freed u) (s.group (plan.group u)))
    ≡ (λ u. ctrl_code (s.place u) (s.freed u) (s.group (plan.group u))) =
    code_kept (λ u p. ctrl_code p (s.freed u) (s.group (plan.group u))) s.place t In
    (ap (λ p. ctrl_code p (s.freed t) (s.group (plan.group t))) (sym out)) in
    λ i. record (words_of plan s) {
      mode = (sym modes) i;
      ctrl = (sym ctrls) i;
      nmi = coded (λ u p. nmi_code (plan.kind u) (s.kicked u) p) s.place t In 2 code i;
    }

takes_kept :
    (plan : Plan) (moment : Running) (t : ℕ) (h : How) (first : Bool) (stage : Stage) (at polls mine : ℕ) →
    Sound plan →
    Padded plan →
    RuleBy plan (families moment.words) moment.locals first stage →
    is_step h ≡ true →
    moment.locals t ≡ at_phase phase.Outside at polls mine →
    plan.kind t ≡ Offline →
    mine ≡ number_of results.Offline →
    (views plan first moment.locals).settles 0 t ≡ false →
    (state plan first moment.locals stage).kicked t ≡ true → Kept plan (event_of h t) moment (steps plan t h moment)
unfolding operation after put words_of views
takes_kept plan moment t h first stage at polls mine sound padded rule own here offline row none kicked =
    let local = at_phase phase.Outside at polls mine in
    let new = at_phase phase.OfflineCount at polls mine in
    let v = views plan first moment.locals in
    let s = λ (latched : ℕ → Bool). seen plan v stage latched in
    let next = λ (latched : ℕ → Bool). record (s latched) { place = put (s latched).place t In } in
    let shows = view_is plan moment.locals first t local here in
    let raw : v.place t ≡ Out = ap (λ (w : View). w.place) shows in
    let out : (s nobody).place t ≡ Out = ap (λ p. place_seen p (v.settles 0 t)) raw ∙ ap (place_seen Out) none in
    let other : t ≢ 0 = another_kind plan 0 t sound.thread_0_is_online offline in
    let frees = v.frees (plan.primary (plan.group t)) t in
    let found : moment.words (word.Nmi t) ≡ 1 =
    ap (λ (w : Families). w.nmi t) rule.says
    ∙ ap (λ k. nmi_code k ((s nobody).kicked t) ((s nobody).place t)) offline
    ∙ ap (λ b. nmi_code Offline b ((s nobody).place t)) kicked
    ∙ ap (nmi_code Offline true) out in
    let by_step : Enters plan t round.Step (s moment.latched) (next moment.latched) =
    record {
      is_out = out;
      may =
          ap (λ k. may_enter k round.Step ((s moment.latched).kicked t)) offline
          ∙ kicked;
      change = refl;
    } in
    let by_timeout : Enters plan t round.Timeout (s moment.latched) (next moment.latched) =
    record {
      is_out = out;
      may =
          ap (λ k. may_enter k round.Timeout ((s moment.latched).kicked t)) offline
          ∙ kicked;
      change = refl;
    } in
    step_kept plan moment t h (Cas (word.Nmi t) 1 2) local new what.Enter first first stage stage next
    sound padded rule here
    (ap (λ k. Some (enter_operation k t)) offline)
    (ap (λ k. after_outside k plan t local h (moment.words (word.Nmi t))) offline
    ∙ ap (after_outside Offline plan t local h) found)
    (λ same. refl)
    (record {
      sees = λ latched.
          ap (λ y. seen plan y stage latched)
          (only_place v t (view plan t first new) In
          (taken_view plan t first at polls mine other ∙ ap (λ (w : View). record w { place = In }) (sym shows)))
          ∙ sees_place_here plan v stage latched t In
          (freed_same frees (v.settles 0 t) none ∙ ap (λ p. freed_seen p frees (v.settles 0 t)) (sym raw));
      says =
          ap (λ n. record (families moment.words)
          { nmi = put (families moment.words).nmi t (if n == 1 then 2 else n) }) found
          ∙ ap (λ (w : Families). record w { nmi = put w.nmi t 2 }) rule.says
          ∙ taken_says plan (s nobody) t offline out kicked;
      gathered = rule.gathered;
      later =
          later_place t (s nobody) t In (λ e. refl)
          (λ e. let same : Out ≡ Withdrawn = sym out ∙ e in cc);
    })
    (subst (λ kind. Knows kind plan t new (next nobody)) (sym offline) (kicked, row))
    (own_round plan t h (s moment.latched) (next moment.latched) what.Enter own by_step by_timeout)

-- what it finds without patience, or with: its kick taken back, or none
finds_gone :
    (plan : Plan) (t : ℕ) (local : Local) (h : How) (found : ℕ) →
    is_step h ≡ true →
    plan.kind t ≡ Offline → found ≡ 3 →
    after_outside (plan.kind t) plan t local h found ≡ (to local phase.Withdrawn, what.Idle)
finds_gone plan t local how.Step found own offline e =
    ap (λ k. after_outside k plan t local how.Step found) offline ∙ ap (after_outside Offline plan t local how.Step) e
finds_gone plan t local how.Timeout found own offline e =
    ap (λ k. after_outside k plan t local how.Timeout found) offline
    ∙ ap (after_outside Offline plan t local how.Timeout) e
finds_gone plan t local how.Nmi found own offline e = cc

finds_none :
    (plan : Plan) (t : ℕ) (local : Local) (h : How) (found : ℕ) →
    is_step h ≡ true →
    plan.kind t ≡ Offline → found ≡ 0 → after_outside (plan.kind t) plan t local h found ≡ (local, what.Poll)
finds_none plan t local how.Step found own offline e =
    ap (λ k. after_outside k plan t local how.Step found) offline ∙ ap (after_outside Offline plan t local how.Step) e
finds_none plan t local how.Timeout found own offline e =
    ap (λ k. after_outside k plan t local how.Timeout found) offline
    ∙ ap (after_outside Offline plan t local how.Timeout) e
finds_none plan t local how.Nmi found own offline e = cc

-- its kick was taken back
withdrawn_kept :
    (plan : Plan) (moment : Running) (t : ℕ) (h : How) (first : Bool) (stage : Stage) (at polls mine : ℕ) →
    Sound plan →
    Padded plan →
    RuleBy plan (families moment.words) moment.locals first stage →
    is_step h ≡ true →
    moment.locals t ≡ at_phase phase.Outside at polls mine →
    plan.kind t ≡ Offline →
    mine ≡ number_of results.Offline →
    (views plan first moment.locals).settles 0 t ≡ true → Kept plan (event_of h t) moment (steps plan t h moment)
unfolding operation after words_of views
withdrawn_kept plan moment t h first stage at polls mine sound padded rule own here offline row settled =
    let local = at_phase phase.Outside at polls mine in
    let new = at_phase phase.Withdrawn at polls mine in
    let v = views plan first moment.locals in
    let s = λ (latched : ℕ → Bool). seen plan v stage latched in
    let raw : v.place t ≡ Out = ap (λ (w : View). w.place) (view_is plan moment.locals first t local here) in
    let gone : (s nobody).place t ≡ Withdrawn =
    ap (λ p. place_seen p (v.settles 0 t)) raw ∙ ap (place_seen Out) settled in
    let other : t ≢ 0 = another_kind plan 0 t sound.thread_0_is_online offline in
    let kicked = settled_kicked plan moment.locals first t settled in
    let found : moment.words (word.Nmi t) ≡ 3 =
    ap (λ (w : Families). w.nmi t) rule.says
    ∙ ap (λ k. nmi_code k ((s nobody).kicked t) ((s nobody).place t)) offline
    ∙ ap (λ b. nmi_code Offline b ((s nobody).place t)) kicked
    ∙ ap (nmi_code Offline true) gone in
    let by_step : Idles plan t round.Step (s moment.latched) (s moment.latched) =
    record {
      may =
          ap (λ k. may_idle k round.Step ((s moment.latched).place t) ((s moment.latched).latched t)) offline
          ∙ ap (λ p. may_idle Offline round.Step p ((s moment.latched).latched t)) gone;
      change = refl;
    } in
    let by_timeout : Idles plan t round.Timeout (s moment.latched) (s moment.latched) =
    record {
      may =
          ap (λ k. may_idle k round.Timeout ((s moment.latched).place t) ((s moment.latched).latched t)) offline
          ∙ ap (λ p. may_idle Offline round.Timeout p ((s moment.latched).latched t)) gone;
      change = refl;
    } in
    quiet_kept plan moment t h (Cas (word.Nmi t) 1 2) local new what.Idle first first stage
    sound padded rule here
    (ap (λ k. Some (enter_operation k t)) offline)
    (finds_gone plan t local h (moment.words (word.Nmi t)) own offline found)
    (λ same. refl)
    (withdrawn_view plan t first at polls mine other)
    (cas_keeps moment.words (word.Nmi t) 1 2 (ap (λ n. n == 1) found))
    (subst (λ kind. Knows kind plan t new (s nobody)) (sym offline) (gone, row))
    (own_round plan t h (s moment.latched) (s moment.latched) what.Idle own by_step by_timeout)

-- it is not kicked yet
unkicked_kept :
    (plan : Plan) (moment : Running) (t : ℕ) (h : How) (first : Bool) (stage : Stage) (at polls mine : ℕ) →
    Sound plan →
    Padded plan →
    RuleBy plan (families moment.words) moment.locals first stage →
    is_step h ≡ true →
    moment.locals t ≡ at_phase phase.Outside at polls mine →
    plan.kind t ≡ Offline →
    mine ≡ number_of results.Offline →
    (views plan first moment.locals).settles 0 t ≡ false →
    (state plan first moment.locals stage).kicked t ≡ false → Kept plan (event_of h t) moment (steps plan t h moment)
unfolding operation after words_of views
unkicked_kept plan moment t h first stage at polls mine sound padded rule own here offline row none unkicked =
    let local = at_phase phase.Outside at polls mine in
    let v = views plan first moment.locals in
    let s = λ (latched : ℕ → Bool). seen plan v stage latched in
    let raw : v.place t ≡ Out = ap (λ (w : View). w.place) (view_is plan moment.locals first t local here) in
    let out : (s nobody).place t ≡ Out = ap (λ p. place_seen p (v.settles 0 t)) raw ∙ ap (place_seen Out) none in
    let found : moment.words (word.Nmi t) ≡ 0 =
    ap (λ (w : Families). w.nmi t) rule.says
    ∙ ap (λ k. nmi_code k ((s nobody).kicked t) ((s nobody).place t)) offline
    ∙ ap (λ b. nmi_code Offline b ((s nobody).place t)) unkicked in
    poll_kept plan moment t h (Cas (word.Nmi t) 1 2) local local first stage
    sound padded rule own here
    (ap (λ k. Some (enter_operation k t)) offline)
    (finds_none plan t local h (moment.words (word.Nmi t)) own offline found)
    refl
    (cas_keeps moment.words (word.Nmi t) 1 2 (ap (λ n. n == 1) found))
    (subst (λ kind. Knows kind plan t local (s nobody)) (sym offline) row)
    (for_kick (record { is_offline = offline; is_out = out; not_kicked = unkicked }))

offline_by :
    (plan : Plan) (moment : Running) (t : ℕ) (h : How) (first : Bool) (stage : Stage) (at polls mine : ℕ)
    (settled kicked : Bool) →
    Sound plan →
    Padded plan →
    RuleBy plan (families moment.words) moment.locals first stage →
    is_step h ≡ true →
    moment.locals t ≡ at_phase phase.Outside at polls mine →
    plan.kind t ≡ Offline →
    mine ≡ number_of results.Offline →
    (views plan first moment.locals).settles 0 t ≡ settled →
    (state plan first moment.locals stage).kicked t ≡ kicked → Kept plan (event_of h t) moment (steps plan t h moment)
offline_by plan moment t h first stage at polls mine true kicked sound padded rule own here offline row e f =
    withdrawn_kept plan moment t h first stage at polls mine sound padded rule own here offline row e
offline_by plan moment t h first stage at polls mine false true sound padded rule own here offline row e f =
    takes_kept plan moment t h first stage at polls mine sound padded rule own here offline row e f
offline_by plan moment t h first stage at polls mine false false sound padded rule own here offline row e f =
    unkicked_kept plan moment t h first stage at polls mine sound padded rule own here offline row e f

outside_by :
    (plan : Plan) (moment : Running) (t : ℕ) (h : How) (kind : Kind) →
    Sound plan →
    Padded plan →
    (rule : Ruled plan moment) →
    is_step h ≡ true →
    (moment.locals t).phase ≡ phase.Outside →
    plan.kind t ≡ kind →
    Knows kind plan t (moment.locals t) (state plan rule.first moment.locals rule.stage) →
    Kept plan (event_of h t) moment (steps plan t h moment)
outside_by plan moment t h Online sound padded rule own e kind knows =
    let l = moment.locals t in
    enters_kept plan moment t h rule.first rule.stage l.at l.polls l.mine sound padded rule.by own
    (is_at l phase.Outside e) kind
outside_by plan moment t h Offline sound padded rule own e kind knows =
    let l = moment.locals t in
    offline_by plan moment t h rule.first rule.stage l.at l.polls l.mine
    ((views plan rule.first moment.locals).settles 0 t)
    ((state plan rule.first moment.locals rule.stage).kicked t)
    sound padded rule.by own (is_at l phase.Outside e) kind
    (subst (λ p. OfflineKnows p t l.mine (state plan rule.first moment.locals rule.stage)) e knows)
    refl refl
outside_by plan moment t h KindAbsent sound padded rule own e kind knows =
    absurd (outside_not_nothing (sym e ∙ knows))
  where
    is_outside : Phase → Bool
    is_outside phase.Outside = true
    is_outside p = false

    outside_not_nothing : phase.Outside ≡ phase.Nothing → ⊥
    outside_not_nothing f = true≢false (ap is_outside f)

outside_kept : (h : How) → is_step h ≡ true → KeepsTheRule phase.Outside h
unfolding KeepsTheRule
outside_kept h own plan moment t sound padded rule phase_is =
    outside_by plan moment t h (plan.kind t) sound padded rule own phase_is refl (rule.by.knows t)

pub outside_step : KeepsTheRule phase.Outside how.Step
outside_step = outside_kept how.Step refl

pub outside_timeout : KeepsTheRule phase.Outside how.Timeout
outside_timeout = outside_kept how.Timeout refl
