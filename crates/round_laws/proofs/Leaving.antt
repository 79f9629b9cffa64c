-- A thread leaves: a primary or a sibling after a go, an Online thread after a drop, or an Offline thread.
use Rattle.std.proofs.Common.{◌≡◌, ◌≢◌, ℕ, ◌+◌, Bool, true, false, not, ◌&&◌, ◌||◌, ◌==◌, if◌then◌else◌, Some, refl, ap, sym, ◌∙◌, subst, true≢false}
use Rattle.rendezvous_steps.specs.declared.steps.Kind.{Kind}
use Rattle.rendezvous_steps.specs.declared.steps.Kind.TheVariants.{Online, Offline, Absent as KindAbsent}
use Rattle.rendezvous_steps.specs.declared.steps.ThreadResult.{ThreadResult}
use Rattle.rendezvous_steps.specs.declared.steps.ThreadResult.TheVariants as results
use Rattle.rendezvous_steps.specs.declared.steps.Phase.{Phase}
use Rattle.rendezvous_steps.specs.declared.steps.Phase.TheVariants as phase
use Rattle.rendezvous_steps.specs.declared.steps.Local.{Local}
use Rattle.rendezvous_steps.specs.declared.steps.How.{How}
use Rattle.rendezvous_steps.specs.declared.steps.How.TheVariants as how
use Rattle.rendezvous_steps.specs.declared.operations.Word.TheVariants as word
use Rattle.rendezvous_steps.specs.declared.operations.Op.TheVariants.{Store}
use Rattle.rendezvous_steps.specs.declared.items.What.{What}
use Rattle.rendezvous_steps.specs.declared.items.What.TheVariants as what
use Rattle.rendezvous_steps.specs.Plan.{Plan, Sound, is_offline, is_absent, is_primary, is_sibling}
use Rattle.rendezvous_steps.specs.Padded.{Padded}
use Rattle.rendezvous_steps.specs.Words.{Families, families}
use Rattle.rendezvous_steps.specs.StepTable.{operation, after, number_of, result_of, told}
use Rattle.rendezvous_steps.specs.Events.{Running, put, steps}
use Rattle.rendezvous_model.specs.Round.{Place, Out, In, Left, Halted, Withdrawn, Absent, Waiting, Reported, Stage, State, nobody, is_dropped, is_halted, is_withdrawn}
use Rattle.rendezvous_model.specs.RoundEnds.{Leaves, MayLeave, as_primary, as_sibling, after_drop, as_offline, okay_for, passed_on}
use Rattle.rendezvous_rule.specs.View.{View, view, views, place_in, is_timeout}
use Rattle.rendezvous_rule.specs.Seen.{seen, words_of, place_seen, freed_seen, mode_code, ctrl_code, nmi_code, writes_now}
use Rattle.rendezvous_rule.specs.Knows.{Knows, OnlineKnows, OfflineKnows, CameAndFreed, Ends, report_of, result_for}
use Rattle.rendezvous_rule.specs.Rule.{RuleBy}
use Rattle.rule_laws.specs.Kept.{Ruled, Kept, event_of, is_step}
use Rattle.rule_laws.proofs.Assemble.{number_back}
use Rattle.rule_laws.proofs.Frame.{at_phase, is_at, coded, code_kept, and_both, same_numbers, equal_numbers, leads_sibling}
use Rattle.rule_laws.proofs.Tables.{only_place, sees_place}
use Rattle.rule_laws.proofs.Later.{later_place}
use Rattle.rule_laws.proofs.Step.{step_kept}
use Rattle.rule_laws.proofs.Facts.{state, view_is, is_inside, own_round, freed_reported}
use Rattle.round_laws.proofs.Kind.{KeepsTheRule}
use Rattle.round_laws.proofs.Writing.{own_group}

-- Its place changes, and its mode.

leaves_mode :
    (kind : Kind) (writes : Bool) (x : ThreadResult) → is_absent kind ≡ false →
    8 + number_of x ≡ mode_code kind writes (Left x)
leaves_mode Online writes x e = refl
leaves_mode Offline writes x e = refl
leaves_mode KindAbsent writes x e = cc

leaves_nmi : (kind : Kind) (kicked : Bool) (x : ThreadResult) → nmi_code kind kicked (Left x) ≡ nmi_code kind kicked In
leaves_nmi Online kicked x = refl
leaves_nmi Offline true x = refl
leaves_nmi Offline false x = refl
leaves_nmi KindAbsent kicked x = refl

left_says :
    (plan : Plan) (s : State) (t : ℕ) (x : ThreadResult) →
    is_absent (plan.kind t) ≡ false →
    s.place t ≡ In →
    record (words_of plan s) { mode = put (words_of plan s).mode t (8 + number_of x) }
    ≡ words_of plan (record s { place = put s.place t (Left x) })
unfolding words_of
left_says plan s t x present inside =
    let ctrls : (λ (u : ℕ). ctrl_code (put s.place t (Left x) u) (s.freed u) (s.group (plan.group u)))
    ≡ (λ u. ctrl_code (s.place u) (s.freed u) (s.group (plan.group u))) =
    code_kept (λ u p. ctrl_code p (s.freed u) (s.group (plan.group u))) s.place t (Left x)
    (ap (λ p. ctrl_code p (s.freed t) (s.group (plan.group t))) (sym inside)) in
    let nmis : (λ (u : ℕ). nmi_code (plan.kind u) (s.kicked u) (put s.place t (Left x) u))
    ≡ (λ u. nmi_code (plan.kind u) (s.kicked u) (s.place u)) =
    code_kept (λ u p. nmi_code (plan.kind u) (s.kicked u) p) s.place t (Left x)
    (leaves_nmi (plan.kind t) (s.kicked t) x ∙ ap (nmi_code (plan.kind t) (s.kicked t)) (sym inside)) in
    λ i. record (words_of plan s) {
      mode =
          coded (λ u p. mode_code (plan.kind u) (writes_now plan u s.group) p) s.place t (Left x) (8 + number_of x)
          (leaves_mode (plan.kind t) (writes_now plan t s.group) x present) i;
      ctrl = (sym ctrls) i;
      nmi = (sym nmis) i;
    }

-- the step of a thread that may leave
leave_kept :
    (plan : Plan) (moment : Running) (t : ℕ) (h : How) (first : Bool) (stage : Stage) (at polls mine : ℕ) →
    Sound plan →
    Padded plan →
    RuleBy plan (families moment.words) moment.locals first stage →
    is_step h ≡ true →
    moment.locals t ≡ at_phase phase.Leaving at polls mine →
    is_absent (plan.kind t) ≡ false →
    told mine ≡ mine →
    MayLeave plan t (result_of mine) (seen plan (views plan first moment.locals) stage moment.latched) →
    (let s = state plan first moment.locals stage in
    Knows (plan.kind t) plan t (at_phase phase.Left at polls mine)
    (record s { place = put s.place t (Left (result_of mine)) })) →
    Kept plan (event_of h t) moment (steps plan t h moment)
unfolding operation after put words_of views
leave_kept plan moment t h first stage at polls mine sound padded rule own here present told_is may knows =
    let local = at_phase phase.Leaving at polls mine in
    let new = at_phase phase.Left at polls mine in
    let x = result_of mine in
    let v = views plan first moment.locals in
    let s = λ (latched : ℕ → Bool). seen plan v stage latched in
    let next = λ (latched : ℕ → Bool). record (s latched) { place = put (s latched).place t (Left x) } in
    let shows = view_is plan moment.locals first t local here in
    let inside = is_inside plan moment.locals first stage nobody t local here refl in
    let raw : v.place t ≡ In = ap (λ (w : View). w.place) shows in
    let leaves : Leaves plan t x (s moment.latched) (next moment.latched) =
    record { is_in = inside; may = may; change = refl } in
    step_kept plan moment t h (Store (word.Mode t) (8 + told mine)) local new
    (what.Leave x) first first stage stage next
    sound padded rule here refl
    (ap {A = ℕ} {B = Local × What} (λ n. (at_phase phase.Left at polls n, what.Leave x)) told_is)
    (λ other. refl)
    (record {
      sees = λ latched.
          ap (λ y. seen plan y stage latched)
          (only_place v t (view plan t first new) (Left x) (ap (λ (w : View). record w { place = Left x }) (sym shows)))
          ∙ sees_place plan v stage latched t (Left x) (λ p z. ap (λ y. freed_seen y p z) (sym raw));
      says =
          ap (λ (w : Families). record w { mode = put w.mode t (8 + number_of x) }) rule.says
          ∙ left_says plan (s nobody) t x present inside;
      gathered = rule.gathered;
      later = later_place t (s nobody) t (Left x) (λ e. refl) (λ e. let same : In ≡ Withdrawn = sym inside ∙ e in cc);
    })
    knows
    (own_round plan t h (s moment.latched) (next moment.latched) (what.Leave x) own (refl, leaves) (refl, leaves))

-- Who may leave.

-- thread 0 after a drop is done with each Offline thread
settled_all :
    (place : Place) (p : Bool) →
    place ≢ Absent →
    ((freed_seen place p true || is_halted (place_seen place true)) || is_withdrawn (place_seen place true)) ≡ true
settled_all Out true other = refl
settled_all Out false other = refl
settled_all In true other = refl
settled_all In false other = refl
settled_all (Left x) true other = refl
settled_all (Left x) false other = refl
settled_all Halted p other = refl
settled_all Withdrawn true other = refl
settled_all Withdrawn false other = refl
settled_all Absent p other = absurd (other refl)

offline_present : (p : Phase) (t mine : ℕ) (s : State) → OfflineKnows p t mine s → place_in p mine ≢ Absent
offline_present phase.Outside t mine s knows e = cc
offline_present phase.OfflineCount t mine s knows e = cc
offline_present phase.OfflineHold t mine s knows e = cc
offline_present phase.Leaving t mine s knows e = cc
offline_present phase.Left t mine s knows e = cc
offline_present phase.Halted t mine s knows e = cc
offline_present phase.Withdrawn t mine s knows e = cc
offline_present p t mine s knows e = absurd knows

-- a primary that leaves is done with each sibling
freed_all : (place : Place) (z : Bool) → (freed_seen place true z || is_halted (place_seen place z)) ≡ true
freed_all Out true = refl
freed_all Out false = refl
freed_all In z = refl
freed_all (Left x) z = refl
freed_all Halted z = refl
freed_all Withdrawn z = refl
freed_all Absent z = refl

arrived_or_zero : (z first : Bool) → ((not z || first) || z) ≡ true
arrived_or_zero true true = refl
arrived_or_zero true false = refl
arrived_or_zero false first = refl

-- after a drop
may_drop :
    (plan : Plan) (words : Families) (locals : ℕ → Local) (latched : ℕ → Bool) (first : Bool) (stage : Stage)
    (t at polls : ℕ) →
    RuleBy plan words locals first stage →
    locals t ≡ at_phase phase.Leaving at polls 5 →
    plan.kind t ≡ Online →
    is_dropped stage ≡ true → MayLeave plan t results.Timeout (seen plan (views plan first locals) stage latched)
unfolding views
may_drop plan words locals latched first stage t at polls rule here online dropped =
    let v = views plan first locals in
    let shows = view_is plan locals first t (at_phase phase.Leaving at polls 5) here in
    after_drop (record {
      is_online = online;
      dropped = dropped;
      has_arrived = ap (λ (w : View). w.arrived || (t == 0)) shows ∙ arrived_or_zero (t == 0) first;
      zero_last = λ zero k offline.
          let l = locals k in
          let settled : v.settles 0 k ≡ true =
          ap (λ u. v.settles u k) (sym zero)
          ∙ ap (λ (w : View). w.settles k) shows
          ∙ and_both (t == 0) (is_offline (plan.kind k) && true) (same_numbers t 0 zero)
          (and_both (is_offline (plan.kind k)) true (ap is_offline offline) refl) in
          ap
          (λ z.
          (freed_seen (v.place k) (v.frees (plan.primary (plan.group k)) k) z || is_halted (place_seen (v.place k) z))
          || is_withdrawn (place_seen (v.place k) z))
          settled
          ∙ settled_all (v.place k) (v.frees (plan.primary (plan.group k)) k)
          (offline_present l.phase k l.mine (state plan first locals stage)
          (subst (λ kind. Knows kind plan k l (state plan first locals stage)) offline (rule.knows k)));
      result = refl;
    })

-- after a go, as a primary or not
may_go :
    (plan : Plan) (words : Families) (locals : ℕ → Local) (latched : ℕ → Bool) (first : Bool) (stage : Stage)
    (t at polls mine : ℕ) (primary : Bool) →
    Sound plan →
    Padded plan →
    RuleBy plan words locals first stage →
    locals t ≡ at_phase phase.Leaving at polls mine →
    plan.kind t ≡ Online →
    is_primary plan t ≡ primary →
    is_timeout mine ≡ false →
    Ends false plan t mine (state plan first locals stage) →
    MayLeave plan t (result_of mine) (seen plan (views plan first locals) stage latched)
unfolding views result_for
may_go plan words locals latched first stage t at polls mine true sound padded rule here online primary goes ends =
    let v = views plan first locals in
    let local = at_phase phase.Leaving at polls mine in
    let shows = view_is plan locals first t local here in
    as_primary (record {
      is_primary = primary;
      going = ends.0;
      result =
          own_group plan locals first t local here primary
          ∙ ap (λ b. if b then if is_timeout mine then Waiting else Reported (result_of mine) else Waiting) primary
          ∙ ap (λ b. if b then Waiting else Reported (result_of mine)) goes;
      others_done = λ u sibling.
          let freed : v.frees (plan.primary (plan.group u)) u ≡ true =
          ap (λ p. v.frees p u) (leads_sibling plan t u primary sibling)
          ∙ ap (λ (w : View). w.frees u) shows
          ∙ and_both (is_primary plan t) (is_sibling plan t u && not (is_timeout mine)) primary
          (and_both (is_sibling plan t u) (not (is_timeout mine)) sibling (ap not goes)) in
          ap (λ p. freed_seen (v.place u) p (v.settles 0 u) || is_halted (place_seen (v.place u) (v.settles 0 u))) freed
          ∙ freed_all (v.place u) (v.settles 0 u);
    })
may_go plan words locals latched first stage t at polls mine false sound padded rule here online primary goes ends =
    let g = plan.group t in
    let r = report_of plan g in
    let reported =
    freed_reported plan words locals first stage t sound padded rule (ap is_dropped ends.0) (ends.2 primary) in
    let own : result_of mine ≡ okay_for r =
    ap result_of ends.1
    ∙ number_back (if is_primary plan t then r else okay_for r)
    ∙ ap (λ b. if b then r else okay_for r) primary in
    as_sibling (record {
      is_online = online;
      is_no_primary = primary;
      going = ends.0;
      is_freed = ends.2 primary;
      result = ap passed_on reported ∙ ap (λ x. Some x) (sym own);
    })

-- a result has its own number
result_told : (plan : Plan) (t mine : ℕ) → mine ≡ number_of (result_for plan t) → told mine ≡ mine
result_told plan t mine e = ap told e ∙ ap number_of (number_back (result_for plan t)) ∙ sym e

ends_stay :
    (b : Bool) (plan : Plan) (t mine : ℕ) (s : State) (place : ℕ → Place) →
    Ends b plan t mine s → Ends b plan t mine (record s { place = place })
ends_stay true plan t mine s place ends = ends
ends_stay false plan t mine s place ends = ends

leaves_online :
    (plan : Plan) (moment : Running) (t : ℕ) (h : How) (first : Bool) (stage : Stage) (at polls mine : ℕ)
    (drops : Bool) →
    Sound plan →
    Padded plan →
    RuleBy plan (families moment.words) moment.locals first stage →
    is_step h ≡ true →
    moment.locals t ≡ at_phase phase.Leaving at polls mine →
    plan.kind t ≡ Online →
    is_timeout mine ≡ drops →
    Ends drops plan t mine (state plan first moment.locals stage) →
    Kept plan (event_of h t) moment (steps plan t h moment)
leaves_online plan moment t h first stage at polls mine true sound padded rule own here online drops ends =
    let s = state plan first moment.locals stage in
    let five : mine ≡ 5 = equal_numbers mine 5 drops in
    leave_kept plan moment t h first stage at polls 5 sound padded rule own
    (here ∙ ap (at_phase phase.Leaving at polls) five)
    (ap is_absent online)
    refl
    (may_drop plan (families moment.words) moment.locals moment.latched first stage t at polls rule
    (here ∙ ap (at_phase phase.Leaving at polls) five) online ends)
    (subst
    (λ kind. Knows kind plan t (at_phase phase.Left at polls 5)
    (record s { place = put s.place t (Left results.Timeout) })) (sym online) ends)
leaves_online plan moment t h first stage at polls mine false sound padded rule own here online goes ends =
    let s = state plan first moment.locals stage in
    let place = put s.place t (Left (result_of mine)) in
    leave_kept plan moment t h first stage at polls mine sound padded rule own here
    (ap is_absent online)
    (result_told plan t mine ends.1)
    (may_go plan (families moment.words) moment.locals moment.latched first stage t at polls mine
    (is_primary plan t) sound padded rule here online refl goes ends)
    (subst (λ kind. Knows kind plan t (at_phase phase.Left at polls mine) (record s { place = place })) (sym online)
    (subst (λ b. Ends b plan t mine (record s { place = place })) (sym goes)
    (ends_stay false plan t mine s place ends)))

leaves_offline :
    (plan : Plan) (moment : Running) (t : ℕ) (h : How) (first : Bool) (stage : Stage) (at polls mine : ℕ) →
    Sound plan →
    Padded plan →
    RuleBy plan (families moment.words) moment.locals first stage →
    is_step h ≡ true →
    moment.locals t ≡ at_phase phase.Leaving at polls mine →
    plan.kind t ≡ Offline →
    CameAndFreed t mine (state plan first moment.locals stage) → Kept plan (event_of h t) moment (steps plan t h moment)
unfolding views
leaves_offline plan moment t h first stage at polls mine sound padded rule own here offline row =
    let s = state plan first moment.locals stage in
    let six = row.0.1 in
    let here' = here ∙ ap (at_phase phase.Leaving at polls) six in
    leave_kept plan moment t h first stage at polls 6 sound padded rule own here'
    (ap is_absent offline)
    refl
    (as_offline (record {
      is_offline = offline;
      has_arrived =
          ap (λ (w : View). w.arrived) (view_is plan moment.locals first t (at_phase phase.Leaving at polls 6) here');
      is_freed = row.1;
      result = refl;
    }))
    (subst
    (λ kind. Knows kind plan t (at_phase phase.Left at polls 6)
    (record s { place = put s.place t (Left results.Offline) })) (sym offline)
    ((row.0.0, refl), row.1))

leaves_by :
    (plan : Plan) (moment : Running) (t : ℕ) (h : How) (kind : Kind) →
    Sound plan →
    Padded plan →
    (rule : Ruled plan moment) →
    is_step h ≡ true →
    (moment.locals t).phase ≡ phase.Leaving →
    plan.kind t ≡ kind →
    Knows kind plan t (moment.locals t) (state plan rule.first moment.locals rule.stage) →
    Kept plan (event_of h t) moment (steps plan t h moment)
leaves_by plan moment t h Online sound padded rule own e kind knows =
    let l = moment.locals t in
    leaves_online plan moment t h rule.first rule.stage l.at l.polls l.mine
    (is_timeout l.mine) sound padded rule.by own (is_at l phase.Leaving e) kind refl
    (subst (λ p. OnlineKnows p plan t l.at l.mine (state plan rule.first moment.locals rule.stage)) e knows)
leaves_by plan moment t h Offline sound padded rule own e kind knows =
    let l = moment.locals t in
    leaves_offline plan moment t h rule.first rule.stage l.at l.polls l.mine sound padded rule.by own
    (is_at l phase.Leaving e) kind
    (subst (λ p. OfflineKnows p t l.mine (state plan rule.first moment.locals rule.stage)) e knows)
leaves_by plan moment t h KindAbsent sound padded rule own e kind knows =
    let same : phase.Leaving ≡ phase.Nothing = sym e ∙ knows in absurd (leaving_not_nothing same)
  where
    is_leaving : Phase → Bool
    is_leaving phase.Leaving = true
    is_leaving p = false

    leaving_not_nothing : phase.Leaving ≡ phase.Nothing → ⊥
    leaving_not_nothing f = true≢false (ap is_leaving f)

leaving_kept : (h : How) → is_step h ≡ true → KeepsTheRule phase.Leaving h
unfolding KeepsTheRule
leaving_kept h own plan moment t sound padded rule phase_is =
    leaves_by plan moment t h (plan.kind t) sound padded rule own phase_is refl (rule.by.knows t)

pub leaving_step : KeepsTheRule phase.Leaving how.Step
leaving_step = leaving_kept how.Step refl

pub leaving_timeout : KeepsTheRule phase.Leaving how.Timeout
leaving_timeout = leaving_kept how.Timeout refl
