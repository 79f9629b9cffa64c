-- What the rule says of the state that the views make.
use Rattle.std.proofs.Common.{◌≡◌, ◌≢◌, ℕ, Bool, true, false, not, ◌&&◌, if◌then◌else◌, refl, ap, sym, ◌∙◌, subst, inl, inr, true≢false}
use Rattle.rendezvous_steps.specs.declared.steps.Kind.TheVariants.{Offline}
use Rattle.rendezvous_steps.specs.declared.steps.ThreadResult.{ThreadResult}
use Rattle.rendezvous_steps.specs.declared.steps.ThreadResult.TheVariants as results
use Rattle.rendezvous_steps.specs.declared.steps.Phase.{Phase}
use Rattle.rendezvous_steps.specs.declared.steps.Phase.TheVariants as phase
use Rattle.rendezvous_steps.specs.declared.steps.Local.{Local}
use Rattle.rendezvous_steps.specs.declared.steps.How.{How}
use Rattle.rendezvous_steps.specs.declared.steps.How.TheVariants as how
use Rattle.rendezvous_steps.specs.declared.items.What.{What}
use Rattle.rendezvous_steps.specs.Plan.{Plan, Sound, is_offline, is_primary, is_sibling}
use Rattle.rendezvous_steps.specs.Padded.{Padded}
use Rattle.rendezvous_steps.specs.Words.{Families}
use Rattle.rendezvous_steps.specs.StepTable.{number_of, result_of}
use Rattle.rendezvous_model.specs.Round.{Place, Out, In, Left, Halted, Withdrawn, Absent as PlaceAbsent, Stage, Going, GroupPlace, Waiting, Written, Reported, State, Step, Timeout, nobody, is_dropped}
use Rattle.rendezvous_model.specs.RoundStep.{Round, RoundBy}
use Rattle.rendezvous_rule.specs.View.{view, views, place_in, write_in, frees_in, settles_in, is_timeout}
use Rattle.rendezvous_rule.specs.Seen.{seen, place_seen, freed_seen}
use Rattle.rendezvous_model.specs.RoundEnds.{okay_for}
use Rattle.rendezvous_rule.specs.Knows.{Knows, OnlineKnows, OfflineKnows, Ends, report_of, result_for}
use Rattle.rendezvous_rule.specs.Rule.{RuleBy}
use Rattle.rule_laws.specs.Kept.{event_of, is_step}
use Rattle.rule_laws.proofs.Frame.{and_true, not_so, same_numbers, sibling}
use Rattle.rule_laws.proofs.Tables.{view_at}
use Rattle.rule_laws.proofs.Assemble.{settled_kicked, number_back, led, lead_write, absent_waits}

-- the state that the views make, with nobody latched
abbrev pub state : Plan → Bool → (ℕ → Local) → Stage → State
state plan first locals stage = seen plan (views plan first locals) stage nobody

-- the view of a thread whose state is known
pub view_is :
    (plan : Plan) (locals : ℕ → Local) (first : Bool) (t : ℕ) (local : Local) →
    locals t ≡ local → view_at (views plan first locals) t ≡ view plan t first local
unfolding views
view_is plan locals first t local here = ap (view plan t first) here

-- it is inside
pub is_inside :
    (plan : Plan) (locals : ℕ → Local) (first : Bool) (stage : Stage) (latched : ℕ → Bool) (t : ℕ) (local : Local) →
    locals t ≡ local →
    place_in local.phase local.mine ≡ In → (seen plan (views plan first locals) stage latched).place t ≡ In
unfolding views
is_inside plan locals first stage latched t local here inside =
    ap (λ p. place_seen p ((views plan first locals).settles 0 t)) (ap (λ l. place_in l.phase l.mine) here ∙ inside)

-- an item that comes of a step with or without patience left
pub own_round :
    (plan : Plan) (t : ℕ) (h : How) (s s' : State) (item : What) →
    is_step h ≡ true →
    RoundBy plan t Step s item s' → RoundBy plan t Timeout s item s' → Round plan s (event_of h t) item s'
own_round plan t how.Step s s' item own step timeout = step
own_round plan t how.Timeout s s' item own step timeout = timeout
own_round plan t how.Nmi s s' item own step timeout = cc

-- An Offline thread that is not kicked is outside.
unkicked_by :
    (p : Phase) (t mine : ℕ) (s : State) (settled : Bool) →
    OfflineKnows p t mine s → s.kicked t ≡ false → settled ≡ false → place_seen (place_in p mine) settled ≡ Out
unkicked_by phase.Outside t mine s settled knows e f = ap (place_seen Out) f
unkicked_by phase.OfflineCount t mine s settled knows e f = absurd (true≢false (sym knows.0 ∙ e))
unkicked_by phase.OfflineHold t mine s settled knows e f = absurd (true≢false (sym knows.0 ∙ e))
unkicked_by phase.Leaving t mine s settled knows e f = absurd (true≢false (sym knows.0.0 ∙ e))
unkicked_by phase.Left t mine s settled knows e f = absurd (true≢false (sym knows.0.0 ∙ e))
unkicked_by phase.Halted t mine s settled knows e f = absurd (true≢false (sym knows.0 ∙ e))
unkicked_by phase.Withdrawn t mine s settled knows e f = ap (place_seen Out) f
unkicked_by p t mine s settled knows e f = absurd knows

pub unkicked_is_out :
    (plan : Plan) (words : Families) (locals : ℕ → Local) (first : Bool) (stage : Stage) (k : ℕ) →
    RuleBy plan words locals first stage →
    plan.kind k ≡ Offline →
    (state plan first locals stage).kicked k ≡ false → (state plan first locals stage).place k ≡ Out
unfolding views
unkicked_is_out plan words locals first stage k rule offline e =
    let l = locals k in
    unkicked_by l.phase k l.mine (state plan first locals stage) ((views plan first locals).settles 0 k)
    (subst (λ kind. Knows kind plan k l (state plan first locals stage)) offline (rule.knows k))
    e
    (not_so ((views plan first locals).settles 0 k) (λ f. true≢false (sym (settled_kicked plan locals first k f) ∙ e)))

-- What an Online thread knows of the decision, by what others see of it.

ends_dropped :
    (b : Bool) (plan : Plan) (t mine : ℕ) (s : State) → b ≡ true → Ends b plan t mine s → is_dropped s.stage ≡ true
ends_dropped true plan t mine s e knows = knows
ends_dropped false plan t mine s e knows = cc

settled_row :
    (p : Phase) (plan : Plan) (t at mine u : ℕ) (s : State) →
    OnlineKnows p plan t at mine s → settles_in p at mine u ≡ true → is_dropped s.stage ≡ true
settled_row phase.Withdrawing plan t at mine u s knows e = knows.1
settled_row phase.Releasing plan t at mine u s knows e = knows.0.1
settled_row phase.Leaving plan t at mine u s knows e = ends_dropped (is_timeout mine) plan t mine s e knows
settled_row phase.Left plan t at mine u s knows e = ends_dropped (is_timeout mine) plan t mine s e knows
settled_row p plan t at mine u s knows e = cc

-- thread 0 is done with a thread on the drop path alone
pub settled_dropped :
    (plan : Plan) (words : Families) (locals : ℕ → Local) (first : Bool) (stage : Stage) (u : ℕ) →
    Sound plan →
    RuleBy plan words locals first stage → (views plan first locals).settles 0 u ≡ true → is_dropped stage ≡ true
unfolding views
settled_dropped plan words locals first stage u sound rule e =
    let l = locals 0 in
    let s = state plan first locals stage in
    settled_row l.phase plan 0 l.at l.mine u s
    (subst (λ kind. Knows kind plan 0 l s) sound.thread_0_is_online (rule.knows 0))
    (and_true (is_offline (plan.kind u)) (settles_in l.phase l.at l.mine u) e).1

pub going_undropped : (stage : Stage) → stage ≡ Going → is_dropped stage ≡ false
going_undropped stage e = ap is_dropped e

pub none_settled :
    (plan : Plan) (words : Families) (locals : ℕ → Local) (first : Bool) (stage : Stage) (u : ℕ) →
    Sound plan →
    RuleBy plan words locals first stage → is_dropped stage ≡ false → (views plan first locals).settles 0 u ≡ false
none_settled plan words locals first stage u sound rule e =
    not_so ((views plan first locals).settles 0 u)
    (λ f. true≢false (sym (settled_dropped plan words locals first stage u sound rule f) ∙ e))

-- A group's write has begun after a go alone.

ends_going :
    (b : Bool) (plan : Plan) (t mine : ℕ) (s : State) (x : ThreadResult) →
    Ends b plan t mine s → (if b then Waiting else Reported x) ≢ Waiting → s.stage ≡ Going
ends_going true plan t mine s x knows other = absurd (other refl)
ends_going false plan t mine s x knows other = knows.0

begun_row :
    (p : Phase) (plan : Plan) (t at mine : ℕ) (s : State) →
    OnlineKnows p plan t at mine s → write_in p mine ≢ Waiting → s.stage ≡ Going
begun_row phase.Writing plan t at mine s knows other = knows.1
begun_row phase.Checking plan t at mine s knows other = knows.1
begun_row phase.Reporting plan t at mine s knows other = knows.1
begun_row phase.Freeing plan t at mine s knows other = knows.0.1
begun_row phase.Leaving plan t at mine s knows other =
    ends_going (is_timeout mine) plan t mine s (result_of mine) knows other
begun_row phase.Left plan t at mine s knows other =
    ends_going (is_timeout mine) plan t mine s (result_of mine) knows other
begun_row p plan t at mine s knows other = absurd (other refl)

pub begun_going :
    (plan : Plan) (words : Families) (locals : ℕ → Local) (first : Bool) (stage : Stage) (g : ℕ) →
    Sound plan →
    Padded plan →
    RuleBy plan words locals first stage → (state plan first locals stage).group g ≢ Waiting → stage ≡ Going
begun_going plan words locals first stage g sound padded rule other =
    let p = plan.primary g in
    let l = locals p in
    let s = state plan first locals stage in
    elim (led plan g sound padded) [
      | inl lead ↦
          begun_row l.phase plan p l.at l.mine s
          (subst (λ kind. Knows kind plan p l s) lead.0 (rule.knows p))
          (λ e. other (lead_write plan locals first g lead.1 ∙ e))
      | inr absent ↦ absurd (other (absent_waits plan words locals first stage p rule absent))
    ]

-- What a group reported.

abbrev told_result : GroupPlace → ThreadResult
told_result (Reported x) = x
told_result place = results.Current

pub same_result : (x y : ThreadResult) → Reported x ≡ Reported y → x ≡ y
same_result x y e = ap told_result e

-- a primary's result is its group's
lead_result :
    (plan : Plan) (t mine : ℕ) → is_primary plan t ≡ true → mine ≡ number_of (result_for plan t) →
    result_of mine ≡ report_of plan (plan.group t)
unfolding result_for
lead_result plan t mine primary e =
    ap result_of e
    ∙ number_back
    (if is_primary plan t then report_of plan (plan.group t) else okay_for (report_of plan (plan.group t)))
    ∙ ap (λ b. if b then report_of plan (plan.group t) else okay_for (report_of plan (plan.group t))) primary

ends_reported :
    (b : Bool) (plan : Plan) (t mine : ℕ) (s : State) (x : ThreadResult) →
    is_primary plan t ≡ true →
    Ends b plan t mine s → (if b then Waiting else Reported (result_of mine)) ≡ Reported x →
    (s.stage ≡ Going) × (x ≡ report_of plan (plan.group t))
ends_reported true plan t mine s x primary knows e = cc
ends_reported false plan t mine s x primary knows e =
    (knows.0, sym (same_result (result_of mine) x e) ∙ lead_result plan t mine primary knows.1)

reporting_not : (b : Bool) (x : ThreadResult) → (if b then Waiting else Written) ≡ Reported x → ⊥
reporting_not true x e = cc
reporting_not false x e = cc

reported_row :
    (p : Phase) (plan : Plan) (t at mine : ℕ) (s : State) (x : ThreadResult) →
    is_primary plan t ≡ true →
    OnlineKnows p plan t at mine s → write_in p mine ≡ Reported x →
    (s.stage ≡ Going) × (x ≡ report_of plan (plan.group t))
reported_row phase.Reporting plan t at mine s x primary knows e = absurd (reporting_not _ x e)
reported_row phase.Freeing plan t at mine s x primary knows e = (
  knows.0.1,
  sym (same_result (result_of mine) x e) ∙ ap result_of knows.0.2
      ∙ number_back (report_of plan (plan.group t)),
)
reported_row phase.Leaving plan t at mine s x primary knows e =
    ends_reported (is_timeout mine) plan t mine s x primary knows e
reported_row phase.Left plan t at mine s x primary knows e =
    ends_reported (is_timeout mine) plan t mine s x primary knows e
reported_row p plan t at mine s x primary knows e = cc

pub lead_primary : (plan : Plan) (g : ℕ) → plan.group (plan.primary g) ≡ g → is_primary plan (plan.primary g) ≡ true
lead_primary plan g e =
    same_numbers (plan.primary g) (plan.primary (plan.group (plan.primary g))) (ap plan.primary (sym e))

-- what a group reported is what its offer and its refusal say
pub reported_is :
    (plan : Plan) (words : Families) (locals : ℕ → Local) (first : Bool) (stage : Stage) (g : ℕ) (x : ThreadResult) →
    Sound plan →
    Padded plan →
    RuleBy plan words locals first stage → (state plan first locals stage).group g ≡ Reported x →
    (stage ≡ Going) × (x ≡ report_of plan g)
reported_is plan words locals first stage g x sound padded rule e =
    let p = plan.primary g in
    let l = locals p in
    let s = state plan first locals stage in
    elim (led plan g sound padded) [
      | inl lead ↦
          let told = reported_row l.phase plan p l.at l.mine s x (lead_primary plan g lead.1)
          (subst (λ kind. Knows kind plan p l s) lead.0 (rule.knows p))
          (sym (lead_write plan locals first g lead.1) ∙ e) in
          (told.0, told.1 ∙ ap (report_of plan) lead.1)
      | inr absent ↦
          let same : Waiting ≡ Reported x = sym (absent_waits plan words locals first stage p rule absent) ∙ e in cc
    ]

-- Who was freed by its primary.

ends_frees :
    (b : Bool) (plan : Plan) (t mine : ℕ) (s : State) →
    is_primary plan t ≡ true →
    Ends b plan t mine s → not b ≡ true →
    (if b then Waiting else Reported (result_of mine)) ≡ Reported (report_of plan (plan.group t))
ends_frees true plan t mine s primary knows e = cc
ends_frees false plan t mine s primary knows e = ap (λ x. Reported x) (lead_result plan t mine primary knows.1)

frees_row :
    (p : Phase) (plan : Plan) (t at mine u : ℕ) (s : State) →
    is_primary plan t ≡ true →
    OnlineKnows p plan t at mine s → frees_in p at mine u ≡ true →
    write_in p mine ≡ Reported (report_of plan (plan.group t))
frees_row phase.Freeing plan t at mine u s primary knows e =
    ap (λ x. Reported x) (ap result_of knows.0.2 ∙ number_back (report_of plan (plan.group t)))
frees_row phase.Leaving plan t at mine u s primary knows e = ends_frees (is_timeout mine) plan t mine s primary knows e
frees_row phase.Left plan t at mine u s primary knows e = ends_frees (is_timeout mine) plan t mine s primary knows e
frees_row p plan t at mine u s primary knows e = cc

-- a primary is done with a thread of its group after its report
pub frees_reported :
    (plan : Plan) (words : Families) (locals : ℕ → Local) (first : Bool) (stage : Stage) (u : ℕ) →
    Sound plan →
    Padded plan →
    RuleBy plan words locals first stage →
    (views plan first locals).frees (plan.primary (plan.group u)) u ≡ true →
    (state plan first locals stage).group (plan.group u) ≡ Reported (report_of plan (plan.group u))
unfolding views
frees_reported plan words locals first stage u sound padded rule e =
    let g = plan.group u in
    let p = plan.primary g in
    let l = locals p in
    let s = state plan first locals stage in
    let parts = and_true (is_primary plan p) (is_sibling plan p u && frees_in l.phase l.at l.mine u) e in
    let more = and_true (is_sibling plan p u) (frees_in l.phase l.at l.mine u) parts.1 in
    let group : plan.group p ≡ g = sym (sibling plan p u more.0).same_group in
    elim (led plan g sound padded) [
      | inl lead ↦
          lead_write plan locals first g group
          ∙ frees_row l.phase plan p l.at l.mine u s parts.0
          (subst (λ kind. Knows kind plan p l s) lead.0 (rule.knows p)) more.1
          ∙ ap (λ h. Reported (report_of plan h)) group
      | inr absent ↦
          let nothing : l.phase ≡ phase.Nothing = subst (λ kind. Knows kind plan p l s) absent (rule.knows p) in
          absurd (true≢false (sym more.1 ∙ ap (λ x. frees_in x l.at l.mine u) nothing))
    ]

freed_parts : (place : Place) (p z : Bool) → z ≡ false → freed_seen place p z ≡ true → p ≡ true
freed_parts Out p z e f = f
freed_parts In true z e f = refl
freed_parts In false z e f = sym e ∙ f
freed_parts (Left x) true z e f = refl
freed_parts (Left x) false z e f = sym e ∙ f
freed_parts Halted p z e f = cc
freed_parts Withdrawn p z e f = f
freed_parts PlaceAbsent p z e f = f

-- after a go who is freed is of a group that reported
pub freed_reported :
    (plan : Plan) (words : Families) (locals : ℕ → Local) (first : Bool) (stage : Stage) (u : ℕ) →
    Sound plan →
    Padded plan →
    RuleBy plan words locals first stage →
    is_dropped stage ≡ false →
    (state plan first locals stage).freed u ≡ true →
    (state plan first locals stage).group (plan.group u) ≡ Reported (report_of plan (plan.group u))
freed_reported plan words locals first stage u sound padded rule undropped e =
    let v = views plan first locals in
    frees_reported plan words locals first stage u sound padded rule
    (freed_parts (v.place u) (v.frees (plan.primary (plan.group u)) u) (v.settles 0 u)
    (none_settled plan words locals first stage u sound rule undropped)
    e)
