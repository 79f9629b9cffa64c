-- The state that is shown is the state that the views make.
use Rattle.std.proofs.Common.{◌≡◌, ◌≢◌, ◌⊎◌, ℕ, ◌+◌, ◌-◌, ◌<◌, Bool, true, false, cond, not, ◌&&◌, ◌||◌, ◌==◌, if◌then◌else◌, refl, ap, sym, ◌∙◌, subst, arith, inl, inr}
use Rattle.std.proofs.lemmas.Bool.{cases_lt}
use Rattle.std.proofs.lemmas.Bool.Decides.{nat_tests}
use Rattle.rendezvous_steps.specs.declared.steps.Kind.{Kind}
use Rattle.rendezvous_steps.specs.declared.steps.Kind.TheVariants.{Online, Offline, Absent as KindAbsent}
use Rattle.rendezvous_steps.specs.declared.steps.ThreadResult.{ThreadResult}
use Rattle.rendezvous_steps.specs.declared.steps.ThreadResult.TheVariants as results
use Rattle.rendezvous_steps.specs.declared.steps.Phase.{Phase}
use Rattle.rendezvous_steps.specs.declared.steps.Phase.TheVariants as phase
use Rattle.rendezvous_steps.specs.declared.steps.Local.{Local}
use Rattle.rendezvous_steps.specs.Plan.{Plan, Sound, is_online, is_offline, is_primary}
use Rattle.rendezvous_steps.specs.Padded.{Padded}
use Rattle.rendezvous_steps.specs.Words.{Families}
use Rattle.rendezvous_steps.specs.StepTable.{number_of, result_of}
use Rattle.rendezvous_model.specs.Round.{Place, Out, In, Left, Halted, Withdrawn, Absent, Stage, Gathering, Going, DroppedByKick, DroppedBy, GroupPlace, Waiting, Written, Reported, State, nobody, is_gathering, still_awaited}
use Rattle.rendezvous_model.specs.Outcome.{decide_of}
use Rattle.rendezvous_rule.specs.Facets.{past_arriving, has_counted, is_deciding, is_writing, past_writing}
use Rattle.rendezvous_rule.specs.Awaited.{awaited}
use Rattle.rendezvous_rule.specs.Shown.{shown, place_of, arrived_of, stage_of, group_of}
use Rattle.rendezvous_rule.specs.View.{views, place_in, arrived_in, decides_in, write_in, kicks_in, settles_in, is_timeout}
use Rattle.rendezvous_rule.specs.Seen.{seen, words_of, place_seen, freed_seen, mode_code, ctrl_code, nmi_code, res_code, release_code, has_begun, writes_now}
use Rattle.rendezvous_rule.specs.Knows.{Knows, OnlineKnows, OfflineKnows}
use Rattle.rendezvous_rule.specs.Rule.{RuleBy}
use Rattle.rule_laws.proofs.Count.{count, count_same_from, same_or_not}
use Rattle.rule_laws.proofs.Threads.{count_zero_first}
use Rattle.rule_laws.proofs.Frame.{same_state, and_true, and_both, same_numbers, different, another_kind, at_phase}

-- Whom thread 0 is done with, it has kicked.

settled_kicked_in : (p : Phase) (at mine u : ℕ) → settles_in p at mine u ≡ true → kicks_in p at u ≡ true
settled_kicked_in phase.Outside at mine u e = cc
settled_kicked_in phase.Kicking at mine u e = cc
settled_kicked_in p at mine u e = refl

pub settled_kicked :
    (plan : Plan) (locals : ℕ → Local) (first : Bool) (u : ℕ) →
    (views plan first locals).settles 0 u ≡ true → (views plan first locals).kicks 0 u ≡ true
unfolding views
settled_kicked plan locals first u e =
    let l = locals 0 in
    let parts = and_true (is_offline (plan.kind u)) (settles_in l.phase l.at l.mine u) e in
    and_both (is_offline (plan.kind u)) (kicks_in l.phase l.at u) parts.0
    (settled_kicked_in l.phase l.at l.mine u parts.1)

-- Where a thread is.

-- places of a kind, with a kick where there is one
abbrev pub fits : Kind → Place → Bool → Bool
fits Online Out kicked = true
fits Online In kicked = true
fits Online (Left x) kicked = true
fits Online Halted kicked = true
fits Offline Out kicked = true
fits Offline In kicked = kicked
fits Offline (Left x) kicked = kicked
fits Offline Halted kicked = kicked
fits Offline Withdrawn kicked = kicked
fits KindAbsent Absent kicked = true
fits kind place kicked = false

release_small : (group : GroupPlace) → (release_code group == 3) ≡ false
release_small (Reported results.Updated) = refl
release_small group = refl

waits_small : (freed : Bool) (group : GroupPlace) → ((if freed then release_code group else 0) == 3) ≡ false
waits_small true group = release_small group
waits_small false group = refl

-- who has not halted, by its word
unhalted :
    (freed : Bool) (group : GroupPlace) (x : Place) →
    (if (if freed then release_code group else 0) == 3 then Halted else x) ≡ x
unhalted freed group x = let e = waits_small freed group in rw e refl

place_back :
    (kind : Kind) (place : Place) (writes freed kicked : Bool) (group : GroupPlace) →
    fits kind place kicked ≡ true →
    place_of kind (mode_code kind writes place) (ctrl_code place freed group) (nmi_code kind kicked place) ≡ place
place_back Online Out writes freed kicked group e = unhalted freed group Out
place_back Online In true freed kicked group e = unhalted freed group In
place_back Online In false freed kicked group e = unhalted freed group In
place_back Online (Left results.Updated) writes freed kicked group e = unhalted freed group (Left results.Updated)
place_back Online (Left results.Okay) writes freed kicked group e = unhalted freed group (Left results.Okay)
place_back Online (Left results.Current) writes freed kicked group e = unhalted freed group (Left results.Current)
place_back Online (Left results.Error) writes freed kicked group e = unhalted freed group (Left results.Error)
place_back Online (Left results.Timeout) writes freed kicked group e = unhalted freed group (Left results.Timeout)
place_back Online (Left results.Offline) writes freed kicked group e = unhalted freed group (Left results.Offline)
place_back Online Halted writes freed kicked group e = refl
place_back Online Withdrawn writes freed kicked group e = cc
place_back Online Absent writes freed kicked group e = cc
place_back Offline Out writes freed true group e = unhalted freed group Out
place_back Offline Out writes freed false group e = unhalted freed group Out
place_back Offline In writes freed true group e = unhalted freed group In
place_back Offline (Left results.Updated) writes freed true group e = unhalted freed group (Left results.Updated)
place_back Offline (Left results.Okay) writes freed true group e = unhalted freed group (Left results.Okay)
place_back Offline (Left results.Current) writes freed true group e = unhalted freed group (Left results.Current)
place_back Offline (Left results.Error) writes freed true group e = unhalted freed group (Left results.Error)
place_back Offline (Left results.Timeout) writes freed true group e = unhalted freed group (Left results.Timeout)
place_back Offline (Left results.Offline) writes freed true group e = unhalted freed group (Left results.Offline)
place_back Offline Halted writes freed true group e = refl
place_back Offline Withdrawn writes freed true group e = unhalted freed group Withdrawn
place_back Offline Absent writes freed true group e = cc
place_back Offline In writes freed false group e = cc
place_back Offline (Left x) writes freed false group e = cc
place_back Offline Halted writes freed false group e = cc
place_back Offline Withdrawn writes freed false group e = cc
place_back Offline Absent writes freed false group e = cc
place_back KindAbsent Out writes freed kicked group e = cc
place_back KindAbsent In writes freed kicked group e = cc
place_back KindAbsent (Left x) writes freed kicked group e = cc
place_back KindAbsent Halted writes freed kicked group e = cc
place_back KindAbsent Withdrawn writes freed kicked group e = cc
place_back KindAbsent Absent writes freed kicked group e = unhalted freed group Absent

-- each thread is at a place of its kind

online_fits :
    (p : Phase) (plan : Plan) (t at mine : ℕ) (s : State) (kicked settled : Bool) →
    OnlineKnows p plan t at mine s → settled ≡ false → fits Online (place_seen (place_in p mine) settled) kicked ≡ true
online_fits phase.Outside plan t at mine s kicked settled knows e = ap (λ z. fits Online (place_seen Out z) kicked) e
online_fits phase.OfflineCount plan t at mine s kicked settled knows e = absurd knows
online_fits phase.OfflineHold plan t at mine s kicked settled knows e = absurd knows
online_fits phase.Withdrawn plan t at mine s kicked settled knows e = absurd knows
online_fits phase.Nothing plan t at mine s kicked settled knows e = absurd knows
online_fits p plan t at mine s kicked settled knows e = refl

offline_fits :
    (p : Phase) (t mine : ℕ) (s : State) (settled : Bool) →
    OfflineKnows p t mine s →
    (settled ≡ true → s.kicked t ≡ true) →
    (p ≡ phase.Withdrawn → place_seen (place_in p mine) settled ≡ s.place t) →
    fits Offline (place_seen (place_in p mine) settled) (s.kicked t) ≡ true
offline_fits phase.Outside t mine s true knows kicks same = kicks refl
offline_fits phase.Outside t mine s false knows kicks same = refl
offline_fits phase.OfflineCount t mine s settled knows kicks same = knows.0
offline_fits phase.OfflineHold t mine s settled knows kicks same = knows.0
offline_fits phase.Leaving t mine s settled knows kicks same = knows.0.0
offline_fits phase.Left t mine s settled knows kicks same = knows.0.0
offline_fits phase.Halted t mine s settled knows kicks same = knows.0
offline_fits phase.Withdrawn t mine s true knows kicks same = kicks refl
offline_fits phase.Withdrawn t mine s false knows kicks same = refl
offline_fits p t mine s settled knows kicks same = absurd knows

-- of a thread that is not Offline thread 0 settles nothing
pub unsettled :
    (plan : Plan) (locals : ℕ → Local) (first : Bool) (u : ℕ) →
    is_offline (plan.kind u) ≡ false → (views plan first locals).settles 0 u ≡ false
unfolding views
unsettled plan locals first u e = rw e refl

pub unkicked :
    (plan : Plan) (locals : ℕ → Local) (first : Bool) (u : ℕ) →
    is_offline (plan.kind u) ≡ false → (views plan first locals).kicks 0 u ≡ false
unfolding views
unkicked plan locals first u e = rw e refl

pub fits_by :
    (plan : Plan) (words : Families) (locals : ℕ → Local) (first : Bool) (stage : Stage) (u : ℕ) (kind : Kind) →
    RuleBy plan words locals first stage →
    plan.kind u ≡ kind →
    (let s = seen plan (views plan first locals) stage nobody in fits kind (s.place u) (s.kicked u) ≡ true)
unfolding views
fits_by plan words locals first stage u Online rule e =
    let s = seen plan (views plan first locals) stage nobody in
    let l = locals u in
    online_fits l.phase plan u l.at l.mine s (s.kicked u) ((views plan first locals).settles 0 u)
    (subst (λ kind. Knows kind plan u l s) e (rule.knows u))
    (unsettled plan locals first u (ap is_offline e))
fits_by plan words locals first stage u Offline rule e =
    let s = seen plan (views plan first locals) stage nobody in
    let l = locals u in
    offline_fits l.phase u l.mine s ((views plan first locals).settles 0 u)
    (subst (λ kind. Knows kind plan u l s) e (rule.knows u))
    (settled_kicked plan locals first u)
    (λ f. refl)
fits_by plan words locals first stage u KindAbsent rule e =
    let s = seen plan (views plan first locals) stage nobody in
    let l = locals u in
    let nothing : l.phase ≡ phase.Nothing = subst (λ kind. Knows kind plan u l s) e (rule.knows u) in
    ap (λ p. fits KindAbsent (place_seen (place_in p l.mine) ((views plan first locals).settles 0 u)) (s.kicked u))
    nothing

-- Who was kicked.

kicked_back :
    (kind : Kind) (place : Place) (kicked : Bool) → (is_offline kind ≡ false → kicked ≡ false) →
    not (nmi_code kind kicked place == 0) ≡ kicked
kicked_back Online place kicked e = sym (e refl)
kicked_back Offline place false e = refl
kicked_back Offline Out true e = refl
kicked_back Offline In true e = refl
kicked_back Offline (Left x) true e = refl
kicked_back Offline Halted true e = refl
kicked_back Offline Withdrawn true e = refl
kicked_back Offline Absent true e = refl
kicked_back KindAbsent place kicked e = sym (e refl)

-- Who was freed.

told_freed :
    (freed : Bool) (group : GroupPlace) →
    (let c = if freed then release_code group else 0 in (c == 1) || (c == 2)) ≡ freed
told_freed true (Reported results.Updated) = refl
told_freed true group = refl
told_freed false group = refl

freed_back :
    (place : Place) (p z : Bool) (group : GroupPlace) →
    (let c = ctrl_code (place_seen place z) (freed_seen place p z) group in (c == 1) || (c == 2)) ≡ freed_seen place p z
freed_back Out p true group = told_freed p group
freed_back Out p false group = told_freed p group
freed_back In p z group = told_freed (p || z) group
freed_back (Left x) p z group = told_freed (p || z) group
freed_back Halted p z group = refl
freed_back Withdrawn p z group = told_freed p group
freed_back Absent p z group = told_freed p group

-- Who has arrived.

pub either_way : (b : Bool) → (if b then true else true) ≡ true
either_way true = refl
either_way false = refl

pub online_arrived :
    (p : Phase) (plan : Plan) (t at mine : ℕ) (s : State) →
    OnlineKnows p plan t at mine s → past_arriving p ≡ arrived_in p mine true
unfolding past_arriving
online_arrived phase.Outside plan t at mine s knows = refl
online_arrived phase.Kicking plan t at mine s knows = refl
online_arrived phase.OfflineWait plan t at mine s knows = refl
online_arrived phase.Arriving plan t at mine s knows = refl
online_arrived phase.OfflineCount plan t at mine s knows = absurd knows
online_arrived phase.Withdrawn plan t at mine s knows = absurd knows
online_arrived phase.Nothing plan t at mine s knows = absurd knows
online_arrived phase.Leaving plan t at mine s knows = sym (either_way (is_timeout mine))
online_arrived phase.Left plan t at mine s knows = sym (either_way (is_timeout mine))
online_arrived p plan t at mine s knows = refl

pub offline_arrived :
    (p : Phase) (t mine : ℕ) (s : State) →
    OfflineKnows p t mine s → has_counted p ≡ arrived_in p mine true
unfolding has_counted
offline_arrived phase.Outside t mine s knows = refl
offline_arrived phase.OfflineCount t mine s knows = refl
offline_arrived phase.OfflineHold t mine s knows = refl
offline_arrived phase.Leaving t mine s knows = sym (either_way (is_timeout mine))
offline_arrived phase.Left t mine s knows = sym (either_way (is_timeout mine))
offline_arrived phase.Halted t mine s knows = refl
offline_arrived phase.Withdrawn t mine s knows = refl
offline_arrived p t mine s knows = absurd knows

-- a thread other than 0 has arrived by its phase
pub others_arrived :
    (plan : Plan) (locals : ℕ → Local) (first : Bool) (u : ℕ) →
    u ≢ 0 → (views plan first locals).arrived u ≡ arrived_in (locals u).phase (locals u).mine true
unfolding views
others_arrived plan locals first u other =
    let e = different u 0 other in
    let l = locals u in ap (λ z. arrived_in l.phase l.mine (not z || first)) e

awaits_by :
    (plan : Plan) (words : Families) (locals : ℕ → Local) (first : Bool) (stage : Stage) (u : ℕ) (kind : Kind) →
    RuleBy plan words locals first stage →
    plan.kind u ≡ kind →
    u ≢ 0 →
    (is_online kind && not ((views plan first locals).arrived u))
    ≡ (is_online kind && not (past_arriving (locals u).phase))
awaits_by plan words locals first stage u Online rule e other =
    let s = seen plan (views plan first locals) stage nobody in
    let l = locals u in
    ap not (others_arrived plan locals first u other
    ∙ sym (online_arrived l.phase plan u l.at l.mine s (subst (λ kind. Knows kind plan u l s) e (rule.knows u))))
awaits_by plan words locals first stage u Offline rule e other = refl
awaits_by plan words locals first stage u KindAbsent rule e other = refl

-- the Online threads that have not arrived are thread 0, where it has not, and the others that are awaited
pub still_awaited_is :
    (plan : Plan) (words : Families) (locals : ℕ → Local) (first : Bool) (stage : Stage) →
    Sound plan →
    RuleBy plan words locals first stage →
    (let v = views plan first locals in still_awaited plan v.arrived ≡ cond (v.arrived 0) 0 1 + awaited plan locals)
unfolding still_awaited awaited
still_awaited_is plan words locals first stage sound rule =
    let v = views plan first locals in
    let missing = λ (u : ℕ). is_online (plan.kind u) && not (v.arrived u) in
    let others : count missing 1 (plan.threads - 1)
    ≡ count (λ u. is_online (plan.kind u) && not (past_arriving (locals u).phase)) 1 (plan.threads - 1) =
    count_same_from _ _ 1 (plan.threads - 1)
    (λ u h. awaits_by plan words locals first stage u (plan.kind u) rule refl (omega arith)) in
    let zero : cond (missing 0) 1 0 ≡ cond (v.arrived 0) 0 1 =
    ap (λ k. cond (is_online k && not (v.arrived 0)) 1 0) sound.thread_0_is_online ∙ turned (v.arrived 0) in
    count_zero_first plan missing sound.some_thread ∙ rw (zero, others) refl
  where
    turned : (b : Bool) → cond {A = ℕ} (not b) 1 0 ≡ cond b 0 1
    turned true = refl
    turned false = refl

told_by_count : (b : Bool) (n : ℕ) → (cond b 0 1 + n == n) ≡ b
told_by_count true n = grind (arith, nat_tests)
told_by_count false n = grind (arith, nat_tests)

arrived_by :
    (plan : Plan) (words : Families) (locals : ℕ → Local) (first zero_arrived : Bool) (stage : Stage) (u : ℕ)
    (kind : Kind) →
    Sound plan →
    RuleBy plan words locals first stage →
    plan.kind u ≡ kind →
    zero_arrived ≡ (views plan first locals).arrived 0 →
    arrived_of kind (u == 0) zero_arrived (locals u) ≡ (views plan first locals).arrived u
unfolding views
arrived_by plan words locals first z stage u Online sound rule e same =
    elim (same_or_not u 0) [
      | inl zero ↦
          ap (λ b. arrived_of Online b z (locals u)) (same_numbers u 0 zero) ∙ same
          ∙ ap (views plan first locals).arrived (sym zero)
      | inr other ↦
          let s = seen plan (views plan first locals) stage nobody in
          let l = locals u in
          ap (λ b. arrived_of Online b z l) (different u 0 other)
          ∙ online_arrived l.phase plan u l.at l.mine s (subst (λ kind. Knows kind plan u l s) e (rule.knows u))
          ∙ sym (others_arrived plan locals first u other)
    ]
arrived_by plan words locals first z stage u Offline sound rule e same =
    let s = seen plan (views plan first locals) stage nobody in
    let l = locals u in
    let other : u ≢ 0 = another_kind plan 0 u sound.thread_0_is_online e in
    offline_arrived l.phase u l.mine s (subst (λ kind. Knows kind plan u l s) e (rule.knows u))
    ∙ sym (others_arrived plan locals first u other)
arrived_by plan words locals first z stage u KindAbsent sound rule e same =
    let s = seen plan (views plan first locals) stage nobody in
    let l = locals u in
    let nothing : l.phase ≡ phase.Nothing = subst (λ kind. Knows kind plan u l s) e (rule.knows u) in
    sym (ap (λ p. arrived_in p l.mine (not (u == 0) || first)) nothing)

-- The stage, and the decider.

pub stage_back : (stage : Stage) → stage_of (decide_of stage) ≡ stage
stage_back Gathering = refl
stage_back Going = refl
stage_back DroppedByKick = refl
stage_back (DroppedBy t) =
    let a : (3 + t == 0) ≡ false = grind (arith, nat_tests) in
    let b : (3 + t == 1) ≡ false = grind (arith, nat_tests) in
    let c : (3 + t == 2) ≡ false = grind (arith, nat_tests) in
    let d : 3 + t - 3 ≡ t = omega arith in rw (a, b, c, d) refl

pub undecided : (stage : Stage) → (decide_of stage == 0) ≡ is_gathering stage
undecided Gathering = refl
undecided Going = refl
undecided DroppedByKick = refl
undecided (DroppedBy t) = grind (arith, nat_tests)

decides_by : (p : Phase) → is_deciding p ≡ decides_in p
unfolding is_deciding
decides_by phase.Deciding = refl
decides_by p = refl

decider_back :
    (plan : Plan) (locals : ℕ → Local) (first : Bool) (stage : Stage) (u : ℕ) →
    ((decide_of stage == 0) && is_deciding (locals u).phase)
    ≡ (is_gathering stage && (views plan first locals).deciding u)
unfolding views
decider_back plan locals first stage u =
    ap (λ b. b && is_deciding (locals u).phase) (undecided stage)
    ∙ ap (λ b. is_gathering stage && b) (decides_by (locals u).phase)

-- How far the write of a group has come.

pub number_back : (x : ThreadResult) → result_of (number_of x) ≡ x
number_back results.Updated = refl
number_back results.Okay = refl
number_back results.Current = refl
number_back results.Error = refl
number_back results.Timeout = refl
number_back results.Offline = refl

reported_back : (x : ThreadResult) (mode : ℕ) (local : Local) → group_of (number_of x) mode local ≡ Reported x
reported_back results.Updated mode local = refl
reported_back results.Okay mode local = refl
reported_back results.Current mode local = refl
reported_back results.Error mode local = refl
reported_back results.Timeout mode local = refl
reported_back results.Offline mode local = refl

-- a primary has left, and its group reported or waits
left_back :
    (drops : Bool) (x : ThreadResult) (local : Local) →
    (let w = if drops then Waiting else Reported x in group_of (res_code w)
    (mode_code Online (has_begun w) (Left x)) local) ≡ (if drops then Waiting else Reported x)
left_back true results.Updated local = refl
left_back true results.Okay local = refl
left_back true results.Current local = refl
left_back true results.Error local = refl
left_back true results.Timeout local = refl
left_back true results.Offline local = refl
left_back false x local = reported_back x (mode_code Online (has_begun (Reported x)) (Left x)) local

leaving_back :
    (drops : Bool) (x : ThreadResult) (local : Local) →
    (let w = if drops then Waiting else Reported x in group_of (res_code w) (mode_code Online (has_begun w) In) local)
    ≡ (if drops then Waiting else Reported x)
leaving_back true x local = refl
leaving_back false x local = reported_back x (mode_code Online (has_begun (Reported x)) In) local

reporting_back :
    (none : Bool) (at polls mine : ℕ) →
    (let w = if none then Waiting else Written in
    group_of (res_code w) (mode_code Online (has_begun w) In) (at_phase phase.Reporting at polls mine))
    ≡ (if none then Waiting else Written)
unfolding is_writing past_writing
reporting_back true at polls mine = refl
reporting_back false at polls mine = refl

group_back :
    (p : Phase) (at polls mine : ℕ) →
    group_of (res_code (write_in p mine))
    (mode_code Online (has_begun (write_in p mine)) (place_seen (place_in p mine) false)) (at_phase p at polls mine)
    ≡ write_in p mine
unfolding is_writing past_writing
group_back phase.Reporting at polls mine = reporting_back _ at polls mine
group_back phase.Freeing at polls mine =
    reported_back (result_of mine) (mode_code Online (has_begun (Reported (result_of mine))) In)
    (at_phase phase.Freeing at polls mine)
group_back phase.Leaving at polls mine =
    leaving_back (is_timeout mine) (result_of mine) (at_phase phase.Leaving at polls mine)
group_back phase.Left at polls mine = left_back (is_timeout mine) (result_of mine) (at_phase phase.Left at polls mine)
group_back p at polls mine = refl

group_by :
    (w : GroupPlace) (kind : Kind) (writes : Bool) (place : Place) (l : Local) →
    w ≡ write_in l.phase l.mine →
    kind ≡ Online →
    writes ≡ has_begun w →
    place ≡ place_seen (place_in l.phase l.mine) false → group_of (res_code w) (mode_code kind writes place) l ≡ w
group_by w kind writes place l own online begun there =
    ap (λ k. group_of (res_code w) (mode_code k writes place) l) online
    ∙ ap (λ b. group_of (res_code w) (mode_code Online b place) l) begun
    ∙ ap (λ p. group_of (res_code w) (mode_code Online (has_begun w) p) l) there
    ∙ ap
    (λ x. group_of (res_code x) (mode_code Online (has_begun x) (place_seen (place_in l.phase l.mine) false)) l) own
    ∙ group_back l.phase l.at l.polls l.mine
    ∙ sym own

pub waits_either : (b : Bool) → (if b then Waiting else Waiting) ≡ Waiting
waits_either true = refl
waits_either false = refl

-- a group's primary is Online and leads it, or takes no part

led_by :
    (plan : Plan) (g : ℕ) (kind : Kind) →
    Sound plan →
    g < plan.groups →
    plan.kind (plan.primary g) ≡ kind →
    ((plan.kind (plan.primary g) ≡ Online) × (plan.group (plan.primary g) ≡ g)) ⊎
    (plan.kind (plan.primary g) ≡ KindAbsent)
led_by plan g Online sound low e = inl (e, sound.primary_is_one_of_its_group g low)
led_by plan g Offline sound low e =
    let p = plan.primary g in
    let group = sound.primary_is_one_of_its_group g low in
    let online : plan.kind (plan.primary (plan.group p)) ≡ Online =
    sound.present_primary p (sound.primaries_in_range g low) (λ f. let same : Offline ≡ KindAbsent = sym e ∙ f in cc) in
    let same : Offline ≡ Online = sym e ∙ ap (λ h. plan.kind (plan.primary h)) (sym group) ∙ online in cc
led_by plan g KindAbsent sound low e = inr e

pub led :
    (plan : Plan) (g : ℕ) →
    Sound plan →
    Padded plan →
    ((plan.kind (plan.primary g) ≡ Online) × (plan.group (plan.primary g) ≡ g)) ⊎
    (plan.kind (plan.primary g) ≡ KindAbsent)
led plan g sound padded =
    elim (cases_lt g plan.groups) [
      | inl low ↦ led_by plan g (plan.kind (plan.primary g)) sound low refl
      | inr past ↦ inr (padded.no_primary g past)
    ]

-- what others see of a group's primary
pub lead_write :
    (plan : Plan) (locals : ℕ → Local) (first : Bool) (g : ℕ) →
    plan.group (plan.primary g) ≡ g →
    (let l = locals (plan.primary g) in (views plan first locals).write (plan.primary g) ≡ write_in l.phase l.mine)
unfolding views
lead_write plan locals first g group =
    let p = plan.primary g in
    let l = locals p in
    ap (λ b. if b then write_in l.phase l.mine else Waiting)
    (same_numbers p (plan.primary (plan.group p)) (ap plan.primary (sym group)))

pub absent_waits :
    (plan : Plan) (words : Families) (locals : ℕ → Local) (first : Bool) (stage : Stage) (p : ℕ) →
    RuleBy plan words locals first stage → plan.kind p ≡ KindAbsent → (views plan first locals).write p ≡ Waiting
unfolding views
absent_waits plan words locals first stage p rule absent =
    let s = seen plan (views plan first locals) stage nobody in
    let l = locals p in
    let nothing : l.phase ≡ phase.Nothing = subst (λ kind. Knows kind plan p l s) absent (rule.knows p) in
    ap (λ x. if is_primary plan p then write_in x l.mine else Waiting) nothing ∙ waits_either (is_primary plan p)

group_shown :
    (plan : Plan) (words : Families) (locals : ℕ → Local) (first : Bool) (stage : Stage) (g : ℕ) →
    Sound plan →
    Padded plan →
    RuleBy plan words locals first stage →
    (let s = seen plan (views plan first locals) stage nobody in
    let w = words_of plan s in
    group_of (w.res g) (w.mode (plan.primary g)) (locals (plan.primary g)) ≡ s.group g)
unfolding views words_of
group_shown plan words locals first stage g sound padded rule =
    let s = seen plan (views plan first locals) stage nobody in
    let p = plan.primary g in
    let l = locals p in
    elim (led plan g sound padded) [
      | inl lead ↦
          let primary : is_primary plan p ≡ true =
          same_numbers p (plan.primary (plan.group p)) (ap plan.primary (sym lead.1)) in
          let begun : writes_now plan p s.group ≡ has_begun (s.group g) =
          ap (λ b. b && has_begun (s.group (plan.group p))) primary ∙ ap (λ h. has_begun (s.group h)) lead.1 in
          group_by (s.group g) (plan.kind p) (writes_now plan p s.group) (s.place p) l
          (lead_write plan locals first g lead.1)
          lead.0
          begun
          (ap (place_seen (place_in l.phase l.mine)) (unsettled plan locals first p (ap is_offline lead.0)))
      | inr absent ↦
          let waits : s.group g ≡ Waiting = absent_waits plan words locals first stage p rule absent in
          ap (λ k. group_of (res_code (s.group g)) (mode_code k (writes_now plan p s.group) (s.place p)) l) absent
          ∙ ap (λ x. group_of (res_code x) 0 l) waits
          ∙ sym waits
    ]

-- The state that words and threads' states stand for is the one that the views make.
pub shown_is_seen :
    (plan : Plan) (words : Families) (locals : ℕ → Local) (first : Bool) (stage : Stage) (latched : ℕ → Bool) →
    Sound plan →
    Padded plan →
    RuleBy plan words locals first stage →
    shown plan words locals latched ≡ seen plan (views plan first locals) stage latched
unfolding words_of
shown_is_seen plan words locals first stage latched sound padded rule =
    let v = views plan first locals in
    let s = seen plan v stage nobody in
    let w = words_of plan s in
    let zero : (w.arrive == awaited plan locals) ≡ v.arrived 0 =
    ap (λ n. n == awaited plan locals) (still_awaited_is plan words locals first stage sound rule)
    ∙ told_by_count (v.arrived 0) (awaited plan locals) in
    ap (λ x. shown plan x locals latched) rule.says
    ∙ same_state (shown plan w locals latched) (seen plan v stage latched)
    (λ u.
    place_back (plan.kind u) (s.place u) (writes_now plan u s.group) (s.freed u) (s.kicked u) (s.group (plan.group u))
    (fits_by plan words locals first stage u (plan.kind u) rule refl))
    (λ u. kicked_back (plan.kind u) (s.place u) (s.kicked u) (unkicked plan locals first u))
    (λ u. arrived_by plan words locals first (w.arrive == awaited plan locals) stage u
    (plan.kind u) sound rule refl zero)
    (λ u. freed_back (v.place u) (v.frees (plan.primary (plan.group u)) u) (v.settles 0 u) (s.group (plan.group u)))
    (λ u. refl)
    (stage_back stage)
    (λ u. decider_back plan locals first stage u)
    (λ g. group_shown plan words locals first stage g sound padded rule)
    (λ g. refl)
