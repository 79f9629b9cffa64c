-- A state that a moment with the rule shows is safe.
use Rattle.std.proofs.Common.{◌≡◌, ◌≢◌, ◌⊎◌, ℕ, Bool, true, false, not, ◌||◌, ◌==◌, if◌then◌else◌, Option, Some, None, unwrap_or, refl, ap, sym, ◌∙◌, subst, inl, inr, true≢false}
use Rattle.rendezvous_steps.specs.declared.steps.Kind.{Kind}
use Rattle.rendezvous_steps.specs.declared.steps.Kind.TheVariants.{Online, Offline, Absent as KindAbsent}
use Rattle.rendezvous_steps.specs.declared.steps.ThreadResult.{ThreadResult}
use Rattle.rendezvous_steps.specs.declared.steps.ThreadResult.TheVariants as results
use Rattle.rendezvous_steps.specs.declared.steps.Phase.{Phase}
use Rattle.rendezvous_steps.specs.declared.steps.Phase.TheVariants as phase
use Rattle.rendezvous_steps.specs.declared.steps.Local.{Local}
use Rattle.rendezvous_steps.specs.Plan.{Plan, Sound, is_primary}
use Rattle.rendezvous_steps.specs.Padded.{Padded}
use Rattle.rendezvous_steps.specs.Words.{Families, families}
use Rattle.rendezvous_steps.specs.StepTable.{result_of, write_of}
use Rattle.rendezvous_model.specs.Round.{Place, Left, Stage, Going, GroupPlace, Waiting, Writing, Written, Reported, State, is_held, is_halted, is_going}
use Rattle.rendezvous_model.specs.RoundEnds.{okay_for}
use Rattle.rendezvous_model.specs.Safe.{Safe, is_in_write}
use Rattle.rendezvous_rule.specs.View.{views, place_in, arrived_in, write_in, is_timeout}
use Rattle.rendezvous_rule.specs.Seen.{seen, place_seen, revision_in}
use Rattle.rendezvous_rule.specs.Knows.{Knows, OnlineKnows, OfflineKnows, Ends, report_of, primary_result, result_for}
use Rattle.rendezvous_rule.specs.Rule.{RuleBy}
use Rattle.rule_laws.specs.Laws.{RuledIsSafe}
use Rattle.rule_laws.proofs.Frame.{primary_is, equal_numbers}
use Rattle.rule_laws.proofs.Assemble.{shown_is_seen, number_back}
use Rattle.rule_laws.proofs.Facts.{state, begun_going, reported_is, freed_reported, going_undropped}

-- Where the threads of a group that writes are.

online_held :
    (p : Phase) (plan : Plan) (t at mine : ℕ) (s : State) (given z : Bool) →
    OnlineKnows p plan t at mine s →
    arrived_in p mine given ≡ true →
    (p ≡ phase.Left → ⊥) →
    (let place = place_seen (place_in p mine) z in is_held place || is_halted place) ≡ true
online_held phase.Outside plan t at mine s given z knows arrived left = cc
online_held phase.OfflineCount plan t at mine s given z knows arrived left = absurd knows
online_held phase.OfflineHold plan t at mine s given z knows arrived left = absurd knows
online_held phase.Withdrawn plan t at mine s given z knows arrived left = absurd knows
online_held phase.Nothing plan t at mine s given z knows arrived left = absurd knows
online_held phase.Left plan t at mine s given z knows arrived left = absurd (left refl)
online_held p plan t at mine s given z knows arrived left = refl

offline_held :
    (p : Phase) (t mine : ℕ) (s : State) (given z : Bool) →
    OfflineKnows p t mine s →
    arrived_in p mine given ≡ true →
    (p ≡ phase.Left → ⊥) →
    (let place = place_seen (place_in p mine) z in is_held place || is_halted place) ≡ true
offline_held phase.Outside t mine s given z knows arrived left = cc
offline_held phase.OfflineCount t mine s given z knows arrived left = cc
offline_held phase.OfflineHold t mine s given z knows arrived left = refl
offline_held phase.Leaving t mine s given z knows arrived left = refl
offline_held phase.Left t mine s given z knows arrived left = absurd (left refl)
offline_held phase.Halted t mine s given z knows arrived left = refl
offline_held phase.Withdrawn t mine s given z knows arrived left = cc
offline_held p t mine s given z knows arrived left = absurd knows

in_write_begun : (w : GroupPlace) → is_in_write w ≡ true → w ≢ Waiting
in_write_begun w e f = let same : false ≡ true = ap is_in_write (sym f) ∙ e in cc

in_write_not_reported : (w : GroupPlace) (x : ThreadResult) → is_in_write w ≡ true → w ≡ Reported x → ⊥
in_write_not_reported w x e f = let same : false ≡ true = ap is_in_write (sym f) ∙ e in cc

left_write : (b : Bool) (x : ThreadResult) → is_in_write (if b then Waiting else Reported x) ≡ true → ⊥
left_write true x e = cc
left_write false x e = cc

-- a thread whose group writes has not left
left_not_by :
    (plan : Plan) (words : Families) (locals : ℕ → Local) (first : Bool) (stage : Stage) (u : ℕ)
    (drops primary : Bool) →
    Sound plan →
    Padded plan →
    RuleBy plan words locals first stage →
    stage ≡ Going →
    is_in_write ((state plan first locals stage).group (plan.group u)) ≡ true →
    (locals u).phase ≡ phase.Left →
    is_primary plan u ≡ primary → Ends drops plan u (locals u).mine (state plan first locals stage) → ⊥
unfolding views
left_not_by plan words locals first stage u true primary sound padded rule going writes left leads ends =
    true≢false (sym ends ∙ going_undropped stage going)
left_not_by plan words locals first stage u false true sound padded rule going writes left leads ends =
    let s = state plan first locals stage in
    let l = locals u in
    let own : s.group (plan.group u) ≡ (if is_timeout l.mine then Waiting else Reported (result_of l.mine)) =
    ap (views plan first locals).write (primary_is plan u leads)
    ∙ ap (λ b. if b then write_in l.phase l.mine else Waiting) leads
    ∙ ap (λ p. write_in p l.mine) left in
    left_write (is_timeout l.mine) (result_of l.mine) (sym (ap is_in_write own) ∙ writes)
left_not_by plan words locals first stage u false false sound padded rule going writes left leads ends =
    in_write_not_reported _ (report_of plan (plan.group u)) writes
    (freed_reported plan words locals first stage u sound padded rule (going_undropped stage going) (ends.2 leads))

left_row :
    (p : Phase) (plan : Plan) (t at mine : ℕ) (s : State) → p ≡ phase.Left → OnlineKnows p plan t at mine s →
    Ends (is_timeout mine) plan t mine s
left_row p plan t at mine s e knows = subst (λ x. OnlineKnows x plan t at mine s) e knows

left_freed : (p : Phase) (t mine : ℕ) (s : State) → p ≡ phase.Left → OfflineKnows p t mine s → s.freed t ≡ true
left_freed p t mine s e knows =
    let row : OfflineKnows phase.Left t mine s = subst (λ x. OfflineKnows x t mine s) e knows in row.1

held_by :
    (plan : Plan) (words : Families) (locals : ℕ → Local) (first : Bool) (stage : Stage) (u : ℕ) (kind : Kind) →
    Sound plan →
    Padded plan →
    RuleBy plan words locals first stage →
    stage ≡ Going →
    is_in_write ((state plan first locals stage).group (plan.group u)) ≡ true →
    plan.kind u ≡ kind →
    kind ≢ KindAbsent →
    (let place = (state plan first locals stage).place u in is_held place || is_halted place) ≡ true
unfolding views
held_by plan words locals first stage u Online sound padded rule going writes e part =
    let s = state plan first locals stage in
    let l = locals u in
    let row : OnlineKnows l.phase plan u l.at l.mine s = subst (λ kind. Knows kind plan u l s) e (rule.knows u) in
    online_held l.phase plan u l.at l.mine s (not (u == 0) || first) ((views plan first locals).settles 0 u) row
    (rule.gathered.go_after_all going u e)
    (λ left.
    left_not_by plan words locals first stage u (is_timeout l.mine)
    (is_primary plan u) sound padded rule going writes left refl
    (left_row l.phase plan u l.at l.mine s left row))
held_by plan words locals first stage u Offline sound padded rule going writes e part =
    let s = state plan first locals stage in
    let l = locals u in
    let row : OfflineKnows l.phase u l.mine s = subst (λ kind. Knows kind plan u l s) e (rule.knows u) in
    offline_held l.phase u l.mine s (not (u == 0) || first) ((views plan first locals).settles 0 u) row
    (rule.gathered.zero_last (rule.gathered.go_after_all going 0 sound.thread_0_is_online) u e)
    (λ left.
    in_write_not_reported _ (report_of plan (plan.group u)) writes
    (freed_reported plan words locals first stage u sound padded rule (going_undropped stage going)
    (left_freed l.phase u l.mine s left row)))
held_by plan words locals first stage u KindAbsent sound padded rule going writes e part = absurd (part refl)

-- Before a go, and after a drop.

pub waits_or_not : (w : GroupPlace) → (w ≡ Waiting) ⊎ (w ≢ Waiting)
waits_or_not Waiting = inl refl
waits_or_not Writing = inr (λ e. cc)
waits_or_not Written = inr (λ e. cc)
waits_or_not (Reported x) = inr (λ e. cc)

nothing_yet :
    (plan : Plan) (words : Families) (locals : ℕ → Local) (first : Bool) (stage : Stage) →
    Sound plan →
    Padded plan →
    RuleBy plan words locals first stage →
    is_going stage ≡ false →
    (g : ℕ) →
    (let s = state plan first locals stage in (s.group g ≡ Waiting) × (s.revision g ≡ plan.rev0 g))
nothing_yet plan words locals first stage sound padded rule calm g =
    let s = state plan first locals stage in
    elim (waits_or_not (s.group g)) [
      | inl waits ↦ (waits, ap (revision_in plan g) waits)
      | inr begun ↦
          absurd
          (true≢false (sym (ap is_going (begun_going plan words locals first stage g sound padded rule begun)) ∙ calm))
    ]

-- What a revision is.

write_is : (plan : Plan) (g : ℕ) (offer : Option ℕ) (refuses : Bool) → plan.offer g ≡ offer → plan.refuse g ≡ refuses →
    (write_of plan g ≡ plan.rev0 g) ⊎ (plan.offer g ≡ Some (write_of plan g))
write_is plan g offer true e f = inl (ap (λ b. if b then plan.rev0 g else unwrap_or (plan.offer g) (plan.rev0 g)) f)
write_is plan g None false e f =
    inl
    (ap (λ b. if b then plan.rev0 g else unwrap_or (plan.offer g) (plan.rev0 g)) f
    ∙ ap (λ o. unwrap_or o (plan.rev0 g)) e)
write_is plan g (Some o) false e f =
    inr
    (e
    ∙ ap (λ n. Some n)
    (sym
    (ap (λ b. if b then plan.rev0 g else unwrap_or (plan.offer g) (plan.rev0 g)) f
    ∙ ap (λ x. unwrap_or x (plan.rev0 g)) e)))

first_or_offer :
    (plan : Plan) (g : ℕ) (w : GroupPlace) →
    (revision_in plan g w ≡ plan.rev0 g) ⊎ (plan.offer g ≡ Some (revision_in plan g w))
first_or_offer plan g Waiting = inl refl
first_or_offer plan g Writing = inl refl
first_or_offer plan g Written = write_is plan g (plan.offer g) (plan.refuse g) refl refl
first_or_offer plan g (Reported x) = write_is plan g (plan.offer g) (plan.refuse g) refl refl

-- the group has its offer where the report is Updated
updated_offer :
    (plan : Plan) (g : ℕ) (offer : Option ℕ) (refuses : Bool) →
    plan.offer g ≡ offer → plan.refuse g ≡ refuses → primary_result offer refuses ≡ results.Updated →
    plan.offer g ≡ Some (write_of plan g)
updated_offer plan g None refuses e f u = cc
updated_offer plan g (Some o) true e f u = cc
updated_offer plan g (Some o) false e f u =
    e
    ∙ ap (λ n. Some n)
    (sym
    (ap (λ b. if b then plan.rev0 g else unwrap_or (plan.offer g) (plan.rev0 g)) f
    ∙ ap (λ x. unwrap_or x (plan.rev0 g)) e))

error_refuses :
    (plan : Plan) (g : ℕ) (offer : Option ℕ) (refuses : Bool) →
    plan.refuse g ≡ refuses → primary_result offer refuses ≡ results.Error →
    (plan.refuse g ≡ true) × (write_of plan g ≡ plan.rev0 g)
error_refuses plan g None refuses f u = cc
error_refuses plan g (Some o) true f u =
    (f, ap (λ b. if b then plan.rev0 g else unwrap_or (plan.offer g) (plan.rev0 g)) f)
error_refuses plan g (Some o) false f u = cc

runs_offer :
    (plan : Plan) (words : Families) (locals : ℕ → Local) (first : Bool) (stage : Stage) (g : ℕ) (x : ThreadResult) →
    (state plan first locals stage).group g ≡ Reported x →
    report_of plan g ≡ results.Updated → plan.offer g ≡ Some ((state plan first locals stage).revision g)
unfolding report_of
runs_offer plan words locals first stage g x reported updated =
    updated_offer plan g (plan.offer g) (plan.refuse g) refl refl updated
    ∙ ap (λ w. Some (revision_in plan g w)) (sym reported)

-- What a thread left with.

left_place :
    (p : Phase) (mine : ℕ) (z : Bool) (x : ThreadResult) → place_seen (place_in p mine) z ≡ Left x →
    (p ≡ phase.Left) × (result_of mine ≡ x)
left_place phase.Outside mine true x e = cc
left_place phase.Outside mine false x e = cc
left_place phase.Withdrawn mine true x e = cc
left_place phase.Withdrawn mine false x e = cc
left_place phase.Left mine z x e = (refl, ap result_at e)
  where
    result_at : Place → ThreadResult
    result_at (Left y) = y
    result_at place = results.Current
left_place p mine z x e = cc

is_updated_or_okay : ThreadResult → Bool
is_updated_or_okay results.Updated = true
is_updated_or_okay results.Okay = true
is_updated_or_okay x = false

reports_success :
    (offer : Option ℕ) (refuses : Bool) → is_updated_or_okay (primary_result offer refuses) ≡ true →
    primary_result offer refuses ≡ results.Updated
unfolding is_updated_or_okay
reports_success None refuses e = cc
reports_success (Some o) true e = cc
reports_success (Some o) false e = refl

okay_success :
    (offer : Option ℕ) (refuses : Bool) → is_updated_or_okay (okay_for (primary_result offer refuses)) ≡ true →
    primary_result offer refuses ≡ results.Updated
unfolding is_updated_or_okay
okay_success None refuses e = cc
okay_success (Some o) true e = cc
okay_success (Some o) false e = refl

no_timeout :
    (mine : ℕ) (x : ThreadResult) → is_timeout mine ≡ true → result_of mine ≡ x → is_updated_or_okay x ≡ true → ⊥
unfolding is_updated_or_okay
no_timeout mine x e f g =
    let five : mine ≡ 5 = equal_numbers mine 5 e in
    let same : false ≡ true = ap (λ n. is_updated_or_okay (result_of n)) (sym five) ∙ ap is_updated_or_okay f ∙ g in cc

success_by :
    (plan : Plan) (words : Families) (locals : ℕ → Local) (first : Bool) (stage : Stage) (t : ℕ) (drops primary : Bool)
    (x : ThreadResult) →
    Sound plan →
    Padded plan →
    RuleBy plan words locals first stage →
    (locals t).phase ≡ phase.Left →
    result_of (locals t).mine ≡ x →
    is_updated_or_okay x ≡ true →
    is_timeout (locals t).mine ≡ drops →
    is_primary plan t ≡ primary →
    Ends drops plan t (locals t).mine (state plan first locals stage) →
    plan.offer (plan.group t) ≡ Some ((state plan first locals stage).revision (plan.group t))
unfolding views result_for is_updated_or_okay report_of
success_by plan words locals first stage t true primary x sound padded rule left result success drops leads ends =
    absurd (no_timeout (locals t).mine x drops result success)
success_by plan words locals first stage t false true x sound padded rule left result success drops leads ends =
    let s = state plan first locals stage in
    let l = locals t in
    let g = plan.group t in
    let r = report_of plan g in
    let own : x ≡ (if is_primary plan t then r else okay_for r) =
    sym result ∙ ap result_of ends.1 ∙ number_back (if is_primary plan t then r else okay_for r) in
    let same : x ≡ r = own ∙ ap (λ b. if b then r else okay_for r) leads in
    let reported : s.group g ≡ Reported (result_of l.mine) =
    ap (views plan first locals).write (primary_is plan t leads)
    ∙ ap (λ b. if b then write_in l.phase l.mine else Waiting) leads
    ∙ ap (λ p. write_in p l.mine) left
    ∙ ap (λ b. if b then Waiting else Reported (result_of l.mine)) drops in
    runs_offer plan words locals first stage g (result_of l.mine) reported
    (reports_success (plan.offer g) (plan.refuse g) (sym (ap is_updated_or_okay same) ∙ success))
success_by plan words locals first stage t false false x sound padded rule left result success drops leads ends =
    let l = locals t in
    let g = plan.group t in
    let r = report_of plan g in
    let own : x ≡ (if is_primary plan t then r else okay_for r) =
    sym result ∙ ap result_of ends.1 ∙ number_back (if is_primary plan t then r else okay_for r) in
    let same : x ≡ okay_for r = own ∙ ap (λ b. if b then r else okay_for r) leads in
    runs_offer plan words locals first stage g r
    (freed_reported plan words locals first stage t sound padded rule (going_undropped stage ends.0) (ends.2 leads))
    (okay_success (plan.offer g) (plan.refuse g) (sym (ap is_updated_or_okay same) ∙ success))

offline_result : (p : Phase) (t mine : ℕ) (s : State) → OfflineKnows p t mine s → mine ≡ 6
offline_result phase.Outside t mine s knows = knows
offline_result phase.OfflineCount t mine s knows = knows.1
offline_result phase.OfflineHold t mine s knows = knows.1
offline_result phase.Leaving t mine s knows = knows.0.1
offline_result phase.Left t mine s knows = knows.0.1
offline_result phase.Halted t mine s knows = knows.1
offline_result phase.Withdrawn t mine s knows = knows.1
offline_result p t mine s knows = absurd knows

-- who left with success is of a group that runs its offer
left_with :
    (plan : Plan) (words : Families) (locals : ℕ → Local) (first : Bool) (stage : Stage) (t : ℕ) (kind : Kind)
    (x : ThreadResult) →
    Sound plan →
    Padded plan →
    RuleBy plan words locals first stage →
    plan.kind t ≡ kind →
    (state plan first locals stage).place t ≡ Left x →
    is_updated_or_okay x ≡ true →
    plan.offer (plan.group t) ≡ Some ((state plan first locals stage).revision (plan.group t))
unfolding views is_updated_or_okay
left_with plan words locals first stage t Online x sound padded rule e there success =
    let s = state plan first locals stage in
    let l = locals t in
    let left = left_place l.phase l.mine ((views plan first locals).settles 0 t) x there in
    success_by plan words locals first stage t (is_timeout l.mine)
    (is_primary plan t) x sound padded rule left.0 left.1 success refl refl
    (left_row l.phase plan t l.at l.mine s left.0 (subst (λ kind. Knows kind plan t l s) e (rule.knows t)))
left_with plan words locals first stage t Offline x sound padded rule e there success =
    let s = state plan first locals stage in
    let l = locals t in
    let left = left_place l.phase l.mine ((views plan first locals).settles 0 t) x there in
    let six = offline_result l.phase t l.mine s (subst (λ kind. Knows kind plan t l s) e (rule.knows t)) in
    let same : false ≡ true =
    ap (λ n. is_updated_or_okay (result_of n)) (sym six) ∙ ap is_updated_or_okay left.1 ∙ success in cc
left_with plan words locals first stage t KindAbsent x sound padded rule e there success =
    let s = state plan first locals stage in
    let l = locals t in
    let left = left_place l.phase l.mine ((views plan first locals).settles 0 t) x there in
    let nothing : l.phase ≡ phase.Nothing = subst (λ kind. Knows kind plan t l s) e (rule.knows t) in
    let same : phase.Left ≡ phase.Nothing = sym left.0 ∙ nothing in cc

seen_is_safe :
    (plan : Plan) (words : Families) (locals : ℕ → Local) (first : Bool) (stage : Stage) (latched : ℕ → Bool) →
    Sound plan → Padded plan → RuleBy plan words locals first stage →
    Safe plan (seen plan (views plan first locals) stage latched)
unfolding is_updated_or_okay report_of
seen_is_safe plan words locals first stage latched sound padded rule =
    let s = state plan first locals stage in
    record {
      write_holds_all = λ g u writes of_group part.
          let own : is_in_write (s.group (plan.group u)) ≡ true = ap (λ h. is_in_write (s.group h)) of_group ∙ writes in
          let going =
          begun_going plan words locals first stage (plan.group u) sound padded rule
          (in_write_begun (s.group (plan.group u)) own) in
          held_by plan words locals first stage u (plan.kind u) sound padded rule going own refl part;
      nothing_without_go = nothing_yet plan words locals first stage sound padded rule;
      first_or_offer = λ g. first_or_offer plan g (s.group g);
      reported_updated = λ g e.
          runs_offer plan words locals first stage g results.Updated e
          (sym ((reported_is plan words locals first stage g results.Updated sound padded rule e).1));
      left_updated =
          λ t e. left_with plan words locals first stage t (plan.kind t) results.Updated sound padded rule refl e refl;
      left_okay =
          λ t e. left_with plan words locals first stage t (plan.kind t) results.Okay sound padded rule refl e refl;
      reported_error = λ g e.
          let report = sym ((reported_is plan words locals first stage g results.Error sound padded rule e).1) in
          let refuses = error_refuses plan g (plan.offer g) (plan.refuse g) refl report in
          (refuses.0, ap (revision_in plan g) e ∙ refuses.1);
    }

pub ruled_is_safe : RuledIsSafe
ruled_is_safe plan moment sound padded rule =
    subst (λ s. Safe plan s)
    (sym
    (shown_is_seen plan
    (families moment.words) moment.locals rule.first rule.stage moment.latched sound padded rule.by))
    (seen_is_safe plan (families moment.words) moment.locals rule.first rule.stage moment.latched sound padded rule.by)
