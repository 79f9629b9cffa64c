-- A primary frees another thread of its group, or finds that it has halted.
use Rattle.std.proofs.Common.{◌≡◌, ℕ, ◌+◌, Bool, true, false, not, ◌&&◌, ◌||◌, ◌==◌, nat_lt, if◌then◌else◌, Option, Some, None, refl, ap, sym, ◌∙◌, subst, inl, inr, true≢false}
use mathlib.Core.Path.{fun_ext}
use Rattle.rendezvous_steps.specs.declared.steps.Kind.TheVariants.{Online}
use Rattle.rendezvous_steps.specs.declared.steps.Phase.TheVariants as phase
use Rattle.rendezvous_steps.specs.declared.steps.Local.{Local}
use Rattle.rendezvous_steps.specs.declared.steps.How.{How}
use Rattle.rendezvous_steps.specs.declared.steps.How.TheVariants as how
use Rattle.rendezvous_steps.specs.declared.operations.Word.TheVariants as word
use Rattle.rendezvous_steps.specs.declared.operations.Op.TheVariants.{Cas}
use Rattle.rendezvous_steps.specs.declared.items.What.TheVariants as what
use Rattle.rendezvous_steps.specs.Plan.{Plan, Sound, is_offline, is_primary, is_sibling, sibling_from}
use Rattle.rendezvous_steps.specs.Padded.{Padded}
use Rattle.rendezvous_steps.specs.Words.{Families, families}
use Rattle.rendezvous_steps.specs.StepTable.{operation, after, number_of, result_of, release_of, free_at}
use Rattle.rendezvous_steps.specs.Events.{Running, put, steps}
use Rattle.rendezvous_model.specs.Round.{Place, Out, In, Left, Halted, Withdrawn, Absent, Waiting, Reported, Stage, Gathering, Going, DroppedByKick, DroppedBy, State, nobody}
use Rattle.rendezvous_model.specs.RoundItems.{Frees, FreesSibling}
use Rattle.rendezvous_model.specs.RoundEnds.{okay_for}
use Rattle.rendezvous_rule.specs.View.{View, Views, view, views, is_timeout}
use Rattle.rendezvous_rule.specs.Seen.{seen, words_of, place_seen, ctrl_code, release_code, freed_seen}
use Rattle.rendezvous_rule.specs.Knows.{Knows, Ends, HasResult, report_of, primary_result, result_for}
use Rattle.rendezvous_rule.specs.Rule.{RuleBy}
use Rattle.rule_laws.specs.Kept.{Kept, event_of, is_step}
use Rattle.rule_laws.proofs.Frame.{at_phase, coded, put_back, put_map, and_false, and_both, not_itself, sibling, leads_sibling, no_primary_of}
use Rattle.rule_laws.proofs.Tables.{put_view, only_frees, sees_frees}
use Rattle.rule_laws.proofs.Later.{later_freed}
use Rattle.rule_laws.proofs.Step.{step_kept, unseen_kept, inner_round, stands_in}
use Rattle.rule_laws.proofs.Loops.{past, sibling_goes_on, sibling_found}
use Rattle.rule_laws.proofs.Facts.{state, view_is, is_inside, own_round, none_settled}
use Rattle.round_laws.proofs.Kind.{KeepsTheRule}
use Rattle.round_laws.proofs.Found.{cas_keeps}
use Rattle.round_laws.proofs.Inside.{inside_after_go}

-- What others see of a primary that frees, or is about to leave after a go.

pub report_no_timeout : (offer : Option ℕ) (refuses : Bool) → is_timeout (number_of (primary_result offer refuses)) ≡ false
report_no_timeout None refuses = refl
report_no_timeout (Some o) true = refl
report_no_timeout (Some o) false = refl

-- a result that was reported is no Timeout
pub no_timeout : (plan : Plan) (g mine : ℕ) → mine ≡ number_of (report_of plan g) → is_timeout mine ≡ false
unfolding report_of
no_timeout plan g mine e = ap is_timeout e ∙ report_no_timeout (plan.offer g) (plan.refuse g)

-- the view of a thread that is about to leave, by whether it leaves after a drop
abbrev pub leaving : Plan → ℕ → Bool → ℕ → Bool → View
leaving plan t first mine drops =
    record {
      place = In;
      arrived = if drops then not (t == 0) || first else true;
      deciding = false;
      write = if is_primary plan t then if drops then Waiting else Reported (result_of mine) else Waiting;
      frees = λ u. is_primary plan t && (is_sibling plan t u && not drops);
      kicks = λ k. (t == 0) && (is_offline (plan.kind k) && true);
      settles = λ k. (t == 0) && (is_offline (plan.kind k) && drops);
    }

-- after its report and on, its frees are past the siblings below the next
pub frees_view :
    (plan : Plan) (t : ℕ) (first : Bool) (at polls mine : ℕ) (next : Option ℕ) →
    is_timeout mine ≡ false →
    view plan t first (free_at (at_phase phase.Freeing at polls mine) next)
    ≡ record (view plan t first (at_phase phase.Freeing at polls mine)) {
      frees = λ u. is_primary plan t && (is_sibling plan t u && past next u);
    }
frees_view plan t first at polls mine (Some l) e = refl
frees_view plan t first at polls mine None e = ap (leaving plan t first mine) e

-- What it knows then.
pub frees_row :
    (plan : Plan) (t k at polls mine : ℕ) (next : Option ℕ) (s : State) →
    HasResult plan t mine s →
    sibling_from plan t k ≡ next → Knows Online plan t (free_at (at_phase phase.Freeing at polls mine) next) s
unfolding result_for
frees_row plan t k at polls mine (Some l) s reports e = (reports, sibling_found plan t k l e)
frees_row plan t k at polls mine None s reports e =
    let r = report_of plan (plan.group t) in
    subst (λ b. Ends b plan t mine s) (sym (no_timeout plan (plan.group t) mine reports.2)) (
      reports.1,
      reports.2 ∙ ap (λ b. number_of (if b then r else okay_for r)) (sym reports.0),
      λ f. absurd (true≢false (sym reports.0 ∙ f)),
    )

-- The words.

release_by :
    (offer : Option ℕ) (refuses : Bool) →
    (if number_of (primary_result offer refuses) == 1 then 1 else 2) ≡ release_code (Reported (primary_result offer refuses))
release_by None refuses = refl
release_by (Some o) true = refl
release_by (Some o) false = refl

released :
    (plan : Plan) (g mine : ℕ) → mine ≡ number_of (report_of plan g) →
    (if mine == 1 then 1 else 2) ≡ release_code (Reported (report_of plan g))
unfolding report_of
released plan g mine e = ap (λ n. if n == 1 then 1 else 2) e ∙ release_by (plan.offer g) (plan.refuse g)

result_back :
    (offer : Option ℕ) (refuses : Bool) → result_of (number_of (primary_result offer refuses)) ≡ primary_result offer refuses
result_back None refuses = refl
result_back (Some o) true = refl
result_back (Some o) false = refl

pub report_back : (plan : Plan) (g mine : ℕ) → mine ≡ number_of (report_of plan g) → result_of mine ≡ report_of plan g
unfolding report_of
report_back plan g mine e = ap result_of e ∙ result_back (plan.offer g) (plan.refuse g)

pub unfreed : (place : Place) (p z : Bool) → p ≡ false → z ≡ false → freed_seen place p z ≡ false
unfreed Out p z e f = e
unfreed In p z e f = rw (e, f) refl
unfreed (Left x) p z e f = rw (e, f) refl
unfreed Halted p z e f = refl
unfreed Withdrawn p z e f = e
unfreed Absent p z e f = e

pub placed :
    (place x : Place) (p z : Bool) → place_seen place z ≡ x → z ≡ false → freed_seen place p z ≡ freed_seen x p z
placed place x p z e f = ap (λ y. freed_seen y p z) (sym (unsettled_place place z f) ∙ e)
  where
    unsettled_place : (place : Place) (z : Bool) → z ≡ false → place_seen place z ≡ place
    unsettled_place Out z e = ap (place_seen Out) e
    unsettled_place In z e = refl
    unsettled_place (Left x) z e = refl
    unsettled_place Halted z e = refl
    unsettled_place Withdrawn z e = refl
    unsettled_place Absent z e = refl

-- What all its steps have in common.
record FreeParts (plan : Plan) (words : Families) (v : Views) (s : State) (t k mine : ℕ) (set : ℕ → Bool) : Type 0 where
  leads : plan.primary (plan.group k) ≡ t
  grown : set ≡ put (v.frees t) k true
  freed : s.freed k ≡ false
  unsettled : v.settles 0 k ≡ false
  reported : s.group (plan.group k) ≡ Reported (report_of plan (plan.group k))

free_parts :
    (plan : Plan) (words : Families) (locals : ℕ → Local) (first : Bool) (t k polls mine : ℕ) →
    Sound plan →
    Padded plan →
    RuleBy plan words locals first Going →
    locals t ≡ at_phase phase.Freeing k polls mine →
    is_primary plan t ≡ true →
    mine ≡ number_of (report_of plan (plan.group t)) →
    is_sibling plan t k ≡ true →
    FreeParts plan words (views plan first locals) (state plan first locals Going) t k mine
    (λ u. is_primary plan t && (is_sibling plan t u && past (sibling_from plan t (k + 1)) u))
unfolding views
free_parts plan words locals first t k polls mine sound padded rule here primary result next =
    let v = views plan first locals in
    let s = state plan first locals Going in
    let local = at_phase phase.Freeing k polls mine in
    let was : v.frees t ≡ (λ u. is_primary plan t && (is_sibling plan t u && nat_lt u k)) =
    ap (λ (w : View). w.frees) (view_is plan locals first t local here) in
    let leads = leads_sibling plan t k primary next in
    let unsettled = none_settled plan words locals first Going k sound rule refl in
    let unfreed_yet : v.frees (plan.primary (plan.group k)) k ≡ false =
    ap (λ p. v.frees p k) leads
    ∙ ap (λ f. f k) was
    ∙ and_false (is_primary plan t) (is_sibling plan t k && nat_lt k k)
    (and_false (is_sibling plan t k) (nat_lt k k) (not_itself k)) in
    record {
      leads = leads;
      grown =
          fun_ext
          (λ u. ap (λ b. is_primary plan t && b)
          (sibling_goes_on plan t k (sibling_from plan t (k + 1)) padded next refl u))
          ∙ put_map (λ u b. is_primary plan t && b) (λ u. is_sibling plan t u && nat_lt u k) k true
          ∙ ap (λ b. put (λ u. is_primary plan t && (is_sibling plan t u && nat_lt u k)) k b)
          (and_both (is_primary plan t) true primary refl)
          ∙ ap (λ f. put f k true) (sym was);
      freed = unfreed (v.place k) (v.frees (plan.primary (plan.group k)) k) (v.settles 0 k) unfreed_yet unsettled;
      unsettled = unsettled;
      reported =
          ap v.write leads
          ∙ ap (λ (w : View). w.write) (view_is plan locals first t local here)
          ∙ ap (λ b. if b then Reported (result_of mine) else Waiting) primary
          ∙ ap (λ x. Reported x) (report_back plan (plan.group t) mine result)
          ∙ ap (λ h. Reported (report_of plan h)) (sym (sibling plan t k next).same_group);
    }

free_sees :
    (plan : Plan) (locals : ℕ → Local) (first : Bool) (t k polls mine : ℕ) (latched : ℕ → Bool) (set : ℕ → Bool) →
    (let v = views plan first locals in
    let s = seen plan v Going latched in
    locals t ≡ at_phase phase.Freeing k polls mine →
    plan.primary (plan.group k) ≡ t →
    set ≡ put (v.frees t) k true →
    seen plan
    (put_view v t (record (view plan t first (at_phase phase.Freeing k polls mine)) { frees = set })) Going latched
    ≡ record s { freed = put s.freed k (freed_seen (v.place k) true (v.settles 0 k)) })
free_sees plan locals first t k polls mine latched set here leads grown =
    let v = views plan first locals in
    let local = at_phase phase.Freeing k polls mine in
    ap (λ x. seen plan x Going latched)
    (only_frees v t (record (view plan t first local) { frees = set }) set
    (ap (λ (w : View). record w { frees = set }) (sym (view_is plan locals first t local here)))
    ∙ ap (λ f. record v { frees = put v.frees t f }) grown)
    ∙ sees_frees plan v Going latched t k leads

-- It frees a thread that is inside.
frees_kept :
    (plan : Plan) (moment : Running) (t : ℕ) (h : How) (first : Bool) (k polls mine : ℕ) →
    Sound plan →
    Padded plan →
    RuleBy plan (families moment.words) moment.locals first Going →
    is_step h ≡ true →
    moment.locals t ≡ at_phase phase.Freeing k polls mine →
    plan.kind t ≡ Online →
    is_primary plan t ≡ true →
    mine ≡ number_of (report_of plan (plan.group t)) →
    is_sibling plan t k ≡ true →
    (state plan first moment.locals Going).place k ≡ In → Kept plan (event_of h t) moment (steps plan t h moment)
unfolding operation after put words_of
frees_kept plan moment t h first k polls mine sound padded rule own here online primary result next inside =
    let local = at_phase phase.Freeing k polls mine in
    let to_next = sibling_from plan t (k + 1) in
    let new = free_at local to_next in
    let v = views plan first moment.locals in
    let set = λ (u : ℕ). is_primary plan t && (is_sibling plan t u && past to_next u) in
    let s = λ (latched : ℕ → Bool). seen plan v Going latched in
    let after_it = λ (latched : ℕ → Bool). record (s latched) { freed = put (s latched).freed k true } in
    let f =
    free_parts plan
    (families moment.words) moment.locals first t k polls mine sound padded rule here primary result next in
    let found : moment.words (word.Ctrl k) ≡ 0 =
    ap (λ (w : Families). w.ctrl k) rule.says
    ∙ ap (λ b. ctrl_code ((s nobody).place k) b ((s nobody).group (plan.group k))) f.freed
    ∙ ap (λ p. ctrl_code p false ((s nobody).group (plan.group k))) inside in
    let is_freed : freed_seen (v.place k) true (v.settles 0 k) ≡ true =
    placed (v.place k) In true (v.settles 0 k) inside f.unsettled in
    let code : release_of local ≡ ctrl_code ((s nobody).place k) true ((s nobody).group (plan.group k)) =
    released plan (plan.group t) mine result
    ∙ ap (λ g. release_code (Reported (report_of plan g))) (sym (sibling plan t k next).same_group)
    ∙ ap release_code (sym f.reported)
    ∙ ap (λ p. ctrl_code p true ((s nobody).group (plan.group k))) (sym inside) in
    let may : FreesSibling plan t k (s moment.latched) =
    record { by_primary = sym f.leads; result = report_of plan (plan.group k); has_reported = f.reported } in
    let frees : Frees plan t k (s moment.latched) (after_it moment.latched) =
    record {
      is_held = inside;
      not_freed = f.freed;
      another = (sibling plan t k next).another;
      may = inl may;
      change = refl;
    } in
    step_kept plan moment t h (Cas (word.Ctrl k) 0 (release_of local)) local new
    (what.Free k) first first Going Going after_it
    sound padded rule here refl
    (ap (after plan t local h) found)
    (λ other. refl)
    (record {
      sees = λ latched.
          ap (λ w. seen plan (put_view v t w) Going latched)
          (frees_view plan t first k polls mine to_next (no_timeout plan (plan.group t) mine result))
          ∙ free_sees plan moment.locals first t k polls mine latched set here f.leads f.grown
          ∙ ap (λ b. record (s latched) { freed = put (s latched).freed k b }) is_freed;
      says =
          ap (λ n. record (families moment.words)
          { ctrl = put (families moment.words).ctrl k (if n == 0 then release_of local else n) }) found
          ∙ ap (λ (w : Families). record w { ctrl = put w.ctrl k (release_of local) }) rule.says
          ∙ ap (λ n. record (words_of plan (s nobody)) { ctrl = n })
          (coded (λ u b. ctrl_code ((s nobody).place u) b ((s nobody).group (plan.group u))) (s nobody).freed k true
          (release_of local) code);
      gathered = rule.gathered;
      later = later_freed t (s nobody) k;
    })
    (subst (λ kind. Knows kind plan t new (after_it nobody)) (sym online)
    (frees_row plan t (k + 1) k polls mine to_next (after_it nobody) (primary, refl, result) refl))
    (own_round plan t h (s moment.latched) (after_it moment.latched) (what.Free k) own (refl, frees) (refl, frees))

-- It finds one that has halted.
passes_kept :
    (plan : Plan) (moment : Running) (t : ℕ) (h : How) (first : Bool) (k polls mine : ℕ) →
    Sound plan →
    Padded plan →
    RuleBy plan (families moment.words) moment.locals first Going →
    is_step h ≡ true →
    moment.locals t ≡ at_phase phase.Freeing k polls mine →
    plan.kind t ≡ Online →
    is_primary plan t ≡ true →
    mine ≡ number_of (report_of plan (plan.group t)) →
    is_sibling plan t k ≡ true →
    (state plan first moment.locals Going).place k ≡ Halted → Kept plan (event_of h t) moment (steps plan t h moment)
unfolding operation after words_of
passes_kept plan moment t h first k polls mine sound padded rule own here online primary result next halted =
    let local = at_phase phase.Freeing k polls mine in
    let to_next = sibling_from plan t (k + 1) in
    let new = free_at local to_next in
    let v = views plan first moment.locals in
    let set = λ (u : ℕ). is_primary plan t && (is_sibling plan t u && past to_next u) in
    let s = λ (latched : ℕ → Bool). seen plan v Going latched in
    let f =
    free_parts plan
    (families moment.words) moment.locals first t k polls mine sound padded rule here primary result next in
    let found : moment.words (word.Ctrl k) ≡ 3 =
    ap (λ (w : Families). w.ctrl k) rule.says
    ∙ ap (λ p. ctrl_code p ((s nobody).freed k) ((s nobody).group (plan.group k))) halted in
    let stays : freed_seen (v.place k) true (v.settles 0 k) ≡ (s nobody).freed k =
    placed (v.place k) Halted true (v.settles 0 k) halted f.unsettled ∙ sym f.freed in
    unseen_kept plan moment t h (Cas (word.Ctrl k) 0 (release_of local)) local new what.Inner first first Going
    sound padded rule here refl
    (ap (after plan t local h) found)
    (λ other. refl)
    (λ latched.
    ap (λ w. seen plan (put_view v t w) Going latched)
    (frees_view plan t first k polls mine to_next (no_timeout plan (plan.group t) mine result))
    ∙ free_sees plan moment.locals first t k polls mine latched set here f.leads f.grown
    ∙ ap (λ x. record (s latched) { freed = x })
    (put_back (s latched).freed k (freed_seen (v.place k) true (v.settles 0 k)) stays))
    (cas_keeps moment.words (word.Ctrl k) 0 (release_of local) (ap (λ n. n == 0) found))
    (subst (λ kind. Knows kind plan t new (s nobody)) (sym online)
    (frees_row plan t (k + 1) k polls mine to_next (s nobody) (primary, refl, result) refl))
    (inner_round plan t h _ own (is_inside plan moment.locals first Going moment.latched t local here refl))

free_by :
    (plan : Plan) (moment : Running) (t : ℕ) (h : How) (first : Bool) (stage : Stage) (k polls mine : ℕ) →
    Sound plan →
    Padded plan →
    RuleBy plan (families moment.words) moment.locals first stage →
    is_step h ≡ true →
    moment.locals t ≡ at_phase phase.Freeing k polls mine →
    plan.kind t ≡ Online →
    stage ≡ Going →
    is_primary plan t ≡ true →
    mine ≡ number_of (report_of plan (plan.group t)) →
    is_sibling plan t k ≡ true → Kept plan (event_of h t) moment (steps plan t h moment)
free_by plan moment t h first Going k polls mine sound padded rule own here online going primary result next =
    let f =
    free_parts plan
    (families moment.words) moment.locals first t k polls mine sound padded rule here primary result next in
    elim
    (inside_after_go plan (families moment.words) moment.locals first k sound rule (sibling plan t k next).present
    (no_primary_of plan t k primary next) f.freed) [
      | inl inside ↦
          frees_kept plan moment t h first k polls mine sound padded rule own here online primary result next inside
      | inr halted ↦
          passes_kept plan moment t h first k polls mine sound padded rule own here online primary result next halted
    ]
free_by plan moment t h first Gathering k polls mine sound padded rule own here online going primary result next = cc
free_by plan moment t h first DroppedByKick k polls mine sound padded rule own here online going primary result next =
    cc
free_by plan moment t h first (DroppedBy u) k polls mine sound padded rule own here online going primary result next =
    cc

freeing_kept : (h : How) → is_step h ≡ true → KeepsTheRule phase.Freeing h
unfolding KeepsTheRule
freeing_kept h own plan moment t sound padded rule phase_is =
    let l = moment.locals t in
    let at_thread =
    stands_in phase.Freeing plan (families moment.words) moment.locals rule.first rule.stage t rule.by phase_is refl in
    let row = at_thread.row in
    free_by plan moment t h rule.first rule.stage l.at l.polls l.mine sound padded rule.by own at_thread.here
    at_thread.online row.0.1 row.0.0 row.0.2 row.1

pub freeing_step : KeepsTheRule phase.Freeing how.Step
freeing_step = freeing_kept how.Step refl

pub freeing_timeout : KeepsTheRule phase.Freeing how.Timeout
freeing_timeout = freeing_kept how.Timeout refl
