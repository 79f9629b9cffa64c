-- A sibling waits for its primary, and takes what it is told.
use Rattle.std.proofs.Common.{◌≡◌, ◌≢◌, ℕ, Bool, true, false, ◌&&◌, if◌then◌else◌, Option, Some, None, unwrap_or, refl, ap, sym, ◌∙◌, subst}
use Rattle.rendezvous_steps.specs.declared.steps.Kind.TheVariants.{Online}
use Rattle.rendezvous_steps.specs.declared.steps.ThreadResult.TheVariants as results
use Rattle.rendezvous_steps.specs.declared.steps.Phase.TheVariants as phase
use Rattle.rendezvous_steps.specs.declared.steps.Local.{Local}
use Rattle.rendezvous_steps.specs.declared.steps.How.{How}
use Rattle.rendezvous_steps.specs.declared.steps.How.TheVariants as how
use Rattle.rendezvous_steps.specs.declared.operations.Word.TheVariants as word
use Rattle.rendezvous_steps.specs.declared.operations.Op.TheVariants.{Load}
use Rattle.rendezvous_steps.specs.declared.items.What.{What}
use Rattle.rendezvous_steps.specs.declared.items.What.TheVariants as what
use Rattle.rendezvous_steps.specs.Plan.{Plan, Sound, is_primary, is_sibling, offer_or_rev0}
use Rattle.rendezvous_steps.specs.Padded.{Padded}
use Rattle.rendezvous_steps.specs.Words.{Families, families}
use Rattle.rendezvous_steps.specs.StepTable.{operation, after, number_of, result_of, told, with_result, write_of}
use Rattle.rendezvous_steps.specs.Events.{Running, steps}
use Rattle.rendezvous_model.specs.Round.{Waiting, Reported, Going, nobody}
use Rattle.rendezvous_model.specs.RoundEnds.{okay_for}
use Rattle.rendezvous_rule.specs.View.{View, view, is_timeout}
use Rattle.rendezvous_rule.specs.Seen.{words_of, revision_in, res_code}
use Rattle.rendezvous_rule.specs.Knows.{Knows, Ends, ToldApply, ToldDone, report_of, primary_result, result_for}
use Rattle.rendezvous_rule.specs.Rule.{RuleBy}
use Rattle.rule_laws.specs.Kept.{Kept, event_of, is_step}
use Rattle.rule_laws.proofs.Frame.{at_phase, same_numbers}
use Rattle.rule_laws.proofs.Step.{inner_kept, stands_in}
use Rattle.rule_laws.proofs.Facts.{state, is_inside, freed_reported}
use Rattle.round_laws.proofs.Kind.{KeepsTheRule}
use Rattle.round_laws.proofs.Found.{load_keeps}
use Rattle.round_laws.proofs.Freeing.{leaving}
use Rattle.round_laws.proofs.Paths.{plain}
use Rattle.round_laws.proofs.Writing.{at_going}

-- What others see of a thread that is no primary and is about to leave after a go: nothing new.
pub no_primary_leaves :
    (plan : Plan) (t : ℕ) (first : Bool) (at polls mine : ℕ) →
    is_primary plan t ≡ false →
    is_timeout mine ≡ false → view plan t first (at_phase phase.Leaving at polls mine) ≡ plain plan t true false
no_primary_leaves plan t first at polls mine primary goes =
    ap (leaving plan t first mine) goes
    ∙ ap {A = Bool} {B = View}
    (λ b.
    record (plain plan t true false) {
      write = if b then Reported (result_of mine) else Waiting;
      frees = λ u. b && (is_sibling plan t u && true);
    })
    primary
    ∙ sym
    (ap {A = Bool} {B = View}
    (λ b.
    record (plain plan t true false) {
      write = if b then Waiting else Waiting;
      frees = λ u. b && (is_sibling plan t u && false);
    })
    primary)

-- It was told that its group has the offer, and finds it there.

offer_runs :
    (plan : Plan) (g : ℕ) (offer : Option ℕ) (refuses : Bool) → plan.refuse g ≡ refuses →
    primary_result offer refuses ≡ results.Updated → write_of plan g ≡ offer_or_rev0 plan g
offer_runs plan g None refuses e f = cc
offer_runs plan g (Some o) true e f = cc
offer_runs plan g (Some o) false e f = ap (λ b. if b then plan.rev0 g else unwrap_or (plan.offer g) (plan.rev0 g)) e

checks_kept :
    (plan : Plan) (moment : Running) (t : ℕ) (h : How) (first : Bool) (at polls mine : ℕ) →
    Sound plan →
    Padded plan →
    RuleBy plan (families moment.words) moment.locals first Going →
    is_step h ≡ true →
    moment.locals t ≡ at_phase phase.SiblingCheck at polls mine →
    plan.kind t ≡ Online →
    ToldApply plan t (state plan first moment.locals Going) → Kept plan (event_of h t) moment (steps plan t h moment)
unfolding operation after words_of report_of result_for
checks_kept plan moment t h first at polls mine sound padded rule own here online row =
    let local = at_phase phase.SiblingCheck at polls mine in
    let new = at_phase phase.Leaving at polls 2 in
    let g = plan.group t in
    let s = state plan first moment.locals Going in
    let reported =
    freed_reported plan (families moment.words) moment.locals first Going t sound padded rule refl row.1 in
    let found : moment.words (word.Rev g) ≡ offer_or_rev0 plan g =
    ap (λ (w : Families). w.rev g) rule.says
    ∙ ap (revision_in plan g) reported
    ∙ offer_runs plan g (plan.offer g) (plan.refuse g) refl row.2 in
    let result : 2 ≡ number_of (result_for plan t) =
    sym
    (ap (λ b. number_of (if b then report_of plan g else okay_for (report_of plan g))) row.0.0
    ∙ ap (λ x. number_of (okay_for x)) row.2) in
    inner_kept plan moment t h (Load (word.Rev g)) local new first first Going sound padded rule own here refl
    (ap {A = Bool} {B = Local × What} (λ b. (with_result local (if b then 2 else 4) phase.Leaving, what.Inner))
    (same_numbers (moment.words (word.Rev g)) (offer_or_rev0 plan g) found))
    (λ other. refl)
    (no_primary_leaves plan t first at polls 2 row.0.0 refl)
    (load_keeps moment.words (word.Rev g))
    (subst (λ kind. Knows kind plan t new s) (sym online) (refl, result, λ e. row.1))
    (is_inside plan moment.locals first Going nobody t local here refl)

-- It was told that it has not, and takes over what its primary reported.

passed_on : (offer : Option ℕ) (refuses : Bool) → primary_result offer refuses ≢ results.Updated →
    (is_timeout (number_of (primary_result offer refuses)) ≡ false)
    × (okay_for (primary_result offer refuses) ≡ primary_result offer refuses)
    × (told (number_of (primary_result offer refuses)) ≡ number_of (primary_result offer refuses))
passed_on None refuses other = (refl, refl, refl)
passed_on (Some o) true other = (refl, refl, refl)
passed_on (Some o) false other = absurd (other refl)

copies_kept :
    (plan : Plan) (moment : Running) (t : ℕ) (h : How) (first : Bool) (at polls mine : ℕ) →
    Sound plan →
    Padded plan →
    RuleBy plan (families moment.words) moment.locals first Going →
    is_step h ≡ true →
    moment.locals t ≡ at_phase phase.SiblingCopy at polls mine →
    plan.kind t ≡ Online →
    ToldDone plan t (state plan first moment.locals Going) → Kept plan (event_of h t) moment (steps plan t h moment)
unfolding operation after words_of report_of result_for
copies_kept plan moment t h first at polls mine sound padded rule own here online row =
    let local = at_phase phase.SiblingCopy at polls mine in
    let g = plan.group t in
    let r = report_of plan g in
    let n : ℕ = number_of r in
    let new = at_phase phase.Leaving at polls n in
    let s = state plan first moment.locals Going in
    let reported =
    freed_reported plan (families moment.words) moment.locals first Going t sound padded rule refl row.1 in
    let found : moment.words (word.Res g) ≡ n = ap (λ (w : Families). w.res g) rule.says ∙ ap res_code reported in
    let told_on = passed_on (plan.offer g) (plan.refuse g) row.2 in
    let result : n ≡ number_of (result_for plan t) =
    sym (ap (λ b. number_of (if b then r else okay_for r)) row.0.0 ∙ ap number_of told_on.1) in
    inner_kept plan moment t h (Load (word.Res g)) local new first first Going sound padded rule own here refl
    (ap {A = ℕ} {B = Local × What} (λ m. (with_result local m phase.Leaving, what.Inner)) (ap told found ∙ told_on.2))
    (λ other. refl)
    (no_primary_leaves plan t first at polls n row.0.0 told_on.0)
    (load_keeps moment.words (word.Res g))
    (subst (λ kind. Knows kind plan t new s) (sym online)
    (subst (λ b. Ends b plan t n s) (sym told_on.0) (refl, result, λ e. row.1)))
    (is_inside plan moment.locals first Going nobody t local here refl)

sibling_check_kept : (h : How) → is_step h ≡ true → KeepsTheRule phase.SiblingCheck h
unfolding KeepsTheRule
sibling_check_kept h own plan moment t sound padded rule phase_is =
    let l = moment.locals t in
    let at_thread =
    stands_in phase.SiblingCheck plan
    (families moment.words) moment.locals rule.first rule.stage t rule.by phase_is refl in
    let row = at_thread.row in
    checks_kept plan moment t h rule.first l.at l.polls l.mine sound padded
    (at_going plan (families moment.words) moment.locals rule.first rule.stage row.0.1 rule.by)
    own at_thread.here at_thread.online ((row.0.0, refl), row.1, row.2)

sibling_copy_kept : (h : How) → is_step h ≡ true → KeepsTheRule phase.SiblingCopy h
unfolding KeepsTheRule
sibling_copy_kept h own plan moment t sound padded rule phase_is =
    let l = moment.locals t in
    let at_thread =
    stands_in phase.SiblingCopy plan
    (families moment.words) moment.locals rule.first rule.stage t rule.by phase_is refl in
    let row = at_thread.row in
    copies_kept plan moment t h rule.first l.at l.polls l.mine sound padded
    (at_going plan (families moment.words) moment.locals rule.first rule.stage row.0.1 rule.by)
    own at_thread.here at_thread.online ((row.0.0, refl), row.1, row.2)

pub sibling_check_step : KeepsTheRule phase.SiblingCheck how.Step
sibling_check_step = sibling_check_kept how.Step refl

pub sibling_check_timeout : KeepsTheRule phase.SiblingCheck how.Timeout
sibling_check_timeout = sibling_check_kept how.Timeout refl

pub sibling_copy_step : KeepsTheRule phase.SiblingCopy how.Step
sibling_copy_step = sibling_copy_kept how.Step refl

pub sibling_copy_timeout : KeepsTheRule phase.SiblingCopy how.Timeout
sibling_copy_timeout = sibling_copy_kept how.Timeout refl
