-- A primary reports its result.
use Rattle.std.proofs.Common.{◌≡◌, ℕ, Bool, true, false, ◌&&◌, ◌==◌, if◌then◌else◌, Option, Some, None, unwrap_or, refl, ap, sym, ◌∙◌, subst, arith}
use Rattle.rendezvous_steps.specs.declared.steps.Kind.TheVariants.{Online}
use Rattle.rendezvous_steps.specs.declared.steps.ThreadResult.{ThreadResult}
use Rattle.rendezvous_steps.specs.declared.steps.ThreadResult.TheVariants as results
use Rattle.rendezvous_steps.specs.declared.steps.Phase.TheVariants as phase
use Rattle.rendezvous_steps.specs.declared.steps.How.{How}
use Rattle.rendezvous_steps.specs.declared.steps.How.TheVariants as how
use Rattle.rendezvous_steps.specs.declared.operations.Word.TheVariants as word
use Rattle.rendezvous_steps.specs.declared.operations.Op.TheVariants.{Store}
use Rattle.rendezvous_steps.specs.declared.items.What.TheVariants as what
use Rattle.rendezvous_steps.specs.Plan.{Plan, Sound, is_primary, is_sibling, sibling_from}
use Rattle.rendezvous_steps.specs.Padded.{Padded}
use Rattle.rendezvous_steps.specs.Words.{Families, families, words_after}
use Rattle.rendezvous_steps.specs.StepTable.{operation, after, number_of, result_of, told, free_at, write_of}
use Rattle.rendezvous_steps.specs.Events.{Running, put, steps}
use Rattle.rendezvous_model.specs.Round.{GroupPlace, Waiting, Written, Reported, Going, nobody}
use Rattle.rendezvous_model.specs.RoundItems as items
use Rattle.rendezvous_model.specs.RoundItems.{Reports}
use Rattle.rendezvous_rule.specs.View.{View, view, views}
use Rattle.rendezvous_rule.specs.Seen.{seen, words_of, mode_code, revision_in, ctrl_code, has_begun}
use Rattle.rendezvous_rule.specs.Knows.{Knows, report_of, primary_result}
use Rattle.rendezvous_rule.specs.Rule.{RuleBy}
use Rattle.rule_laws.specs.Kept.{Kept, event_of, is_step}
use Rattle.rule_laws.proofs.Frame.{at_phase, put_back, primary_is, and_false, same_numbers, different}
use Rattle.rule_laws.proofs.Step.{step_kept, stands_in}
use Rattle.rule_laws.proofs.Loops.{sibling_begins}
use Rattle.rule_laws.proofs.Facts.{view_is, is_inside, own_round, none_settled}
use Rattle.round_laws.proofs.Kind.{KeepsTheRule}
use Rattle.round_laws.proofs.Freeing.{no_timeout, frees_view, frees_row, report_back, unfreed}
use Rattle.round_laws.proofs.Groups.{group_change, group_at, told_nobody}
use Rattle.round_laws.proofs.Reading.{offer_exceeds}
use Rattle.round_laws.proofs.Writing.{own_group, at_going}

-- What was so of the group, by its offer and its refusal.

-- before the report its write is where it left it
abbrev before_report : Option ℕ → GroupPlace
before_report None = Waiting
before_report (Some o) = Written

by_mine :
    (offer : Option ℕ) (refuses : Bool) →
    (if number_of (primary_result offer refuses) == number_of results.Current then Waiting else Written)
    ≡ before_report offer
by_mine None refuses = refl
by_mine (Some o) true = refl
by_mine (Some o) false = refl

begun_same :
    (offer : Option ℕ) (refuses : Bool) →
    has_begun (Reported (primary_result offer refuses)) ≡ has_begun (before_report offer)
begun_same None refuses = refl
begun_same (Some o) true = refl
begun_same (Some o) false = refl

revision_same :
    (plan : Plan) (g : ℕ) (offer : Option ℕ) (refuses : Bool) (x : ThreadResult) →
    plan.offer g ≡ offer → plan.refuse g ≡ refuses →
    revision_in plan g (Reported x) ≡ revision_in plan g (before_report offer)
revision_same plan g (Some o) refuses x e f = refl
revision_same plan g None true x e f = ap (λ b. if b then plan.rev0 g else unwrap_or (plan.offer g) (plan.rev0 g)) f
revision_same plan g None false x e f =
    ap (λ b. if b then plan.rev0 g else unwrap_or (plan.offer g) (plan.rev0 g)) f
    ∙ ap (λ o. unwrap_or o (plan.rev0 g)) e

-- the model's report
model_report :
    (plan : Plan) (g : ℕ) (offer : Option ℕ) (refuses : Bool) →
    Sound plan →
    Padded plan →
    plan.offer g ≡ offer →
    plan.refuse g ≡ refuses →
    items.report_of (before_report offer) offer (revision_in plan g (before_report offer))
    ≡ Some (primary_result offer refuses)
model_report plan g None refuses sound padded e f = refl
model_report plan g (Some o) true sound padded e f =
    let low = offer_exceeds plan g o sound padded e in
    let first : write_of plan g ≡ plan.rev0 g =
    ap (λ b. if b then plan.rev0 g else unwrap_or (plan.offer g) (plan.rev0 g)) f in
    let other : (write_of plan g == o) ≡ false = different (write_of plan g) o (λ same. omega arith) in
    ap (λ b. Some (if b then results.Updated else results.Error)) other
model_report plan g (Some o) false sound padded e f =
    let same : write_of plan g ≡ o =
    ap (λ b. if b then plan.rev0 g else unwrap_or (plan.offer g) (plan.rev0 g)) f
    ∙ ap (λ x. unwrap_or x (plan.rev0 g)) e in
    ap (λ b. Some (if b then results.Updated else results.Error)) (same_numbers (write_of plan g) o same)

-- What others see of it: the report.

starts :
    (at polls mine : ℕ) (next : Option ℕ) →
    free_at (at_phase phase.Reporting at polls mine) next ≡ free_at (at_phase phase.Freeing at polls mine) next
starts at polls mine (Some l) = refl
starts at polls mine None = refl

reports_view :
    (plan : Plan) (t : ℕ) (first : Bool) (at polls mine : ℕ) (x : ThreadResult) →
    Padded plan →
    is_primary plan t ≡ true →
    mine ≡ number_of (report_of plan (plan.group t)) →
    result_of mine ≡ x →
    view plan t first (free_at (at_phase phase.Reporting at polls mine) (sibling_from plan t 0))
    ≡ record (view plan t first (at_phase phase.Reporting at polls mine)) { write = Reported x }
reports_view plan t first at polls mine x padded primary result same =
    let next = sibling_from plan t 0 in
    ap (view plan t first) (starts at polls mine next)
    ∙ frees_view plan t first at polls mine next (no_timeout plan (plan.group t) mine result)
    ∙ (λ i. record (view plan t first (at_phase phase.Reporting at polls mine)) {
      write = if primary i then Reported (same i) else Waiting;
      frees = λ u.
          is_primary plan t &&
          (sibling_begins plan t next padded refl u ∙ sym (and_false (is_sibling plan t u) false refl)) i;
    })

reports_kept :
    (plan : Plan) (moment : Running) (t : ℕ) (h : How) (first : Bool) (at polls mine : ℕ) →
    Sound plan →
    Padded plan →
    RuleBy plan (families moment.words) moment.locals first Going →
    is_step h ≡ true →
    moment.locals t ≡ at_phase phase.Reporting at polls mine →
    plan.kind t ≡ Online →
    is_primary plan t ≡ true →
    mine ≡ number_of (report_of plan (plan.group t)) → Kept plan (event_of h t) moment (steps plan t h moment)
unfolding operation after put words_of views report_of
reports_kept plan moment t h first at polls mine sound padded rule own here online primary result =
    let local = at_phase phase.Reporting at polls mine in
    let next_one = sibling_from plan t 0 in
    let new = free_at local next_one in
    let g = plan.group t in
    let offer = plan.offer g in
    let refuses = plan.refuse g in
    let x = report_of plan g in
    let v = views plan first moment.locals in
    let s = λ (latched : ℕ → Bool). seen plan v Going latched in
    let next = λ (latched : ℕ → Bool). group_at plan (s latched) g (Reported x) in
    let inside = is_inside plan moment.locals first Going nobody t local here refl in
    let back : result_of mine ≡ x = report_back plan g mine result in
    let told_is : told mine ≡ mine = ap number_of back ∙ sym result in
    let was : (s nobody).group g ≡ before_report offer =
    own_group plan moment.locals first t local here primary
    ∙ ap (λ b. if b then if mine == number_of results.Current then Waiting else Written else Waiting) primary
    ∙ ap (λ n. if n == number_of results.Current then Waiting else Written) result
    ∙ by_mine offer refuses in
    let mode : moment.words (word.Mode t) ≡ mode_code (plan.kind t) (has_begun (Reported x)) ((s nobody).place t) =
    ap (λ (w : Families). w.mode t) rule.says
    ∙ ap (λ b. mode_code (plan.kind t) (b && has_begun ((s nobody).group g)) ((s nobody).place t)) primary
    ∙ ap (λ w. mode_code (plan.kind t) (has_begun w) ((s nobody).place t)) was
    ∙ ap (λ b. mode_code (plan.kind t) b ((s nobody).place t)) (sym (begun_same offer refuses)) in
    let rev : moment.words (word.Rev g) ≡ revision_in plan g (Reported x) =
    ap (λ (w : Families). w.rev g) rule.says ∙ ap (revision_in plan g) was
    ∙ sym (revision_same plan g offer refuses x refl refl) in
    let nobody_freed : (u : ℕ) → plan.group u ≡ g → (s nobody).freed u ≡ false =
    λ u same.
    let leads : plan.primary (plan.group u) ≡ t = ap plan.primary same ∙ primary_is plan t primary in
    let none : v.frees (plan.primary (plan.group u)) u ≡ false =
    ap (λ p. v.frees p u) leads
    ∙ ap (λ (w : View). w.frees u) (view_is plan moment.locals first t local here)
    ∙ and_false (is_primary plan t) (is_sibling plan t u && false) (and_false (is_sibling plan t u) false refl) in
    unfreed (v.place u) (v.frees (plan.primary (plan.group u)) u) (v.settles 0 u) none
    (none_settled plan (families moment.words) moment.locals first Going u sound rule refl) in
    let reports : Reports plan t g x (s moment.latched) (next moment.latched) =
    record {
      by_primary = sym (primary_is plan t primary);
      is_in = inside;
      going = refl;
      result =
          ap (λ w. items.report_of w offer (revision_in plan g w)) was
          ∙ model_report plan g offer refuses sound padded refl refl;
      change =
          ap (λ r. record (s moment.latched) { group = put (s moment.latched).group g (Reported x); revision = r })
          (put_back (s moment.latched).revision g (revision_in plan g (Reported x))
          (revision_same plan g offer refuses x refl refl ∙ sym (ap (revision_in plan g) was)));
    } in
    step_kept plan moment t h (Store (word.Res g) (told mine)) local new (what.Report g x) first first Going Going next
    sound padded rule here refl
    (λ i. (free_at (at_phase phase.Reporting at polls (told_is i)) next_one, what.Report g (back i)))
    (λ other. refl)
    (group_change plan (families moment.words)
    (families (words_after moment.words (Store (word.Res g) (told mine)))) moment.locals first t
    (moment.words (word.Mode t)) local new (Reported x)
    sound padded rule here online primary
    (reports_view plan t first at polls mine x padded primary result back)
    (λ i. record (families moment.words) {
      mode = sym (put_back (families moment.words).mode t (moment.words (word.Mode t)) refl) i;
      rev = sym (put_back (families moment.words).rev g (revision_in plan g (Reported x)) (sym rev)) i;
      res = put (families moment.words).res g (ap number_of back i);
    })
    mode
    (λ u same.
    ap (λ b. ctrl_code ((s nobody).place u) b (Reported x)) (nobody_freed u same)
    ∙ told_nobody ((s nobody).place u) ((s nobody).group g) (Reported x)
    ∙ ap (λ b. ctrl_code ((s nobody).place u) b ((s nobody).group g)) (sym (nobody_freed u same))))
    (subst (λ kind. Knows kind plan t new (next nobody)) (sym online)
    (subst (λ l. Knows Online plan t l (next nobody)) (sym (starts at polls mine next_one))
    (frees_row plan t 0 at polls mine next_one (next nobody) (primary, refl, result) refl)))
    (own_round plan t h (s moment.latched) (next moment.latched) (what.Report g x) own (refl, reports) (refl, reports))

reporting_kept : (h : How) → is_step h ≡ true → KeepsTheRule phase.Reporting h
unfolding KeepsTheRule
reporting_kept h own plan moment t sound padded rule phase_is =
    let l = moment.locals t in
    let at_thread =
    stands_in phase.Reporting plan
    (families moment.words) moment.locals rule.first rule.stage t rule.by phase_is refl in
    let row = at_thread.row in
    reports_kept plan moment t h rule.first l.at l.polls l.mine sound padded
    (at_going plan (families moment.words) moment.locals rule.first rule.stage row.1 rule.by)
    own at_thread.here at_thread.online row.0 row.2

pub reporting_step : KeepsTheRule phase.Reporting how.Step
reporting_step = reporting_kept how.Step refl

pub reporting_timeout : KeepsTheRule phase.Reporting how.Timeout
reporting_timeout = reporting_kept how.Timeout refl
