-- A primary reads its group's revision: before its write, whether the offer exceeds it, and after, whether the write
-- was taken.
use Rattle.std.proofs.Common.{◌≡◌, ℕ, ◌<◌, Bool, true, false, ◌==◌, nat_lt, if◌then◌else◌, Option, Some, None, is_some, unwrap_or, refl, ap, sym, ◌∙◌, subst, arith, inl, inr}
use Rattle.std.proofs.lemmas.Bool.{cases_lt}
use Rattle.std.proofs.lemmas.Bool.Decides.{nat_tests}
use Rattle.rendezvous_steps.specs.declared.steps.Kind.TheVariants.{Online}
use Rattle.rendezvous_steps.specs.declared.steps.ThreadResult.TheVariants as results
use Rattle.rendezvous_steps.specs.declared.steps.Phase.TheVariants as phase
use Rattle.rendezvous_steps.specs.declared.steps.Local.{Local}
use Rattle.rendezvous_steps.specs.declared.steps.How.{How}
use Rattle.rendezvous_steps.specs.declared.steps.How.TheVariants as how
use Rattle.rendezvous_steps.specs.declared.operations.Word.TheVariants as word
use Rattle.rendezvous_steps.specs.declared.operations.Op.TheVariants.{Load}
use Rattle.rendezvous_steps.specs.declared.items.What.{What}
use Rattle.rendezvous_steps.specs.declared.items.What.TheVariants as what
use Rattle.rendezvous_steps.specs.Plan.{Plan, Sound, is_primary, offer_or_rev0}
use Rattle.rendezvous_steps.specs.Padded.{Padded}
use Rattle.rendezvous_steps.specs.Words.{Families, families}
use Rattle.rendezvous_steps.specs.StepTable.{operation, after, exceeds, with_result, number_of, write_of}
use Rattle.rendezvous_steps.specs.Events.{Running, steps}
use Rattle.rendezvous_model.specs.Round.{Waiting, Written, Going, nobody}
use Rattle.rendezvous_rule.specs.View.{view}
use Rattle.rendezvous_rule.specs.Seen.{words_of, revision_in}
use Rattle.rendezvous_rule.specs.Knows.{Knows, report_of, primary_result}
use Rattle.rendezvous_rule.specs.Rule.{RuleBy}
use Rattle.rule_laws.specs.Kept.{Kept, event_of, is_step}
use Rattle.rule_laws.proofs.Frame.{at_phase, same_numbers, different}
use Rattle.rule_laws.proofs.Step.{inner_kept, stands_in}
use Rattle.rule_laws.proofs.Facts.{state, is_inside}
use Rattle.round_laws.proofs.Kind.{KeepsTheRule}
use Rattle.round_laws.proofs.Found.{load_keeps}
use Rattle.round_laws.proofs.Writing.{own_group, at_going}

-- Before the write.

-- an offer exceeds the revision at the start
pub offer_exceeds :
    (plan : Plan) (g o : ℕ) → Sound plan → Padded plan → plan.offer g ≡ Some o → plan.rev0 g < o
offer_exceeds plan g o sound padded e =
    elim (cases_lt g plan.groups) [
      | inl low ↦ sound.offer_is_greater g o low e
      | inr past ↦ let same : Some o ≡ None = sym e ∙ padded.no_offer g past in cc
    ]

-- where it goes next, by its group's offer
read_by : (local : Local) (offer : Option ℕ) (found : ℕ) → Local
read_by local offer found =
    if exceeds offer found then record local { phase = phase.Beginning } else with_result local 3 phase.Reporting

read_next :
    (plan : Plan) (g : ℕ) (local : Local) (offer : Option ℕ) →
    Sound plan →
    Padded plan →
    plan.offer g ≡ offer →
    read_by local offer (plan.rev0 g)
    ≡ (if is_some offer then record local { phase = phase.Beginning } else with_result local 3 phase.Reporting)
unfolding read_by
read_next plan g local None sound padded e = refl
read_next plan g local (Some o) sound padded e =
    let low = offer_exceeds plan g o sound padded e in
    let more : nat_lt (plan.rev0 g) o ≡ true = grind (arith, nat_tests) in
    ap (λ b. if b then record local { phase = phase.Beginning } else with_result local 3 phase.Reporting) more

reads_by :
    (plan : Plan) (moment : Running) (t : ℕ) (h : How) (first : Bool) (at polls mine : ℕ) (offer : Option ℕ) →
    Sound plan →
    Padded plan →
    RuleBy plan (families moment.words) moment.locals first Going →
    is_step h ≡ true →
    moment.locals t ≡ at_phase phase.Reading at polls mine →
    plan.kind t ≡ Online →
    is_primary plan t ≡ true →
    plan.offer (plan.group t) ≡ offer →
    after plan t (at_phase phase.Reading at polls mine) h (moment.words (word.Rev (plan.group t)))
    ≡ (
      (if is_some offer then at_phase phase.Beginning at polls mine else at_phase phase.Reporting at polls 3),
      what.Inner,
    ) →
    Kept plan (event_of h t) moment (steps plan t h moment)
unfolding operation report_of
reads_by plan moment t h first at polls mine (Some o) sound padded rule own here online primary e step =
    let local = at_phase phase.Reading at polls mine in
    inner_kept plan moment t h (Load (word.Rev (plan.group t))) local
    (at_phase phase.Beginning at polls mine) first first Going
    sound padded rule own here refl step (λ other. refl) refl
    (load_keeps moment.words (word.Rev (plan.group t)))
    (subst (λ kind. Knows kind plan t (at_phase phase.Beginning at polls mine) (state plan first moment.locals Going))
    (sym online)
    (primary, refl, ap is_some e))
    (is_inside plan moment.locals first Going nobody t local here refl)
reads_by plan moment t h first at polls mine None sound padded rule own here online primary e step =
    let local = at_phase phase.Reading at polls mine in
    let none : report_of plan (plan.group t) ≡ results.Current = ap (λ o. primary_result o (plan.refuse (plan.group t))) e in
    inner_kept plan moment t h (Load (word.Rev (plan.group t))) local
    (at_phase phase.Reporting at polls 3) first first Going
    sound padded rule own here refl step (λ other. refl) refl
    (load_keeps moment.words (word.Rev (plan.group t)))
    (subst (λ kind. Knows kind plan t (at_phase phase.Reporting at polls 3) (state plan first moment.locals Going))
    (sym online)
    (primary, refl, ap number_of (sym none)))
    (is_inside plan moment.locals first Going nobody t local here refl)

reads_kept :
    (plan : Plan) (moment : Running) (t : ℕ) (h : How) (first : Bool) (at polls mine : ℕ) →
    Sound plan →
    Padded plan →
    RuleBy plan (families moment.words) moment.locals first Going →
    is_step h ≡ true →
    moment.locals t ≡ at_phase phase.Reading at polls mine →
    plan.kind t ≡ Online →
    is_primary plan t ≡ true → Kept plan (event_of h t) moment (steps plan t h moment)
unfolding after words_of read_by
reads_kept plan moment t h first at polls mine sound padded rule own here online primary =
    let local = at_phase phase.Reading at polls mine in
    let g = plan.group t in
    let waits : (state plan first moment.locals Going).group g ≡ Waiting =
    own_group plan moment.locals first t local here primary ∙ ap (λ b. if b then Waiting else Waiting) primary in
    let found : moment.words (word.Rev g) ≡ plan.rev0 g =
    ap (λ (w : Families). w.rev g) rule.says ∙ ap (revision_in plan g) waits in
    reads_by plan moment t h first at polls mine (plan.offer g) sound padded rule own here online primary refl
    (ap (after plan t local h) found
    ∙ ap {A = Local} {B = Local × What} (λ l. (l, what.Inner))
    (read_next plan g local (plan.offer g) sound padded refl))

-- After it.

checked_by :
    (plan : Plan) (g : ℕ) (offer : Option ℕ) (refuses : Bool) →
    Sound plan →
    Padded plan →
    plan.offer g ≡ offer →
    plan.refuse g ≡ refuses →
    is_some offer ≡ true →
    (if write_of plan g == offer_or_rev0 plan g then 1 else 4) ≡ number_of (primary_result offer refuses)
checked_by plan g None refuses sound padded e f some = cc
checked_by plan g (Some o) true sound padded e f some =
    let low = offer_exceeds plan g o sound padded e in
    let first : write_of plan g ≡ plan.rev0 g =
    ap (λ b. if b then plan.rev0 g else unwrap_or (plan.offer g) (plan.rev0 g)) f in
    let offered : offer_or_rev0 plan g ≡ o = ap (λ x. unwrap_or x (plan.rev0 g)) e in
    let other : (write_of plan g == offer_or_rev0 plan g) ≡ false =
    different (write_of plan g) (offer_or_rev0 plan g) (λ same. omega arith) in
    ap (λ b. if b then 1 else 4) other
checked_by plan g (Some o) false sound padded e f some =
    let same : write_of plan g ≡ offer_or_rev0 plan g =
    ap (λ b. if b then plan.rev0 g else unwrap_or (plan.offer g) (plan.rev0 g)) f in
    ap (λ b. if b then 1 else 4) (same_numbers (write_of plan g) (offer_or_rev0 plan g) same)

-- what others see of it is the same, since it reports no Current
checked_view :
    (plan : Plan) (t : ℕ) (first : Bool) (at polls mine : ℕ) (b : Bool) →
    view plan t first (at_phase phase.Reporting at polls (if b then 1 else 4))
    ≡ view plan t first (at_phase phase.Checking at polls mine)
checked_view plan t first at polls mine true = refl
checked_view plan t first at polls mine false = refl

checks_kept :
    (plan : Plan) (moment : Running) (t : ℕ) (h : How) (first : Bool) (at polls mine : ℕ) →
    Sound plan →
    Padded plan →
    RuleBy plan (families moment.words) moment.locals first Going →
    is_step h ≡ true →
    moment.locals t ≡ at_phase phase.Checking at polls mine →
    plan.kind t ≡ Online →
    is_primary plan t ≡ true →
    is_some (plan.offer (plan.group t)) ≡ true → Kept plan (event_of h t) moment (steps plan t h moment)
unfolding operation after words_of report_of
checks_kept plan moment t h first at polls mine sound padded rule own here online primary offer =
    let local = at_phase phase.Checking at polls mine in
    let g = plan.group t in
    let s = state plan first moment.locals Going in
    let written : s.group g ≡ Written =
    own_group plan moment.locals first t local here primary ∙ ap (λ b. if b then Written else Waiting) primary in
    let found : moment.words (word.Rev g) ≡ write_of plan g =
    ap (λ (w : Families). w.rev g) rule.says ∙ ap (revision_in plan g) written in
    let mine' : ℕ = if write_of plan g == offer_or_rev0 plan g then 1 else 4 in
    let new = at_phase phase.Reporting at polls mine' in
    inner_kept plan moment t h (Load (word.Rev g)) local new first first Going
    sound padded rule own here refl (ap (after plan t local h) found) (λ other. refl)
    (checked_view plan t first at polls mine (write_of plan g == offer_or_rev0 plan g))
    (load_keeps moment.words (word.Rev g))
    (subst (λ kind. Knows kind plan t new s) (sym online)
    (primary, refl, checked_by plan g (plan.offer g) (plan.refuse g) sound padded refl refl offer))
    (is_inside plan moment.locals first Going nobody t local here refl)

reading_kept : (h : How) → is_step h ≡ true → KeepsTheRule phase.Reading h
unfolding KeepsTheRule
reading_kept h own plan moment t sound padded rule phase_is =
    let l = moment.locals t in
    let at_thread =
    stands_in phase.Reading plan (families moment.words) moment.locals rule.first rule.stage t rule.by phase_is refl in
    let row = at_thread.row in
    reads_kept plan moment t h rule.first l.at l.polls l.mine sound padded
    (at_going plan (families moment.words) moment.locals rule.first rule.stage row.1 rule.by)
    own at_thread.here at_thread.online row.0

checking_kept : (h : How) → is_step h ≡ true → KeepsTheRule phase.Checking h
unfolding KeepsTheRule
checking_kept h own plan moment t sound padded rule phase_is =
    let l = moment.locals t in
    let at_thread =
    stands_in phase.Checking plan (families moment.words) moment.locals rule.first rule.stage t rule.by phase_is refl in
    let row = at_thread.row in
    checks_kept plan moment t h rule.first l.at l.polls l.mine sound padded
    (at_going plan (families moment.words) moment.locals rule.first rule.stage row.1 rule.by)
    own at_thread.here at_thread.online row.0 row.2

pub reading_step : KeepsTheRule phase.Reading how.Step
reading_step = reading_kept how.Step refl

pub reading_timeout : KeepsTheRule phase.Reading how.Timeout
reading_timeout = reading_kept how.Timeout refl

pub checking_step : KeepsTheRule phase.Checking how.Step
checking_step = checking_kept how.Step refl

pub checking_timeout : KeepsTheRule phase.Checking how.Timeout
checking_timeout = checking_kept how.Timeout refl
