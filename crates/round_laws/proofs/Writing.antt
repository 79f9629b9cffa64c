-- A primary begins its group's write, and writes.
use Rattle.std.proofs.Common.{◌≡◌, ℕ, Bool, true, false, ◌&&◌, if◌then◌else◌, Option, Some, None, is_some, unwrap_or, refl, ap, sym, ◌∙◌, subst}
use Rattle.rendezvous_steps.specs.declared.steps.Kind.TheVariants.{Online}
use Rattle.rendezvous_steps.specs.declared.steps.Phase.TheVariants as phase
use Rattle.rendezvous_steps.specs.declared.steps.Local.{Local}
use Rattle.rendezvous_steps.specs.declared.steps.How.{How}
use Rattle.rendezvous_steps.specs.declared.steps.How.TheVariants as how
use Rattle.rendezvous_steps.specs.declared.operations.Word.TheVariants as word
use Rattle.rendezvous_steps.specs.declared.operations.Op.TheVariants.{Store}
use Rattle.rendezvous_steps.specs.declared.items.What.TheVariants as what
use Rattle.rendezvous_steps.specs.Plan.{Plan, Sound, is_primary}
use Rattle.rendezvous_steps.specs.Padded.{Padded}
use Rattle.rendezvous_steps.specs.Words.{Families, families, words_after}
use Rattle.rendezvous_steps.specs.StepTable.{operation, after, write_of}
use Rattle.rendezvous_steps.specs.Events.{Running, put, steps}
use Rattle.rendezvous_model.specs.Round.{GroupPlace, Waiting, Writing, Written, Stage, Going, nobody}
use Rattle.rendezvous_model.specs.RoundItems.{Begins, Writes}
use Rattle.rendezvous_rule.specs.View.{View, view, views}
use Rattle.rendezvous_rule.specs.Seen.{seen, words_of, mode_code, res_code, revision_in, ctrl_code, has_begun}
use Rattle.rendezvous_rule.specs.Knows.{Knows}
use Rattle.rendezvous_rule.specs.Rule.{RuleBy}
use Rattle.rule_laws.specs.Kept.{Kept, event_of, is_step}
use Rattle.rule_laws.proofs.Frame.{at_phase, put_back, primary_is}
use Rattle.rule_laws.proofs.Step.{step_kept, stands_in}
use Rattle.rule_laws.proofs.Facts.{view_is, is_inside, own_round}
use Rattle.round_laws.proofs.Kind.{KeepsTheRule}
use Rattle.round_laws.proofs.Groups.{group_change, group_at, told_same, told_same'}

-- how far the write of its group has come, by what others see of it
pub own_group :
    (plan : Plan) (locals : ℕ → Local) (first : Bool) (t : ℕ) (local : Local) →
    locals t ≡ local →
    is_primary plan t ≡ true →
    (views plan first locals).write (plan.primary (plan.group t)) ≡ (view plan t first local).write
own_group plan locals first t local here primary =
    ap (views plan first locals).write (primary_is plan t primary)
    ∙ ap (λ (w : View). w.write) (view_is plan locals first t local here)

-- the view of a primary, by how far its group's write has come
writes_view : Plan → ℕ → Bool → Local → GroupPlace → Bool → View
writes_view plan t first local x primary = record (view plan t first local) { write = if primary then x else Waiting }

begins_kept :
    (plan : Plan) (moment : Running) (t : ℕ) (h : How) (first : Bool) (at polls mine : ℕ) →
    Sound plan →
    Padded plan →
    RuleBy plan (families moment.words) moment.locals first Going →
    is_step h ≡ true →
    moment.locals t ≡ at_phase phase.Beginning at polls mine →
    plan.kind t ≡ Online →
    is_primary plan t ≡ true →
    is_some (plan.offer (plan.group t)) ≡ true → Kept plan (event_of h t) moment (steps plan t h moment)
unfolding operation after put words_of writes_view
begins_kept plan moment t h first at polls mine sound padded rule own here online primary offer =
    let local = at_phase phase.Beginning at polls mine in
    let new = at_phase phase.Writing at polls mine in
    let g = plan.group t in
    let s = λ (latched : ℕ → Bool). seen plan (views plan first moment.locals) Going latched in
    let next = λ (latched : ℕ → Bool). group_at plan (s latched) g Writing in
    let inside = is_inside plan moment.locals first Going moment.latched t local here refl in
    let waits : (s nobody).group g ≡ Waiting =
    own_group plan moment.locals first t local here primary ∙ ap (λ b. if b then Waiting else Waiting) primary in
    let rev : moment.words (word.Rev g) ≡ plan.rev0 g =
    ap (λ (w : Families). w.rev g) rule.says ∙ ap (revision_in plan g) waits in
    let res : moment.words (word.Res g) ≡ 0 = ap (λ (w : Families). w.res g) rule.says ∙ ap res_code waits in
    let begins : Begins plan t g (s moment.latched) (next moment.latched) =
    record {
      by_primary = sym (primary_is plan t primary);
      is_in = inside;
      going = refl;
      waits = waits;
      has_offer = offer;
      change =
          ap (λ r. record (s moment.latched) { group = put (s moment.latched).group g Writing; revision = r })
          (put_back (s moment.latched).revision g (plan.rev0 g) (sym (ap (revision_in plan g) waits)));
    } in
    step_kept plan moment t h (Store (word.Mode t) 2) local new (what.Begin g) first first Going Going next
    sound padded rule here refl refl (λ other. refl)
    (group_change plan (families moment.words)
    (families (words_after moment.words (Store (word.Mode t) 2))) moment.locals first t 2 local new Writing
    sound padded rule here online primary
    (ap (writes_view plan t first local Writing) primary)
    (λ i. record (families moment.words) {
      mode = put (families moment.words).mode t 2;
      rev = sym (put_back (families moment.words).rev g (plan.rev0 g) (sym rev)) i;
      res = sym (put_back (families moment.words).res g 0 (sym res)) i;
    })
    (sym (ap (λ k. mode_code k true ((s nobody).place t)) online ∙ ap (mode_code Online true) inside))
    (λ u same. told_same ((s nobody).place u) ((s nobody).freed u)
    ∙ ap (ctrl_code ((s nobody).place u) ((s nobody).freed u)) (sym waits)))
    (subst (λ kind. Knows kind plan t new (next nobody)) (sym online) (primary, refl, offer))
    (own_round plan t h (s moment.latched) (next moment.latched) (what.Begin g) own (refl, begins) (refl, begins))

written_first : (plan : Plan) (g : ℕ) → plan.refuse g ≡ true → write_of plan g ≡ plan.rev0 g
written_first plan g e = ap (λ b. if b then plan.rev0 g else unwrap_or (plan.offer g) (plan.rev0 g)) e

written_offer :
    (plan : Plan) (g : ℕ) (offer : Option ℕ) → plan.offer g ≡ offer → is_some offer ≡ true → plan.refuse g ≡ false →
    plan.offer g ≡ Some (write_of plan g)
written_offer plan g (Some o) e some f =
    e
    ∙ ap (λ n. Some n)
    (sym
    (ap (λ b. if b then plan.rev0 g else unwrap_or (plan.offer g) (plan.rev0 g)) f
    ∙ ap (λ x. unwrap_or x (plan.rev0 g)) e))
written_offer plan g None e some f = cc

wrote_kept :
    (plan : Plan) (moment : Running) (t : ℕ) (h : How) (first : Bool) (at polls mine : ℕ) →
    Sound plan →
    Padded plan →
    RuleBy plan (families moment.words) moment.locals first Going →
    is_step h ≡ true →
    moment.locals t ≡ at_phase phase.Writing at polls mine →
    plan.kind t ≡ Online →
    is_primary plan t ≡ true →
    is_some (plan.offer (plan.group t)) ≡ true → Kept plan (event_of h t) moment (steps plan t h moment)
unfolding operation after put words_of writes_view
wrote_kept plan moment t h first at polls mine sound padded rule own here online primary offer =
    let local = at_phase phase.Writing at polls mine in
    let new = at_phase phase.Checking at polls mine in
    let g = plan.group t in
    let s = λ (latched : ℕ → Bool). seen plan (views plan first moment.locals) Going latched in
    let next = λ (latched : ℕ → Bool). group_at plan (s latched) g Written in
    let inside = is_inside plan moment.locals first Going nobody t local here refl in
    let writing : (s nobody).group g ≡ Writing =
    own_group plan moment.locals first t local here primary ∙ ap (λ b. if b then Writing else Waiting) primary in
    let mode : 2 ≡ mode_code (plan.kind t) true ((s nobody).place t) =
    sym (ap (λ k. mode_code k true ((s nobody).place t)) online ∙ ap (mode_code Online true) inside) in
    let held : moment.words (word.Mode t) ≡ 2 =
    ap (λ (w : Families). w.mode t) rule.says
    ∙ ap (λ b. mode_code (plan.kind t) (b && has_begun ((s nobody).group g)) ((s nobody).place t)) primary
    ∙ ap (λ w. mode_code (plan.kind t) (has_begun w) ((s nobody).place t)) writing
    ∙ sym mode in
    let res : moment.words (word.Res g) ≡ 0 = ap (λ (w : Families). w.res g) rule.says ∙ ap res_code writing in
    let writes : Writes plan t g (write_of plan g) (s moment.latched) (next moment.latched) =
    record {
      by_primary = sym (primary_is plan t primary);
      writing = writing;
      refused = written_first plan g;
      taken = written_offer plan g (plan.offer g) refl offer;
      change = refl;
    } in
    step_kept plan moment t h (Store (word.Rev g) (write_of plan g)) local new
    (what.Wrote g (write_of plan g)) first first Going Going next
    sound padded rule here refl refl (λ other. refl)
    (group_change plan (families moment.words)
    (families
    (words_after moment.words (Store (word.Rev g) (write_of plan g)))) moment.locals first t 2 local new Written
    sound padded rule here online primary
    (ap (writes_view plan t first local Written) primary)
    (λ i. record (families moment.words) {
      mode = sym (put_back (families moment.words).mode t 2 (sym held)) i;
      rev = put (families moment.words).rev g (write_of plan g);
      res = sym (put_back (families moment.words).res g 0 (sym res)) i;
    })
    mode
    (λ u same. told_same' ((s nobody).place u) ((s nobody).freed u)
    ∙ ap (ctrl_code ((s nobody).place u) ((s nobody).freed u)) (sym writing)))
    (subst (λ kind. Knows kind plan t new (next nobody)) (sym online) (primary, refl, offer))
    (own_round plan t h (s moment.latched) (next moment.latched) (what.Wrote g (write_of plan g)) own (refl, writes)
    (refl, writes))

-- the stage is known
pub at_going :
    (plan : Plan) (words : Families) (locals : ℕ → Local) (first : Bool) (stage : Stage) →
    stage ≡ Going → RuleBy plan words locals first stage → RuleBy plan words locals first Going
at_going plan words locals first stage e rule = subst (λ x. RuleBy plan words locals first x) e rule

beginning_kept : (h : How) → is_step h ≡ true → KeepsTheRule phase.Beginning h
unfolding KeepsTheRule
beginning_kept h own plan moment t sound padded rule phase_is =
    let l = moment.locals t in
    let at_thread =
    stands_in phase.Beginning plan
    (families moment.words) moment.locals rule.first rule.stage t rule.by phase_is refl in
    let row = at_thread.row in
    begins_kept plan moment t h rule.first l.at l.polls l.mine sound padded
    (at_going plan (families moment.words) moment.locals rule.first rule.stage row.1 rule.by)
    own at_thread.here at_thread.online row.0 row.2

writing_kept : (h : How) → is_step h ≡ true → KeepsTheRule phase.Writing h
unfolding KeepsTheRule
writing_kept h own plan moment t sound padded rule phase_is =
    let l = moment.locals t in
    let at_thread =
    stands_in phase.Writing plan (families moment.words) moment.locals rule.first rule.stage t rule.by phase_is refl in
    let row = at_thread.row in
    wrote_kept plan moment t h rule.first l.at l.polls l.mine sound padded
    (at_going plan (families moment.words) moment.locals rule.first rule.stage row.1 rule.by)
    own at_thread.here at_thread.online row.0 row.2

pub beginning_step : KeepsTheRule phase.Beginning how.Step
beginning_step = beginning_kept how.Step refl

pub beginning_timeout : KeepsTheRule phase.Beginning how.Timeout
beginning_timeout = beginning_kept how.Timeout refl

pub writing_step : KeepsTheRule phase.Writing how.Step
writing_step = writing_kept how.Step refl

pub writing_timeout : KeepsTheRule phase.Writing how.Timeout
writing_timeout = writing_kept how.Timeout refl
