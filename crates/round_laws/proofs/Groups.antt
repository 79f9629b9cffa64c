-- The write of a group goes on: what its primary's step changes of the words.
use Rattle.std.proofs.Common.{◌≡◌, ℕ, Bool, true, false, ◌&&◌, refl, ap, sym, ◌∙◌, inl, inr}
use mathlib.Core.Path.{fun_ext}
use Rattle.rendezvous_steps.specs.declared.steps.Kind.TheVariants.{Online}
use Rattle.rendezvous_steps.specs.declared.steps.Local.{Local}
use Rattle.rendezvous_steps.specs.Plan.{Plan, Sound, is_primary}
use Rattle.rendezvous_steps.specs.Padded.{Padded}
use Rattle.rendezvous_steps.specs.Words.{Families}
use Rattle.rendezvous_steps.specs.Events.{put}
use Rattle.rendezvous_model.specs.Round.{Place, Out, In, Left, Halted, Withdrawn, Absent, GroupPlace, Waiting, Writing, Written, Going, State}
use Rattle.rendezvous_rule.specs.View.{View, view, views}
use Rattle.rendezvous_rule.specs.Seen.{seen, words_of, mode_code, ctrl_code, res_code, revision_in, writes_now, has_begun}
use Rattle.rendezvous_rule.specs.Rule.{RuleBy}
use Rattle.rule_laws.proofs.Count.{same_or_not}
use Rattle.rule_laws.proofs.Frame.{put_same, put_other, put_all, coded, primary_is}
use Rattle.rule_laws.proofs.Tables.{only_write, sees_write}
use Rattle.rule_laws.proofs.Later.{later_group}
use Rattle.rule_laws.proofs.Step.{Change}
use Rattle.rule_laws.proofs.Facts.{state, view_is}

guarded : (b x y : Bool) → (b ≡ true → x ≡ y) → (b && x) ≡ (b && y)
guarded true x y same = same refl
guarded false x y same = refl

-- the modes: that of its primary alone can change
modes_put :
    (plan : Plan) (s : State) (t m : ℕ) (x : GroupPlace) →
    is_primary plan t ≡ true →
    m ≡ mode_code (plan.kind t) (has_begun x) (s.place t) →
    put (λ u. mode_code (plan.kind u) (writes_now plan u s.group) (s.place u)) t m
    ≡ (λ u. mode_code (plan.kind u) (writes_now plan u (put s.group (plan.group t) x)) (s.place u))
modes_put plan s t m x primary e =
    let g = plan.group t in
    let group = put s.group g x in
    fun_ext
    (put_all (λ u y. y ≡ mode_code (plan.kind u) (writes_now plan u group) (s.place u))
    (λ u. mode_code (plan.kind u) (writes_now plan u s.group) (s.place u))
    t
    m
    (e
    ∙ ap (λ w. mode_code (plan.kind t) (has_begun w) (s.place t)) (sym (put_same s.group g x))
    ∙ ap (λ b. mode_code (plan.kind t) (b && has_begun (group g)) (s.place t)) (sym primary))
    (λ u other.
    ap (λ b. mode_code (plan.kind u) b (s.place u))
    (guarded (is_primary plan u) (has_begun (s.group (plan.group u))) (has_begun (group (plan.group u)))
    (λ leads.
    ap has_begun
    (sym (put_other s.group g (plan.group u) x
    (λ same. other (sym (primary_is plan u leads) ∙ ap plan.primary same ∙ primary_is plan t primary))))))))

-- the control words: where the group's threads are told the same
ctrls_stay :
    (plan : Plan) (s : State) (g : ℕ) (x : GroupPlace) →
    ((u : ℕ) → plan.group u ≡ g → ctrl_code (s.place u) (s.freed u) x ≡ ctrl_code (s.place u) (s.freed u) (s.group g)) →
    ◌≡◌ {A = ℕ → ℕ}
    (λ u. ctrl_code (s.place u) (s.freed u) (s.group (plan.group u)))
    (λ u. ctrl_code (s.place u) (s.freed u) (put s.group g x (plan.group u)))
ctrls_stay plan s g x same =
    fun_ext (λ u.
    elim (same_or_not (plan.group u) g) [
      | inl e ↦
          ap (λ h. ctrl_code (s.place u) (s.freed u) (s.group h)) e
          ∙ sym (same u e)
          ∙ ap (ctrl_code (s.place u) (s.freed u)) (sym (put_same s.group g x))
          ∙ ap (λ h. ctrl_code (s.place u) (s.freed u) (put s.group g x h)) (sym e)
      | inr other ↦ ap (ctrl_code (s.place u) (s.freed u)) (sym (put_other s.group g (plan.group u) x other))
    ])

-- the words of its primary and of the group
abbrev pub with_group : Families → ℕ → ℕ → ℕ → ℕ → ℕ → Families
with_group words t g m r n =
    record words { mode = put words.mode t m; rev = put words.rev g r; res = put words.res g n }

-- the state with the group's write at x
abbrev pub group_at : Plan → State → ℕ → GroupPlace → State
group_at plan s g x = record s { group = put s.group g x; revision = put s.revision g (revision_in plan g x) }

group_says :
    (plan : Plan) (s : State) (t m : ℕ) (x : GroupPlace) →
    is_primary plan t ≡ true →
    m ≡ mode_code (plan.kind t) (has_begun x) (s.place t) →
    ((u : ℕ) →
    plan.group u ≡ plan.group t →
    ctrl_code (s.place u) (s.freed u) x ≡ ctrl_code (s.place u) (s.freed u) (s.group (plan.group t))) →
    with_group (words_of plan s) t (plan.group t) m (revision_in plan (plan.group t) x) (res_code x)
    ≡ words_of plan (group_at plan s (plan.group t) x)
unfolding words_of
group_says plan s t m x primary mode ctrls =
    let g = plan.group t in
    λ i. record (words_of plan (group_at plan s g x)) {
      mode = modes_put plan s t m x primary mode i;
      ctrl = ctrls_stay plan s g x ctrls i;
      res = coded (λ h w. res_code w) s.group g x (res_code x) refl i;
    }

-- The change where the write of its group comes to x by a step of its primary.
pub group_change :
    (plan : Plan) (words words' : Families) (locals : ℕ → Local) (first : Bool) (t m : ℕ) (local new : Local)
    (x : GroupPlace) →
    Sound plan →
    Padded plan →
    RuleBy plan words locals first Going →
    locals t ≡ local →
    plan.kind t ≡ Online →
    is_primary plan t ≡ true →
    view plan t first new ≡ record (view plan t first local) { write = x } →
    words' ≡ with_group words t (plan.group t) m (revision_in plan (plan.group t) x) (res_code x) →
    (let s = state plan first locals Going in
    m ≡ mode_code (plan.kind t) (has_begun x) (s.place t) →
    ((u : ℕ) →
    plan.group u ≡ plan.group t →
    ctrl_code (s.place u) (s.freed u) x ≡ ctrl_code (s.place u) (s.freed u) (s.group (plan.group t))) →
    Change plan t words' (views plan first locals) (view plan t first new) Going Going
    (λ latched. group_at plan (seen plan (views plan first locals) Going latched) (plan.group t) x))
group_change plan words words' locals first t m local new x sound padded rule here online primary shows says mode
    ctrls =
    let v = views plan first locals in
    let s = state plan first locals Going in
    let g = plan.group t in
    record {
      sees = λ latched.
          ap (λ y. seen plan y Going latched)
          (only_write v t (view plan t first new) x
          (shows ∙ ap (λ (w : View). record w { write = x }) (sym (view_is plan locals first t local here))))
          ∙ sees_write plan v Going latched t x sound padded online primary;
      says =
          says
          ∙ ap (λ (w : Families). with_group w t g m (revision_in plan g x) (res_code x)) rule.says
          ∙ group_says plan s t m x primary mode ctrls;
      gathered = rule.gathered;
      later = later_group t s (put s.group g x) (put s.revision g (revision_in plan g x));
    }

-- a group that has not reported tells its threads the same wherever its write is
pub told_same : (place : Place) (freed : Bool) → ctrl_code place freed Writing ≡ ctrl_code place freed Waiting
told_same Out freed = refl
told_same In freed = refl
told_same (Left x) freed = refl
told_same Halted freed = refl
told_same Withdrawn freed = refl
told_same Absent freed = refl

pub told_same' : (place : Place) (freed : Bool) → ctrl_code place freed Written ≡ ctrl_code place freed Writing
told_same' Out freed = refl
told_same' In freed = refl
told_same' (Left x) freed = refl
told_same' Halted freed = refl
told_same' Withdrawn freed = refl
told_same' Absent freed = refl

-- and one that has freed nobody, whatever it reports
pub told_nobody : (place : Place) (w x : GroupPlace) → ctrl_code place false x ≡ ctrl_code place false w
told_nobody Out w x = refl
told_nobody In w x = refl
told_nobody (Left y) w x = refl
told_nobody Halted w x = refl
told_nobody Withdrawn w x = refl
told_nobody Absent w x = refl
