-- The views of all threads where one thread's state changes, and the state that they make.
use Rattle.std.proofs.Common.{◌≡◌, ◌≢◌, ℕ, Bool, true, not, ◌||◌, refl, ap, sym, ◌∙◌, inl, inr}
use mathlib.Core.Path.{fun_ext}
use Rattle.std.proofs.lemmas.Bool.{cases_lt}
use Rattle.rendezvous_steps.specs.declared.steps.Kind.TheVariants.{Online, Absent}
use Rattle.rendezvous_steps.specs.declared.steps.Local.{Local}
use Rattle.rendezvous_steps.specs.Plan.{Plan, Sound, is_primary}
use Rattle.rendezvous_steps.specs.Padded.{Padded}
use Rattle.rendezvous_steps.specs.Events.{put}
use Rattle.rendezvous_model.specs.Round.{Place, Stage, GroupPlace}
use Rattle.rendezvous_rule.specs.View.{View, Views, view, views, tables, arrived_in}
use Rattle.rendezvous_rule.specs.Seen.{seen, place_seen, freed_seen, revision_in}
use Rattle.rule_laws.proofs.Count.{same_or_not}
use Rattle.rule_laws.proofs.Frame.{put_same, put_other, put_all, put_back, put_map, code_kept, different, primary_is}

-- the view of one thread
abbrev pub view_at : Views → ℕ → View
view_at v t =
    record {
      place = v.place t;
      arrived = v.arrived t;
      deciding = v.deciding t;
      write = v.write t;
      frees = v.frees t;
      kicks = v.kicks t;
      settles = v.settles t;
    }

-- the views with that of one thread changed
abbrev pub put_view : Views → ℕ → View → Views
put_view v t new =
    record {
      place = put v.place t new.place;
      arrived = put v.arrived t new.arrived;
      deciding = put v.deciding t new.deciding;
      write = put v.write t new.write;
      frees = put v.frees t new.frees;
      kicks = put v.kicks t new.kicks;
      settles = put v.settles t new.settles;
    }

-- a thread other than 0 sees nothing of whether thread 0 has arrived
first_unseen :
    (plan : Plan) (u : ℕ) (first first' : Bool) (local : Local) → u ≢ 0 →
    view plan u first' local ≡ view plan u first local
first_unseen plan u first first' local other =
    let e = different u 0 other in
    ap (λ z. record (view plan u first local) { arrived = arrived_in local.phase local.mine (not z || first') }) e
    ∙ sym
    (ap (λ z. record (view plan u first local) { arrived = arrived_in local.phase local.mine (not z || first) }) e)

-- One thread's state changes its view alone. Whether thread 0 has arrived may be given anew by a step of thread 0.
pub views_put :
    (plan : Plan) (locals : ℕ → Local) (first first' : Bool) (t : ℕ) (new : Local) →
    (t ≢ 0 → first' ≡ first) →
    views plan first' (put locals t new) ≡ put_view (views plan first locals) t (view plan t first' new)
unfolding views
views_put plan locals first first' t new same =
    let of = λ (u : ℕ). view plan u first (locals u) in
    let w = view plan t first' new in
    let every : (λ (u : ℕ). view plan u first' (put locals t new u)) ≡ put of t w =
    fun_ext (put_all (λ u l. view plan u first' l ≡ put of t w u) locals t new (sym (put_same of t w)) (λ u other.
    kept u other ∙ sym (put_other of t u w other))) in
    let parts : tables (put of t w) ≡ put_view (tables of) t w =
    λ i. record {
      place = put_map (λ (u : ℕ) (x : View). x.place) of t w i;
      arrived = put_map (λ (u : ℕ) (x : View). x.arrived) of t w i;
      deciding = put_map (λ (u : ℕ) (x : View). x.deciding) of t w i;
      write = put_map (λ (u : ℕ) (x : View). x.write) of t w i;
      frees = put_map (λ (u : ℕ) (x : View). x.frees) of t w i;
      kicks = put_map (λ (u : ℕ) (x : View). x.kicks) of t w i;
      settles = put_map (λ (u : ℕ) (x : View). x.settles) of t w i;
    } in
    ap tables every ∙ parts
  where
    kept : (u : ℕ) → u ≢ t → view plan u first' (locals u) ≡ view plan u first (locals u)
    kept u other =
        elim (same_or_not u 0) [
          | inl zero ↦ ap (λ b. view plan u b (locals u)) (same (λ e. other (zero ∙ sym e)))
          | inr past ↦ first_unseen plan u first first' (locals u) past
        ]

-- Where the view stays, all views stay.
pub same_view : (v : Views) (t : ℕ) (w : View) → w ≡ view_at v t → put_view v t w ≡ v
same_view v t w e =
    ap (put_view v t) e
    ∙ (λ i. record {
      place = put_back v.place t (v.place t) refl i;
      arrived = put_back v.arrived t (v.arrived t) refl i;
      deciding = put_back v.deciding t (v.deciding t) refl i;
      write = put_back v.write t (v.write t) refl i;
      frees = put_back v.frees t (v.frees t) refl i;
      kicks = put_back v.kicks t (v.kicks t) refl i;
      settles = put_back v.settles t (v.settles t) refl i;
    })

-- Where a part of the view changes, one table does.

pub only_place :
    (v : Views) (t : ℕ) (w : View) (x : Place) →
    w ≡ record (view_at v t) { place = x } → put_view v t w ≡ record v { place = put v.place t x }
only_place v t w x e =
    ap (put_view v t) e ∙ ap (λ (u : Views). record u { place = put v.place t x }) (same_view v t (view_at v t) refl)

pub only_arrived :
    (v : Views) (t : ℕ) (w : View) (x d : Bool) →
    w ≡ record (view_at v t) { arrived = x; deciding = d } →
    put_view v t w ≡ record v { arrived = put v.arrived t x; deciding = put v.deciding t d }
only_arrived v t w x d e =
    ap (put_view v t) e
    ∙ ap (λ (u : Views). record u { arrived = put v.arrived t x; deciding = put v.deciding t d })
    (same_view v t (view_at v t) refl)

pub only_deciding :
    (v : Views) (t : ℕ) (w : View) (x : Bool) →
    w ≡ record (view_at v t) { deciding = x } → put_view v t w ≡ record v { deciding = put v.deciding t x }
only_deciding v t w x e =
    ap (put_view v t) e
    ∙ ap (λ (u : Views). record u { deciding = put v.deciding t x }) (same_view v t (view_at v t) refl)

pub only_write :
    (v : Views) (t : ℕ) (w : View) (x : GroupPlace) →
    w ≡ record (view_at v t) { write = x } → put_view v t w ≡ record v { write = put v.write t x }
only_write v t w x e =
    ap (put_view v t) e ∙ ap (λ (u : Views). record u { write = put v.write t x }) (same_view v t (view_at v t) refl)

pub only_frees :
    (v : Views) (t : ℕ) (w : View) (x : ℕ → Bool) →
    w ≡ record (view_at v t) { frees = x } → put_view v t w ≡ record v { frees = put v.frees t x }
only_frees v t w x e =
    ap (put_view v t) e ∙ ap (λ (u : Views). record u { frees = put v.frees t x }) (same_view v t (view_at v t) refl)

pub only_kicks :
    (v : Views) (t : ℕ) (w : View) (x : ℕ → Bool) →
    w ≡ record (view_at v t) { kicks = x } → put_view v t w ≡ record v { kicks = put v.kicks t x }
only_kicks v t w x e =
    ap (put_view v t) e ∙ ap (λ (u : Views). record u { kicks = put v.kicks t x }) (same_view v t (view_at v t) refl)

pub only_settles :
    (v : Views) (t : ℕ) (w : View) (x : ℕ → Bool) →
    w ≡ record (view_at v t) { settles = x } → put_view v t w ≡ record v { settles = put v.settles t x }
only_settles v t w x e =
    ap (put_view v t) e
    ∙ ap (λ (u : Views). record u { settles = put v.settles t x }) (same_view v t (view_at v t) refl)

-- What the state is then.

-- a thread goes to another place, where it is freed or not as it was
pub sees_place_here :
    (plan : Plan) (v : Views) (stage : Stage) (latched : ℕ → Bool) (t : ℕ) (x : Place) →
    freed_seen x (v.frees (plan.primary (plan.group t)) t) (v.settles 0 t)
    ≡ freed_seen (v.place t) (v.frees (plan.primary (plan.group t)) t) (v.settles 0 t) →
    seen plan (record v { place = put v.place t x }) stage latched
    ≡ record (seen plan v stage latched) {
      place = put (seen plan v stage latched).place t (place_seen x (v.settles 0 t));
    }
sees_place_here plan v stage latched t x same =
    λ i. record (seen plan v stage latched) {
      place = put_map (λ u p. place_seen p (v.settles 0 u)) v.place t x i;
      freed =
          code_kept
          (λ u p. freed_seen p (v.frees (plan.primary (plan.group u)) u) (v.settles 0 u))
          v.place
          t
          x
          same
          i;
    }

-- and one where every thread is freed as it was at the other
pub sees_place :
    (plan : Plan) (v : Views) (stage : Stage) (latched : ℕ → Bool) (t : ℕ) (x : Place) →
    ((p z : Bool) → freed_seen x p z ≡ freed_seen (v.place t) p z) →
    seen plan (record v { place = put v.place t x }) stage latched
    ≡ record (seen plan v stage latched) {
      place = put (seen plan v stage latched).place t (place_seen x (v.settles 0 t));
    }
sees_place plan v stage latched t x same = sees_place_here plan v stage latched t x (same _ _)

pub sees_kicks :
    (plan : Plan) (v : Views) (stage : Stage) (latched : ℕ → Bool) (set : ℕ → Bool) →
    seen plan (record v { kicks = put v.kicks 0 set }) stage latched
    ≡ record (seen plan v stage latched) { kicked = set }
sees_kicks plan v stage latched set =
    λ i. record (seen plan v stage latched) { kicked = put_same v.kicks 0 set i }

-- a group is led by one thread alone
leads_one :
    (plan : Plan) (t g : ℕ) → Sound plan → Padded plan → plan.kind t ≡ Online → plan.primary g ≡ t → g ≡ plan.group t
leads_one plan t g sound padded online e =
    elim (cases_lt g plan.groups) [
      | inl low ↦ sym (sound.primary_is_one_of_its_group g low) ∙ ap plan.group e
      | inr past ↦ let same : Absent ≡ Online = sym (padded.no_primary g past) ∙ ap plan.kind e ∙ online in cc
    ]

-- a table by groups, of what their primaries have
by_primary :
    {A : Type 0} (plan : Plan) (table : ℕ → A) (t g : ℕ) (x : A) →
    Sound plan → Padded plan → plan.kind t ≡ Online → is_primary plan t ≡ true →
    put table t x (plan.primary g) ≡ put (λ h. table (plan.primary h)) (plan.group t) x g
by_primary plan table t g x sound padded online primary =
    put_all (λ h y. put table t x (plan.primary h) ≡ y) (λ h. table (plan.primary h)) (plan.group t) x
    (ap (put table t x) (primary_is plan t primary) ∙ put_same table t x)
    (λ h other. put_other table t (plan.primary h) x (λ e. other (leads_one plan t h sound padded online e)))
    g

-- the write of a group goes on, and its revision with it
pub sees_write :
    (plan : Plan) (v : Views) (stage : Stage) (latched : ℕ → Bool) (t : ℕ) (x : GroupPlace) →
    Sound plan → Padded plan → plan.kind t ≡ Online → is_primary plan t ≡ true →
    seen plan (record v { write = put v.write t x }) stage latched
    ≡ record (seen plan v stage latched) {
      group = put (seen plan v stage latched).group (plan.group t) x;
      revision = put (seen plan v stage latched).revision (plan.group t) (revision_in plan (plan.group t) x);
    }
sees_write plan v stage latched t x sound padded online primary =
    let groups : (λ (g : ℕ). put v.write t x (plan.primary g)) ≡ put (λ g. v.write (plan.primary g)) (plan.group t) x =
    fun_ext (λ g. by_primary plan v.write t g x sound padded online primary) in
    (λ i. record (seen plan v stage latched) {
      group = groups i;
      revision = λ g. revision_in plan g (groups i g);
    })
    ∙ (λ i. record (seen plan v stage latched) {
      group = put (λ g. v.write (plan.primary g)) (plan.group t) x;
      revision = put_map (revision_in plan) (λ g. v.write (plan.primary g)) (plan.group t) x i;
    })

-- a primary is done with a thread of its group
pub sees_frees :
    (plan : Plan) (v : Views) (stage : Stage) (latched : ℕ → Bool) (t s : ℕ) →
    plan.primary (plan.group s) ≡ t →
    seen plan (record v { frees = put v.frees t (put (v.frees t) s true) }) stage latched
    ≡ record (seen plan v stage latched) {
      freed = put (seen plan v stage latched).freed s (freed_seen (v.place s) true (v.settles 0 s));
    }
sees_frees plan v stage latched t s leads =
    let both = λ (u : ℕ). put v.frees t (put (v.frees t) s true) (plan.primary (plan.group u)) u in
    let old = λ (u : ℕ). v.frees (plan.primary (plan.group u)) u in
    let others : (u : ℕ) → u ≢ s → both u ≡ old u =
    λ u other.
    put_all (λ p set. set u ≡ v.frees p u) v.frees t (put (v.frees t) s true)
    (put_other (v.frees t) s u true other)
    (λ p past. refl)
    (plan.primary (plan.group u)) in
    let here : both s ≡ true =
    ap (λ p. put v.frees t (put (v.frees t) s true) p s) leads
    ∙ ap (λ set. set s) (put_same v.frees t (put (v.frees t) s true))
    ∙ put_same (v.frees t) s true in
    let every : (λ (u : ℕ). freed_seen (v.place u) (both u) (v.settles 0 u))
    ≡ put (seen plan v stage latched).freed s (freed_seen (v.place s) true (v.settles 0 s)) =
    fun_ext
    (put_all (λ u y. freed_seen (v.place u) (both u) (v.settles 0 u) ≡ y) (seen plan v stage latched).freed s
    (freed_seen (v.place s) true (v.settles 0 s))
    (ap (λ b. freed_seen (v.place s) b (v.settles 0 s)) here)
    (λ u other. ap (λ b. freed_seen (v.place u) b (v.settles 0 u)) (others u other))) in
    λ i. record (seen plan v stage latched) { freed = every i }

-- thread 0 is done with an Offline thread
pub sees_settles :
    (plan : Plan) (v : Views) (stage : Stage) (latched : ℕ → Bool) (k : ℕ) →
    seen plan (record v { settles = put v.settles 0 (put (v.settles 0) k true) }) stage latched
    ≡ record (seen plan v stage latched) {
      place = put (seen plan v stage latched).place k (place_seen (v.place k) true);
      freed =
          put (seen plan v stage latched).freed k
          (freed_seen (v.place k) (v.frees (plan.primary (plan.group k)) k) true);
    }
sees_settles plan v stage latched k =
    let new = put (v.settles 0) k true in
    let first = put_same v.settles 0 new in
    (λ i. record (seen plan v stage latched) {
      place = λ u. place_seen (v.place u) (first i u);
      freed = λ u. freed_seen (v.place u) (v.frees (plan.primary (plan.group u)) u) (first i u);
    })
    ∙ (λ i. record (seen plan v stage latched) {
      place = put_map (λ u z. place_seen (v.place u) z) (v.settles 0) k true i;
      freed =
          put_map (λ u z. freed_seen (v.place u) (v.frees (plan.primary (plan.group u)) u) z) (v.settles 0) k true i;
    })
