-- A run whose states are safe excludes ordinary code from the writes, and no run lets a revision fall.
use Rattle.std.proofs.Common.{◌≡◌, ◌≢◌, ℕ, zero, suc, ◌+◌, ◌<◌, ◌≤◌, Bool, true, false, ◌||◌, List, [], ◌∷◌, length, take, get_or, Some, None, slice_get, refl, ap, sym, ◌∙◌, subst, arith, true≢false, inl, inr}
use Rattle.std.proofs.lemmas.Bool.{cases_Bool, cases_lt}
use Rattle.std.proofs.lemmas.Option.{slice_get_within, get_or_from_slice_get}
use Rattle.rendezvous_steps.specs.declared.steps.Kind.{Kind}
use Rattle.rendezvous_steps.specs.declared.steps.Kind.TheVariants.{Online, Offline, Absent as KindAbsent}
use Rattle.rendezvous_steps.specs.declared.items.What.{What}
use Rattle.rendezvous_steps.specs.declared.items.What.TheVariants as what
use Rattle.rendezvous_steps.specs.declared.items.Item.{Item}
use Rattle.rendezvous_steps.specs.Plan.{Plan, Sound}
use Rattle.rendezvous_steps.specs.Padded.{Padded}
use Rattle.rendezvous_steps.specs.Events.{put}
use Rattle.rendezvous_model.specs.Round.{State, Cause, Step, Timeout, Nmi, Place, Out, In, Left, Halted, Withdrawn, Absent, Writing, is_out, is_withdrawn, has_left}
use Rattle.rendezvous_model.specs.Round.{Run as RunCause}
use Rattle.rendezvous_model.specs.RoundEnds.{is_free_to_run, comes_through}
use Rattle.rendezvous_model.specs.RoundStep.{RoundBy, thread_of}
use Rattle.rendezvous_model.specs.Safe.{Safe, is_in_write as writes}
use Rattle.rendezvous_model.specs.Run.{Answered}
use Rattle.rendezvous_model.specs.Excluded.{MayCome}
use Rattle.run_laws.specs.SafeRuns.{SafeRunsExclude, RunsNeverFall}
use Rattle.run_laws.proofs.Tables.{put_same, put_other, same_or_not}
use Rattle.run_laws.proofs.Model.{change, changed}
use Rattle.run_laws.proofs.Fronts.{Front, within, has_written, fronts, answered, no_event, no_item}

-- Ordinary code.

-- a thread that is neither out, nor left, nor withdrawn runs none
not_free :
    (kind : Kind) (cause : Cause) (place : Place) (kicked latched : Bool) →
    is_out place ≡ false → has_left place ≡ false → is_withdrawn place ≡ false →
    (is_free_to_run kind cause place kicked || comes_through cause place latched) ≡ false
not_free Online Step place kicked latched out left withdrawn = rw left refl
not_free Online Timeout place kicked latched out left withdrawn = rw left refl
not_free Online Nmi place kicked latched out left withdrawn = rw (out, left) refl
not_free Online RunCause place kicked latched out left withdrawn = rw (out, left) refl
not_free Offline Step place kicked latched out left withdrawn = rw left refl
not_free Offline Timeout place kicked latched out left withdrawn = rw left refl
not_free Offline Nmi place kicked latched out left withdrawn = rw (out, left, withdrawn) refl
not_free Offline RunCause place kicked latched out left withdrawn = rw left refl
not_free KindAbsent Step place kicked latched out left withdrawn = rw left refl
not_free KindAbsent Timeout place kicked latched out left withdrawn = rw left refl
not_free KindAbsent Nmi place kicked latched out left withdrawn = refl
not_free KindAbsent RunCause place kicked latched out left withdrawn = rw left refl

no : {A : Type 0} (b : Bool) → b ≡ false → b ≡ true → A
no b off on = absurd (true≢false (sym on ∙ off))

-- a thread that runs ordinary code takes part, and is not in the handler
runs_outside :
    (kind : Kind) (cause : Cause) (place : Place) (kicked latched : Bool) →
    (is_free_to_run kind cause place kicked || comes_through cause place latched) ≡ true →
    (place ≢ Absent) × (within place ≡ false)
runs_outside kind cause Out kicked latched e = (λ absent. cc, refl)
runs_outside kind cause (Left x) kicked latched e = (λ absent. cc, refl)
runs_outside kind cause Withdrawn kicked latched e = (λ absent. cc, refl)
runs_outside kind cause In kicked latched e = no _ (not_free kind cause In kicked latched refl refl refl) e
runs_outside kind cause Halted kicked latched e = no _ (not_free kind cause Halted kicked latched refl refl refl) e
runs_outside kind cause Absent kicked latched e = no _ (not_free kind cause Absent kicked latched refl refl refl) e

-- one item: by what the items before it tell, and by what is safe before it and after it
may_come :
    (plan : Plan) (earlier : List Item) (t : ℕ) (cause : Cause) (s : State) (item : What) (s' : State) →
    Front plan earlier s → Safe plan s → Safe plan s' → RoundBy plan t cause s item s' → MayCome plan earlier t item
may_come plan earlier t cause s (what.Begin g) s' front safe safe' by =
    let writing : s'.group g ≡ Writing = ap (λ (x : State). x.group g) by.1.change ∙ put_same s.group g Writing in
    λ u of_group present.
    let held : within (s'.place u) ≡ true = safe'.write_holds_all g u (ap writes writing) of_group present in
    front.inside u ∙ (sym (ap (λ (x : State). within (x.place u)) by.1.change) ∙ held)
may_come plan earlier t cause s what.Ordinary s' front safe safe' by =
    let runs = runs_outside (plan.kind t) cause (s.place t) (s.kicked t) (s.latched t) by.may in
    front.in_write (plan.group t)
    ∙ elim (cases_Bool (writes (s.group (plan.group t)))) [
      | inl on ↦
          let held : within (s.place t) ≡ true =
          safe.write_holds_all (plan.group t) t on refl (λ absent. runs.0 (front.absent t absent)) in
          no _ runs.1 held
      | inr off ↦ off
    ]
may_come plan earlier t cause s item s' front safe safe' by = tt

-- a place of a front
in_front :
    {A : Type 0} (xs : List A) (j k : ℕ) (x : A) →
    slice_get (take j xs) k ≡ Some x → (slice_get xs k ≡ Some x) × (take k (take j xs) ≡ take k xs)
in_front xs zero k x e = cc
in_front [] (suc j) k x e = cc
in_front (y ∷ ys) (suc j) zero x e = (e, refl)
in_front (y ∷ ys) (suc j) (suc k) x e = let rest = in_front ys j k x e in (rest.0, ap (λ front. y ∷ front) rest.1)

pub safe_runs_exclude : SafeRunsExclude
safe_runs_exclude plan events items states run safe j k item e =
    let here = in_front items j k item e in
    let room : k < length items = slice_get_within items k item here.0 in
    let reads : get_or items k no_item ≡ item = get_or_from_slice_get items k item no_item here.0 in
    let one : Answered plan (get_or events k no_event) item (states k) (states (k + 1)) =
    subst (λ i. Answered plan (get_or events k no_event) i (states k) (states (k + 1))) reads
    (answered plan events items states run k room) in
    let front = fronts plan events items states run k (omega arith) in
    let may = may_come plan (take k items) (thread_of (get_or events k no_event)) _ (states k) item.what
    (states (k + 1)) front
    (safe k (omega arith)) (safe (k + 1) (omega arith)) one.step in
    subst (λ earlier. MayCome plan earlier item.thread item.what) (sym here.1)
    (subst (λ t. MayCome plan (take k items) t item.what) (sym one.of_its_thread) may)

-- Revisions.

-- a group that has an offer and is to write it is one of the plan's
offer_in_range : (plan : Plan) (g r : ℕ) → Padded plan → plan.offer g ≡ Some r → g < plan.groups
offer_in_range plan g r padded e =
    elim (cases_lt g plan.groups) [
      | inl within ↦ within
      | inr past ↦ let none : Some r ≡ None = sym e ∙ padded.no_offer g past in cc
    ]

wrote_more :
    (plan : Plan) (g r : ℕ) (refuse : Bool) →
    Sound plan → Padded plan → plan.refuse g ≡ refuse →
    (plan.refuse g ≡ true → r ≡ plan.rev0 g) → (plan.refuse g ≡ false → plan.offer g ≡ Some r) → plan.rev0 g ≤ r
wrote_more plan g r true sound padded is refused taken = let e = refused is in omega arith
wrote_more plan g r false sound padded is refused taken =
    let e = taken is in
    let greater = sound.offer_is_greater g r (offer_in_range plan g r padded e) e in
    omega arith

no_fall :
    (plan : Plan) (earlier : List Item) (t : ℕ) (cause : Cause) (s : State) (item : What) (s' : State) →
    Sound plan → Padded plan → Front plan earlier s → RoundBy plan t cause s item s' →
    (g : ℕ) → s.revision g ≤ (change plan t item s).revision g
no_fall plan earlier t cause s (what.Wrote h r) s' sound padded front by g =
    elim (same_or_not g h) [
      | inl same ↦
          let first : s.revision h ≡ plan.rev0 h = front.first_revision h (ap has_written by.1.writing) in
          let more = wrote_more plan h r (plan.refuse h) sound padded refl by.1.refused by.1.taken in
          let new : put s.revision h r h ≡ r = put_same s.revision h r in
          rw same (omega arith)
      | inr other ↦ let kept = put_other s.revision h g r other in omega arith
    ]
no_fall plan earlier t cause s item s' sound padded front by g = omega arith

pub runs_never_fall : RunsNeverFall
runs_never_fall plan events items states sound padded run k g within =
    let one = answered plan events items states run k within in
    let front = fronts plan events items states run k (omega arith) in
    let item = (get_or items k no_item).what in
    let t = thread_of (get_or events k no_event) in
    let rises = no_fall plan (take k items) t _ (states k) item (states (k + 1)) sound padded front one.step g in
    let after = ap (λ (x : State). x.revision g) (changed plan t _ (states k) item (states (k + 1)) one.step) in
    omega arith
