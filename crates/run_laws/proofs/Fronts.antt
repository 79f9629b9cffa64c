-- What the items so far tell of the state that they lead to: who is in the handler, and which groups are in their write.
use Rattle.std.proofs.Common.{◌≡◌, ◌≢◌, ℕ, zero, suc, ◌+◌, ◌<◌, ◌≤◌, ◌==◌, Bool, true, false, ◌||◌, if◌then◌else◌, List, [], length, take, get_or, Some, slice_get, refl, ap, sym, ◌∙◌, subst, arith, true≢false, inl, inr}
use Rattle.std.proofs.lemmas.Bool.Decides.{nat_tests}
use Rattle.std.proofs.lemmas.List.Sums.{fold_more}
use Rattle.std.proofs.lemmas.Option.{slice_get_within, get_or_from_slice_get, slice_get-get_or}
use Rattle.rendezvous_steps.specs.declared.steps.Kind.{Kind}
use Rattle.rendezvous_steps.specs.declared.steps.Kind.TheVariants.{Online, Offline, Absent as KindAbsent}
use Rattle.rendezvous_steps.specs.declared.items.What.{What}
use Rattle.rendezvous_steps.specs.declared.items.What.TheVariants as what
use Rattle.rendezvous_steps.specs.declared.items.Event.{Event}
use Rattle.rendezvous_steps.specs.declared.items.Event.TheVariants as event
use Rattle.rendezvous_steps.specs.declared.items.Item.{Item}
use Rattle.rendezvous_steps.specs.Plan.{Plan}
use Rattle.rendezvous_steps.specs.Events.{put}
use Rattle.rendezvous_model.specs.Round.{State, Cause, Place, Out, In, Left, Halted, Withdrawn, Absent, GroupPlace, Waiting, Writing, Written, Reported, is_held, is_halted, opening_place, opening_state}
use Rattle.rendezvous_model.specs.RoundStep.{RoundBy, thread_of, cause_of}
use Rattle.rendezvous_model.specs.Safe.{is_in_write as writes}
use Rattle.rendezvous_model.specs.Run.{Run, Answered}
use Rattle.rendezvous_model.specs.Excluded.{has_entered, inside_after, is_being_written, write_after}
use Rattle.run_laws.proofs.Tables.{put_same, put_other, same_or_not}
use Rattle.run_laws.proofs.Model.{change, changed}

-- in the handler, for a time or for good
abbrev pub within : Place → Bool
within place = is_held place || is_halted place

-- the write of the group is done
abbrev pub has_written : GroupPlace → Bool
has_written Waiting = false
has_written Writing = false
has_written place = true

-- What a change of one entry does to a test of the entries.

pub moved :
    {A : Type 0} (f : A → Bool) (table : ℕ → A) (t u : ℕ) (new : A) (after : Bool) →
    f new ≡ after → f (put table t new u) ≡ (if t == u then after else f (table u))
moved f table t u new after e =
    elim (same_or_not u t) [
      | inl same ↦
          let here : (t == u) ≡ true = grind (arith, nat_tests) in
          ap f (ap (put table t new) same ∙ put_same table t new) ∙ e ∙ rw here refl
      | inr other ↦
          let elsewhere : (t == u) ≡ false = grind (arith, nat_tests) in
          ap f (put_other table t u new other) ∙ rw elsewhere refl
    ]

pub unmoved :
    {A : Type 0} (f : A → Bool) (table : ℕ → A) (t u : ℕ) (new : A) → f (table t) ≡ f new →
    f (put table t new u) ≡ f (table u)
unmoved f table t u new e =
    elim (same_or_not u t) [
      | inl same ↦ ap f (ap (put table t new) same ∙ put_same table t new) ∙ sym e ∙ ap (λ v. f (table v)) (sym same)
      | inr other ↦ ap f (put_other table t u new other)
    ]

either : (b x : Bool) → x ≡ (if b then x else x)
either true x = refl
either false x = refl

-- By item, what it changes of who is in the handler,
within_after :
    (plan : Plan) (t : ℕ) (cause : Cause) (s : State) (item : What) (s' : State) →
    RoundBy plan t cause s item s' →
    (u : ℕ) →
    within ((change plan t item s).place u) ≡
    (if t == u then inside_after (within (s.place u)) item else within (s.place u))
within_after plan t cause s what.Enter s' by u = moved within s.place t u In true refl
within_after plan t cause s (what.Leave x) s' by u = moved within s.place t u (Left x) false refl
within_after plan t cause s what.Halt s' by u =
    unmoved within s.place t u Halted (ap within by.is_in) ∙ either (t == u) (within (s.place u))
within_after plan t cause s (what.Withdraw k) s' by u =
    unmoved within s.place k u Withdrawn (ap within by.1.is_out) ∙ either (t == u) (within (s.place u))
within_after plan t cause s item s' by u = either (t == u) (within (s.place u))

-- of the groups that are in their write,
writes_after :
    (plan : Plan) (t : ℕ) (cause : Cause) (s : State) (item : What) (s' : State) →
    RoundBy plan t cause s item s' →
    (g : ℕ) → writes ((change plan t item s).group g) ≡ write_after g (writes (s.group g)) item
writes_after plan t cause s (what.Begin h) s' by g = moved writes s.group h g Writing true refl
writes_after plan t cause s (what.Wrote h r) s' by g = unmoved writes s.group h g Written (ap writes by.1.writing)
writes_after plan t cause s (what.Report h x) s' by g = moved writes s.group h g (Reported x) false refl
writes_after plan t cause s item s' by g = refl

-- and of those whose write is done
done_after :
    (plan : Plan) (t : ℕ) (cause : Cause) (s : State) (item : What) (s' : State) →
    RoundBy plan t cause s item s' →
    (g : ℕ) → has_written ((change plan t item s).group g) ≡ false →
    (has_written (s.group g) ≡ false) × ((change plan t item s).revision g ≡ s.revision g)
done_after plan t cause s (what.Begin h) s' by g none =
    (sym (unmoved has_written s.group h g Writing (ap has_written by.1.waits)) ∙ none, refl)
done_after plan t cause s (what.Wrote h r) s' by g none =
    let other : g ≢ h = λ same. true≢false (sym
    (ap has_written (ap (put s.group h Written) same ∙ put_same s.group h Written)) ∙ none) in
    (sym (ap has_written (put_other s.group h g Written other)) ∙ none, put_other s.revision h g r other)
done_after plan t cause s (what.Report h x) s' by g none =
    let other : g ≢ h = λ same. true≢false (sym
    (ap has_written (ap (put s.group h (Reported x)) same ∙ put_same s.group h (Reported x))) ∙ none) in
    (sym (ap has_written (put_other s.group h g (Reported x) other)) ∙ none, refl)
done_after plan t cause s item s' by g none = (none, refl)

-- a thread that takes no part stays so
stays_absent :
    (place : ℕ → Place) (t u : ℕ) (old new : Place) → place t ≡ old → old ≢ Absent → place u ≡ Absent →
    put place t new u ≡ Absent
stays_absent place t u old new here present absent =
    put_other place t u new (λ same. present (sym here ∙ ap place (sym same) ∙ absent)) ∙ absent

absent_after :
    (plan : Plan) (t : ℕ) (cause : Cause) (s : State) (item : What) (s' : State) →
    RoundBy plan t cause s item s' → (u : ℕ) → s.place u ≡ Absent → (change plan t item s).place u ≡ Absent
absent_after plan t cause s what.Enter s' by u absent = stays_absent s.place t u Out In by.is_out (λ e. cc) absent
absent_after plan t cause s (what.Leave x) s' by u absent =
    stays_absent s.place t u In (Left x) by.1.is_in (λ e. cc) absent
absent_after plan t cause s what.Halt s' by u absent = stays_absent s.place t u In Halted by.is_in (λ e. cc) absent
absent_after plan t cause s (what.Withdraw k) s' by u absent =
    stays_absent s.place k u Out Withdrawn by.1.is_out (λ e. cc) absent
absent_after plan t cause s item s' by u absent = absent

-- What items tell of the state that they lead to.
pub record Front (plan : Plan) (items : List Item) (s : State) : Type 0 where
  pub inside : (u : ℕ) → has_entered u items ≡ within (s.place u)
  pub in_write : (g : ℕ) → is_being_written g items ≡ writes (s.group g)
  pub absent : (u : ℕ) → plan.kind u ≡ KindAbsent → s.place u ≡ Absent
  pub first_revision : (g : ℕ) → has_written (s.group g) ≡ false → s.revision g ≡ plan.rev0 g

front_opens : (plan : Plan) (s : State) → s ≡ opening_state plan → Front plan [] s
front_opens plan s e =
    subst (λ x. Front plan [] x) (sym e) (record {
      inside = λ u. outside (plan.kind u);
      in_write = λ g. refl;
      absent = λ u k. ap opening_place k;
      first_revision = λ g none. refl;
    })
  where
    outside : (kind : Kind) → false ≡ within (opening_place kind)
    outside Online = refl
    outside Offline = refl
    outside KindAbsent = refl

-- one item more
front_step :
    (plan : Plan) (items : List Item) (k : ℕ) (event : Event) (item : Item) (s s' : State) →
    slice_get items k ≡ Some item → Front plan (take k items) s → Answered plan event item s s' →
    Front plan (take (k + 1) items) s'
front_step plan items k event item s s' e front answered =
    let t = thread_of event in
    let cause = cause_of s event in
    let room : k < length items = slice_get_within items k item e in
    let here : get_or items k item ≡ item = get_or_from_slice_get items k item item e in
    subst (λ x. Front plan (take (k + 1) items) x) (sym (changed plan t cause s item.what s' answered.step)) (record {
      inside = λ u.
          fold_more (λ inside i. if i.thread == u then inside_after inside i.what else inside) false items k item room
          ∙ (ap (λ (i : Item). if i.thread == u then inside_after (has_entered u (take k items)) i.what else has_entered
          u (take k items)) here
          ∙ (ap (λ b. if item.thread == u then inside_after b item.what else b) (front.inside u)
          ∙ (ap (λ n. if n == u then inside_after (within (s.place u)) item.what else within (s.place u))
          answered.of_its_thread
          ∙ sym (within_after plan t cause s item.what s' answered.step u))));
      in_write = λ g.
          fold_more (λ in_write i. write_after g in_write i.what) false items k item room
          ∙ (ap (λ (i : Item). write_after g (is_being_written g (take k items)) i.what) here
          ∙ (ap (λ b. write_after g b item.what) (front.in_write g)
          ∙ sym (writes_after plan t cause s item.what s' answered.step g)));
      absent = λ u kind. absent_after plan t cause s item.what s' answered.step u (front.absent u kind);
      first_revision = λ g none.
          let before = done_after plan t cause s item.what s' answered.step g none in
          before.1 ∙ front.first_revision g before.0;
    })

-- an event and an item, to be read at a place that a list does not have
abbrev pub no_event : Event
no_event = event.Step 0

abbrev pub no_item : Item
no_item = record { thread = 0; what = what.Idle }

-- the k-th item of a run answers the k-th event
pub answered :
    (plan : Plan) (events : List Event) (items : List Item) (states : ℕ → State) →
    Run plan events items states →
    (k : ℕ) → k < length items →
    Answered plan (get_or events k no_event) (get_or items k no_item) (states k) (states (k + 1))
answered plan events items states run k within =
    let fewer = run.no_more in
    run.answers k (get_or events k no_event) (get_or items k no_item)
    (slice_get-get_or events k no_event (omega arith)) (slice_get-get_or items k no_item within)

-- the items of a run up to any of its states
pub fronts :
    (plan : Plan) (events : List Event) (items : List Item) (states : ℕ → State) →
    Run plan events items states → (k : ℕ) → k ≤ length items → Front plan (take k items) (states k)
fronts plan events items states run zero within = front_opens plan (states 0) run.opens
fronts plan events items states run (suc k) within =
    let before = fronts plan events items states run k (omega arith) in
    let here = answered plan events items states run k (omega arith) in
    let next : k + 1 ≡ suc k = omega arith in
    subst (λ n. Front plan (take n items) (states n)) next
    (front_step plan items k (get_or events k no_event) (get_or items k no_item) (states k) (states (k + 1))
    (slice_get-get_or items k no_item (omega arith)) before here)
