-- What the law on events says of a core.
use Rattle.std.proofs.Common.{◌≡◌, ℕ, zero, suc, ◌+◌, ◌-◌, ◌<◌, ◌≤◌, ◌&&◌, ◌||◌, ◌↔◌, Bool, true, false, not, List, [], ◌∷◌, Option, Some, None, IsNone, IsTrue, refl, sym, ap, ◌∙◌, subst, arith, true≢false}
use Rattle.std.specs.List.{find, list_any, range_with_len}
use Rattle.rendezvous_steps.specs.declared.items.What.{What}
use Rattle.rendezvous_steps.specs.declared.items.What.TheVariants as what
use Rattle.rendezvous_steps.specs.declared.items.Event.{Event}
use Rattle.rendezvous_steps.specs.Plan.{Plan, Sound, threads_from}
use Rattle.rendezvous_steps.specs.Padded.{Padded}
use Rattle.rendezvous_steps.specs.Events.{Running, happens, shows_finished}
use Rattle.rendezvous_model.specs.RoundStep.{Round}
use Rattle.rendezvous_rule.specs.Shown.{shown_by}
use Rattle.play_steps.specs.Play.{is_over}
use Rattle.play_steps.specs.Rank.{is_counted}
use Rattle.play_laws.specs.Lawful.{Lawful, EventLaw}
use Rattle.play_laws.specs.Stuck.{NeverStuck}
use Rattle.ctl_core.specs.Moments.{is_poll}
use Rattle.ctl_core.specs.Cores.{lowest_ready}
use Rattle.ctl_core.proofs.Shown.{unfinished_shown}

-- an event leads from a lawful moment to one again, and its item is a step of the model
pub led_lawful : EventLaw → (plan : Plan) → Sound plan → Padded plan → (e : Event) (before after : Running) → after ≡ (happens plan e before).0 → Lawful plan before → Lawful plan after
led_lawful law plan sound padded e before after is lawful =
    subst (λ (m : Running). Lawful plan m) (sym is) (law plan e before sound padded lawful).lawful

pub led_round : EventLaw → (plan : Plan) → Sound plan → Padded plan → (e : Event) (before after : Running) (item : What) → after ≡ (happens plan e before).0 → item ≡ (happens plan e before).1 → Lawful plan before → Round plan (shown_by plan before) e item (shown_by plan after)
led_round law plan sound padded e before after item is same lawful =
    subst (λ (m : Running). Round plan (shown_by plan before) e item (shown_by plan m)) (sym is)
    (subst (λ (w : What). Round plan (shown_by plan before) e w (shown_by plan (happens plan e before).0)) (sym same) (law plan e before sound padded lawful).round)

-- Who is ready.

counted_no_poll : (item : What) → is_counted item ≡ true → not (is_poll item) ≡ true
counted_no_poll what.Enter e = refl
counted_no_poll (what.Kick k) e = refl
counted_no_poll what.Arrive e = refl
counted_no_poll what.Go e = refl
counted_no_poll what.Drop e = refl
counted_no_poll what.DropKick e = refl
counted_no_poll (what.Withdraw k) e = refl
counted_no_poll (what.Begin g) e = refl
counted_no_poll (what.Wrote g r) e = refl
counted_no_poll (what.Report g x) e = refl
counted_no_poll (what.Free u) e = refl
counted_no_poll (what.Leave x) e = refl
counted_no_poll what.Halt e = refl
counted_no_poll what.Ordinary e = refl
counted_no_poll what.Poll e = absurd (true≢false (sym e))
counted_no_poll what.Inner e = refl
counted_no_poll what.Latched e = refl
counted_no_poll what.Idle e = refl

both_true : (a b : Bool) → a ≡ true → b ≡ true → (a && b) ≡ true
both_true a b e f = rw (e, f) refl

first_true : (a b : Bool) → (a && b) ≡ true → a ≡ true
first_true true b e = refl
first_true false b e = e

-- where none passes the one test, none passes a stronger one
none_found_by : (p q : ℕ → Bool) → ((t : ℕ) → p t ≡ true → q t ≡ true) → (x : ℕ) (xs : List ℕ) (a b : Bool) → p x ≡ a → q x ≡ b → (b || list_any q xs) ≡ false → (list_any q xs ≡ false → find p xs ≡ None) → find p (x ∷ xs) ≡ None
none_found_by p q implies x xs true true e f none rest = absurd (true≢false none)
none_found_by p q implies x xs true false e f none rest = absurd (true≢false (sym (implies x e) ∙ f))
none_found_by p q implies x xs false true e f none rest = absurd (true≢false none)
none_found_by p q implies x xs false false e f none rest = rw e (rest none)

none_found : (p q : ℕ → Bool) → ((t : ℕ) → p t ≡ true → q t ≡ true) → (xs : List ℕ) → list_any q xs ≡ false → find p xs ≡ None
none_found p q implies [] none = refl
none_found p q implies (x ∷ xs) none = none_found_by p q implies x xs (p x) (q x) refl refl none (none_found p q implies xs)

-- where one passes, some is found
found_by : (p : ℕ → Bool) (a n t : ℕ) (b : Bool) → p a ≡ b → a ≤ t → t < a + suc n → p t ≡ true → ((a + 1 ≤ t) → find p (range_with_len (a + 1) n) ≡ None → ⊥) → find p (range_with_len a (suc n)) ≡ None → ⊥
found_by p a n t true e low high passes rest none =
    let found : find p (range_with_len a (suc n)) ≡ Some a = rw e refl in
    cc
found_by p a n t false e low high passes rest none =
    let other : a ≡ t → ⊥ = λ is. true≢false (sym passes ∙ (ap p (sym is) ∙ e)) in
    let next : find p (range_with_len a (suc n)) ≡ find p (range_with_len (a + 1) n) = rw e refl in
    rest (omega (arith, other)) (sym next ∙ none)

found : (p : ℕ → Bool) (a n t : ℕ) → a ≤ t → t < a + n → p t ≡ true → find p (range_with_len a n) ≡ None → ⊥
found p a zero t low high passes none = absurd (omega arith)
found p a (suc n) t low high passes none =
    found_by p a n t (p a) refl low high passes (λ next. found p (a + 1) n t next (omega arith) passes) none

none_is : {A : Type 0} (o : Option A) → IsNone o → o ≡ None
none_is None is = refl
none_is (Some x) is = absurd (true≢false is)

is_none : {A : Type 0} (o : Option A) → o ≡ None → IsNone o
is_none o e = rw e refl

not_true : (b : Bool) → not b ≡ true → b ≡ false
not_true true e = sym e
not_true false e = refl

-- none is ready exactly where it is over
pub ready_none : NeverStuck → (plan : Plan) (moment : Running) → Sound plan → Padded plan → Lawful plan moment → IsNone (lowest_ready plan moment) ↔ IsTrue (is_over plan moment)
unfolding happens
ready_none stuck plan moment sound padded lawful = (
  (λ none. over_by (is_over plan moment) refl none),
  (λ over.
      is_none (lowest_ready plan moment)
      (none_found _ (λ t. not (shows_finished plan moment.words t)) (λ t passes. sym (unfinished_shown plan moment t) ∙ first_true _ _ passes) (threads_from plan 0) (not_true _ over))),
)
  where
    over_by : (b : Bool) → is_over plan moment ≡ b → IsNone (lowest_ready plan moment) → IsTrue (is_over plan moment)
    over_by true e none = e
    over_by false e none =
        let some = stuck plan moment sound padded lawful.ruled e in
        absurd (found _ 0 (plan.threads - 0) some.thread (omega arith) (omega (arith, some.in_range)) (both_true _ _ some.unfinished (counted_no_poll _ some.counts)) (none_is _ none))
