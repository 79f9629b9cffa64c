-- The next thread of a group, and the siblings that are freed.
use Rattle.std.proofs.Common.{◌≡◌, ℕ, zero, suc, ◌+◌, ◌-◌, ◌<◌, ◌≤◌, ◌==◌, ◌&&◌, Bool, true, false, not, List, [], Option, Some, None, inl, inr, refl, ap, ◌∙◌, arith}
use Rattle.std.proofs.lemmas.Bool.Decides.{nat_tests, eqb_tells}
use Rattle.std.specs.List.{find, range_with_len, slice_get}
use Rattle.rendezvous_steps.specs.Plan.{Plan, Sound, is_sibling, is_absent, sibling_from}
use Rattle.ctl_thread.specs.Links.{is_member, member_from, Linked}
use Rattle.ctl_thread.specs.declared.links.Links.{Links}
use Rattle.ctl_thread.proofs.Ascending.{sibling_from-skips}

find_same : (p q : ℕ → Bool) (a n : ℕ) → ((u : ℕ) → a ≤ u → p u ≡ q u) → find p (range_with_len a n) ≡ find q (range_with_len a n)
find_same p q a zero same = refl
find_same p q a (suc n) same = rw (same a (omega arith), find_same p q (a + 1) n (λ u above. same u (omega arith))) refl

and_true : (a c : Bool) → (a && true && c) ≡ (a && c)
and_true true c = refl
and_true false c = refl

and_false : (a c : Bool) → (a && false && c) ≡ false
and_false true c = refl
and_false false c = refl

apart : (u t : ℕ) → t < u → (u == t) ≡ false
apart u t above = grind (arith, nat_tests)

same_number : (u t : ℕ) → u ≡ t → (u == t) ≡ true
same_number u t is = grind (arith, nat_tests)

member_after : (plan : Plan) (t u : ℕ) → t < u → is_sibling plan t u ≡ is_member plan (plan.group t) u
member_after plan t u above = rw (apart u t above) (and_true (plan.group u == plan.group t) (not (is_absent (plan.kind u))))

-- past a thread its siblings are the threads of its group
pub siblings_after : (plan : Plan) (t k : ℕ) → t < k → sibling_from plan t k ≡ member_from plan (plan.group t) k
unfolding sibling_from member_from
siblings_after plan t k above =
    find_same (is_sibling plan t) (is_member plan (plan.group t)) k (plan.threads - k) (λ u low. member_after plan t u (omega arith))

-- a primary has no sibling up to itself
none_before : (plan : Plan) (t u : ℕ) → Sound plan → t < plan.threads → t ≡ plan.primary (plan.group t) → u ≤ t → is_sibling plan t u ≡ false
none_before plan t u sound below lowest low =
    elim (eqb_tells (plan.group u) (plan.group t)) [
      | inl same ↦
          let primary : plan.primary (plan.group t) ≤ u = rw (← same.1) (sound.primary_is_the_lowest u (omega arith)) in
          let is : u ≡ t = omega arith in
          rw (same_number u t is) (and_false (plan.group u == plan.group t) (not (is_absent (plan.kind u))))
      | inr other ↦ rw other.0 refl
    ]

pub first_after : (plan : Plan) (t : ℕ) → Sound plan → t < plan.threads → t ≡ plan.primary (plan.group t) → sibling_from plan t 0 ≡ member_from plan (plan.group t) (t + 1)
first_after plan t sound below lowest =
    let to : 0 + (t + 1) ≡ t + 1 = omega arith in
    sibling_from-skips plan t 0 (t + 1) (λ u _ high. none_before plan t u sound below lowest (omega arith))
    ∙ (ap (λ k. sibling_from plan t k) to ∙ siblings_after plan t (t + 1) (omega arith))

-- tables without entries tell nothing
no_entry : (table : List (Option ℕ)) (t : ℕ) (next x : Option ℕ) → table ≡ [] → slice_get table t ≡ Some next → next ≡ x
no_entry table t next x none is =
    let gone : None ≡ Some next = rw none at is in
    absurd (cc)

pub no_links : (plan : Plan) (links : Links) → links.members.now ≡ [] → links.offline.now ≡ [] → links.offline_count ≡ None → Linked plan links
no_links plan links members offline count =
    record {
      members = record { entry = λ t next is. no_entry links.members.now t next _ members is };
      offline = record { entry = λ t next is. no_entry links.offline.now t next _ offline is };
      counted = λ n is. absurd (cc);
    }
