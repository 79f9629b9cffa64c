-- The tables of the threads that come next, made from the last thread down.
use Rattle.std.proofs.Common.{◌≡◌, ◌≢◌, ℕ, suc, ◌+◌, ◌-◌, ◌<◌, ◌≤◌, ◌==◌, ◌&&◌, Bool, true, false, List, length, slice_set, get_or, replicate, Option, Some, None, inl, inr, refl, sym, ap, ◌∙◌, arith, length-set}
use Rattle.std.proofs.lemmas.Bool.Decides.{eqb_tells}
use Rattle.std.proofs.lemmas.Grind.{get_or-set_at}
use Rattle.std.proofs.lemmas.List.{get_or-set_other, get_or-replicate, length-replicate}
use Rattle.std.proofs.lemmas.Option.{get_or_from_slice_get, slice_get_read, slice_get_within}
use Rattle.std.specs.List.{find, range_with_len}
use Rattle.rendezvous_steps.specs.Plan.{Plan, Sound, is_absent, is_offline, offline_from}
use Rattle.ctl_thread.specs.Links.{is_member, member_from, LinksMembers, LinksOffline}
use Rattle.ctl_core.specs.Chains.{Linking}

find_skip : (p : ℕ → Bool) (k n m : ℕ) → n ≡ suc m → p k ≡ false → find p (range_with_len k n) ≡ find p (range_with_len (k + 1) m)
find_skip p k n m e fails = rw (e, fails) refl

find_here : (p : ℕ → Bool) (k n m : ℕ) → n ≡ suc m → p k ≡ true → find p (range_with_len k n) ≡ Some k
find_here p k n m e passes = rw (e, passes) refl

find_end : (p : ℕ → Bool) (k n : ℕ) → n ≡ 0 → find p (range_with_len k n) ≡ None
find_end p k n e = rw e refl

member_from-skip : (plan : Plan) (g k : ℕ) → k < plan.threads → is_member plan g k ≡ false → member_from plan g k ≡ member_from plan g (k + 1)
unfolding member_from
member_from-skip plan g k below fails = find_skip (is_member plan g) k (plan.threads - k) (plan.threads - (k + 1)) (omega arith) fails

member_from-here : (plan : Plan) (g k : ℕ) → k < plan.threads → is_member plan g k ≡ true → member_from plan g k ≡ Some k
unfolding member_from
member_from-here plan g k below passes = find_here (is_member plan g) k (plan.threads - k) (plan.threads - (k + 1)) (omega arith) passes

member_from-end : (plan : Plan) (g k : ℕ) → plan.threads ≤ k → member_from plan g k ≡ None
unfolding member_from
member_from-end plan g k past = find_end (is_member plan g) k (plan.threads - k) (omega arith)

and_false : (a : Bool) → (a && false) ≡ false
and_false true = refl
and_false false = refl

-- what is read at a place of a list
pub read_at : (table : List (Option ℕ)) (i : ℕ) (x : Option ℕ) → i < length table → x ≡ get_or table i x → x ≡ get_or table i None
read_at table i x room is = sym (get_or_from_slice_get table i x None (slice_get_read table (length table) i x refl room is))

-- before the first thread is linked
pub linking-opens : (plan : Plan) (table lowest : List (Option ℕ)) → table ≡ replicate plan.threads None → lowest ≡ replicate plan.groups None → Linking plan table lowest plan.threads
linking-opens plan table lowest none nobody =
    record {
      threads = ap length none ∙ length-replicate plan.threads None;
      groups = ap length nobody ∙ length-replicate plan.groups None;
      below = omega arith;
      linked = λ t low high. absurd (omega arith);
      lowest = λ g in_range. rw (nobody, member_from-end plan g plan.threads (omega arith)) (get_or-replicate plan.groups g None None in_range);
    }

-- the entry of a thread is the lowest of its group after it
entry_linked : (plan : Plan) (table lowest : List (Option ℕ)) (k t : ℕ) → Sound plan → k < plan.threads → Linking plan table lowest (k + 1) → k ≤ t → t < plan.threads → get_or (slice_set table k (get_or lowest (plan.group k) None)) t None ≡ member_from plan (plan.group t) (t + 1)
entry_linked plan table lowest k t sound below linking low high =
    elim (eqb_tells t k) [
      | inl same ↦
          let room : k < length table = omega (arith, linking.threads) in
          let is : t ≡ k = same.1 in
          get_or-set_at table k t (get_or lowest (plan.group k) None) None is room
          ∙ (linking.lowest (plan.group k) (sound.groups_in_range k below) ∙ ap (λ u. member_from plan (plan.group u) (u + 1)) (sym is))
      | inr other ↦
          let apart : t ≢ k = other.1 in
          get_or-set_other table k t (get_or lowest (plan.group k) None) None apart ∙ linking.linked t (omega arith) high
    ]

-- a thread that takes no part is the lowest of no group
pub linking-absent : (plan : Plan) (table lowest : List (Option ℕ)) (k : ℕ) → Sound plan → is_absent (plan.kind k) ≡ true → Linking plan table lowest (k + 1) → Linking plan (slice_set table k (get_or lowest (plan.group k) None)) lowest k
linking-absent plan table lowest k sound absent linking =
    let below : k < plan.threads = omega (arith, linking.below) in
    record {
      threads = length-set table k _ ∙ linking.threads;
      groups = linking.groups;
      below = omega arith;
      linked = λ t low high. entry_linked plan table lowest k t sound below linking low high;
      lowest = λ g in_range. linking.lowest g in_range ∙ sym (member_from-skip plan g k below (rw absent (and_false (plan.group k == g))));
    }

lowest_known : (plan : Plan) (table lowest : List (Option ℕ)) (k g : ℕ) → k < plan.threads → plan.group k < plan.groups → is_absent (plan.kind k) ≡ false → Linking plan table lowest (k + 1) → g < plan.groups → get_or (slice_set lowest (plan.group k) (Some k)) g None ≡ member_from plan g k
lowest_known plan table lowest k g below group present linking in_range =
    elim (eqb_tells (plan.group k) g) [
      | inl same ↦
          let room : plan.group k < length lowest = omega (arith, linking.groups) in
          let is : g ≡ plan.group k = sym same.1 in
          get_or-set_at lowest (plan.group k) g (Some k) None is room ∙ sym (member_from-here plan g k below (rw (same.0, present) refl))
      | inr other ↦
          let apart : g ≢ plan.group k = λ is. other.1 (sym is) in
          get_or-set_other lowest (plan.group k) g (Some k) None apart
          ∙ (linking.lowest g in_range ∙ sym (member_from-skip plan g k below (rw other.0 refl)))
    ]

-- any other is that of its own
pub linking-present : (plan : Plan) (table lowest : List (Option ℕ)) (k : ℕ) → Sound plan → is_absent (plan.kind k) ≡ false → Linking plan table lowest (k + 1) → Linking plan (slice_set table k (get_or lowest (plan.group k) None)) (slice_set lowest (plan.group k) (Some k)) k
linking-present plan table lowest k sound present linking =
    let below : k < plan.threads = omega (arith, linking.below) in
    record {
      threads = length-set table k _ ∙ linking.threads;
      groups = length-set lowest (plan.group k) _ ∙ linking.groups;
      below = omega arith;
      linked = λ t low high. entry_linked plan table lowest k t sound below linking low high;
      lowest = λ g in_range. lowest_known plan table lowest k g below (sound.groups_in_range k below) present linking in_range;
    }

-- all threads are linked
pub linking-ends : (plan : Plan) (table lowest : List (Option ℕ)) → Linking plan table lowest 0 → LinksMembers plan table
linking-ends plan table lowest linking =
    record {
      entry = λ t next is.
          let within : t < plan.threads = omega (arith, slice_get_within table t next is, linking.threads) in
          sym (get_or_from_slice_get table t next None is) ∙ linking.linked t (omega arith) within;
    }

pub offline_from-skip : (plan : Plan) (k : ℕ) → k < plan.threads → is_offline (plan.kind k) ≡ false → offline_from plan k ≡ offline_from plan (k + 1)
unfolding offline_from
offline_from-skip plan k below fails = find_skip _ k (plan.threads - k) (plan.threads - (k + 1)) (omega arith) fails

pub offline_from-here : (plan : Plan) (k : ℕ) → k < plan.threads → is_offline (plan.kind k) ≡ true → offline_from plan k ≡ Some k
unfolding offline_from
offline_from-here plan k below passes = find_here _ k (plan.threads - k) (plan.threads - (k + 1)) (omega arith) passes

pub offline_from-end : (plan : Plan) (k : ℕ) → plan.threads ≤ k → offline_from plan k ≡ None
unfolding offline_from
offline_from-end plan k past = find_end _ k (plan.threads - k) (omega arith)

-- the entries from one on, made from the last thread down
pub record Passed (plan : Plan) (table : List (Option ℕ)) (next : Option ℕ) (from : ℕ) : Type 0 where
  pub threads : length table ≡ plan.threads
  pub below : from ≤ plan.threads
  pub linked : (t : ℕ) → from ≤ t → t < plan.threads → get_or table t None ≡ offline_from plan t
  pub first : next ≡ offline_from plan from

pub passed-opens : (plan : Plan) (table : List (Option ℕ)) → table ≡ replicate plan.threads None → Passed plan table None plan.threads
passed-opens plan table none =
    record {
      threads = ap length none ∙ length-replicate plan.threads None;
      below = omega arith;
      linked = λ t low high. absurd (omega arith);
      first = sym (offline_from-end plan plan.threads (omega arith));
    }

pub passed-more : (plan : Plan) (table : List (Option ℕ)) (before next : Option ℕ) (k : ℕ) → Passed plan table before (k + 1) → next ≡ offline_from plan k → Passed plan (slice_set table k next) next k
passed-more plan table before next k passed is =
    record {
      threads = length-set table k next ∙ passed.threads;
      below = omega (arith, passed.below);
      linked = λ t low high.
          elim (eqb_tells t k) [
            | inl same ↦
                let room : k < length table = omega (arith, passed.threads, passed.below) in
                let here : t ≡ k = same.1 in
                get_or-set_at table k t next None here room ∙ (is ∙ ap (offline_from plan) (sym here))
            | inr other ↦
                let apart : t ≢ k = other.1 in
                get_or-set_other table k t next None apart ∙ passed.linked t (omega arith) high
          ];
      first = is;
    }

pub passed-ends : (plan : Plan) (table : List (Option ℕ)) (next : Option ℕ) → Passed plan table next 0 → LinksOffline plan table
passed-ends plan table next passed =
    record {
      entry = λ t found is.
          let within : t < plan.threads = omega (arith, slice_get_within table t found is, passed.threads) in
          sym (get_or_from_slice_get table t found None is) ∙ passed.linked t (omega arith) within;
    }
