-- Views, looked up by their numbers, and how many are spent.
use Rattle.std.proofs.Common.{◌≡◌, ℕ, zero, suc, ◌+◌, ◌<◌, ◌≤◌, ◌≢◌, ◌⊎◌, true, List, [], ◌∷◌, ◌++◌, length, set, slice_index, sym, refl, ap, ◌∙◌, inl, inr, ⊎_elim, subst, arith, length-set}
use mathlib.Core.Option.{some, some-injective, some-ne-none}
use lib.ListN.{get_elem?}
use Rattle.atomic_table.proofs.Lists.{at_set, set_here, set_else, at_longer}
use Rattle.ctl_table.specs.declared.standings.Standing.{Standing}
use Rattle.ctl_table.specs.declared.standings.View.{View}
use Rattle.ctl_table.specs.declared.standings.View.TheVariants.{Spent, Sits}
use Rattle.ctl_table.specs.Standings.{spent_count}
use Rattle.ctl_table.specs.Holds.{HasLate}

module _ {A : Type 0} where
  -- what is found stands below the length, and below the length something is found
  pub found_below : (l : List A) (i : ℕ) (a : A) → get_elem? l i ≡ some a → i < length l
  found_below [] i a e = absurd (some-ne-none a (sym e))
  found_below (x ∷ xs) zero a e = omega arith
  found_below (x ∷ xs) (suc i) a e = omega (arith, found_below xs i a e)

  pub found_there : (l : List A) (i : ℕ) → i < length l → (a : A) × (get_elem? l i ≡ some a)
  found_there [] i h = absurd (omega arith)
  found_there (x ∷ xs) zero h = (x, refl)
  found_there (x ∷ xs) (suc i) h = found_there xs i (omega arith)

  -- what is found after one was appended was there, or is the new one at its place
  pub found_longer : (l : List A) (a b : A) (j : ℕ) → get_elem? (l ++ a ∷ []) j ≡ some b → (get_elem? l j ≡ some b) ⊎ ((j ≡ length l) × (a ≡ b))
  found_longer [] a b zero e = inr (refl, some-injective a b e)
  found_longer [] a b (suc j) e = absurd (some-ne-none b (sym e))
  found_longer (x ∷ xs) a b zero e = inl e
  found_longer (x ∷ xs) a b (suc j) e = ⊎_elim (λ t. inl t) (λ t. inr (ap suc t.0, t.1)) (found_longer xs a b j e)

pub index_of_found : (l : List ℕ) (i a : ℕ) → get_elem? l i ≡ some a → slice_index l i ≡ a
index_of_found [] i a e = absurd (some-ne-none a (sym e))
index_of_found (x ∷ xs) zero a e = some-injective x a e
index_of_found (x ∷ xs) (suc i) a e = index_of_found xs i a e

the_same : (v w : Standing) → Sits v ≡ Sits w → v ≡ w
the_same v w e = cc

-- one place has one view
pub one_view : (l : List View) (i : ℕ) (v w : Standing) → get_elem? l i ≡ some (Sits v) → get_elem? l i ≡ some (Sits w) → v ≡ w
one_view l i v w a b = the_same v w (some-injective (Sits v) (Sits w) (sym a ∙ b))

pub sits_not_spent : {A : Type 0} (v : Standing) → Sits v ≡ Spent → A
sits_not_spent v e = absurd cc

-- After a view was changed, one that sits is the new one at its place, or was there.
pub sits_after : (l : List View) (i j : ℕ) (v w : Standing) → get_elem? (set l i (Sits v)) j ≡ some (Sits w) → ((j ≡ i) × (v ≡ w)) ⊎ ((j ≢ i) × (get_elem? l j ≡ some (Sits w)))
sits_after l i j v w e = ⊎_elim (λ t. inl (t.0, the_same v w t.1)) (λ t. inr t) (at_set l i j (Sits v) (Sits w) e)

-- a place that was spent is so before a view that sits was changed
pub spent_before : (l : List View) (i j : ℕ) (v : Standing) → get_elem? (set l i (Sits v)) j ≡ some Spent → (j ≢ i) × (get_elem? l j ≡ some Spent)
spent_before l i j v e = ⊎_elim (λ t. sits_not_spent v t.1) (λ t. t) (at_set l i j (Sits v) Spent e)

-- Counts.

pub count_kept : (l : List View) (i : ℕ) (v w : Standing) → get_elem? l i ≡ some (Sits v) → spent_count (set l i (Sits w)) ≡ spent_count l
count_kept [] i v w e = refl
count_kept (Spent ∷ xs) zero v w e = absurd (sits_not_spent v (sym (some-injective Spent (Sits v) e)))
count_kept (Sits x ∷ xs) zero v w e = refl
count_kept (Spent ∷ xs) (suc i) v w e = ap (λ n. n + 1) (count_kept xs i v w e)
count_kept (Sits x ∷ xs) (suc i) v w e = count_kept xs i v w e

pub count_spent : (l : List View) (i : ℕ) (v : Standing) → get_elem? l i ≡ some (Sits v) → spent_count (set l i Spent) ≡ spent_count l + 1
count_spent [] i v e = absurd (some-ne-none (Sits v) (sym e))
count_spent (Spent ∷ xs) zero v e = absurd (sits_not_spent v (sym (some-injective Spent (Sits v) e)))
count_spent (Sits x ∷ xs) zero v e = refl
count_spent (Spent ∷ xs) (suc i) v e = ap (λ n. n + 1) (count_spent xs i v e)
count_spent (Sits x ∷ xs) (suc i) v e = count_spent xs i v e

pub count_longer : (l : List View) (v : Standing) → spent_count (l ++ Sits v ∷ []) ≡ spent_count l
count_longer [] v = refl
count_longer (Spent ∷ xs) v = ap (λ n. n + 1) (count_longer xs v)
count_longer (Sits x ∷ xs) v = count_longer xs v

count_within : (l : List View) → spent_count l ≤ length l
count_within [] = omega arith
count_within (Spent ∷ xs) = omega (arith, count_within xs)
count_within (Sits x ∷ xs) = omega (arith, count_within xs)

-- where one sits, not all are spent
pub count_below : (l : List View) (i : ℕ) (v : Standing) → get_elem? l i ≡ some (Sits v) → spent_count l + 1 ≤ length l
count_below l i v e =
    let more = count_spent l i v e in
    let within = count_within (set l i Spent) in
    let same = length-set l i Spent in
    omega arith

-- where two sit, two are not spent
pub count_two : (l : List View) (i j : ℕ) (v w : Standing) → j ≢ i → get_elem? l i ≡ some (Sits v) → get_elem? l j ≡ some (Sits w) → spent_count l + 2 ≤ length l
count_two l i j v w apart a b =
    let more = count_spent l i v a in
    let there : get_elem? (set l i Spent) j ≡ some (Sits w) = set_else l i j Spent apart ∙ b in
    let below = count_below (set l i Spent) j w there in
    let same = length-set l i Spent in
    omega arith

-- Who is late stays among the views.

pub late_here : (l : List View) (i : ℕ) (v w : Standing) → get_elem? l i ≡ some (Sits v) → w.late ≡ true → HasLate (set l i (Sits w))
late_here l i v w e late = record { id = i; standing = w; sits = set_here l i (Sits w) (found_below l i (Sits v) e); is_late = late }

pub same_or_not : (a b : ℕ) → (a ≡ b) ⊎ (a ≢ b)
same_or_not zero zero = inl refl
same_or_not zero (suc b) = inr (λ e. omega arith)
same_or_not (suc a) zero = inr (λ e. omega arith)
same_or_not (suc a) (suc b) = ⊎_elim (λ e. inl (ap suc e)) (λ n. inr (λ e. n (omega arith))) (same_or_not a b)

pub late_kept : (l : List View) (i : ℕ) (v w : Standing) → get_elem? l i ≡ some (Sits v) → (v.late ≡ true → w.late ≡ true) → HasLate l → HasLate (set l i (Sits w))
late_kept l i v w e keeps late =
    elim (same_or_not late.id i) [
      | inl same ↦ (
          let there : get_elem? l i ≡ some (Sits late.standing) = subst (λ (k : ℕ). get_elem? l k ≡ some (Sits late.standing)) same late.sits in
          late_here l i v w e (keeps (subst (λ (x : Standing). x.late ≡ true) (one_view l i late.standing v there e) late.is_late)))
      | inr other ↦ record { id = late.id; standing = late.standing; sits = set_else l i late.id (Sits w) other ∙ late.sits; is_late = late.is_late }
    ]

pub late_longer : (l m : List View) → HasLate l → HasLate (l ++ m)
late_longer l m late = record { id = late.id; standing = late.standing; sits = at_longer l m late.id (Sits late.standing) late.sits; is_late = late.is_late }
