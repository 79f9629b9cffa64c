-- The search for the first check that fails.
use Rattle.std.proofs.Common.{◌≡◌, ◌⊎◌, inl, inr, Bool, true, false, cond, List, [], ◌∷◌, ◌++◌, Some, None, refl, sym, ap, subst, ◌∙◌}
use Rattle.std.specs.List.{find}
use Rattle.std.proofs.lemmas.Bool.{false≢true, false_from_ne_true, cond-true, cond-false}
use Rattle.fault_rule.specs.Checks.{AllPass, IsFirst}
use Rattle.fault_rule.proofs.Decided.{Decided}

-- one check fails first, or all pass
pub searched : {C : Type 0} (Fails : C → Type 0) → ((cause : C) → Decided (Fails cause)) → (checks : List C) → ((cause : C) × IsFirst Fails checks cause) ⊎ AllPass Fails checks
searched Fails decide [] = inr tt
searched Fails decide (check ∷ checks) = elim (decide check) [
  | inl fails ↦ inl (check, inl (fails, refl))
  | inr passes ↦ elim (searched Fails decide checks) [
    | inl later ↦ inl (later.0, inr (passes, later.1))
    | inr none ↦ inr (passes, none)
  ]
]

-- no two checks fail first
pub one_first : {C : Type 0} (Fails : C → Type 0) (checks : List C) (a b : C) → IsFirst Fails checks a → IsFirst Fails checks b → a ≡ b
one_first Fails [] a b p q = absurd p
one_first Fails (check ∷ checks) a b (inl p) (inl q) = p.1 ∙ sym q.1
one_first Fails (check ∷ checks) a b (inl p) (inr q) = absurd (q.0 p.0)
one_first Fails (check ∷ checks) a b (inr p) (inl q) = absurd (p.0 q.0)
one_first Fails (check ∷ checks) a b (inr p) (inr q) = one_first Fails checks a b p.1 q.1

-- where all pass, none fails first
pub none_first : {C : Type 0} (Fails : C → Type 0) (checks : List C) (cause : C) → AllPass Fails checks → IsFirst Fails checks cause → ⊥
none_first Fails [] cause pass first = first
none_first Fails (check ∷ checks) cause pass (inl first) = pass.0 first.0
none_first Fails (check ∷ checks) cause pass (inr first) = none_first Fails checks cause pass.1 first.1

-- the check that fails first fails
pub first_fails : {C : Type 0} (Fails : C → Type 0) (checks : List C) (cause : C) → IsFirst Fails checks cause → Fails cause
first_fails Fails [] cause first = absurd first
first_fails Fails (check ∷ checks) cause (inl first) = subst Fails (sym first.1) first.0
first_fails Fails (check ∷ checks) cause (inr first) = first_fails Fails checks cause first.1

-- ---- checks, and further checks behind them

module _ {C : Type 0} (Fails : C → Type 0) (back : List C) where
  pub pass_together : (front : List C) → AllPass Fails front → AllPass Fails back → AllPass Fails (front ++ back)
  pass_together [] pass behind = behind
  pass_together (check ∷ front) pass behind = (pass.0, pass_together front pass.1 behind)

  pub pass_in_front : (front : List C) → AllPass Fails (front ++ back) → AllPass Fails front
  pass_in_front [] pass = tt
  pass_in_front (check ∷ front) pass = (pass.0, pass_in_front front pass.1)

  pub pass_behind : (front : List C) → AllPass Fails (front ++ back) → AllPass Fails back
  pass_behind [] pass = pass
  pass_behind (check ∷ front) pass = pass_behind front pass.1

  -- what fails first of the front fails first of all
  pub first_in_front : (front : List C) (cause : C) → IsFirst Fails front cause → IsFirst Fails (front ++ back) cause
  first_in_front [] cause first = absurd first
  first_in_front (check ∷ front) cause (inl first) = inl first
  first_in_front (check ∷ front) cause (inr first) = inr (first.0, first_in_front front cause first.1)

  -- so does what fails first behind a front that passes
  pub first_behind : (front : List C) (cause : C) → AllPass Fails front → IsFirst Fails back cause → IsFirst Fails (front ++ back) cause
  first_behind [] cause pass first = first
  first_behind (check ∷ front) cause pass first = inr (pass.0, first_behind front cause pass.1 first)

  -- what fails first of all does so of the front, or behind a front that passes
  pub front_or_behind : (front : List C) (cause : C) → IsFirst Fails (front ++ back) cause → IsFirst Fails front cause ⊎ (AllPass Fails front × IsFirst Fails back cause)
  front_or_behind [] cause first = inr (tt, first)
  front_or_behind (check ∷ front) cause (inl first) = inl (inl first)
  front_or_behind (check ∷ front) cause (inr first) = elim (front_or_behind front cause first.1) [
    | inl here ↦ inl (inr (first.0, here))
    | inr there ↦ inr ((first.0, there.0), there.1)
  ]

-- ---- what the search by tests finds

module _ {C : Type 0} (fails : C → Bool) where
  abbrev pub FailsBy : C → Type 0
  FailsBy cause = fails cause ≡ true

  find_some : (b : Bool) (check : C) (checks : List C) (cause : C) → fails check ≡ b → cond b (Some check) (find fails checks) ≡ Some cause
      → (find fails checks ≡ Some cause → IsFirst FailsBy checks cause) → IsFirst FailsBy (check ∷ checks) cause
  find_some true check checks cause is found later = let same : check ≡ cause = cc in inl (is, sym same)
  find_some false check checks cause is found later = inr (λ fails. false≢true (sym is ∙ fails), later found)

  pub first-from_find : (checks : List C) (cause : C) → find fails checks ≡ Some cause → IsFirst FailsBy checks cause
  first-from_find [] cause found = absurd cc
  first-from_find (check ∷ checks) cause found = find_some (fails check) check checks cause refl found (first-from_find checks cause)

  find_none : (b : Bool) (check : C) (checks : List C) → fails check ≡ b → cond b (Some check) (find fails checks) ≡ None
      → (find fails checks ≡ None → AllPass FailsBy checks) → AllPass FailsBy (check ∷ checks)
  find_none true check checks is found later = absurd cc
  find_none false check checks is found later = (λ fails. false≢true (sym is ∙ fails), later found)

  pub pass-from_find : (checks : List C) → find fails checks ≡ None → AllPass FailsBy checks
  pass-from_find [] found = tt
  pass-from_find (check ∷ checks) found = find_none (fails check) check checks refl found (pass-from_find checks)

  -- and it finds what fails first
  pub find-from_first : (checks : List C) (cause : C) → IsFirst FailsBy checks cause → find fails checks ≡ Some cause
  find-from_first [] cause first = absurd first
  find-from_first (check ∷ checks) cause (inl here) = cond-true _ _ _ here.0 ∙ ap Some (sym here.1)
  find-from_first (check ∷ checks) cause (inr later) = cond-false _ _ _ (false_from_ne_true _ later.0) ∙ find-from_first checks cause later.1

  pub find-from_pass : (checks : List C) → AllPass FailsBy checks → find fails checks ≡ None
  find-from_pass [] pass = refl
  find-from_pass (check ∷ checks) pass = cond-false _ _ _ (false_from_ne_true _ pass.0) ∙ find-from_pass checks pass.1
