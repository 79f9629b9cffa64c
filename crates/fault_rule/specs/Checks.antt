-- Checks in an order. Each is named by a cause, and `Fails` says of a cause that its check fails.
use Rattle.std.specs.Prelude.{◌≡◌, ◌⊎◌, Bool, List, [], ◌∷◌, Option}
use Rattle.std.specs.List.{find}

-- no check fails
abbrev pub AllPass : {C : Type 0} → (C → Type 0) → List C → Type 0
AllPass Fails [] = Unit {0}
AllPass Fails (check ∷ checks) = (Fails check → ⊥) × AllPass Fails checks

-- the cause is that of the first check that fails: those before it pass
abbrev pub IsFirst : {C : Type 0} → (C → Type 0) → List C → C → Type 0
IsFirst Fails [] cause = ⊥
IsFirst Fails (check ∷ checks) cause = (Fails check × (cause ≡ check)) ⊎ ((Fails check → ⊥) × IsFirst Fails checks cause)

-- the same where each check is a test: the first cause whose test is true
abbrev pub first_of : {C : Type 0} → (C → Bool) → List C → Option C
first_of fails checks = find fails checks
