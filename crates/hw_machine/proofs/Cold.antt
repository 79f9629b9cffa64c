-- Whether all threads of a group are cold.
use Rattle.std.proofs.Common.{ap, ◌∙◌, List, replicate, ◌≡◌, ℕ, zero, suc, ◌+◌, ◌<◌, ◌≤◌, Bool, true, false, nat_eq, filter, refl, inl, inr, arith}
use Rattle.std.specs.List.{list_all, range_with_len}
use Rattle.std.proofs.lemmas.Bool.{cases_eq, eq-eqb, ne_eqb}
use Rattle.std.proofs.lemmas.Grind.{common_steps}
use Rattle.machine_steps.specs.declared.states.ThreadState.{ThreadState}
use Rattle.machine_steps.specs.declared.states.ThreadState.TheVariants.{Cold}
use Rattle.machine_steps.specs.Hardware.{Setting, Hardware, is_cold, all_cold}

-- each number of a row that is g's passes
pass_in_row : (p : ℕ → Bool) (group : ℕ → ℕ) (g low n : ℕ) → ((t : ℕ) → low ≤ t → t < low + n → group t ≡ g → p t ≡ true) → list_all p (filter (λ t. nat_eq (group t) g) (range_with_len low n)) ≡ true
pass_in_row p group g low zero passes = refl
pass_in_row p group g low (suc n) passes =
    let rest = pass_in_row p group g (low + 1) n (λ t above below. passes t (omega arith) (omega arith)) in
    elim (cases_eq (group low) g) [
      | inl same ↦ rw (eq-eqb (group low) g same, passes low (omega arith) (omega arith) same) rest
      | inr other ↦ rw (ne_eqb (group low) g other) rest
    ]

-- one of them does not
fails_in_row : (p : ℕ → Bool) (group : ℕ → ℕ) (g low n t : ℕ) → low ≤ t → t < low + n → group t ≡ g → p t ≡ false → list_all p (filter (λ t. nat_eq (group t) g) (range_with_len low n)) ≡ false
fails_in_row p group g low zero t above below same fails = absurd (omega arith)
fails_in_row p group g low (suc n) t above below same fails =
    elim (cases_eq low t) [
      | inl here ↦ rw (here, eq-eqb (group t) g same, fails) refl
      | inr later ↦
          let rest = fails_in_row p group g (low + 1) n t (omega arith) (omega arith) same fails in grind (arith, common_steps, rest)
    ]

pub all_cold_is : (setting : Setting) (hardware : Hardware) (g : ℕ) → ((t : ℕ) → t < setting.threads → setting.group t ≡ g → is_cold (hardware.thread t) ≡ true) → all_cold setting hardware g ≡ true
unfolding all_cold
all_cold_is setting hardware g cold =
    pass_in_row (λ t. is_cold (hardware.thread t)) setting.group g 0 setting.threads (λ t above below. cold t (omega arith))

pub all_cold_is_not : (setting : Setting) (hardware : Hardware) (g t : ℕ) → t < setting.threads → setting.group t ≡ g → is_cold (hardware.thread t) ≡ false → all_cold setting hardware g ≡ false
unfolding all_cold
all_cold_is_not setting hardware g t below same other =
    fails_in_row (λ t. is_cold (hardware.thread t)) setting.group g 0 setting.threads t (omega arith) (omega arith) same other

-- a table of so many cold threads
cold_table : (n : ℕ) → list_all is_cold (replicate n Cold) ≡ true
cold_table zero = refl
cold_table (suc n) = cold_table n

pub all_are_cold : (n : ℕ) (states : List ThreadState) → states ≡ replicate n Cold → list_all is_cold states ≡ true
all_are_cold n states are = ap (list_all is_cold) are ∙ cold_table n
