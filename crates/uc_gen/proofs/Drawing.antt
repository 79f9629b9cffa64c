-- States and draws.
use Rattle.std.proofs.Common.{◌≡◌, ℕ, suc, ◌+◌, ◌/◌, ◌^◌, refl, sym, ◌∙◌, ap, arith}
use Rattle.uc_gen.specs.Draws.{next_state, state_after, draw}

pub state_none : (number : ℕ) → state_after number 0 ≡ number
unfolding state_after
state_none number = refl

-- the state after one draw more
pub state_more : (number k : ℕ) → state_after number (k + 1) ≡ next_state (state_after number k)
unfolding state_after
state_more number k =
    let one_more : k + 1 ≡ suc k = omega arith in
    rw one_more refl

-- what a draw from a state gives, and the state that it leaves
pub drawn : (number k old new value : ℕ) → old ≡ state_after number k → new ≡ next_state old → value ≡ new / 2 ^ 33 → (new ≡ state_after number (k + 1)) × (value ≡ draw number (k + 1))
drawn number k old new value at state is =
    let after : new ≡ state_after number (k + 1) = state ∙ ap next_state at ∙ sym (state_more number k) in
    (after, is ∙ ap (λ (s : ℕ). s / 2 ^ 33) after)
