-- The numbers that a number draws: a linear congruential generator on 64 bits, with the multiplier and the increment of
-- D. E. Knuth's MMIX, of whose state each draw gives the 31 highest bits.
use Rattle.std.specs.Prelude.{ℕ, zero, suc, ◌+◌, ◌*◌, ◌/◌, ◌%◌, ◌^◌}

abbrev pub next_state : ℕ → ℕ
next_state state = (6364136223846793005 * state + 1442695040888963407) % 2 ^ 64

-- the state after some draws from a number
unfoldable pub state_after : ℕ → ℕ → ℕ
state_after number zero = number
state_after number (suc draws) = next_state (state_after number draws)

-- the draw with a place, counted from 1
abbrev pub draw : ℕ → ℕ → ℕ
draw number place = state_after number place / 2 ^ 33
