-- Calls that are to fail.
use Rattle.std.specs.Prelude.{◌≡◌, ◌≢◌, ℕ, Bool, true}

-- this call is to fail too, and of every other what was said of it
pub record FailsToo (old new : ℕ → Bool) (call : ℕ) : Type 0 where
  pub there : new call ≡ true
  pub others : (other : ℕ) → other ≢ call → new other ≡ old other
