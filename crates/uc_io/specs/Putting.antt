-- What a put did to files.
use Rattle.std.specs.Prelude.{◌≡◌, ◌≢◌, ℕ, List, Option, Some}

-- the name has the bytes, and every other name what it had
pub record Puts (old new : List ℕ → Option (List ℕ)) (name bytes : List ℕ) : Type 0 where
  pub there : new name ≡ Some bytes
  pub others : (other : List ℕ) → other ≢ name → new other ≡ old other
