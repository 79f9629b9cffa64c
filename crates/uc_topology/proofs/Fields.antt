-- The numbers of a line, one part of its form after the other.
use Rattle.std.proofs.Common.{ℕ, List, ◌++◌, Option, Some, None}

-- numbers that were read before others
abbrev pub after : List ℕ → Option (List ℕ) → Option (List ℕ)
after front None = None
after front (Some numbers) = Some (front ++ numbers)
