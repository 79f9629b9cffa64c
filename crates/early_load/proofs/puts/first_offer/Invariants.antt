use Rattle.std.proofs.Common.{◌≡◌, ℕ, ◌<◌, Some}
use Rattle.early_load.specs.Puts.{offer_of}
use Rattle.early_load.proofs.puts.first_offer.Given as goal

-- the groups so far are not offered the entry
abbrev pub invariant-loop-g : goal.invariant-loop-g
invariant-loop-g l = (g : ℕ) → g < l.g → offer_of l.offers g ≡ Some l.entry → ⊥
