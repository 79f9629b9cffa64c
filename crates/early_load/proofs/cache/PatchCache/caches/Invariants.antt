use Rattle.std.proofs.Common.{◌≡◌, ℕ, ◌<◌, false}
use Rattle.machine_steps.specs.Puts.{is_at}
use Rattle.early_load.specs.Caches.{cached_of}
use Rattle.early_load.proofs.cache.PatchCache.caches.Given as goal

-- none of the groups so far caches it
abbrev pub invariant-loop-g : goal.invariant-loop-g
invariant-loop-g l = (g : ℕ) → g < l.g → is_at l.block (cached_of l.self g) ≡ false
