use Rattle.std.proofs.Common.{◌≡◌}
use Rattle.patch_pool.specs.Pool.{patches_of, blocks_in}
use Rattle.early_load.specs.Caches.{groups_of, cached_of}
use Rattle.early_load.proofs.Sweeping.{Sweeping}
use Rattle.early_load.proofs.cache.PatchCache.sweep.Given as goal

-- the blocks so far are swept, the others are as they were, and as many patches begin there as are left
abbrev pub invariant-loop-block : goal.invariant-loop-block
invariant-loop-block l = record {
  swept : Sweeping (groups_of l.self) (cached_of l.self) (patches_of l.fn.pool) (patches_of l.pool) (blocks_in l.fn.pool) l.block l.left;
  size : blocks_in l.pool ≡ blocks_in l.fn.pool;
}
