use Rattle.std.proofs.Common.{◌≡◌}
use Rattle.patch_pool.specs.Pool.{patches_of, blocks_in}
use Rattle.early_load.proofs.Freeing.{Freed}
use Rattle.early_load.proofs.puts.take_back.Given as goal

-- the patches at the places so far are gone, and the others stand
abbrev pub invariant-loop-place : goal.invariant-loop-place
invariant-loop-place l = record {
  freed : Freed l.places (patches_of l.fn.pool) (patches_of l.pool) l.place-index;
  size : blocks_in l.pool ≡ blocks_in l.fn.pool;
}
