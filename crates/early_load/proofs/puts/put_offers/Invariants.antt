use Rattle.std.proofs.Common.{◌≡◌}
use Rattle.patch_pool.specs.Pool.{patches_of, blocks_in}
use Rattle.early_load.proofs.Putting.{PutSoFar}
use Rattle.early_load.proofs.puts.put_offers.Given as goal

-- the offers of the groups so far were put
abbrev pub invariant-loop-g : goal.invariant-loop-g
invariant-loop-g l = record {
  so_far : PutSoFar (blocks_in l.fn.pool) l.catalog l.offers (patches_of l.fn.pool) (patches_of l.pool) l.places.items l.g;
  size : blocks_in l.pool ≡ blocks_in l.fn.pool;
}
