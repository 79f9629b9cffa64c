-- What a contract sees of a pool.
use Rattle.std.specs.Prelude.{ℕ}
use Rattle.region_steps.specs.Region.{Patches}
use Rattle.patch_pool.specs.declared.pool.PatchPool.{PatchPool}
use Rattle.patch_pool.specs.Bytes.{patches_in}

-- the patches, by the block at which each begins
unfoldable pub patches_of : PatchPool → Patches
patches_of pool = patches_in pool.region.bytes.items pool.region.lengths.items

-- how many blocks the region has
unfoldable pub blocks_in : PatchPool → ℕ
blocks_in pool = pool.runs.blocks
