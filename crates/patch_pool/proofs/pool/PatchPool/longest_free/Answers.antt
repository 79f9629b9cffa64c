use Rattle.patch_pool.specs.Bytes.{patches_in}
use Rattle.patch_pool.specs.Runs.{is_in}
use Rattle.patch_pool.specs.Pool.{patches_of, blocks_in}
use Rattle.patch_pool.proofs.Pooling.{longest_same}
use Rattle.patch_pool.proofs.pool.PatchPool.longest_free.Goals as goal

pub returns : goal.returns
unfolding patches_of blocks_in
returns c =
    let pool = c.args.self.now in
    longest_same (is_in pool.runs.runs.items) (patches_in pool.region.bytes.items pool.region.lengths.items) pool.runs.blocks c.longest.result pool.free_are c.longest.ensures
