use Rattle.std.proofs.Common.{◌<◌, refl, ap, arith}
use Rattle.region_steps.specs.Region.{blocks_of}
use Rattle.patch_pool.specs.Pool.{blocks_in}
use Rattle.early_load.specs.Puts.{bytes_at}
use Rattle.early_load.proofs.Kept.{too_long}
use Rattle.early_load.proofs.puts.put_entry.Goals as goal

pub returns-then-needed-blocks-clause-put : goal.returns-then-needed-blocks-clause-put
returns-then-needed-blocks-clause-put c =
    let needs = ap blocks_of c.bytes_of-bytes.ensures.bytes in
    let long : blocks_in c.args.pool.now < blocks_of (bytes_at c.args.catalog.now c.args.entry) = omega (arith, needs) in
    (too_long _ _ _ long, needs, refl)
