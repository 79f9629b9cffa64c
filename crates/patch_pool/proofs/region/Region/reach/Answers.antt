use Rattle.std.proofs.Common.{◌-◌, is_ok, replicate, arith}
use Rattle.patch_pool.proofs.Memory.{patches_resized}
use Rattle.patch_pool.proofs.region.Region.reach.Goals as goal

pub returns-then-len-end-clause-same : goal.returns-then-len-end-clause-same
returns-then-len-end-clause-same c =
    let region = c.args.self.now in
    patches_resized region.bytes.items (replicate (c.args.end - region.bytes.len) 0) region.lengths.items c.resize.new.self.items c.args.end (is_ok c.resize.result) c.resize.ensures.items (omega (arith, c.if-len-end.true, c.len.ensures, region.bytes.ok.0)) region.inside
