use Rattle.std.proofs.Common.{ap, ◌∙◌, arith}
use Rattle.region_steps.specs.Region.{held}
use Rattle.patch_pool.specs.Bytes.{patches_in}
use Rattle.patch_pool.proofs.Memory.{held_by_lengths}
use Rattle.patch_pool.proofs.region.Region.held.Goals as goal

pub returns : goal.returns
returns c =
    let bytes = c.args.self.now.bytes.items in
    let lengths = c.args.self.now.lengths.items in
    c.args.self.now.counted ∙ held_by_lengths bytes lengths ∙ ap (held (patches_in bytes lengths)) (omega (arith, c.args.self.now.lengths.ok.0))
