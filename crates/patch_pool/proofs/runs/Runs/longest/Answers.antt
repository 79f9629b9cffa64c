use Rattle.std.proofs.Common.{sym, subst}
use Rattle.patch_pool.specs.Free.{IsLongest}
use Rattle.patch_pool.specs.Runs.{is_in}
use Rattle.patch_pool.proofs.Lowest.{longest_is}
use Rattle.patch_pool.proofs.runs.Runs.longest.Goals as goal

pub returns : goal.returns
returns c =
    let runs = c.args.self.now.runs.items in
    subst (IsLongest (is_in runs) c.args.self.now.blocks) (sym c.most.ensures) (longest_is runs c.args.self.now.blocks c.args.self.now.spaced)
