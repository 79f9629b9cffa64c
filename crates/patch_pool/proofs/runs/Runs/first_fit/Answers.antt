use Rattle.std.proofs.Common.{nat_le, rules, tests}
use Rattle.std.proofs.lemmas.Iterator.{YieldsList-from_slice}
use Rattle.std.proofs.lemmas.Iterator.Search.{position_from_yields_List}
use Rattle.patch_pool.specs.declared.runs.Run.{Run}
use Rattle.patch_pool.proofs.Lowest.{fit_or_none}
use Rattle.patch_pool.proofs.runs.Runs.first_fit.Goals as goal

pub returns : goal.returns
returns c =
    let e = position_from_yields_List (λ (run : Run). nat_le c.args.needed run.len) _ _ c.position.result c.position.ensures.ran (YieldsList-from_slice c.args.self.now.runs.items cc) (λ x b q k. search (rules, tests)) in
    fit_or_none c.args.self.now.runs.items c.args.self.now.blocks c.args.needed c.position.result c.args.self.now.spaced c.requires e
