use Rattle.std.proofs.Common.{◌<◌, List, length, sym, subst, arith}
use Rattle.patch_pool.specs.declared.runs.Run.{Run}
use Rattle.patch_pool.specs.Runs.{AllEnd}
use Rattle.patch_pool.proofs.Joining.{ends_join_at, length_join_at}
use Rattle.patch_pool.proofs.runs.settle.Goals as goal

pub join-requires-then-at-gt0-clause-within : goal.join-requires-then-at-gt0-clause-within
join-requires-then-at-gt0-clause-within c =
    let lt : c.args.at < length c.args.runs.now.items = omega (arith, c.requires.within, c.args.runs.now.ok.0) in
    let still : c.args.at < length c.join.new.runs.items = subst (λ (runs : List Run). c.args.at < length runs) (sym c.join.ensures.joined) (length_join_at c.args.runs.now.items c.args.at lt) in
    omega (arith, still, c.join.new.runs.ok.0)

pub join-requires-then-at-gt0-clause-few : goal.join-requires-then-at-gt0-clause-few
join-requires-then-at-gt0-clause-few c =
    subst (AllEnd 65536) (sym c.join.ensures.joined) (ends_join_at c.args.runs.now.items 65536 c.args.at c.requires.few)
