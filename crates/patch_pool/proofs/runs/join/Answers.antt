use Rattle.std.proofs.Common.{◌∙◌, arith}
use Rattle.patch_pool.proofs.Joining.{pair_read, first_ends, pair_touching, pair_apart, join_last}
use Rattle.patch_pool.proofs.runs.join.Goals as goal

pub returns-then-at-len-clause-joined : goal.returns-then-at-len-clause-joined
returns-then-at-len-clause-joined c = join_last c.args.runs.now.items c.args.at (omega arith)

pub end-requires : goal.end-requires
end-requires c =
    (first_ends c.args.runs.now.items 65536 c.args.at c.index.result.now c.index-next.result.now c.requires.few (pair_read _ _ _ _ (omega arith) c.index.ensures c.index-next.ensures)).0

pub overflow_add-run : goal.overflow_add-run
overflow_add-run c =
    omega (arith, first_ends c.args.runs.now.items 65536 c.args.at c.index.result.now c.index-next.result.now c.requires.few (pair_read _ _ _ _ (omega arith) c.index.ensures c.index-next.ensures))

pub returns-then-end-next-clause-joined : goal.returns-then-end-next-clause-joined
returns-then-end-next-clause-joined c =
    c.remove.ensures.items ∙ pair_touching c.args.runs.now.items c.args.at c.index.result.now c.index-next.result.now (pair_read _ _ _ _ (omega arith) c.index.ensures c.index-next.ensures) (omega arith)

pub returns-else-end-next-clause-joined : goal.returns-else-end-next-clause-joined
returns-else-end-next-clause-joined c =
    pair_apart c.args.runs.now.items c.args.at c.index.result.now c.index-next.result.now (pair_read _ _ _ _ (omega arith) c.index.ensures c.index-next.ensures) (λ e. c.if-end-next.false (c.end.ensures ∙ e))
