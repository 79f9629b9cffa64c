use Rattle.std.proofs.Common.{◌<◌, refl, sym, ◌∙◌, arith}
use Rattle.patch_pool.specs.Pool.{blocks_in}
use Rattle.early_load.proofs.Kept.{just_cached}
use Rattle.early_load.proofs.Sweeping.{sweeping-opens, sweeping-skips, sweeping-more, sweeping-ends, sweeping-left}
use Rattle.early_load.proofs.cache.PatchCache.sweep.Goals as goal
use Rattle.early_load.proofs.cache.PatchCache.sweep.Goals.{then-holds, else-holds}

pub loop-block-init : goal.loop-block-init
loop-block-init c = record {
  swept = sweeping-opens _ _ _ _ _ c.held-left.ensures;
  size = refl;
}

-- the block is one of the region's
below : (c : goal.Joined-holds) → c.loop-block.block < blocks_in c.args.pool.now
below c = omega (arith, c.blocks-block-end.ensures.size, c.loop-block-test.true)

pub loop-block-preserved : goal.loop-block-preserved
loop-block-preserved c =
    elim c.if-holds.branch [
      | then-holds w ↦
          rw w.pool-is (rw w.left-is (record {
            swept = sweeping-more _ _ _ _ _ _ _ _ c.loop-block.invariant.swept (below c) (sym c.holds.ensures ∙ w.if-holds.true) w.sweep_at.ensures.swept;
            size = w.sweep_at.ensures.size ∙ c.loop-block.invariant.size;
          }))
      | else-holds w ↦
          rw w.pool-is (rw w.left-is (record {
            swept = sweeping-skips _ _ _ _ _ _ _ c.loop-block.invariant.swept (below c) (sym c.holds.ensures ∙ w.if-holds.false);
            size = c.loop-block.invariant.size;
          }))
    ]

pub returns-then-left-eq0-clause-swept : goal.returns-then-left-eq0-clause-swept
returns-then-left-eq0-clause-swept c =
    sweeping-ends _ _ _ _ _ _ _ c.loop-block.invariant.swept c.blocks-block-end.ensures.stand c.if-left-eq0.true

pub returns-then-left-eq0-clause-just_cached : goal.returns-then-left-eq0-clause-just_cached
returns-then-left-eq0-clause-just_cached c = λ held. just_cached _ _ _ _ (returns-then-left-eq0-clause-swept c) held

pub returns-clause-swept : goal.returns-clause-swept
returns-clause-swept c =
    sweeping-ends _ _ _ _ _ _ _ c.loop-block.invariant.swept c.blocks-block-end.ensures.stand
    (sweeping-left _ _ _ _ _ _ _ c.loop-block.invariant.swept (omega (arith, c.blocks-block-end.ensures.size)))

pub returns-clause-just_cached : goal.returns-clause-just_cached
returns-clause-just_cached c = λ held. just_cached _ _ _ _ (returns-clause-swept c) held
