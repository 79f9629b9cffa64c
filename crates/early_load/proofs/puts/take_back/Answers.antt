use Rattle.std.proofs.Common.{refl, ap, ◌∙◌, arith}
use Rattle.early_load.specs.Caches.{first_block}
use Rattle.early_load.proofs.Freeing.{nothing_freed, freed_none, freed_next, all_freed}
use Rattle.early_load.proofs.puts.take_back.Goals as goal

pub loop-place-init : goal.loop-place-init
loop-place-init c = record { freed = nothing_freed _ _; size = refl }

pub loop-place-preserved-in-None : goal.loop-place-preserved-in-None
loop-place-preserved-in-None c = record {
  freed = freed_none _ _ _ _ c.loop-place.invariant.freed (ap first_block c.in-None.is);
  size = c.loop-place.invariant.size;
}

pub loop-place-preserved : goal.loop-place-preserved
loop-place-preserved c = record {
  freed = freed_next _ _ _ _ _ _ c.loop-place.invariant.freed (ap first_block c.in-Some.is) c.free_at.ensures.freed;
  size = c.free_at.ensures.size ∙ c.loop-place.invariant.size;
}

pub returns-clause-freed : goal.returns-clause-freed
returns-clause-freed c = all_freed _ _ _ _ c.loop-place.invariant.freed (omega arith)
