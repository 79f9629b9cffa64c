use Rattle.std.proofs.Common.{sym, ◌∙◌, subst, arith}
use Rattle.region_steps.specs.Region.{Patches, no_patches, Stands}
use Rattle.region_steps.proofs.Standing.{none_stand}
use Rattle.patch_pool.specs.Free.{AreFree}
use Rattle.patch_pool.specs.Runs.{is_in}
use Rattle.patch_pool.proofs.Spaced.{within}
use Rattle.patch_pool.proofs.Pooling.{all_free}
use Rattle.patch_pool.proofs.pool.PatchPool.new.Goals as goal

pub invariant_of-result : goal.invariant_of-result
invariant_of-result c =
    let runs = c.in_ok-runs.runs in
    let region = c.in_ok-region.region in
    let free : AreFree (is_in runs.runs.items) no_patches runs.blocks = all_free (is_in runs.runs.items) runs.blocks (λ block lt. c.in_ok-runs.ensures.all block ∙ within 0 c.args.blocks block (omega arith) (omega (arith, lt, c.in_ok-runs.ensures.size))) in
    record {
      size = omega (arith, c.in_ok-region.ensures.size, c.in_ok-runs.ensures.size);
      stand = subst (λ (patches : Patches). Stands patches runs.blocks) (sym c.in_ok-region.ensures.empty) (none_stand runs.blocks);
      free_are = subst (λ (patches : Patches). AreFree (is_in runs.runs.items) patches runs.blocks) (sym c.in_ok-region.ensures.empty) free;
    }
