-- The blocks of the patch were covered by it alone, so they are free once it is out.
use Rattle.std.proofs.Common.{◌≡◌, ℕ, true, ◌||◌, sym, ap, ◌∙◌, subst, arith}
use Rattle.region_steps.specs.Region.{Patches, Stands}
use Rattle.region_steps.proofs.Standing.{out_stands}
use Rattle.patch_pool.specs.Free.{AreFree, is_within}
use Rattle.patch_pool.specs.Bytes.{patches_in}
use Rattle.patch_pool.specs.Runs.{is_in}
use Rattle.patch_pool.specs.Pool.{patches_of}
use Rattle.patch_pool.proofs.Pooling.{held_is, not_free, free_after_out}
use Rattle.patch_pool.proofs.pool.PatchPool.free.Goals as goal

pub give_back-requires-clause-some : goal.give_back-requires-clause-some
unfolding patches_of
give_back-requires-clause-some c =
    let pool = c.args.self.now in
    let held = held_is (patches_in pool.region.bytes.items pool.region.lengths.items) pool.runs.blocks c.args.id.0 pool.stand c.requires in
    omega (arith, held.some, c.take_out-blocks.ensures.blocks)

pub give_back-requires-clause-inside : goal.give_back-requires-clause-inside
unfolding patches_of
give_back-requires-clause-inside c =
    let pool = c.args.self.now in
    let held = held_is (patches_in pool.region.bytes.items pool.region.lengths.items) pool.runs.blocks c.args.id.0 pool.stand c.requires in
    omega (arith, held.inside, c.take_out-blocks.ensures.blocks)

pub give_back-requires-clause-taken : goal.give_back-requires-clause-taken
unfolding patches_of
give_back-requires-clause-taken c =
    let pool = c.args.self.now in
    let patches = patches_in pool.region.bytes.items pool.region.lengths.items in
    let held = held_is patches pool.runs.blocks c.args.id.0 pool.stand c.requires in
    λ block within. not_free (is_in pool.runs.runs.items) patches pool.runs.blocks c.args.id.0 pool.free_are held block (subst (λ (n : ℕ). is_within c.args.id.0 n block ≡ true) c.take_out-blocks.ensures.blocks within)

pub invariant_of-self : goal.invariant_of-self
invariant_of-self c =
    let pool = c.args.self.now in
    let patches = patches_in pool.region.bytes.items pool.region.lengths.items in
    let is_free = is_in c.give_back.new.self.runs.items in
    let free = free_after_out (is_in pool.runs.runs.items) is_free patches pool.runs.blocks c.args.id.0 pool.free_are pool.stand
    (λ block. c.give_back.ensures.free block ∙ ap (λ (n : ℕ). is_in pool.runs.runs.items block || is_within c.args.id.0 n block) c.take_out-blocks.ensures.blocks) in
    let out = patches_in c.take_out-blocks.new.self.bytes.items c.take_out-blocks.new.self.lengths.items in
    let stand : Stands out pool.runs.blocks = subst (λ (patches : Patches). Stands patches pool.runs.blocks) (sym c.take_out-blocks.ensures.out) (out_stands patches pool.runs.blocks c.args.id.0 pool.stand) in
    let free_are : AreFree is_free out pool.runs.blocks = subst (λ (patches : Patches). AreFree is_free patches pool.runs.blocks) (sym c.take_out-blocks.ensures.out) free in
    record {
      size = omega (arith, c.take_out-blocks.ensures.size, pool.size, c.give_back.ensures.size);
      stand = subst (λ (blocks : ℕ). Stands out blocks) (sym c.give_back.ensures.size) stand;
      free_are = subst (λ (blocks : ℕ). AreFree is_free out blocks) (sym c.give_back.ensures.size) free_are;
    }
