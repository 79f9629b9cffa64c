-- The free runs say where the lowest run of free blocks is, and the patch is copied there.
use Rattle.std.proofs.Common.{ap, ◌∙◌, ℕ, refl, sym, subst, arith}
use Rattle.region_steps.specs.Region.{Patches, blocks_of, Stands}
use Rattle.patch_pool.specs.Free.{AreFree}
use Rattle.patch_pool.specs.Bytes.{patches_in}
use Rattle.patch_pool.specs.Runs.{is_in}
use Rattle.patch_pool.specs.Pool.{patches_of, blocks_in}
use Rattle.patch_pool.proofs.Pooling.{taken_for, none_for, refused, fitted, held_is, stays_put}
use Rattle.patch_pool.proofs.pool.PatchPool.put.Goals as goal

pub returns-in_default-clause-put : goal.returns-in_default-clause-put
unfolding patches_of blocks_in
returns-in_default-clause-put c =
    let pool = c.args.self.now in
    (none_for (is_in pool.runs.runs.items) (is_in c.take.new.self.runs.items) (patches_in pool.region.bytes.items pool.region.lengths.items) pool.runs.blocks c.blocks_for-needed.result c.args.bytes.now pool.free_are c.blocks_for-needed.ensures c.in_default.ensures.taken, c.blocks_for-needed.ensures, refl)

pub returns-in_default-clause-full : goal.returns-in_default-clause-full
unfolding patches_of blocks_in
returns-in_default-clause-full c = λ longest is.
    let pool = c.args.self.now in
    let patches = patches_in pool.region.bytes.items pool.region.lengths.items in
    refused patches pool.runs.blocks (blocks_of c.args.bytes.now) longest (none_for (is_in pool.runs.runs.items) (is_in c.take.new.self.runs.items) patches pool.runs.blocks c.blocks_for-needed.result c.args.bytes.now pool.free_are c.blocks_for-needed.ensures c.in_default.ensures.taken) is

pub put-requires-clause-inside : goal.put-requires-clause-inside
put-requires-clause-inside c =
    let pool = c.args.self.now in
    let put = taken_for (is_in pool.runs.runs.items) (is_in c.take.new.self.runs.items) (patches_in pool.region.bytes.items pool.region.lengths.items) pool.runs.blocks c.blocks_for-needed.result c.in-Some.first c.args.bytes.now pool.free_are pool.stand c.requires.some c.blocks_for-needed.ensures c.in-Some.ensures.taken in
    omega (arith, put.inside, pool.size)

pub put-requires-clause-free : goal.put-requires-clause-free
put-requires-clause-free c =
    let pool = c.args.self.now in
    (taken_for (is_in pool.runs.runs.items) (is_in c.take.new.self.runs.items) (patches_in pool.region.bytes.items pool.region.lengths.items) pool.runs.blocks c.blocks_for-needed.result c.in-Some.first c.args.bytes.now pool.free_are pool.stand c.requires.some c.blocks_for-needed.ensures c.in-Some.ensures.taken).free

pub invariant_of-self-2 : goal.invariant_of-self-2
invariant_of-self-2 c =
    let pool = c.args.self.now in
    let put = taken_for (is_in pool.runs.runs.items) (is_in c.take.new.self.runs.items) (patches_in pool.region.bytes.items pool.region.lengths.items) pool.runs.blocks c.blocks_for-needed.result c.in-Some.first c.args.bytes.now pool.free_are pool.stand c.requires.some c.blocks_for-needed.ensures c.in-Some.ensures.taken in
    let stand : Stands (patches_in c.put.new.self.bytes.items c.put.new.self.lengths.items) pool.runs.blocks = subst (λ (patches : Patches). Stands patches pool.runs.blocks) (sym c.put.ensures.put) put.stand in
    let free_are : AreFree (is_in c.take.new.self.runs.items) (patches_in c.put.new.self.bytes.items c.put.new.self.lengths.items) pool.runs.blocks = subst (λ (patches : Patches). AreFree (is_in c.take.new.self.runs.items) patches pool.runs.blocks) (sym c.put.ensures.put) put.free_are in
    record {
      size = omega (arith, c.put.ensures.size, pool.size, c.in-Some.ensures.size);
      stand = subst (λ (blocks : ℕ). Stands (patches_in c.put.new.self.bytes.items c.put.new.self.lengths.items) blocks) (sym c.in-Some.ensures.size) stand;
      free_are = subst (λ (blocks : ℕ). AreFree (is_in c.take.new.self.runs.items) (patches_in c.put.new.self.bytes.items c.put.new.self.lengths.items) blocks) (sym c.in-Some.ensures.size) free_are;
    }

pub returns-clause-put : goal.returns-clause-put
unfolding patches_of blocks_in
returns-clause-put c =
    let pool = c.args.self.now in
    let put = taken_for (is_in pool.runs.runs.items) (is_in c.take.new.self.runs.items) (patches_in pool.region.bytes.items pool.region.lengths.items) pool.runs.blocks c.blocks_for-needed.result c.in-Some.first c.args.bytes.now pool.free_are pool.stand c.requires.some c.blocks_for-needed.ensures c.in-Some.ensures.taken in
    (put.lowest, c.put.ensures.put)

pub returns-clause-full : goal.returns-clause-full
unfolding patches_of blocks_in
returns-clause-full c = λ longest is.
    let pool = c.args.self.now in
    let patches = patches_in pool.region.bytes.items pool.region.lengths.items in
    let put = taken_for (is_in pool.runs.runs.items) (is_in c.take.new.self.runs.items) patches pool.runs.blocks c.blocks_for-needed.result c.in-Some.first c.args.bytes.now pool.free_are pool.stand c.requires.some c.blocks_for-needed.ensures c.in-Some.ensures.taken in
    fitted patches pool.runs.blocks (blocks_of c.args.bytes.now) c.in-Some.first longest put.lowest is

pub returns-in_default-clause-stay : goal.returns-in_default-clause-stay
unfolding patches_of
returns-in_default-clause-stay c = λ other held. refl

pub returns-clause-stay : goal.returns-clause-stay
unfolding patches_of blocks_in
returns-clause-stay c = λ other begins.
    let pool = c.args.self.now in
    let patches = patches_in pool.region.bytes.items pool.region.lengths.items in
    let put = taken_for (is_in pool.runs.runs.items) (is_in c.take.new.self.runs.items) patches pool.runs.blocks c.blocks_for-needed.result c.in-Some.first c.args.bytes.now pool.free_are pool.stand c.requires.some c.blocks_for-needed.ensures c.in-Some.ensures.taken in
    ap (λ (after : Patches). after other) c.put.ensures.put ∙ stays_put (is_in c.take.new.self.runs.items) patches pool.runs.blocks c.args.bytes.now c.in-Some.first other put c.requires.some (held_is patches pool.runs.blocks other pool.stand begins)
