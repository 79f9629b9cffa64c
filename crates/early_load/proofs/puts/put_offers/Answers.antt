use Rattle.std.proofs.Common.{◌∷◌, [], ◌++◌, ℕ, None, Err, Result, List, Option, get_or, refl, sym, ap, subst, ◌∙◌, arith}
use Rattle.region_steps.specs.Region.{Stands, blocks_of, lowest_run}
use Rattle.patch_pool.specs.declared.pool.PatchId.{PatchId}
use Rattle.patch_pool.specs.Pool.{patches_of, blocks_in}
use Rattle.machine_steps.specs.Puts.{Puts}
use Rattle.early_load.specs.Puts.{bytes_at, without}
use Rattle.early_load.proofs.Putting.{PutSoFar, IsNew, none_put, nothing_offered, offered_again, next_put, found_no_room, taken_back, all_put, all_held, others_stand}
use Rattle.early_load.proofs.puts.put_offers.Goals as goal

pub loop-g-init : goal.loop-g-init
loop-g-init c = record {
  so_far = subst (λ (places : List (Option PatchId)). PutSoFar (blocks_in c.args.pool.now) c.args.catalog.now c.args.offers.now (patches_of c.args.pool.now) (patches_of c.args.pool.now) places 0) (sym c.clear.ensures) (none_put (blocks_in c.args.pool.now) c.args.catalog.now c.args.offers.now (patches_of c.args.pool.now));
  size = refl;
}

pub loop-g-preserved-in-None : goal.loop-g-preserved-in-None
loop-g-preserved-in-None c = record {
  so_far = nothing_offered _ _ _ _ _ _ _ _ c.loop-g.invariant.so_far (omega arith) c.in-None.is c.push.ensures.items;
  size = c.loop-g.invariant.size;
}

pub loop-g-preserved-in-Some-first_offer : goal.loop-g-preserved-in-Some-first_offer
loop-g-preserved-in-Some-first_offer c =
    let earlier = c.in-Some-first_offer.ensures in
    let pushed = c.push-in-Some-first_offer.ensures.items ∙ ap (λ (l : List (Option PatchId)). c.loop-g.places.items ++ get_or l c.in-Some-first_offer.earlier None ∷ []) c.deref.ensures.0 in
    record {
      so_far = offered_again _ _ _ _ _ _ _ _ _ c.in-Some.entry c.loop-g.invariant.so_far (omega arith) c.in-Some.is earlier.0 earlier.1 pushed;
      size = c.loop-g.invariant.size;
    }

pub returns-in-Err-clause-full : goal.returns-in-Err-clause-full
returns-in-Err-clause-full c =
    let new : IsNew (blocks_in c.args.pool.now) c.args.catalog.now c.args.offers.now (patches_of c.loop-g.pool) c.loop-g.g c.in-Some.entry = record {
      below = omega arith;
      is = c.in-Some.is;
      fresh = c.in_default.ensures;
      header = c.put_entry.ensures.header;
      stands = subst (λ (blocks : ℕ). Stands (patches_of c.loop-g.pool) blocks) c.loop-g.invariant.size c.put_entry.ensures.stand;
    } in
    let put = c.in-Err.ensures in
    let none = ap (λ (blocks : ℕ). lowest_run (patches_of c.loop-g.pool) blocks (blocks_of (bytes_at c.args.catalog.now c.in-Some.entry))) (sym c.loop-g.invariant.size) ∙ put.put.0 in
    let err : ℕ → Result Puts ℕ = λ n. Err n in (
      found_no_room _ _ _ _ _ _ _ _ c.loop-g.invariant.so_far new none ∙ ap err (sym put.put.1),
      c.take_back.ensures.freed ∙ ap (λ (l : List (Option PatchId)). without l (patches_of c.put_entry.new.pool)) c.as_slice.ensures.value
          ∙ ap (without c.loop-g.places.items) put.put.2 ∙ taken_back _ _ _ _ _ _ _ c.loop-g.invariant.so_far,
    )

pub loop-g-preserved : goal.loop-g-preserved
loop-g-preserved c =
    let new : IsNew (blocks_in c.args.pool.now) c.args.catalog.now c.args.offers.now (patches_of c.loop-g.pool) c.loop-g.g c.in-Some.entry = record {
      below = omega arith;
      is = c.in-Some.is;
      fresh = c.in_default.ensures;
      header = c.put_entry.ensures.header;
      stands = subst (λ (blocks : ℕ). Stands (patches_of c.loop-g.pool) blocks) c.loop-g.invariant.size c.put_entry.ensures.stand;
    } in
    let put = c.in-Ok.ensures in
    let lowest = ap (λ (blocks : ℕ). lowest_run (patches_of c.loop-g.pool) blocks (blocks_of (bytes_at c.args.catalog.now c.in-Some.entry))) (sym c.loop-g.invariant.size) ∙ put.put.0 in
    record {
      so_far = next_put _ _ _ _ _ _ _ _ c.loop-g.invariant.so_far new c.in-Ok.id _ lowest put.put.1 _ c.push-in-Ok.ensures.items;
      size = c.put_entry.ensures.size ∙ c.loop-g.invariant.size;
    }

pub returns-clause-put : goal.returns-clause-put
returns-clause-put c = all_put _ _ _ _ _ _ _ c.loop-g.invariant.so_far (omega arith)

pub returns-clause-held : goal.returns-clause-held
returns-clause-held c = all_held _ _ _ _ _ _ _ c.loop-g.invariant.so_far

pub returns-clause-others : goal.returns-clause-others
returns-clause-others c = others_stand _ _ _ _ _ _ _ c.loop-g.invariant.so_far

pub returns-clause-back : goal.returns-clause-back
returns-clause-back c = taken_back _ _ _ _ _ _ _ c.loop-g.invariant.so_far
