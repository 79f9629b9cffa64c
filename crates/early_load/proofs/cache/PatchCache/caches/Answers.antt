use Rattle.std.proofs.Common.{◌≡◌, true, sym, ap, ◌∙◌, arith}
use Rattle.machine_steps.specs.Puts.{is_at}
use Rattle.early_load.specs.Caches.{groups_of, cached_of}
use Rattle.early_load.proofs.Kept.{cached_is, cached_is_not}
use Rattle.early_load.proofs.cache.PatchCache.caches.Goals as goal

pub returns-then-begins_at : goal.returns-then-begins_at
returns-then-begins_at c =
    let at : is_at c.args.block (cached_of c.args.self.now c.loop-g.g) ≡ true = ap (is_at c.args.block) (sym c.cached.ensures) ∙ sym c.begins_at.ensures ∙ c.if-begins_at.true in
    sym (cached_is (groups_of c.args.self.now) (cached_of c.args.self.now) c.args.block c.loop-g.g (omega arith) at)

pub returns : goal.returns
returns c =
    sym (cached_is_not (groups_of c.args.self.now) (cached_of c.args.self.now) c.args.block (λ g lt. c.loop-g.invariant g (omega (arith, lt))))
