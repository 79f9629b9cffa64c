use Rattle.std.proofs.Common.{◌≡◌, ◌<◌, ℕ, sym, ap, ◌∙◌, Some, arith}
use Rattle.machine_steps.specs.Hardware.{Hardware}
use Rattle.machine_steps.specs.BringUps.{above, Brought, shows}
use Rattle.machine_steps.specs.declared.bring_ups.Written.TheVariants.{No}
use Rattle.machine_steps.specs.Puts.{patch_at}
use Rattle.machine_steps.proofs.Revisions.{above_is_more}
use Rattle.hw_machine.specs.Machine.{hardware_of}
use Rattle.patch_pool.specs.Pool.{patches_of}
use Rattle.early_load.specs.Caches.{cached_of, cached_patches}
use Rattle.early_load.proofs.Rising.{brought_as, first_writes}
use Rattle.early_load.proofs.coming_up.bring_up.Goals as goal

pub write-requires-clause-above : goal.write-requires-clause-above
write-requires-clause-above c =
    let writes : c.newer-newer.result ≡ Some c.in-Some.new = first_writes _ _ _ (sym c.if_first.ensures ∙ c.in-Some.is) in
    let more : c.rev.result < c.in-Some.new = above_is_more _ _ _ (sym c.newer-newer.ensures ∙ writes) in
    let same = ap (λ (h : Hardware). h.rev c.group_of-group.result) c.come_up-first.ensures.changed in
    omega (arith, more, same, c.rev.ensures)

pub returns-in-Some-clause-brought : goal.returns-in-Some-clause-brought
returns-in-Some-clause-brought c =
    let newest = c.newer-newer.ensures ∙ ap (λ (rev : ℕ). above rev (patch_at (patches_of c.args.pool.now) (cached_of c.args.cache.now c.group_of-group.result))) c.rev.ensures in
    brought_as _ (cached_patches (patches_of c.args.pool.now) (cached_of c.args.cache.now)) (hardware_of c.args.machine.now) _ _ _ _ _ _ _ c.group_of-group.ensures.value c.come_up-first.ensures.first newest (sym c.in-Some.is ∙ c.if_first.ensures) c.come_up-first.ensures.changed c.write.ensures.brought

pub returns-in-None-clause-brought : goal.returns-in-None-clause-brought
returns-in-None-clause-brought c =
    let newest = c.newer-newer.ensures ∙ ap (λ (rev : ℕ). above rev (patch_at (patches_of c.args.pool.now) (cached_of c.args.cache.now c.group_of-group.result))) c.rev.ensures in
    let made : ℕ → Brought = λ rev. record { up = shows c.args.t rev No; after = hardware_of c.come_up-first.new.self } in
    brought_as _ (cached_patches (patches_of c.args.pool.now) (cached_of c.args.cache.now)) (hardware_of c.args.machine.now) _ _ _ _ _ _ _ c.group_of-group.ensures.value c.come_up-first.ensures.first newest (sym c.in-None.is ∙ c.if_first.ensures) c.come_up-first.ensures.changed (ap made c.rev-in-None.ensures)
