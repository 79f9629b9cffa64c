-- The revisions of groups while threads come up.
use Rattle.std.proofs.Common.{◌≡◌, ℕ, ◌<◌, Bool, true, false, List, [], ◌∷◌, Option, Some, None, refl, arith}
use Rattle.std.proofs.Math.Nat.{le_refl, le_trans}
use Rattle.std.proofs.lemmas.Bool.Decides.{nat_tests}
use Rattle.machine_steps.specs.Hardware.{Setting, Hardware, with_thread}
use Rattle.machine_steps.specs.declared.states.ThreadState.TheVariants.{Up}
use Rattle.machine_steps.specs.BringUps.{CachedPatches, above, to_write, brought, bring_up, bring_up_each}
use Rattle.machine_steps.specs.Laws.{NeverLower}

-- what is to be written is above the group's revision
pub above_is_more : (rev new : ℕ) (patch : Option (List ℕ)) → above rev patch ≡ Some new → rev < new
above_is_more rev new None e = grind arith
above_is_more rev new (Some patch) e = grind (arith, nat_tests)

to_write_is_more : (setting : Setting) (patches : CachedPatches) (hardware : Hardware) (g new : ℕ) → to_write setting patches hardware g ≡ Some new → hardware.rev g < new
to_write_is_more setting patches hardware g new e = grind (arith, nat_tests, above_is_more)

brought_keeps : (hardware : Hardware) (t g : ℕ) (new : Option ℕ) (refuses : Bool) → ((r : ℕ) → new ≡ Some r → hardware.rev g < r)
    → NeverLower hardware (brought hardware t g new refuses).after
brought_keeps hardware t g None refuses more k = le_refl _
brought_keeps hardware t g (Some new) true more k = le_refl _
brought_keeps hardware t g (Some new) false more k = let lt = more new refl in grind (arith, nat_tests)

bring_up_keeps : (setting : Setting) (patches : CachedPatches) (hardware : Hardware) (t : ℕ) → NeverLower hardware (bring_up setting patches hardware t).after
bring_up_keeps setting patches hardware t =
    brought_keeps (with_thread hardware t Up) t (setting.group t) _ _ (λ r e. to_write_is_more setting patches hardware (setting.group t) r e)

-- a revision never falls while threads come up one after the other
pub bring_up_each_keeps : (setting : Setting) (patches : CachedPatches) (hardware : Hardware) (threads : List ℕ) → NeverLower hardware (bring_up_each setting patches hardware threads).after
bring_up_each_keeps setting patches hardware [] k = le_refl _
bring_up_each_keeps setting patches hardware (t ∷ ts) k =
    le_trans (bring_up_keeps setting patches hardware t k) (bring_up_each_keeps setting patches (bring_up setting patches hardware t).after ts k)
