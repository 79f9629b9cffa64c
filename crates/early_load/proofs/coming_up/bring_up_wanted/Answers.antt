use Rattle.std.proofs.Common.{◌≡◌, ◌<◌, true, false, sym, ap, ◌∙◌, arith}
use Rattle.machine_steps.specs.Hardware.{Setting}
use Rattle.machine_steps.specs.BringUps.{bring_up}
use Rattle.hw_machine.specs.Machine.{setting_of, hardware_of}
use Rattle.patch_pool.specs.Pool.{patches_of}
use Rattle.early_load.specs.Caches.{cached_of, cached_patches}
use Rattle.early_load.specs.Wanted.{wants}
use Rattle.early_load.proofs.Rising.{another_stays, another_rises, all_rose, wants_same}
use Rattle.early_load.proofs.coming_up.bring_up_wanted.Goals as goal

pub loop-t-preserved-then-not-wants : goal.loop-t-preserved-then-not-wants
loop-t-preserved-then-not-wants c =
    let below : c.loop-t.t < (setting_of c.args.machine.now).threads = omega arith in
    let not : wants c.args.wanted (hardware_of c.args.machine.now) c.loop-t.t ≡ false =
    sym (wants_same c.args.wanted (hardware_of c.loop-t.machine) (hardware_of c.args.machine.now) c.loop-t.t c.loop-t.invariant.rises.remembered) ∙ sym c.wants.ensures ∙ c.if-not-wants.true
    in
    record {
      size = omega (arith, c.loop-t.invariant.size);
      setting = c.loop-t.invariant.setting;
      rises = another_stays _ _ _ _ _ _ _ c.loop-t.invariant.rises below not;
    }

pub loop-t-preserved : goal.loop-t-preserved
loop-t-preserved c =
    let below : c.loop-t.t < (setting_of c.args.machine.now).threads = omega arith in
    let is : wants c.args.wanted (hardware_of c.args.machine.now) c.loop-t.t ≡ true =
    sym (wants_same c.args.wanted (hardware_of c.loop-t.machine) (hardware_of c.args.machine.now) c.loop-t.t c.loop-t.invariant.rises.remembered) ∙ sym c.wants.ensures ∙ c.if-not-wants.false
    in
    let came = c.bring_up.ensures.brought ∙ ap (λ (s : Setting). bring_up s (cached_patches (patches_of c.args.pool.now) (cached_of c.args.cache.now)) (hardware_of c.loop-t.machine) c.loop-t.t) c.loop-t.invariant.setting in
    record {
      size = omega (arith, c.loop-t.invariant.size, c.push.ensures.len);
      setting = c.bring_up.ensures.same_setting ∙ c.loop-t.invariant.setting;
      rises = another_rises _ _ _ _ _ _ _ _ _ c.loop-t.invariant.rises below is came c.push.ensures.items;
    }

pub returns-clause-brought : goal.returns-clause-brought
returns-clause-brought c = all_rose _ _ _ _ _ _ c.loop-t.t c.loop-t.invariant.rises (omega arith)
