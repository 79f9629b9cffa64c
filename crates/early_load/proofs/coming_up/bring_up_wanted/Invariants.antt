use Rattle.std.proofs.Common.{◌≡◌, ◌≤◌, length}
use Rattle.hw_machine.specs.Machine.{setting_of, hardware_of}
use Rattle.patch_pool.specs.Pool.{patches_of}
use Rattle.early_load.specs.Caches.{cached_of, cached_patches}
use Rattle.early_load.specs.Wanted.{wants}
use Rattle.early_load.proofs.Rising.{Rises}
use Rattle.early_load.proofs.coming_up.bring_up_wanted.Given as goal

-- the wanted threads so far came up, and those that are left are cold
abbrev pub invariant-loop-t : goal.invariant-loop-t
invariant-loop-t l = record {
  size : length l.ups.items ≤ l.t;
  setting : setting_of l.machine ≡ setting_of l.fn.machine;
  rises : Rises (setting_of l.fn.machine) (cached_patches (patches_of l.pool) (cached_of l.cache)) (hardware_of l.fn.machine) (wants l.wanted (hardware_of l.fn.machine)) l.ups.items (hardware_of l.machine) l.t;
}
