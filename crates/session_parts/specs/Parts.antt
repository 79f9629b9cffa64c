-- What the parts of a session stand for.
use Rattle.hw_machine.specs.Machine.{hardware_of}
use Rattle.patch_pool.specs.Pool.{patches_of, blocks_in}
use Rattle.early_load.specs.Caches.{cached_of}
use Rattle.session_steps.specs.State.{Setting, State}
use Rattle.session_parts.specs.declared.parts.Parts.{Parts}

-- what never changes
abbrev pub setting_of : Parts → Setting
setting_of parts = record {
  machine = parts.topology;
  blocks = blocks_in parts.pool;
  patience = parts.patience;
}

-- the state between two commands
abbrev pub state_of : Parts → State
state_of parts = record {
  hardware = hardware_of parts.machine;
  patches = patches_of parts.pool;
  cached = cached_of parts.cache;
}
