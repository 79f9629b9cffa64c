use Rattle.patch_pool.specs.Pool.{patches_of}
use Rattle.early_load.specs.Caches.{cached_of}
use Rattle.hw_machine.specs.Machine.{setting_of as machine_setting, hardware_of}
use Rattle.session_parts.specs.Parts.{setting_of, state_of}
use Rattle.session_parts.proofs.Booting.{none_cached, answered}
use Rattle.session_parts.proofs.parts.Parts.boot.Goals as goal

pub boot-requires-clause-none_cached : goal.boot-requires-clause-none_cached
boot-requires-clause-none_cached c = λ off. none_cached c.args.self.now c.requires.standing off

pub returns-clause-answer : goal.returns-clause-answer
returns-clause-answer c =
    answered (setting_of c.args.self.now) (machine_setting c.args.self.now.machine) c.args.self.now.states c.args.catalog.now
    c.args.offers.now (state_of c.args.self.now)
    (record { hardware = hardware_of c.boot.new.machine; patches = patches_of c.boot.new.pool; cached = cached_of c.boot.new.cache })
    (λ ups. ups.items) c.boot.result c.boot.ensures.answer
