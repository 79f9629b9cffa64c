use Rattle.std.proofs.Common.{filter, ap, ◌∙◌}
use Rattle.machine_steps.specs.Hardware.{Setting, Hardware, is_cold, threads_of}
use Rattle.machine_steps.specs.BringUps.{bring_up_each}
use Rattle.hw_machine.specs.Machine.{hardware_of}
use Rattle.patch_pool.specs.Pool.{patches_of}
use Rattle.early_load.specs.Caches.{cached_of, cached_patches}
use Rattle.early_load.proofs.Rising.{woke, resumes}
use Rattle.early_load.proofs.coming_up.resume.Goals as goal

pub bring_up_wanted-requires-clause-cold : goal.bring_up_wanted-requires-clause-cold
bring_up_wanted-requires-clause-cold c =
    let w = woke _ _ c.in_ok-wake.ensures.answer in λ t. ap (λ (h : Hardware). is_cold (h.thread t)) w.0 ∙ c.power-power.ensures.cold w.1 t

pub returns-clause-answer : goal.returns-clause-answer
returns-clause-answer c =
    let awake = hardware_of c.wake.new.self in
    let patches = cached_patches (patches_of c.args.pool.now) (cached_of c.args.cache.now) in
    resumes _ patches _ awake _ c.in_ok-wake.ensures.answer
    (c.bring_up_wanted.ensures.brought ∙ ap (λ (s : Setting). bring_up_each s patches awake (filter awake.remembered (threads_of s))) c.in_ok-wake.ensures.same_setting)
