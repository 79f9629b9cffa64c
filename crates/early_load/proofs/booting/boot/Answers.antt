use Rattle.std.proofs.Common.{◌≡◌, ℕ, Option, true, filter, length, sym, ap, ◌∙◌, arith}
use Rattle.machine_steps.specs.Hardware.{Setting, Hardware, is_cold, threads_of}
use Rattle.machine_steps.specs.BringUps.{bring_up_each}
use Rattle.hw_machine.specs.Machine.{hardware_of}
use Rattle.patch_pool.specs.Pool.{patches_of}
use Rattle.early_load.specs.Caches.{groups_of, cached_of, cached_patches}
use Rattle.early_load.specs.Boots.{State}
use Rattle.early_load.proofs.Rising.{powered}
use Rattle.early_load.proofs.Booted.{is_booted, just_cached_then}
use Rattle.early_load.proofs.booting.boot.Goals as goal

pub bring_up_wanted-requires-clause-cold : goal.bring_up_wanted-requires-clause-cold
bring_up_wanted-requires-clause-cold c =
    let on = powered _ _ c.in-Ok-power_on.ensures.answer in λ t. ap (λ (h : Hardware). is_cold (h.thread t)) on.0 ∙ c.power.ensures.cold on.2 t

pub bring_up_wanted-requires-clause-held : goal.bring_up_wanted-requires-clause-held
bring_up_wanted-requires-clause-held c =
    λ g first below e. c.in-Ok.ensures.held g first (ap (λ (cached : ℕ → Option ℕ). cached g) (sym c.keep_all.ensures.kept) ∙ e)

pub returns-in-Ok-power_on-clause-answer : goal.returns-in-Ok-power_on-clause-answer
returns-in-Ok-power_on-clause-answer c =
    let on = powered _ _ c.in-Ok-power_on.ensures.answer in
    let now = hardware_of c.power_on.new.self in
    let patches = cached_patches (patches_of c.put_offers.new.pool) (cached_of c.keep_all.new.self) in
    let old : State = record { hardware = hardware_of c.args.machine.now; patches = patches_of c.args.pool.now; cached = cached_of c.args.cache.now } in
    is_booted _ _ _ old now _ _ c.put_offers.new.places.items _ _ on.1 c.in-Ok.ensures.put on.0 c.keep_all.ensures.kept
    (c.bring_up_wanted.ensures.brought ∙ ap (λ (s : Setting). bring_up_each s patches now (filter (λ t. true) (threads_of s))) c.in-Ok-power_on.ensures.same_setting)

pub returns-in-Ok-power_on-clause-just_cached : goal.returns-in-Ok-power_on-clause-just_cached
returns-in-Ok-power_on-clause-just_cached c =
    let on = powered _ _ c.in-Ok-power_on.ensures.answer in
    let size : length c.put_offers.new.places.items ≡ groups_of c.keep_all.new.self = omega (arith, c.in-Ok.ensures.put.groups, c.keep_all.ensures.size, c.requires.groups, c.requires.offers) in
    just_cached_then _ _ _ c.put_offers.new.places.items _ size c.keep_all.ensures.kept (c.requires.empty on.1) c.in-Ok.ensures.held c.in-Ok.ensures.others
