-- A thread comes up. Where it is the first of its group since power-up, and the group caches a patch of a revision
-- above its own, the group writes that patch, or refuses.
use Rattle.std.specs.Prelude.{ℕ, Bool, true, false, nat_lt, if◌then◌else◌, List, [], ◌∷◌, filter, Option, Some, None}
use Rattle.std.specs.Prelude.{Result, Ok, Err}
use Rattle.uc_bytes.specs.Words.{word}
use Rattle.machine_steps.specs.declared.states.ThreadState.TheVariants.{Up}
use Rattle.machine_steps.specs.declared.answers.HotAnswer.{HotAnswer}
use Rattle.machine_steps.specs.declared.bring_ups.BringUp.{BringUp}
use Rattle.machine_steps.specs.declared.bring_ups.Written.{Written}
use Rattle.machine_steps.specs.declared.bring_ups.Written.TheVariants.{No, Wrote, Refused}
use Rattle.machine_steps.specs.Hardware.{Setting, Hardware, all_cold, threads_of, with_thread, with_rev}
use Rattle.machine_steps.specs.Calls.{wake}

-- the bytes of the patch that each group caches
abbrev pub CachedPatches : Type 0
CachedPatches = ℕ → Option (List ℕ)

-- the revision of a patch stands in its word at byte 4, for both vendors
abbrev pub revision : List ℕ → ℕ
revision patch = word patch 4

-- the revision of the cached patch, where that is above the group's
abbrev pub above : ℕ → Option (List ℕ) → Option ℕ
above rev None = None
above rev (Some patch) = if nat_lt rev (revision patch) then Some (revision patch) else None

-- what is to be written where a thread of the group comes up
abbrev pub to_write : Setting → CachedPatches → Hardware → ℕ → Option ℕ
to_write setting patches hardware g =
    if all_cold setting hardware g then above (hardware.rev g) (patches g) else None

-- what a thread that came up shows, and the machine then
pub record Brought : Type 0 where
  pub up : BringUp
  pub after : Hardware

abbrev pub shows : ℕ → ℕ → Written → BringUp
shows t rev written = record { thread = t; rev = rev; written = written }

-- thread t of group g came up in this machine, and this was to be written, which the group refuses or not
abbrev pub brought : Hardware → ℕ → ℕ → Option ℕ → Bool → Brought
brought hardware t g None refuses = record { up = shows t (hardware.rev g) No; after = hardware }
brought hardware t g (Some new) true = record { up = shows t (hardware.rev g) Refused; after = hardware }
brought hardware t g (Some new) false = record { up = shows t new Wrote; after = with_rev hardware g new }

abbrev pub bring_up : Setting → CachedPatches → Hardware → ℕ → Brought
bring_up setting patches hardware t =
    brought (with_thread hardware t Up) t (setting.group t) (to_write setting patches hardware (setting.group t))
    (hardware.refuses (setting.group t))

-- ---- several threads, one after the other

pub record AllBrought : Type 0 where
  pub ups : List BringUp
  pub after : Hardware

abbrev pub and_then : Brought → AllBrought → AllBrought
and_then first rest = record { ups = first.up ∷ rest.ups; after = rest.after }

abbrev pub bring_up_each : Setting → CachedPatches → Hardware → List ℕ → AllBrought
bring_up_each setting patches hardware [] = record { ups = []; after = hardware }
bring_up_each setting patches hardware (t ∷ ts) =
    let first = bring_up setting patches hardware t in and_then first (bring_up_each setting patches first.after ts)

-- every thread comes up, as at a boot
abbrev pub bring_up_all : Setting → CachedPatches → Hardware → AllBrought
bring_up_all setting patches hardware = bring_up_each setting patches hardware (threads_of setting)

-- the threads that were up when the machine was suspended
abbrev pub remembered_threads : Setting → Hardware → List ℕ
remembered_threads setting hardware = filter hardware.remembered (threads_of setting)

-- the machine wakes, and the remembered threads come up
abbrev pub resume_from : Setting → CachedPatches → Hardware → Result Hardware HotAnswer → Result AllBrought HotAnswer
resume_from setting patches hardware (Ok awake) =
    Ok (bring_up_each setting patches awake (remembered_threads setting hardware))
resume_from setting patches hardware (Err answer) = Err answer

abbrev pub resume : Setting → CachedPatches → Hardware → Result AllBrought HotAnswer
resume setting patches hardware = resume_from setting patches hardware (wake hardware)
