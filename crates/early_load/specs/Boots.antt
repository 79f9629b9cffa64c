-- What a boot answers.
use Rattle.std.specs.Prelude.{◌≡◌, ℕ, true, false, List, Option, Result, Ok, Err}
use Rattle.region_steps.specs.Region.{Patches}
use Rattle.machine_steps.specs.declared.bring_ups.BringUp.{BringUp}
use Rattle.machine_steps.specs.declared.states.Power.TheVariants.{On}
use Rattle.machine_steps.specs.Hardware.{Setting, Hardware, is_off, with_power}
use Rattle.machine_steps.specs.BringUps.{AllBrought, bring_up_all}
use Rattle.machine_steps.specs.Puts.{Puts, first_of}
use Rattle.early_load.specs.declared.answers.BootAnswer.{BootAnswer}
use Rattle.early_load.specs.declared.answers.BootAnswer.TheVariants.{Booted, PoolFull}
use Rattle.early_load.specs.Caches.{cached_patches}
use Rattle.early_load.specs.Puts.{offer_of}

-- a machine, what its region holds, and where the patch begins that each group caches
pub record State : Type 0 where
  pub hardware : Hardware
  pub patches : Patches
  pub cached : ℕ → Option ℕ

-- where the patch of each group's offer begins
abbrev pub offered : Puts → List (Option ℕ) → ℕ → Option ℕ
offered puts offers g = first_of puts (offer_of offers g)

-- all threads come up in a machine with power, each group of which caches its offer
abbrev pub brought_up : Setting → Hardware → Puts → List (Option ℕ) → AllBrought
brought_up setting hardware puts offers =
    bring_up_all setting (cached_patches puts.patches (offered puts offers)) (with_power hardware On)

-- The machine was off and is booted: each group caches its offer, which was put, power is on, and every thread came up
-- in ascending order.
pub record IsBooted (setting : Setting) (row : Result Puts ℕ) (offers : List (Option ℕ)) (old new : State)
    (ups : List BringUp) : Type 0 where
  pub was_off : is_off old.hardware.power ≡ true
  pub puts : Puts
  pub put : row ≡ Ok puts
  pub brought : record { ups = ups; after = new.hardware } ≡ brought_up setting old.hardware puts offers
  pub patches : new.patches ≡ puts.patches
  pub cached : new.cached ≡ offered puts offers

-- the machine was on or asleep; or it was off, and an offer found no room for so many blocks
abbrev pub IsRefused : Result Puts ℕ → Hardware → BootAnswer → Type 0
IsRefused row hardware Booted = is_off hardware.power ≡ false
IsRefused row hardware (PoolFull needed) = (is_off hardware.power ≡ true) × (row ≡ Err needed)
