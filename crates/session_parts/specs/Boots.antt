-- What a boot came to.
use Rattle.std.specs.Prelude.{◌≡◌, ℕ, true, false, List, Option, Result, Ok, Err}
use Rattle.machine_steps.specs.declared.bring_ups.BringUp.{BringUp}
use Rattle.machine_steps.specs.Hardware.{is_off}
use Rattle.machine_steps.specs.Puts.{Puts, no_puts, put_offers, first_of}
use Rattle.entry_model.specs.Entry.{Entry}
use Rattle.early_load.specs.declared.answers.BootAnswer.{BootAnswer}
use Rattle.early_load.specs.declared.answers.BootAnswer.TheVariants.{Booted, PoolFull}
use Rattle.session_steps.specs.State.{Setting, State}
use Rattle.session_steps.specs.Offers.{bytes_at, offer_of}
use Rattle.session_steps.specs.Step.{brought_at_boot}

-- the region after the offers were put into it
abbrev pub puts_of : Setting → State → List Entry → List (Option ℕ) → Result Puts ℕ
puts_of setting state entries offers = put_offers setting.blocks (bytes_at entries) (Ok (no_puts state.patches)) offers

-- the machine was off; each offer was put, the groups cache them, and every thread came up
pub record IsBooted (setting : Setting) (entries : List Entry) (offers : List (Option ℕ)) (old new : State)
    (ups : List BringUp) : Type 0 where
  pub was_off : is_off old.hardware.power ≡ true
  pub puts : Puts
  pub put : puts_of setting old entries offers ≡ Ok puts
  pub brought : record { ups = ups; after = new.hardware } ≡ brought_at_boot setting old puts offers
  pub patches : new.patches ≡ puts.patches
  pub cached : new.cached ≡ λ g. first_of puts (offer_of offers g)

-- the machine was not off; or it was, and an offer found no room for so many blocks
abbrev pub IsRefused : Setting → List Entry → List (Option ℕ) → State → BootAnswer → Type 0
IsRefused setting entries offers old Booted = is_off old.hardware.power ≡ false
IsRefused setting entries offers old (PoolFull needed) =
    (is_off old.hardware.power ≡ true) × (puts_of setting old entries offers ≡ Err needed)
