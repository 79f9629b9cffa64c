-- Who takes part in a load, and whom it wants to be up.
use Rattle.std.proofs.Common.{◌≡◌, ℕ, ◌<◌, Bool, true, false, not, ◌&&◌, ◌==◌, Some, None, ap, arith}
use Rattle.std.proofs.lemmas.Bool.{and_from, eq-eqb}
use Rattle.region_steps.proofs.Rows.{any_passes, none_passes, found, found_none}
use Rattle.machine_steps.specs.Hardware.{is_cold}
use Rattle.session_steps.specs.State.{Setting, State, machine_of, core_of, core_takes_part, is_missing, first_missing}

-- the thread is of the core, and was up since power-up
abbrev pub is_part : Setting → State → ℕ → ℕ → Bool
is_part setting state core t = (core_of setting t == core) && not (is_cold (state.hardware.thread t))

pub a_part : (setting : Setting) (state : State) (core t : ℕ) → t < (machine_of setting).threads →
    core_of setting t ≡ core → is_cold (state.hardware.thread t) ≡ false → core_takes_part setting state core ≡ true
unfolding core_takes_part
a_part setting state core t below same warm =
    any_passes (is_part setting state core) 0 (machine_of setting).threads t (omega arith) (omega arith)
    (and_from _ _ (eq-eqb (core_of setting t) core same) (ap not warm))

pub no_part : (setting : Setting) (state : State) (core : ℕ) →
    ((t : ℕ) → t < (machine_of setting).threads → is_part setting state core t ≡ false) →
    core_takes_part setting state core ≡ false
unfolding core_takes_part
no_part setting state core none =
    none_passes (is_part setting state core) 0 (machine_of setting).threads (λ t low high. none t (omega (arith, high)))

pub a_missing : (setting : Setting) (state : State) (t : ℕ) → t < (machine_of setting).threads →
    is_missing setting state t ≡ true → ((u : ℕ) → u < t → is_missing setting state u ≡ false) →
    first_missing setting state ≡ Some t
unfolding first_missing
a_missing setting state t below is before =
    found (is_missing setting state) 0 (machine_of setting).threads t
    (record { low = omega arith; high = omega arith; passes = is; fails = λ u low lt. before u lt })

pub none_missing : (setting : Setting) (state : State) →
    ((t : ℕ) → t < (machine_of setting).threads → is_missing setting state t ≡ false) →
    first_missing setting state ≡ None
unfolding first_missing
none_missing setting state none =
    found_none (is_missing setting state) 0 (machine_of setting).threads (λ t low high. none t (omega (arith, high)))
