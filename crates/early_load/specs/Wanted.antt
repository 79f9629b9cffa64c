-- Which threads come up together.
use Rattle.std.specs.Prelude.{ℕ, Bool, true, List, filter}
use Rattle.machine_steps.specs.Hardware.{Setting, Hardware, threads_of}
use Rattle.early_load.specs.declared.wanted.Wanted.{Wanted}
use Rattle.early_load.specs.declared.wanted.Wanted.TheVariants.{Every, Remembered}

abbrev pub wants : Wanted → Hardware → ℕ → Bool
wants Every hardware t = true
wants Remembered hardware t = hardware.remembered t

abbrev pub wanted_threads : Wanted → Setting → Hardware → List ℕ
wanted_threads wanted setting hardware = filter (wants wanted hardware) (threads_of setting)
