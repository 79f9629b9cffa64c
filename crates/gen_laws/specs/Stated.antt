-- What the generated topology and the generated script are to state.
use Rattle.std.specs.Prelude.{ℕ, ◌+◌, ◌*◌, ◌/◌, ◌%◌, ◌==◌, if◌then◌else◌, false, List, [], ◌∷◌, ◌++◌, map, flat_map}
use Rattle.std.specs.Prelude.{codes}
use Rattle.std.specs.List.{range_with_len}
use Rattle.uc_bytes.specs.declared.causes.Vendor.TheVariants.{Intel}
use Rattle.uc_topology.specs.declared.tables.Core.{Core}
use Rattle.uc_topology.specs.Stated.{Machine}
use Rattle.rendezvous_steps.specs.declared.ends.Beat.TheVariants.{Rounds}
use Rattle.script_text.specs.declared.command.Command.{Command}
use Rattle.script_text.specs.declared.command.Command.TheVariants.{Boot, Offline, Load}
use Rattle.script_text.specs.declared.forms.Limits.{Limits}
use Rattle.script_text.specs.Stated.{Stated as Script}
use Rattle.uc_gen.specs.Draws.{draw}
use Rattle.uc_gen.specs.Texts.{core_sig, core_flags}

-- a core is a group of its own, with what was drawn for it
abbrev pub core_of : ℕ → ℕ → Core
core_of number core =
    record { group = core; facts = record { sig = core_sig number core; flags = core_flags number core; rev = 0x80 } }

-- the first cores, and the cores of the first threads, two on each
unfoldable pub cores_of : ℕ → ℕ → List Core
cores_of number count = map (core_of number) (range_with_len 0 count)

unfoldable pub threads_of : ℕ → List ℕ
threads_of count = map (λ thread. thread / 2) (range_with_len 0 count)

abbrev pub machine_of : ℕ → Machine
machine_of number = record { vendor = Intel; stated = record { cores = cores_of number 128; threads = threads_of 256 } }

-- the machine's limits for a script
abbrev pub limits_of : Limits
limits_of = record { threads = 256; cores = 128 }

-- the commands of the first odd threads, each of which goes offline where the number that is drawn for it is a multiple
-- of 4
unfoldable pub offlines_of : ℕ → ℕ → List Command
offlines_of number count =
    flat_map (λ k. if draw number (k + 1) % 4 == 0 then Offline (2 * k + 1) ∷ [] else []) (range_with_len 0 count)

-- what the generated script is to state: a boot, those commands, and a load with 5,128 rounds
abbrev pub script_of : ℕ → Script
script_of number = record {
  pool = 4096;
  patience = 10000000;
  commands = Boot [] ∷ offlines_of number 128 ++ Load false (codes "bundle.bin" ∷ []) (Rounds 5128 ∷ []) ∷ [];
}
