-- The limits that a script keeps to, for a machine of so many threads and cores.
use Rattle.std.specs.Prelude.{ℕ, ◌+◌, ◌*◌, ◌^◌, ◌≤◌, Bool, true, ◌&&◌, List, [], ◌∷◌, length, nat_le, nat_lt, ◌≡◌}
use Rattle.std.specs.List.{list_all}
use Rattle.rendezvous_steps.specs.declared.ends.Beat.{Beat}
use Rattle.rendezvous_steps.specs.declared.ends.Beat.TheVariants as beat
use Rattle.script_text.specs.declared.command.Command.{Command}
use Rattle.script_text.specs.declared.command.Command.TheVariants as command
use Rattle.script_text.specs.declared.forms.Limits.{Limits}
use Rattle.script_text.specs.Stated.{Stated}

-- an event of a thread that is there, or 1 to 65,535 rounds
abbrev pub fits_beat : Limits → Beat → Bool
fits_beat limits (beat.Step t) = nat_lt t limits.threads
fits_beat limits (beat.Timeout t) = nat_lt t limits.threads
fits_beat limits (beat.Nmi t) = nat_lt t limits.threads
fits_beat limits (beat.Run t) = nat_lt t limits.threads
fits_beat limits (beat.Rounds k) = nat_le 1 k && nat_lt k (2 ^ 16)

-- a round is one event of each thread
abbrev pub events_of_beat : Limits → Beat → ℕ
events_of_beat limits (beat.Rounds k) = k * limits.threads
events_of_beat limits event = 1

abbrev pub events_of : Limits → List Beat → ℕ
events_of limits [] = 0
events_of limits (beat ∷ beats) = events_of_beat limits beat + events_of limits beats

-- threads and cores are there; a boot has at most 16 names, and a load 1 to 16 and at most 4,194,304 events
abbrev pub fits_command : Limits → Command → Bool
fits_command limits (command.Boot names) = nat_le (length names) 16
fits_command limits (command.Online t) = nat_lt t limits.threads
fits_command limits (command.Offline t) = nat_lt t limits.threads
fits_command limits command.Suspend = true
fits_command limits command.Resume = true
fits_command limits (command.Refuse core) = nat_lt core limits.cores
fits_command limits (command.Accept core) = nat_lt core limits.cores
fits_command limits (command.Load force names beats) =
    (nat_le 1 (length names) && nat_le (length names) 16)
    && (nat_le (events_of limits beats) 4194304 && list_all (fits_beat limits) beats)

-- what every script keeps to
pub record IsWithin (limits : Limits) (script : Stated) : Type 0 where
  pub some_block : 1 ≤ script.pool
  pub few_blocks : script.pool ≤ 65536
  pub few_polls : script.patience ≤ 4294967295
  pub few_commands : length script.commands ≤ 4096
  pub each : list_all (fits_command limits) script.commands ≡ true
