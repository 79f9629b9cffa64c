-- The commands of a script that keeps to the limits of a machine are in that machine's range.
use Rattle.std.proofs.Common.{◌≡◌, ℕ, ◌≤◌, Bool, true, nat_le, List, length}
use Rattle.std.specs.List.{All, list_all}
use Rattle.std.proofs.lemmas.Bool.{leb-true, ltb-true, and_parts}
use Rattle.std.proofs.lemmas.List.Sums.{AllPass-from_list_all}
use Rattle.rendezvous_rule.specs.Runs.{BeatInRange}
use Rattle.rendezvous_steps.specs.declared.ends.Beat.{Beat}
use Rattle.rendezvous_steps.specs.declared.ends.Beat.TheVariants.{Step, Timeout, Nmi, Run, Rounds}
use Rattle.script_text.specs.declared.command.Command.{Command}
use Rattle.script_text.specs.declared.command.Command.TheVariants as command
use Rattle.script_text.specs.declared.forms.Limits.{Limits}
use Rattle.script_text.specs.Within.{fits_beat, events_of, fits_command}
use Rattle.session_steps.specs.State.{Setting, machine_of}
use Rattle.session_laws.specs.Standing.{InRange}

beat_in_range : (limits : Limits) (beat : Beat) → fits_beat limits beat ≡ true → BeatInRange limits.threads beat
beat_in_range limits (Step t) fits = ltb-true t limits.threads fits
beat_in_range limits (Timeout t) fits = ltb-true t limits.threads fits
beat_in_range limits (Nmi t) fits = ltb-true t limits.threads fits
beat_in_range limits (Run t) fits = ltb-true t limits.threads fits
beat_in_range limits (Rounds k) fits = tt

-- the names are few, and the events are of threads that are there
load_parts : (limits : Limits) (force : Bool) (names : List (List ℕ)) (beats : List Beat) →
    fits_command limits (command.Load force names beats) ≡ true →
    (length names ≤ 16) × All (λ beat. BeatInRange limits.threads beat) beats
load_parts limits force names beats fits =
    let both = and_parts _ _ fits in
    let few = and_parts (nat_le 1 (length names)) (nat_le (length names) 16) both.0 in
    let each = and_parts (nat_le (events_of limits beats) 4194304) (list_all (fits_beat limits) beats) both.1 in (
      leb-true (length names) 16 few.1,
      λ k d below. beat_in_range limits _ (AllPass-from_list_all (fits_beat limits) beats each.1 k d below),
    )

pub beats_in_range : (limits : Limits) (force : Bool) (names : List (List ℕ)) (beats : List Beat) →
    fits_command limits (command.Load force names beats) ≡ true →
    All (λ beat. BeatInRange limits.threads beat) beats
beats_in_range limits force names beats fits = (load_parts limits force names beats fits).1

abbrev pub limits_of : Setting → Limits
limits_of setting =
    record { threads = (machine_of setting).threads; cores = length setting.machine.stated.cores }

pub in_range : (setting : Setting) (one : Command) → fits_command (limits_of setting) one ≡ true → InRange setting one
in_range setting (command.Boot names) fits = leb-true (length names) 16 fits
in_range setting (command.Online t) fits = ltb-true t (machine_of setting).threads fits
in_range setting (command.Offline t) fits = ltb-true t (machine_of setting).threads fits
in_range setting command.Suspend fits = tt
in_range setting command.Resume fits = tt
in_range setting (command.Refuse core) fits = ltb-true core (length setting.machine.stated.cores) fits
in_range setting (command.Accept core) fits = ltb-true core (length setting.machine.stated.cores) fits
in_range setting (command.Load force names beats) fits = (load_parts (limits_of setting) force names beats fits).0

pub all_in_range : (setting : Setting) (commands : List Command) →
    list_all (fits_command (limits_of setting)) commands ≡ true → All (λ one. InRange setting one) commands
all_in_range setting commands each k d below =
    in_range setting _ (AllPass-from_list_all (fits_command (limits_of setting)) commands each k d below)
