-- What the shown state reads of a thread's state besides the words: small tests of its phase and of its result.
use Rattle.std.specs.Prelude.{ℕ, Bool, true, false, not, ◌==◌}
use Rattle.rendezvous_steps.specs.declared.steps.Phase.{Phase}
use Rattle.rendezvous_steps.specs.declared.steps.Phase.TheVariants.{Outside, Kicking, OfflineWait, Arriving, Deciding}
use Rattle.rendezvous_steps.specs.declared.steps.Phase.TheVariants.{Writing, Checking, Reporting, Freeing, OfflineHold}
use Rattle.rendezvous_steps.specs.declared.steps.Phase.TheVariants.{Leaving, Left, Halted}
use Rattle.rendezvous_steps.specs.declared.steps.Local.{Local}
use Rattle.rendezvous_steps.specs.declared.steps.ThreadResult.TheVariants as results
use Rattle.rendezvous_steps.specs.StepTable.{number_of}

-- an Online thread other than 0 has counted itself in
unfoldable pub past_arriving : Phase → Bool
past_arriving Outside = false
past_arriving Kicking = false
past_arriving OfflineWait = false
past_arriving Arriving = false
past_arriving phase = true

-- an Offline thread has counted itself in
unfoldable pub has_counted : Phase → Bool
has_counted OfflineHold = true
has_counted Leaving = true
has_counted Left = true
has_counted Halted = true
has_counted phase = false

unfoldable pub is_deciding : Phase → Bool
is_deciding Deciding = true
is_deciding phase = false

unfoldable pub is_writing : Phase → Bool
is_writing Writing = true
is_writing phase = false

-- a primary has written. One that leaves for the timeout has not
abbrev pub wrote : Phase → ℕ → Bool
wrote Checking mine = true
wrote Reporting mine = true
wrote Freeing mine = true
wrote Leaving mine = not (mine == number_of results.Timeout)
wrote Left mine = not (mine == number_of results.Timeout)
wrote phase mine = false

unfoldable pub past_writing : Local → Bool
past_writing local = wrote local.phase local.mine
