-- Lines of one event each, taken one after the other.
use Rattle.std.specs.Prelude.{◌≡◌, ◌≤◌, ℕ, List, length}
use Rattle.rendezvous_steps.specs.declared.ends.Beat.{Beat}
use Rattle.script_text.specs.declared.command.OpenLoad.{OpenLoad}
use Rattle.script_text.specs.declared.forms.Limits.{Limits}
use Rattle.script_text.specs.declared.forms.Place.TheVariants.{InLoad}
use Rattle.script_text.specs.Stands.{Before}
use Rattle.script_text.specs.Reading.{read_on}

-- a load that has the old beats before these lines is read as one that has the new beats before those that are left
pub record ReadsOn (limits : Limits) (lines : List (ℕ × List ℕ)) (old : List Beat) (left : List (ℕ × List ℕ))
    (new : List Beat) : Type 0 where
  pub same : (before : Before) (load : OpenLoad)
      → read_on limits (record before { place = InLoad; load = record load { beats = new } }) left
      ≡ read_on limits (record before { place = InLoad; load = record load { beats = old } }) lines
  pub fewer : length left ≤ length lines
