-- The units in which an update comes.
use Rattle.std.specs.Prelude.{◌≡◌, ℕ, ◌%◌}
use Rattle.intel_file.specs.declared.progress.Stage.{Stage}
use Rattle.intel_file.specs.declared.progress.Stage.TheVariants.{Header, Data, TableHead, Entries, Over}

-- how many bytes the next unit has
abbrev pub unit_of : Stage → ℕ
unit_of Header = 48
unit_of Data = 4
unit_of TableHead = 20
unit_of Entries = 12
unit_of (Over cause) = 4

-- so many bytes are a unit, or whole words where words come
abbrev pub IsUnit : Stage → ℕ → Type 0
IsUnit Header n = n ≡ 48
IsUnit Data n = n % 4 ≡ 0
IsUnit TableHead n = n ≡ 20
IsUnit Entries n = n ≡ 12
IsUnit (Over cause) n = n % 4 ≡ 0
