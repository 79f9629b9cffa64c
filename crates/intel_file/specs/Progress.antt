-- How far an update came of which the bytes come one after another.
use Rattle.std.specs.Prelude.{◌≡◌, ℕ, ◌+◌, ◌*◌, ◌%◌, ◌<◌, ◌≤◌, List, [], ◌++◌, length}
use Rattle.uc_bytes.specs.Words.{word_sum_of}
use Rattle.uc_bytes.specs.declared.causes.FileCause.{FileCause}
use Rattle.intel_format.specs.declared.header.IntelHeader.{IntelHeader}
use Rattle.intel_format.specs.Header.{header_of, data_len, total_len, header_triple}
use Rattle.intel_format.specs.Update.{IsIntelUpdate, IsSoundHeader, IsTable}
use Rattle.intel_format.specs.Checks.{IsFirstFault}
use Rattle.intel_format.specs.Settled.{IsCut}
use Rattle.intel_file.specs.declared.progress.Stage.{Stage}
use Rattle.intel_file.specs.declared.progress.Stage.TheVariants.{Header, Data, TableHead, Entries, Over}
use Rattle.intel_file.specs.declared.progress.Progress.{Progress}
use Rattle.intel_file.specs.declared.progress.End.{End}
use Rattle.intel_file.specs.declared.progress.End.TheVariants.{More, Whole, Fault}
use Rattle.intel_ext.specs.SoFar.{IsTableSoFar}

-- an update has this fault wherever it stands among the first 65,536, and not for want of bytes
abbrev pub IsUpdateFault : List ℕ → FileCause → Type 0
IsUpdateFault own cause = ((before : ℕ) → before < 65536 → IsFirstFault before own cause) × (IsCut cause → ⊥)

-- whatever the update's bytes go on with, up to its length, it has this fault
abbrev pub IsDoomed : IntelHeader → List ℕ → FileCause → Type 0
IsDoomed h own cause = (more : List ℕ) → length own + length more ≡ total_len h → IsUpdateFault (own ++ more) cause

-- the header came
pub record HasHeader (h : IntelHeader) (done : List ℕ) : Type 0 where
  pub long : 48 ≤ length done
  pub header : h ≡ header_of done
  pub sound : IsSoundHeader h

-- the header and some data
pub record InData (p : Progress) (done : List ℕ) : Type 0 where
  pub has : HasHeader p.header done
  pub left : length done + p.left ≡ 48 + data_len p.header
  pub some : 0 < p.left
  pub even : p.left % 4 ≡ 0
  pub sum : p.sum ≡ word_sum_of done

-- the header and all data
pub record AfterData (p : Progress) (done : List ℕ) : Type 0 where
  pub has : HasHeader p.header done
  pub ended : length done ≡ 48 + data_len p.header
  pub sum : p.sum ≡ word_sum_of done

-- the same, and there is room for a table's head
pub record BeforeTable (p : Progress) (done : List ℕ) : Type 0 where
  pub after : AfterData p done
  pub room : length done + 20 ≤ total_len p.header

-- the header, the data, and the front of a table whose length goes with its count
pub record HasFront (p : Progress) (own : List ℕ) (pairs : List (ℕ × ℕ)) : Type 0 where
  pub done : List ℕ
  pub table : List ℕ
  pub split : own ≡ done ++ table
  pub after : AfterData p done
  pub so_far : IsTableSoFar (header_triple p.header) table p.table pairs
  pub whole : length done + (20 + 12 * p.table.count) ≡ total_len p.header

-- an entry is left, or none
abbrev pub InTable : Progress → List ℕ → List (ℕ × ℕ) → Type 0
InTable p own pairs = HasFront p own pairs × (p.table.came < p.table.count)

abbrev pub IsTableWhole : Progress → List ℕ → List (ℕ × ℕ) → Type 0
IsTableWhole p own pairs = HasFront p own pairs × (p.table.came ≡ p.table.count)

-- all came, and the table is sound, or there is none
pub record HasTable (p : Progress) (own : List ℕ) (pairs : List (ℕ × ℕ)) : Type 0 where
  pub done : List ℕ
  pub table : List ℕ
  pub split : own ≡ done ++ table
  pub after : AfterData p done
  pub is_table : IsTable (header_triple p.header) table pairs
  pub whole : length own ≡ total_len p.header

-- the header, and some of what is passed over
pub record IsPassed (p : Progress) (cause : FileCause) (own : List ℕ) : Type 0 where
  pub has : HasHeader p.header own
  pub left : length own + p.left ≡ total_len p.header
  pub some : 0 < p.left
  pub even : p.left % 4 ≡ 0
  pub doomed : IsDoomed p.header own cause

-- these bytes of an update came, in whole units, with these pairs of its table
abbrev pub IsAtStage : Stage → Progress → List ℕ → List (ℕ × ℕ) → Type 0
IsAtStage Header p done pairs = (done ≡ []) × (pairs ≡ [])
IsAtStage Data p done pairs = InData p done × (pairs ≡ [])
IsAtStage TableHead p done pairs = BeforeTable p done × (pairs ≡ [])
IsAtStage Entries p done pairs = InTable p done pairs
IsAtStage (Over cause) p done pairs = IsPassed p cause done × (pairs ≡ [])

abbrev pub IsAt : Progress → List ℕ → List (ℕ × ℕ) → Type 0
IsAt p done pairs = IsAtStage p.stage p done pairs

-- so many bytes are no more than are left where words come
abbrev pub IsWithinStage : Stage → ℕ → ℕ → Type 0
IsWithinStage Data left n = n ≤ left
IsWithinStage (Over cause) left n = n ≤ left
IsWithinStage stage left n = Unit {0}

abbrev pub IsWithin : Progress → ℕ → Type 0
IsWithin p n = IsWithinStage p.stage p.left n

-- what these bytes lead to: more are to come, or they are an update with these pairs, or have a fault
abbrev pub IsCome : List ℕ → List (ℕ × ℕ) → Progress → End → Type 0
IsCome own pairs p More = IsAt p own pairs
IsCome own pairs p (Whole count) = IsIntelUpdate own p.header pairs × (count ≡ length pairs) × IsAt p [] []
IsCome own pairs p (Fault cause) = IsUpdateFault own cause
