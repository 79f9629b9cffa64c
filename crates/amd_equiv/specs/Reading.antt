-- What the reading of a container's head and table gives.
use Rattle.std.specs.Prelude.{◌≡◌, ℕ, List, ◌++◌, Result, Ok, Err}
use Rattle.uc_bytes.specs.declared.causes.FileCause.{FileCause}
use Rattle.uc_bytes.specs.declared.causes.FileCause.TheVariants as causes
use Rattle.amd_format.specs.Equiv.{IsEquiv}
use Rattle.amd_format.specs.Checks.{IsFirstEquivFault}
use Rattle.amd_equiv.specs.declared.fault.EquivFault.{EquivFault}
use Rattle.amd_equiv.specs.declared.fault.EquivFault.TheVariants.{Short, Magic, Type0, TableSmall, TableCut}

-- the cause of a file that a container's fault is
abbrev pub cause_of : EquivFault → FileCause
cause_of Short = causes.EquivShort
cause_of Magic = causes.Magic
cause_of Type0 = causes.EquivType
cause_of TableSmall = causes.TableSmall
cause_of TableCut = causes.TableCut

-- the bytes begin with this head and table
pub record BeginsWithEquiv (bytes equiv : List ℕ) : Type 0 where
  pub rest : List ℕ
  pub is : IsEquiv equiv
  pub split : bytes ≡ equiv ++ rest

-- the head and table at the front, where they are such; else the first check that fails
abbrev pub IsEquivRead : List ℕ → Result (List ℕ) EquivFault → Type 0
IsEquivRead bytes (Ok equiv) = BeginsWithEquiv bytes equiv
IsEquivRead bytes (Err fault) = IsFirstEquivFault bytes (cause_of fault)
