-- What the reading of a header gives.
use Rattle.std.specs.Prelude.{◌≡◌, ℕ, ◌≤◌, List, length, Result, Ok, Err}
use Rattle.uc_bytes.specs.declared.causes.FileCause.{FileCause}
use Rattle.uc_bytes.specs.declared.causes.FileCause.TheVariants as causes
use Rattle.intel_format.specs.declared.header.IntelHeader.{IntelHeader}
use Rattle.intel_format.specs.Header.{header_of}
use Rattle.intel_format.specs.Update.{IsSoundHeader}
use Rattle.intel_format.specs.Checks.{IsFirstHeaderFault}
use Rattle.intel_header.specs.declared.header.HeaderFault.{HeaderFault}
use Rattle.intel_header.specs.declared.header.HeaderFault.TheVariants.{Short, SizeUnaligned, TotalSmall, DataPastTotal, Version}

-- the cause of a file that a header's fault is
abbrev pub cause_of : HeaderFault → FileCause
cause_of Short = causes.Short
cause_of SizeUnaligned = causes.SizeUnaligned
cause_of TotalSmall = causes.TotalSmall
cause_of DataPastTotal = causes.DataPastTotal
cause_of Version = causes.Version

-- the header at the front, where there is a sound one; else the first check that fails
abbrev pub IsHeaderRead : List ℕ → Result IntelHeader HeaderFault → Type 0
IsHeaderRead bytes (Ok h) = (48 ≤ length bytes) × (h ≡ header_of bytes) × IsSoundHeader h
IsHeaderRead bytes (Err fault) = IsFirstHeaderFault bytes (cause_of fault)
