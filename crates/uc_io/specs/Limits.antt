-- The bound of a read.
use Rattle.std.specs.Prelude.{ℕ, ◌<◌, ◌≤◌, length, Vec, Result, Ok, Err}
use Rattle.std.specs.declared.alloc.Global.{Global}
use Rattle.uc_io.specs.declared.reads.Unread.{Unread}
use Rattle.uc_io.specs.declared.reads.Unread.TheVariants.{Failed, TooLong, NoMemory}

-- no more bytes than the limit are given, and too many are found only past it
abbrev pub KeepsLimit : ℕ → Result (Vec ℕ Global) Unread → Type 0
KeepsLimit limit (Ok bytes) = length bytes.items ≤ limit
KeepsLimit limit (Err (TooLong taken)) = limit < taken
KeepsLimit limit (Err (Failed why)) = Unit {0}
KeepsLimit limit (Err NoMemory) = Unit {0}
