use Rattle.std.proofs.Common.{◌≡◌, drop}
use Rattle.amd_format.specs.Equiv.{rows_of, id_of}
use Rattle.amd_equiv.proofs.table.EquivTable.id_of.Given as goal

-- no row before it has the signature
abbrev pub invariant-loop-i : goal.invariant-loop-i
invariant-loop-i l = id_of (rows_of l.self) l.sig ≡ id_of (drop l.i (rows_of l.self)) l.sig
