use Rattle.uc_topology.proofs.Kept.{AreTables-none}
use Rattle.uc_topology.proofs.tables.Tables.new.Goals as goal

pub invariant_of-result : goal.invariant_of-result
invariant_of-result c = rw (c.new.ensures, c.new-2.ensures, c.new-3.ensures, c.new-4.ensures) AreTables-none
