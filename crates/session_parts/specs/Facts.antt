-- What the cores of a group are.
use Rattle.std.specs.Prelude.{ℕ}
use Rattle.uc_topology.specs.Stated.{Machine, group_facts}
use Rattle.entry_model.specs.declared.facts.CoreFacts.{CoreFacts}

-- the facts of the cores of a group, at a revision
abbrev pub facts_at : Machine → ℕ → ℕ → CoreFacts
facts_at machine group rev = record {
  vendor = machine.vendor;
  sig = (group_facts machine.stated.cores group).sig;
  flags = (group_facts machine.stated.cores group).flags;
  rev = rev;
}
