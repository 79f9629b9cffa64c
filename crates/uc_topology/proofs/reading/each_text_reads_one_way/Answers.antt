use Rattle.uc_topology.proofs.Laws.{one_each, one_machine, one_fault, never_both}
use Rattle.uc_topology.proofs.reading.each_text_reads_one_way.Goals as goal

pub returns-clause-reads : goal.returns-clause-reads
returns-clause-reads c = one_each

pub returns-clause-one_machine : goal.returns-clause-one_machine
returns-clause-one_machine c = one_machine

pub returns-clause-one_fault : goal.returns-clause-one_fault
returns-clause-one_fault c = one_fault

pub returns-clause-never_both : goal.returns-clause-never_both
returns-clause-never_both c = never_both
