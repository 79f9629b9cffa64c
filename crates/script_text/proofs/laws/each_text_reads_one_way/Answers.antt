use Rattle.script_text.proofs.OneReading.{one_each, one_script, one_fault, never_both}
use Rattle.script_text.proofs.laws.each_text_reads_one_way.Goals as goal

pub returns-clause-reads : goal.returns-clause-reads
returns-clause-reads c = one_each

pub returns-clause-one_script : goal.returns-clause-one_script
returns-clause-one_script c = one_script

pub returns-clause-one_fault : goal.returns-clause-one_fault
returns-clause-one_fault c = one_fault

pub returns-clause-never_both : goal.returns-clause-never_both
returns-clause-never_both c = never_both
