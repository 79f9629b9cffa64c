use Rattle.hw_machine.proofs.Cold.{all_are_cold}
use Rattle.hw_machine.proofs.Opening.{setting_is, groups_in_range}
use Rattle.hw_machine.proofs.machine.Machine.new.Goals as goal

pub invariant_of-result-clause-in_groups : goal.invariant_of-result-clause-in_groups
invariant_of-result-clause-in_groups c =
    rw (c.groups_of-group.ensures.items, c.firmware_revisions-bios.ensures.items) (groups_in_range _ c.groups_of-group.ensures.known)

pub returns-clause-setting : goal.returns-clause-setting
returns-clause-setting c =
    rw (c.groups_of-group.ensures.items, c.firmware_revisions-bios.ensures.items) (setting_is _ c.groups_of-group.ensures.known)

pub invariant_of-result-clause-cold_unless_on : goal.invariant_of-result-clause-cold_unless_on
invariant_of-result-clause-cold_unless_on c = λ _. all_are_cold _ _ c.filled-thread.ensures
