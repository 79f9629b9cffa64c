use Rattle.hw_machine.proofs.Cold.{all_are_cold}
use Rattle.hw_machine.proofs.machine.Machine.suspend.Goals as goal

pub invariant_of-self-clause-cold_unless_on : goal.invariant_of-self-clause-cold_unless_on
invariant_of-self-clause-cold_unless_on c = λ _. all_are_cold _ _ c.filled-self.ensures
