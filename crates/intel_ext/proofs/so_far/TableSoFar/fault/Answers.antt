use Rattle.std.proofs.Common.{subst, ℕ, Option}
use Rattle.intel_ext.specs.SoFar.{IsFirstBad}
use Rattle.intel_ext.proofs.Fronts.{sum_is_fault, entry_is_fault, table_is}
use Rattle.intel_ext.proofs.so_far.TableSoFar.fault.Goals as goal

pub returns-then-self-ne0 : goal.returns-then-self-ne0
returns-then-self-ne0 c = λ triple table pairs so_far all.
    sum_is_fault triple table c.args.self.now pairs so_far all c.if-self-ne0.true

pub returns-in-Some : goal.returns-in-Some
returns-in-Some c = λ triple table pairs so_far all.
    entry_is_fault triple table c.args.self.now pairs so_far all c.if-self-ne0.false c.in-Some.entry
    (subst (λ (bad : Option ℕ). IsFirstBad triple table c.args.self.now.came bad) c.in-Some.is so_far.bad)

pub returns-in-None : goal.returns-in-None
returns-in-None c = λ triple table pairs so_far all.
    table_is triple table c.args.self.now pairs so_far all c.if-self-ne0.false
    (subst (λ (bad : Option ℕ). IsFirstBad triple table c.args.self.now.came bad) c.in-None.is so_far.bad)
