use Rattle.std.proofs.Common.{◌+◌, ◌-◌, ◌%◌, ◌^◌, [], ◌++◌, length, refl, sym, subst, arith}
use Rattle.intel_file.specs.declared.progress.Progress.{Progress}
use Rattle.intel_file.specs.declared.progress.Stage.{Stage}
use Rattle.intel_file.specs.Progress.{IsAtStage}
use Rattle.intel_file.proofs.Steps.{passed_on, passed_all}
use Rattle.intel_file.proofs.progress.Progress.passed.Goals as goal

pub returns-then-self-eq0 : goal.returns-then-self-eq0
returns-then-self-eq0 c = λ own stage passed even within.
    let p = c.args.self.now in
    let q : Progress = record { stage = p.stage; header = p.header; left = (p.left + (2 ^ 64 - length c.args.unit.now)) % 2 ^ 64; sum = p.sum; table = p.table } in
    passed_all p q c.args.cause own c.args.unit.now passed even refl (omega arith) (omega arith)

pub returns-else-self-eq0 : goal.returns-else-self-eq0
returns-else-self-eq0 c = λ own stage passed even within.
    let p = c.args.self.now in
    let q : Progress = record { stage = p.stage; header = p.header; left = (p.left + (2 ^ 64 - length c.args.unit.now)) % 2 ^ 64; sum = p.sum; table = p.table } in
    subst (λ (s : Stage). IsAtStage s q (own ++ c.args.unit.now) []) (sym stage)
    (passed_on p q c.args.cause own c.args.unit.now passed even refl (omega arith) (omega arith), refl)
