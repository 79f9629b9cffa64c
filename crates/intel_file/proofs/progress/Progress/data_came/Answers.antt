use Rattle.std.proofs.Common.{◌+◌, ◌-◌, ◌%◌, ◌^◌, ℕ, [], ◌++◌, length, refl, sym, ap, subst, arith}
use Rattle.intel_file.specs.declared.progress.Progress.{Progress}
use Rattle.intel_file.specs.declared.progress.Stage.{Stage}
use Rattle.intel_file.specs.Progress.{IsAtStage}
use Rattle.intel_file.proofs.Steps.{data_on, data_ends}
use Rattle.intel_file.proofs.progress.Progress.data_came.Goals as goal

pub returns-then-self-eq0 : goal.returns-then-self-eq0
returns-then-self-eq0 c = λ done stage begun within.
    let p = c.args.self.now in
    let q : Progress = record { stage = p.stage; header = p.header; left = (p.left + (2 ^ 64 - length c.args.unit.now)) % 2 ^ 64; sum = (p.sum + c.word_sum.result) % 2 ^ 32; table = p.table } in
    c.close_data.ensures (done ++ c.args.unit.now)
    (data_ends p q done c.args.unit.now begun c.requires refl (omega arith) (ap (λ (n : ℕ). (p.sum + n) % 2 ^ 32) c.word_sum.ensures) (omega arith))

pub returns-else-self-eq0 : goal.returns-else-self-eq0
returns-else-self-eq0 c = λ done stage begun within.
    let p = c.args.self.now in
    let q : Progress = record { stage = p.stage; header = p.header; left = (p.left + (2 ^ 64 - length c.args.unit.now)) % 2 ^ 64; sum = (p.sum + c.word_sum.result) % 2 ^ 32; table = p.table } in
    subst (λ (s : Stage). IsAtStage s q (done ++ c.args.unit.now) []) (sym stage)
    (data_on p q done c.args.unit.now begun c.requires refl (omega arith) (ap (λ (n : ℕ). (p.sum + n) % 2 ^ 32) c.word_sum.ensures) (omega arith), refl)
