use Rattle.std.proofs.Common.{refl, arith}
use Rattle.intel_file.specs.declared.progress.Progress.{Progress}
use Rattle.intel_file.specs.declared.progress.Stage.TheVariants.{Over}
use Rattle.uc_bytes.specs.declared.causes.FileCause.TheVariants.{ExtCut}
use Rattle.intel_file.proofs.Steps.{passes_cut}
use Rattle.intel_file.proofs.progress.Progress.close_data.Goals as goal

pub returns-then-table_len-lt20 : goal.returns-then-table_len-lt20
returns-then-table_len-lt20 c = λ done after.
    let p = c.args.self.now in
    let q : Progress = record { stage = Over ExtCut; header = p.header; left = c.table_len-table_len.result; sum = p.sum; table = p.table } in
    (passes_cut p q done after refl (c.table_len-table_len.ensures done after) (omega arith) (omega arith), refl)
