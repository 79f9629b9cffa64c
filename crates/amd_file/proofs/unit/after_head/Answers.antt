use Rattle.std.proofs.Common.{◌≤◌, ◌-◌, ◌/◌, ◌%◌, refl, sym, subst, arith}
use Rattle.uc_bytes.specs.declared.causes.FileCause.TheVariants as causes
use Rattle.amd_file.specs.declared.part.AmdPart.TheVariants.{Container}
use Rattle.amd_file.specs.declared.progress.Stage.TheVariants.{Head, Rows}
use Rattle.amd_file.specs.declared.unit.Step.{Step}
use Rattle.amd_file.specs.Parsing.{head_at}
use Rattle.amd_file.specs.Step.{IsStepFrom, onward_step}
use Rattle.amd_file.proofs.Steps.{fails_is, head_good, head_long}
use Rattle.amd_file.proofs.Units.{head_fails, head_passes}
use Rattle.amd_file.proofs.unit.after_head.Goals as goal

pub returns-in-Err-Short : goal.returns-in-Err-Short
returns-in-Err-Short c = absurd (head_long c.args.unit.now c.requires.unit (rw c.in-Err-Short.field-0-is at c.in-Err-Short.ensures))

pub returns-in-Err-Magic : goal.returns-in-Err-Magic
returns-in-Err-Magic c =
    let progress = c.args.progress in
    let first = rw c.in-Err-Magic.field-0-is at c.in-Err-Magic.ensures in
    fails_is Head progress c.args.unit.now causes.Magic _ c.failed-in-Err-Magic.ensures c.requires.begun (λ bytes told at.
    head_fails bytes c.args.unit.now told progress.fed progress.start progress.patches at c.requires.unit causes.Magic (λ cut. cut) first)

pub returns-in-Err-Type0 : goal.returns-in-Err-Type0
returns-in-Err-Type0 c =
    let progress = c.args.progress in
    let first = rw c.in-Err-Type0.field-0-is at c.in-Err-Type0.ensures in
    fails_is Head progress c.args.unit.now causes.EquivType _ c.failed-in-Err-Type0.ensures c.requires.begun (λ bytes told at.
    head_fails bytes c.args.unit.now told progress.fed progress.start progress.patches at c.requires.unit causes.EquivType (λ cut. cut) first)

pub returns-in-Err-TableSmall : goal.returns-in-Err-TableSmall
returns-in-Err-TableSmall c =
    let progress = c.args.progress in
    let first = rw c.in-Err-TableSmall.field-0-is at c.in-Err-TableSmall.ensures in
    fails_is Head progress c.args.unit.now causes.TableSmall _ c.failed-in-Err-TableSmall.ensures c.requires.begun (λ bytes told at.
    head_fails bytes c.args.unit.now told progress.fed progress.start progress.patches at c.requires.unit causes.TableSmall (λ cut. cut) first)

pub returns-in-Err-TableCut : goal.returns-in-Err-TableCut
returns-in-Err-TableCut c =
    let progress = c.args.progress in
    let unit = c.args.unit.now in
    let size = c.word_at-table_len.result in
    let good = head_good unit (rw c.in-Err-TableCut.field-0-is at c.in-Err-TableCut.ensures) in
    let some : 16 ≤ size = omega (arith, good.2, c.word_at-table_len.ensures) in
    let same : IsStepFrom Head progress unit (onward_step progress (Rows (size / 16 - 1) (size % 16)) (Container (head_at progress.start size))) = record {
      fed = refl;
      begun = c.requires.begun;
      short = omega arith;
      inside = c.requires.begun;
      told = λ bytes told at. head_passes bytes unit told progress.fed progress.start progress.patches at c.requires.unit size c.word_at-table_len.ensures good.0 good.1 some;
    } in
    subst (λ (s : Step). IsStepFrom Head progress unit s) (sym c.onward.ensures) same
