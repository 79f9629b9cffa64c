use Rattle.std.proofs.Common.{◌-◌, length, refl, sym, subst, arith}
use Rattle.amd_file.specs.declared.part.AmdPart.TheVariants.{More}
use Rattle.amd_file.specs.declared.progress.Stage.TheVariants.{Body}
use Rattle.amd_file.specs.declared.unit.Step.{Step}
use Rattle.amd_file.specs.Step.{IsStepFrom, onward_step}
use Rattle.amd_file.proofs.Steps.{end_is}
use Rattle.amd_file.proofs.Units.{body_on, body_ends}
use Rattle.amd_file.proofs.unit.after_body.Goals as goal

pub returns-then-unit-left : goal.returns-then-unit-left
returns-then-unit-left c =
    let progress = c.args.progress in
    let unit = c.args.unit.now in
    let stage = Body c.args.header c.args.left in
    let same : IsStepFrom stage progress unit (onward_step progress (Body c.args.header (c.args.left - length unit)) More) = record {
      fed = refl;
      begun = c.requires.begun;
      short = omega arith;
      inside = tt;
      told = λ bytes told at. body_on bytes unit told progress.fed progress.start progress.patches c.args.header c.args.left at c.if-unit-left.true;
    } in
    subst (λ (s : Step). IsStepFrom stage progress unit s) (sym c.onward.ensures) same

pub returns-else-unit-left : goal.returns-else-unit-left
returns-else-unit-left c =
    let progress = c.args.progress in
    let unit = c.args.unit.now in
    end_is (Body c.args.header c.args.left) progress unit c.args.header c.patch_end.result c.patch_end.ensures (λ bytes told at.
    body_ends bytes unit told progress.fed progress.start progress.patches c.args.header c.args.left at (omega (arith, c.requires.unit, c.if-unit-left.false)))
