use Rattle.std.proofs.Common.{◌-◌, length, refl, sym, subst, arith}
use Rattle.amd_file.specs.declared.part.AmdPart.TheVariants.{More}
use Rattle.amd_file.specs.declared.progress.Stage.TheVariants.{Tail}
use Rattle.amd_file.specs.declared.unit.Step.{Step}
use Rattle.amd_file.specs.Step.{IsStepFrom, onward_step, table_step}
use Rattle.amd_file.proofs.Units.{tail_on, tail_ends}
use Rattle.amd_file.proofs.unit.after_tail.Goals as goal

pub returns-then-unit-left : goal.returns-then-unit-left
returns-then-unit-left c =
    let progress = c.args.progress in
    let unit = c.args.unit.now in
    let same : IsStepFrom (Tail c.args.left) progress unit (onward_step progress (Tail (c.args.left - length unit)) More) = record {
      fed = refl;
      begun = c.requires.begun;
      short = omega arith;
      inside = tt;
      told = λ bytes told at. tail_on bytes unit told progress.fed progress.start progress.patches c.args.left at c.if-unit-left.true;
    } in
    subst (λ (s : Step). IsStepFrom (Tail c.args.left) progress unit s) (sym c.onward.ensures) same

pub returns-else-unit-left : goal.returns-else-unit-left
returns-else-unit-left c =
    let progress = c.args.progress in
    let unit = c.args.unit.now in
    let same : IsStepFrom (Tail c.args.left) progress unit (table_step progress More) = record {
      fed = refl;
      begun = omega arith;
      short = omega arith;
      inside = tt;
      told = λ bytes told at. tail_ends bytes unit told progress.fed progress.start progress.patches c.args.left at (omega (arith, c.requires.unit, c.if-unit-left.false));
    } in
    subst (λ (s : Step). IsStepFrom (Tail c.args.left) progress unit s) (sym c.table_end.ensures) same
