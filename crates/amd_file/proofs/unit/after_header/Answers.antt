use Rattle.std.proofs.Common.{ℕ, ◌-◌, refl, sym, subst, arith}
use Rattle.amd_file.specs.declared.part.AmdPart.TheVariants.{More}
use Rattle.amd_file.specs.declared.progress.Stage.TheVariants.{Header, Body}
use Rattle.amd_file.specs.declared.unit.Step.{Step}
use Rattle.amd_file.specs.Step.{IsStepFrom, onward_step}
use Rattle.amd_file.proofs.Steps.{end_is}
use Rattle.amd_file.proofs.Units.{header_on, header_ends}
use Rattle.amd_file.proofs.unit.after_header.Goals as goal

pub returns-then-size-gt64 : goal.returns-then-size-gt64
returns-then-size-gt64 c =
    let progress = c.args.progress in
    let unit = c.args.unit.now in
    let header = c.read_header-header.result in
    let len = c.read_header-header.ensures.len in
    let same : IsStepFrom (Header header.len) progress unit (onward_step progress (Body header (header.len - 65)) More) = record {
      fed = refl;
      begun = c.requires.begun;
      short = omega arith;
      inside = tt;
      told = λ bytes told at. header_on bytes unit told progress.fed progress.start progress.patches header at c.requires.unit c.read_header-header.ensures.header (omega (arith, len, c.if-size-gt64.true));
    } in
    subst (λ (s : Step). IsStepFrom (Header c.args.size) progress unit s) (sym c.onward.ensures)
    (subst (λ (n : ℕ). IsStepFrom (Header n) progress unit (onward_step progress (Body header (n - 65)) More)) len same)

pub returns-else-size-gt64 : goal.returns-else-size-gt64
returns-else-size-gt64 c =
    let progress = c.args.progress in
    let unit = c.args.unit.now in
    let header = c.read_header-header.result in
    let len = c.read_header-header.ensures.len in
    let same : IsStepFrom (Header header.len) progress unit c.patch_end.result =
    end_is (Header header.len) progress unit header c.patch_end.result c.patch_end.ensures (λ bytes told at.
    header_ends bytes unit told progress.fed progress.start progress.patches header at c.requires.unit c.read_header-header.ensures.header (omega (arith, len, c.if-size-gt64.false))) in
    subst (λ (n : ℕ). IsStepFrom (Header n) progress unit c.patch_end.result) len same
