use Rattle.std.proofs.Common.{inl, inr, refl, sym, ◌∙◌, subst, arith}
use Rattle.uc_bytes.specs.declared.causes.FileCause.TheVariants.{SectionType, PatchSmall}
use Rattle.amd_file.specs.declared.part.AmdPart.TheVariants.{More}
use Rattle.amd_file.specs.declared.progress.Stage.TheVariants.{Next, Header}
use Rattle.amd_file.specs.declared.unit.Step.{Step}
use Rattle.amd_file.specs.Step.{IsStepFrom, onward_step}
use Rattle.amd_file.proofs.Steps.{fails_is}
use Rattle.amd_file.proofs.Units.{next_magic, next_fails, next_section}
use Rattle.amd_file.proofs.unit.after_next.Goals as goal

pub returns-then-first-eq-AMD_MAGIC : goal.returns-then-first-eq-AMD_MAGIC
returns-then-first-eq-AMD_MAGIC c =
    let progress = c.args.progress in
    record {
      fed = refl;
      begun = c.requires.begun;
      short = omega (arith, c.requires.unit);
      inside = tt;
      told = λ bytes told at. next_magic bytes c.args.unit.now told progress.fed progress.start progress.patches at c.requires.unit (sym c.word_at-first.ensures ∙ c.if-first-eq-AMD_MAGIC.true);
    }

pub returns-then-first-ne1 : goal.returns-then-first-ne1
returns-then-first-ne1 c =
    let progress = c.args.progress in
    let unit = c.args.unit.now in
    fails_is Next progress unit SectionType _ c.failed.ensures c.requires.begun (λ bytes told at.
    next_fails bytes unit told progress.fed progress.start progress.patches at c.requires.unit SectionType (λ cut. cut)
    (λ magic. c.if-first-eq-AMD_MAGIC.false (c.word_at-first.ensures ∙ magic))
    (λ before. inr (λ short. omega (arith, short, c.requires.unit), inl (λ one. c.if-first-ne1.true (c.word_at-first.ensures ∙ one), refl))))

pub returns-then-size-lt64 : goal.returns-then-size-lt64
returns-then-size-lt64 c =
    let progress = c.args.progress in
    let unit = c.args.unit.now in
    fails_is Next progress unit PatchSmall _ c.failed-then-size-lt64.ensures c.requires.begun (λ bytes told at.
    next_fails bytes unit told progress.fed progress.start progress.patches at c.requires.unit PatchSmall (λ cut. cut)
    (λ magic. c.if-first-eq-AMD_MAGIC.false (c.word_at-first.ensures ∙ magic))
    (λ before. inr (λ short. omega (arith, short, c.requires.unit), inr (λ other. other (sym c.word_at-first.ensures ∙ c.if-first-ne1.false), inl (omega (arith, c.word_at-size.ensures, c.if-size-lt64.true), refl)))))

pub returns : goal.returns
returns c =
    let progress = c.args.progress in
    let unit = c.args.unit.now in
    let size = c.word_at-size.result in
    let same : IsStepFrom Next progress unit (onward_step progress (Header size) More) = record {
      fed = refl;
      begun = c.requires.begun;
      short = omega arith;
      inside = tt;
      told = λ bytes told at. next_section bytes unit told progress.fed progress.start progress.patches at c.requires.unit size c.word_at-size.ensures (sym c.word_at-first.ensures ∙ c.if-first-ne1.false) c.if-size-lt64.false;
    } in
    subst (λ (s : Step). IsStepFrom Next progress unit s) (sym c.onward.ensures) same
