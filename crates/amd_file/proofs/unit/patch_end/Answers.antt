use Rattle.std.proofs.Common.{◌≡◌, ℕ, ◌+◌, Bool, IsTrue, false, refl, sym, subst, arith}
use Rattle.uc_bytes.specs.declared.causes.FileCause.TheVariants as causes
use Rattle.amd_format.specs.Patch.{PastBound, patch_family}
use Rattle.amd_file.specs.declared.part.AmdPart.TheVariants.{Patch}
use Rattle.amd_file.specs.declared.progress.Stage.TheVariants.{Next}
use Rattle.amd_file.specs.Step.{IsEndStep, patch_step}
use Rattle.amd_file.proofs.Steps.{end_fails_is}
use Rattle.amd_file.proofs.Units.{end_past, end_chipset, end_many, end_good}
use Rattle.amd_file.proofs.unit.patch_end.Goals as goal

pub returns-then-is_past_bound : goal.returns-then-is_past_bound
returns-then-is_past_bound c =
    let progress = c.args.progress in
    let header = c.args.header in
    let past : PastBound (patch_family header.id) header.len =
    subst (λ (n : ℕ). PastBound n header.len) c.patch_family.ensures (c.if-is_past_bound.ensures.0 refl) in
    end_fails_is progress header causes.FamilySize _ c.failed.ensures c.requires.begun (λ bytes told at.
    end_past bytes told progress.fed progress.start progress.patches header at past)

pub returns-then-header : goal.returns-then-header
returns-then-header c =
    let progress = c.args.progress in
    let header = c.args.header in
    let bounded : PastBound (patch_family header.id) header.len → ⊥ =
    λ past. cc (c.if-is_past_bound.ensures.1 (subst (λ (n : ℕ). PastBound n header.len) (sym c.patch_family.ensures) past)) in
    end_fails_is progress header causes.Chipset _ c.failed-then-header.ensures c.requires.begun (λ bytes told at.
    end_chipset bytes told progress.fed progress.start progress.patches header at bounded c.if-header.true)

-- what is false is not true
not_true : (b : Bool) → b ≡ false → IsTrue b → ⊥
not_true b is holds = absurd (cc)

pub returns-then-progress-ge-MOST_PATCHES : goal.returns-then-progress-ge-MOST_PATCHES
returns-then-progress-ge-MOST_PATCHES c =
    let progress = c.args.progress in
    let header = c.args.header in
    let bounded : PastBound (patch_family header.id) header.len → ⊥ =
    λ past. cc (c.if-is_past_bound.ensures.1 (subst (λ (n : ℕ). PastBound n header.len) (sym c.patch_family.ensures) past)) in
    end_fails_is progress header causes.TooMany _ c.failed-then-progress-ge-MOST_PATCHES.ensures c.requires.begun (λ bytes told at.
    end_many bytes told progress.fed progress.start progress.patches header at bounded (not_true header.for_chipset c.if-header.false) c.if-progress-ge-MOST_PATCHES.true)

pub returns : goal.returns
returns c =
    let progress = c.args.progress in
    let header = c.args.header in
    let bounded : PastBound (patch_family header.id) header.len → ⊥ =
    λ past. cc (c.if-is_past_bound.ensures.1 (subst (λ (n : ℕ). PastBound n header.len) (sym c.patch_family.ensures) past)) in
    let same : IsEndStep progress header (patch_step progress header) = record {
      fed = refl;
      begun = omega arith;
      keeps = refl;
      short = omega arith;
      inside = (omega (arith, c.requires.begun), omega arith);
      told = λ bytes told at. end_good bytes told progress.fed progress.start progress.patches header at bounded (not_true header.for_chipset c.if-header.false) c.if-progress-ge-MOST_PATCHES.false;
    } in
    subst (λ (n : ℕ). IsEndStep progress header (record {
      progress = record { fed = progress.fed; start = progress.fed; patches = progress.patches + 1; stage = Next };
      part = Patch (record { start = progress.start + 8; len = n; rev = header.rev; id = header.id });
      keeps = false;
    })) (sym c.from.ensures) same
