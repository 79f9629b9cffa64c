-- The steps of units, by what stands behind them.
use Rattle.std.proofs.Common.{◌≡◌, ◌≢◌, inl, inr, ℕ, ◌<◌, ◌≤◌, List, [], length, refl, sym, ap, subst, arith}
use Rattle.uc_bytes.specs.Words.{word}
use Rattle.uc_bytes.specs.declared.causes.FileCause.{FileCause}
use Rattle.amd_format.specs.Equiv.{amd_magic}
use Rattle.uc_bytes.specs.declared.causes.FileCause.TheVariants as causes
use Rattle.std.proofs.lemmas.Bool.{cases_eq}
use Rattle.std.specs.Prelude.{Bool}
use Rattle.fault_rule.proofs.Search.{first_fails}
use Rattle.amd_format.specs.Checks.{EquivFails, equiv_checks, IsFirstEquivFault}
use Rattle.amd_format.proofs.Begins.{at_least}
use Rattle.amd_file.specs.declared.part.AmdPart.{AmdPart}
use Rattle.amd_file.specs.declared.progress.PatchHeader.{PatchHeader}
use Rattle.amd_file.specs.declared.progress.Progress.{Progress}
use Rattle.amd_file.specs.declared.progress.Stage.{Stage}
use Rattle.amd_file.specs.declared.unit.Step.{Step}
use Rattle.amd_file.specs.Stage.{want}
use Rattle.amd_file.specs.Parsing.{IsFailed, StandsAt, IsTold}
use Rattle.amd_file.specs.Step.{IsStepFrom, IsEndStep, IsAtEnd, held_by, fault_of, fault_step}

-- the step of a unit with which a fault is settled
pub fails_is : (stage : Stage) (progress : Progress) (unit : List ℕ) (cause : FileCause) (step : Step) → step ≡ fault_step progress cause → progress.start ≤ progress.fed
    → ((bytes : List ℕ) (told : List AmdPart) → StandsAt stage bytes told progress.fed progress.start progress.patches unit → IsFailed bytes progress.fed (fault_of progress cause))
    → IsStepFrom stage progress unit step
fails_is stage progress unit cause step is begun failed =
    let same : IsStepFrom stage progress unit (fault_step progress cause) = record {
      fed = refl;
      begun = begun;
      short = omega arith;
      inside = tt;
      told = λ bytes told at. (failed bytes told at, (failed bytes told at).settled);
    } in
    subst (λ (s : Step). IsStepFrom stage progress unit s) (sym is) same

-- the same of a patch that came whole
pub end_fails_is : (progress : Progress) (header : PatchHeader) (cause : FileCause) (step : Step) → step ≡ fault_step progress cause → progress.start ≤ progress.fed
    → ((bytes : List ℕ) (told : List AmdPart) → IsAtEnd bytes told progress.fed progress.start progress.patches header → IsFailed bytes progress.fed (fault_of progress cause))
    → IsEndStep progress header step
end_fails_is progress header cause step is begun failed =
    let same : IsEndStep progress header (fault_step progress cause) = record {
      fed = refl;
      begun = begun;
      keeps = refl;
      short = omega arith;
      inside = tt;
      told = λ bytes told at. (failed bytes told at, (failed bytes told at).settled);
    } in
    subst (λ (s : Step). IsEndStep progress header s) (sym is) same

-- the step of a unit that ends a patch
pub end_is : (stage : Stage) (progress : Progress) (unit : List ℕ) (header : PatchHeader) (step : Step) → IsEndStep progress header step
    → ((bytes : List ℕ) (told : List AmdPart) → StandsAt stage bytes told progress.fed progress.start progress.patches unit → IsAtEnd bytes told progress.fed progress.start progress.patches header)
    → IsStepFrom stage progress unit step
end_is stage progress unit header step is ends =
    let none : held_by step.keeps unit ≡ [] = ap (λ (b : Bool). held_by b unit) is.keeps in
    record {
      fed = is.fed;
      begun = is.begun;
      short = subst (λ (l : List ℕ). length l < want step.progress.stage) (sym none) is.short;
      inside = is.inside;
      told = λ bytes told at. subst (λ (l : List ℕ). IsTold bytes told step.progress l step.part) (sym none) (is.told bytes told (ends bytes told at));
    }

-- of all causes it is this one
abbrev IsTableCut : FileCause → Type 0
IsTableCut causes.TableCut = Unit {0}
IsTableCut cause = ⊥

-- what is not unequal is equal
same_or : {a b : ℕ} → (a ≢ b → ⊥) → a ≡ b
same_or {a} {b} not_other = elim (cases_eq a b) [ inl same ↦ same | inr other ↦ absurd (not_other other) ]

-- where a table is cut off just behind its head, all checks of the head passed
pub head_good : (unit : List ℕ) → IsFirstEquivFault unit causes.TableCut → (word unit 0 ≡ amd_magic) × (word unit 4 ≡ 0) × (16 ≤ word unit 8)
head_good unit (inl short) = absurd (subst IsTableCut short.1 tt)
head_good unit (inr (long, inl magic)) = absurd (subst IsTableCut magic.1 tt)
head_good unit (inr (long, inr (magic, inl kind))) = absurd (subst IsTableCut kind.1 tt)
head_good unit (inr (long, inr (magic, inr (kind, inl small)))) = absurd (subst IsTableCut small.1 tt)
head_good unit (inr (long, inr (magic, inr (kind, inr (small, cut))))) = (same_or magic, same_or kind, at_least small)

-- a head of 12 bytes is not short
pub head_long : (unit : List ℕ) → length unit ≡ 12 → IsFirstEquivFault unit causes.EquivShort → ⊥
head_long unit long first =
    let short : length unit < 12 = first_fails (EquivFails unit) equiv_checks causes.EquivShort first in
    omega (arith, long, short)
