-- What a unit that ends the bytes leads to.
use Rattle.std.specs.Prelude.{◌≡◌, ℕ, ◌+◌, ◌<◌, ◌≤◌, Bool, true, false, List, [], ◌++◌, length}
use Rattle.uc_bytes.specs.declared.causes.FileCause.{FileCause}
use Rattle.uc_bytes.specs.declared.causes.FileFault.{FileFault}
use Rattle.amd_file.specs.declared.part.AmdPart.{AmdPart}
use Rattle.amd_file.specs.declared.part.AmdPart.TheVariants.{Patch, Fault}
use Rattle.amd_file.specs.declared.progress.PatchHeader.{PatchHeader}
use Rattle.amd_file.specs.declared.progress.Stage.{Stage}
use Rattle.amd_file.specs.declared.progress.Stage.TheVariants.{Next, Failed}
use Rattle.amd_file.specs.declared.progress.Progress.{Progress}
use Rattle.amd_file.specs.declared.unit.Step.{Step}
use Rattle.amd_file.specs.Stage.{want}
use Rattle.amd_file.specs.Parsing.{Came, IsSectionFront, IsHeaderOf, StandsAt, IsTold, IsInside, told_of}

-- the container or section has a fault
abbrev pub fault_of : Progress → FileCause → FileFault
fault_of progress cause = record { offset = progress.start; cause = cause }

-- the bytes end in a stage of the same container or section
abbrev pub onward_step : Progress → Stage → AmdPart → Step
onward_step progress stage part = record {
  progress = record { fed = progress.fed; start = progress.start; patches = progress.patches; stage = stage };
  part = part;
  keeps = false;
}

abbrev pub fault_step : Progress → FileCause → Step
fault_step progress cause =
    onward_step progress (Failed (fault_of progress cause)) (Fault (fault_of progress cause))

-- they end with a container's table
abbrev pub table_step : Progress → AmdPart → Step
table_step progress part = record {
  progress = record { fed = progress.fed; start = progress.fed; patches = progress.patches; stage = Next };
  part = part;
  keeps = false;
}

-- they end with a patch
abbrev pub patch_step : Progress → PatchHeader → Step
patch_step progress header = record {
  progress = record { fed = progress.fed; start = progress.fed; patches = progress.patches + 1; stage = Next };
  part = Patch (record { start = progress.start + 8; len = header.len; rev = header.rev; id = header.id });
  keeps = false;
}

-- what is held behind a step
abbrev pub held_by : Bool → List ℕ → List ℕ
held_by true unit = unit
held_by false unit = []

-- the step of a unit in a stage: it says how far the bytes reach that end with it, and what it tells
pub record IsStepFrom (stage : Stage) (progress : Progress) (unit : List ℕ) (step : Step) : Type 0 where
  pub fed : step.progress.fed ≡ progress.fed
  pub begun : step.progress.start ≤ progress.fed
  pub short : length (held_by step.keeps unit) < want step.progress.stage
  pub inside : IsInside progress.fed step.part
  pub told : (bytes : List ℕ) (told : List AmdPart) → StandsAt stage bytes told progress.fed progress.start progress.patches unit
      → IsTold bytes told step.progress (held_by step.keeps unit) step.part

-- the bytes end with a patch whose checks but those of its header passed
pub record IsAtEnd (bytes : List ℕ) (told : List AmdPart) (fed start patches : ℕ) (header : PatchHeader) : Type 0 where
  pub front : List ℕ
  pub patch : List ℕ
  pub came : Came bytes fed start patches (front ++ patch)
  pub some : 0 < length came.containers
  pub section : IsSectionFront front header.len
  pub is_header : IsHeaderOf patch header
  pub size : length patch ≡ header.len
  pub parts : told ≡ told_of 0 came.containers

-- the step of a patch that came whole
pub record IsEndStep (progress : Progress) (header : PatchHeader) (step : Step) : Type 0 where
  pub fed : step.progress.fed ≡ progress.fed
  pub begun : step.progress.start ≤ progress.fed
  pub keeps : step.keeps ≡ false
  pub short : 0 < want step.progress.stage
  pub inside : IsInside progress.fed step.part
  pub told : (bytes : List ℕ) (told : List AmdPart) → IsAtEnd bytes told progress.fed progress.start progress.patches header
      → IsTold bytes told step.progress [] step.part
