-- What an AMD file is.
use Rattle.std.specs.Prelude.{◌≡◌, ℕ, ◌+◌, ◌≤◌, List, [], ◌∷◌, ◌++◌, length}
use Rattle.amd_format.specs.Equiv.{IsEquiv}
use Rattle.amd_format.specs.Patch.{IsSection}

-- a container of a file: its head with the equivalence table, and its sections
pub record FileContainer : Type 0 where
  pub equiv : List ℕ
  pub sections : List (List ℕ)

abbrev pub AreSections : List (List ℕ) → Type 0
AreSections [] = Unit {0}
AreSections (section ∷ sections) = IsSection section × AreSections sections

-- sections, one after another
abbrev pub joined_sections : List (List ℕ) → List ℕ
joined_sections [] = []
joined_sections (section ∷ sections) = section ++ joined_sections sections

pub record IsContainer (c : FileContainer) : Type 0 where
  pub equiv : IsEquiv c.equiv
  pub sections : AreSections c.sections

abbrev pub AreContainers : List FileContainer → Type 0
AreContainers [] = Unit {0}
AreContainers (c ∷ cs) = IsContainer c × AreContainers cs

abbrev pub container_bytes : FileContainer → List ℕ
container_bytes c = c.equiv ++ joined_sections c.sections

-- containers, one after another
abbrev pub joined : List FileContainer → List ℕ
joined [] = []
joined (c ∷ cs) = container_bytes c ++ joined cs

-- how many patches the containers have
abbrev pub patches_in : List FileContainer → ℕ
patches_in [] = 0
patches_in (c ∷ cs) = length c.sections + patches_in cs

-- the bytes are these containers, at least one, with at most 65,536 patches
pub record AmdFile (bytes : List ℕ) (containers : List FileContainer) : Type 0 where
  pub whole : bytes ≡ joined containers
  pub some : 1 ≤ length containers
  pub each : AreContainers containers
  pub few : patches_in containers ≤ 65536
