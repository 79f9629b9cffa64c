-- The patches that were told, each with the head of its container.
use Rattle.std.specs.Prelude.{Bool, true, false, List, [], ◌∷◌, ◌++◌}
use Rattle.amd_file.specs.declared.part.AmdHead.{AmdHead}
use Rattle.amd_file.specs.declared.part.AmdPart.{AmdPart}
use Rattle.amd_file.specs.declared.part.AmdPart.TheVariants.{Container, Patch}
use Rattle.amd_file.specs.declared.container.AmdPatch.{AmdPatch}
use Rattle.amd_file.specs.declared.container.AmdContainer.{AmdContainer}
use Rattle.amd_file.specs.declared.listing.Listed.{Listed}

-- the patches that are told, where this is the head of the last container, none or some of whose patches came
abbrev pub patches_told : AmdHead → Bool → List AmdPart → List Listed
patches_told head fresh [] = []
patches_told head fresh (Container next ∷ told) = patches_told next true told
patches_told head fresh (Patch patch ∷ told) =
    record { head = head; first = fresh; patch = patch } ∷ patches_told head false told
patches_told head fresh (part ∷ told) = patches_told head fresh told

-- the head of the last container
abbrev pub last_head : AmdHead → List AmdPart → AmdHead
last_head head [] = head
last_head head (Container next ∷ told) = last_head next told
last_head head (part ∷ told) = last_head head told

-- none of the last container's patches came
abbrev pub is_fresh : Bool → List AmdPart → Bool
is_fresh fresh [] = fresh
is_fresh fresh (Container next ∷ told) = is_fresh true told
is_fresh fresh (Patch patch ∷ told) = is_fresh false told
is_fresh fresh (part ∷ told) = is_fresh fresh told

-- a patch more in the last container
abbrev pub with_last : List AmdContainer → AmdPatch → List AmdContainer
with_last [] patch = []
with_last (c ∷ []) patch =
    record { start = c.start; table_len = c.table_len; patches = c.patches ++ patch ∷ [] } ∷ []
with_last (c ∷ d ∷ cs) patch = c ∷ with_last (d ∷ cs) patch

-- a container more, with no patches yet, where there is to be one
abbrev pub opened : Bool → AmdHead → List AmdContainer → List AmdContainer
opened true head containers =
    containers ++ record { start = head.start; table_len = head.table_len; patches = [] } ∷ []
opened false head containers = containers

-- a patch more, and its container where it is the first
abbrev pub with_listed : List AmdContainer → Listed → List AmdContainer
with_listed containers listed =
    with_last (opened listed.first listed.head containers) listed.patch

-- the containers of patches, behind others
abbrev pub grouped : List AmdContainer → List Listed → List AmdContainer
grouped containers [] = containers
grouped containers (listed ∷ patches) = grouped (with_listed containers listed) patches
