-- The patches of sections, as they are told and listed.
use Rattle.std.specs.Prelude.{ℕ, ◌+◌, List, [], ◌∷◌, length}
use Rattle.amd_format.specs.Patch.{patch_of, patch_rev, patch_id}
use Rattle.amd_file.specs.declared.container.AmdPatch.{AmdPatch}

-- the patch of a section that begins at a place
abbrev pub patch_at : ℕ → List ℕ → AmdPatch
patch_at start section =
    record { start = start + 8; len = length (patch_of section); rev = patch_rev (patch_of section); id = patch_id (patch_of section) }

-- those of sections, the first of which begins at a place
abbrev pub patches_at : ℕ → List (List ℕ) → List AmdPatch
patches_at start [] = []
patches_at start (section ∷ sections) =
    patch_at start section ∷ patches_at (start + length section) sections
