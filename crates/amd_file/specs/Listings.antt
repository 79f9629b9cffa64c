-- What a listing knows of the parts that were told.
use Rattle.std.specs.Prelude.{◌≡◌, true, List, [], ◌∷◌, ◌++◌}
use Rattle.amd_file.specs.declared.part.AmdPart.{AmdPart}
use Rattle.amd_file.specs.declared.part.AmdPart.TheVariants.{More, Fault}
use Rattle.amd_file.specs.declared.listing.Listing.{Listing}
use Rattle.amd_file.specs.Parsing.{head_at}
use Rattle.amd_file.specs.Listing.{patches_told, last_head, is_fresh}

-- the patches that were told are listed
pub record IsListing (told : List AmdPart) (listing : Listing) : Type 0 where
  pub patches : listing.patches.items ≡ patches_told (head_at 0 0) true told
  pub head : listing.head ≡ last_head (head_at 0 0) told
  pub fresh : listing.fresh ≡ is_fresh true told

-- they are with a part more, where it is told
abbrev pub IsAdded : List AmdPart → AmdPart → Listing → Type 0
IsAdded told More listing = IsListing told listing
IsAdded told (Fault fault) listing = IsListing told listing
IsAdded told part listing = IsListing (told ++ part ∷ []) listing
