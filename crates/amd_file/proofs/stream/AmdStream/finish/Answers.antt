use Rattle.std.proofs.Common.{true, List, [], ◌∙◌, ap}
use Rattle.amd_file.specs.declared.part.AmdPart.{AmdPart}
use Rattle.amd_file.specs.declared.listing.Listed.{Listed}
use Rattle.amd_file.specs.Parsing.{head_at}
use Rattle.amd_file.specs.Listing.{patches_told, grouped}
use Rattle.amd_file.proofs.Listings.{grouped-told}
use Rattle.amd_file.proofs.stream.AmdStream.finish.Goals as goal

pub returns-in-Ok : goal.returns-in-Ok
returns-in-Ok c = λ bytes at.
    let ended = c.in_default.ensures bytes at.told at.parsed in (
      ended.0,
      ended.1,
      c.in-Ok.ensures
          ∙ ap (λ (l : List Listed). grouped [] l) (c.as_slice.ensures.value ∙ at.listed.patches ∙ ap (λ (told : List AmdPart). patches_told (head_at 0 0) true told) ended.2)
          ∙ grouped-told ended.0 0 [] (head_at 0 0) true,
    )
