-- What stands of a stream with a part more.
use Rattle.std.proofs.Common.{ℕ, List, [], ◌∷◌, ◌++◌}
use Rattle.amd_file.specs.declared.part.AmdPart.{AmdPart}
use Rattle.amd_file.specs.declared.part.AmdPart.TheVariants.{More, Container, Row, Patch, Fault}
use Rattle.amd_file.specs.declared.stream.AmdStream.{AmdStream}
use Rattle.amd_file.specs.Parser.{IsTaken}
use Rattle.amd_file.specs.Listings.{IsAdded}
use Rattle.amd_file.specs.Stream.{Stands}

pub stands_on : (bytes : List ℕ) (told : List AmdPart) (stream : AmdStream) (part : AmdPart) → IsTaken bytes told stream.parser part → IsAdded told part stream.listing → Stands bytes stream
stands_on bytes told stream More taken added = record { told = told; parsed = taken; listed = added }
stands_on bytes told stream (Container head) taken added =
    record { told = told ++ Container head ∷ []; parsed = taken; listed = added }
stands_on bytes told stream (Row row) taken added =
    record { told = told ++ Row row ∷ []; parsed = taken; listed = added }
stands_on bytes told stream (Patch patch) taken added =
    record { told = told ++ Patch patch ∷ []; parsed = taken; listed = added }
stands_on bytes told stream (Fault fault) taken added = record { told = told; parsed = taken.0; listed = added }
