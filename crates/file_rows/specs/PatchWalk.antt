-- What is gathered of the bytes of an AMD file that came.
use Rattle.std.specs.Prelude.{◌≡◌, ℕ, List}
use Rattle.amd_file.specs.declared.part.AmdPart.{AmdPart}
use Rattle.amd_file.specs.declared.parser.AmdParser.{AmdParser}
use Rattle.amd_file.specs.Parser.{Stands}
use Rattle.file_rows.specs.PatchSums.{nothing, with_parts, sum_of}
use Rattle.file_rows.specs.declared.gathered.Gathered.{Gathered}

-- these bytes came to the parser, and what it told is gathered
pub record Gathers (bytes : List ℕ) (parser : AmdParser) (gathered : Gathered) : Type 0 where
  pub told : List AmdPart
  pub stands : Stands bytes told parser
  pub sum : sum_of gathered ≡ with_parts nothing told
