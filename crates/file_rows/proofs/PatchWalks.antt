-- How what is gathered of an AMD file goes on.
use Rattle.std.proofs.Common.{◌≡◌, ℕ, List, [], ◌∷◌, ◌++◌, sym, ◌∙◌, ap}
use Rattle.amd_file.specs.declared.part.AmdPart.{AmdPart}
use Rattle.amd_file.specs.declared.part.AmdPart.TheVariants.{More, Container, Row, Patch, Fault}
use Rattle.amd_file.specs.declared.parser.AmdParser.{AmdParser}
use Rattle.amd_file.specs.Parser.{IsTaken}
use Rattle.file_rows.specs.declared.gathered.Gathered.{Gathered}
use Rattle.file_rows.specs.PatchSums.{Sum, nothing, with_part, with_parts, sum_of}
use Rattle.file_rows.specs.PatchWalk.{Gathers}
use Rattle.file_rows.proofs.Told.{parts_append}

-- a part more that was told is gathered
sum_on : (told : List AmdPart) (before after : Sum) (part : AmdPart) → before ≡ with_parts nothing told → after ≡ with_part before part → after ≡ with_parts nothing (told ++ part ∷ [])
sum_on told before after part was is =
    is ∙ ap (λ (sum : Sum). with_part sum part) was ∙ sym (parts_append nothing told (part ∷ []))

pub gathered_on : (part : AmdPart) (bytes : List ℕ) (told : List AmdPart) (parser : AmdParser) (before after : Gathered) → IsTaken bytes told parser part → sum_of before ≡ with_parts nothing told → sum_of after ≡ with_part (sum_of before) part → Gathers bytes parser after
gathered_on More bytes told parser before after taken was is = record { told = told; stands = taken; sum = is ∙ was }
gathered_on (Container head) bytes told parser before after taken was is =
    record { told = told ++ Container head ∷ []; stands = taken; sum = sum_on told (sum_of before) (sum_of after) (Container head) was is }
gathered_on (Row row) bytes told parser before after taken was is =
    record { told = told ++ Row row ∷ []; stands = taken; sum = sum_on told (sum_of before) (sum_of after) (Row row) was is }
gathered_on (Patch patch) bytes told parser before after taken was is =
    record { told = told ++ Patch patch ∷ []; stands = taken; sum = sum_on told (sum_of before) (sum_of after) (Patch patch) was is }
gathered_on (Fault fault) bytes told parser before after taken was is = record { told = told; stands = taken.0; sum = is ∙ was }
