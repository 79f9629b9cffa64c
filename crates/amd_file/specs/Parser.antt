-- What a parser knows of the bytes that came.
use Rattle.std.specs.Prelude.{ℕ, List}
use Rattle.amd_file.specs.declared.part.AmdPart.{AmdPart}
use Rattle.amd_file.specs.declared.progress.Progress.{Progress}
use Rattle.amd_file.specs.declared.parser.AmdParser.{AmdParser}
use Rattle.amd_file.specs.Parsing.{StandsWith, IsTold}

-- these bytes came, and these parts were told of them
abbrev pub Stands : List ℕ → List AmdPart → AmdParser → Type 0
Stands bytes told parser = StandsWith bytes told parser.progress parser.held.items

-- how many bytes came
abbrev pub fed_of : AmdParser → ℕ
fed_of parser = parser.progress.fed

-- with what was taken last these bytes came, of which these parts were told before, and now a part more
abbrev pub IsTaken : List ℕ → List AmdPart → AmdParser → AmdPart → Type 0
IsTaken bytes told parser part = IsTold bytes told parser.progress parser.held.items part

-- the same behind a unit that ends the bytes
abbrev pub IsAdvanced : Progress → List ℕ → AmdParser → AmdPart → Type 0
IsAdvanced progress unit parser part =
    (bytes : List ℕ) (told : List AmdPart) → StandsWith bytes told progress unit → IsTaken bytes told parser part
