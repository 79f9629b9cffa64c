-- What stands of a file that comes in pieces.
use Rattle.std.specs.Prelude.{ℕ, List, ◌++◌, Result, Ok, Err}
use Rattle.uc_bytes.specs.declared.causes.FileCause.{FileCause}
use Rattle.uc_bytes.specs.declared.causes.FileAnswer.{FileAnswer}
use Rattle.uc_bytes.specs.declared.causes.FileAnswer.TheVariants.{Fault, NoMemory}
use Rattle.amd_format.specs.Settled.{IsSettled}
use Rattle.amd_file.specs.declared.part.AmdPart.{AmdPart}
use Rattle.amd_file.specs.declared.stream.AmdStream.{AmdStream}
use Rattle.amd_file.specs.Parser as parser
use Rattle.amd_file.specs.Listings.{IsListing}

-- these bytes came to the stream
pub record Stands (bytes : List ℕ) (stream : AmdStream) : Type 0 where
  pub told : List AmdPart
  pub parsed : parser.Stands bytes told stream.parser
  pub listed : IsListing told stream.listing

-- how many bytes came
abbrev pub fed_of : AmdStream → ℕ
fed_of stream = parser.fed_of stream.parser

-- What a piece leads to: a fault that no further bytes undo, exactly where there is one. Without memory the stream is as
-- before.
abbrev pub IsFed : List ℕ → List ℕ → AmdStream → Result (Unit {0}) FileAnswer → Type 0
IsFed bytes piece stream (Ok _) =
    Stands (bytes ++ piece) stream × ((offset : ℕ) (cause : FileCause) → IsSettled (bytes ++ piece) offset cause → ⊥)
IsFed bytes piece stream (Err (Fault fault)) =
    Stands (bytes ++ piece) stream × IsSettled (bytes ++ piece) fault.offset fault.cause
IsFed bytes piece stream (Err NoMemory) = Stands bytes stream
