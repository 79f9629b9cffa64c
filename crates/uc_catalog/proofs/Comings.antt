-- How a file goes on that is being read.
use Rattle.std.proofs.Common.{◌≡◌, ℕ, Bool, true, false, List, [], ◌++◌, Option, Some, None, Result, Ok, Err, refl}
use Rattle.uc_bytes.specs.declared.causes.FileAnswer.{FileAnswer}
use Rattle.uc_bytes.specs.declared.causes.FileAnswer.TheVariants.{Fault, NoMemory}
use Rattle.file_rows.specs.Kept.{kept_bytes}
use Rattle.uc_catalog.specs.declared.file.KeptFile.{KeptFile}
use Rattle.uc_catalog.specs.declared.coming.Coming.{Coming}
use Rattle.uc_catalog.specs.Coming.{ComesIn, ComesBy, IsFedIn}
use Rattle.uc_catalog.specs.Contents.{IsFed}
use Rattle.uc_catalog.specs.Files.{contents_of, IsComing}

-- bytes are kept piece by piece
pub kept-append : (keeps : Bool) (bytes more : List ℕ) → kept_bytes keeps (bytes ++ more) ≡ kept_bytes keeps bytes ++ kept_bytes keeps more
kept-append true bytes more = refl
kept-append false bytes more = refl

-- some bytes came, if only none
pub some_came : (keeps : Bool) (coming : Option Coming) → IsComing keeps coming → (bytes : List ℕ) × ComesBy keeps bytes coming
some_came keeps None is = ([], refl)
some_came keeps (Some coming) is = is

-- so it is with a piece more, whatever it leads to
pub some_fed : (answer : Result (Unit {0}) FileAnswer) (keeps : Bool) (bytes piece : List ℕ) (coming : Coming) → IsFedIn keeps bytes piece coming answer → (came : List ℕ) × ComesIn keeps came coming
some_fed (Ok unit) keeps bytes piece coming fed = (bytes ++ piece, fed.0)
some_fed (Err (Fault fault)) keeps bytes piece coming fed = (bytes ++ piece, fed.0)
some_fed (Err NoMemory) keeps bytes piece coming fed = (bytes, fed)

pub fed_on : (answer : Result (Unit {0}) FileAnswer) (keeps : Bool) (files : List KeptFile) (bytes piece : List ℕ) (coming : Coming) → IsFedIn keeps bytes piece coming answer → IsFed bytes piece (contents_of keeps files (Some coming)) answer
fed_on (Ok unit) keeps files bytes piece coming fed = fed
fed_on (Err (Fault fault)) keeps files bytes piece coming fed = fed
fed_on (Err NoMemory) keeps files bytes piece coming fed = fed
