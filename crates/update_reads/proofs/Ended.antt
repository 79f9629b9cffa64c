-- What the end of an update file comes to.
use Rattle.std.proofs.Common.{◌≡◌, inr, ℕ, ◌≤◌, List, length, Option, None, Result, Ok, Err, ◌∙◌, ap, subst}
use Rattle.uc_bytes.specs.declared.TheConstants.{FILE_LIMIT}
use Rattle.uc_catalog.specs.declared.coming.Coming.{Coming}
use Rattle.uc_catalog.specs.Contents.{Contents, Adds, with_coming}
use Rattle.update_reads.specs.declared.answers.UpdateAnswer.{UpdateAnswer}
use Rattle.update_reads.specs.declared.answers.UpdateAnswer.TheVariants.{ReadFault, BadFile, NoMemory}
use Rattle.update_reads.specs.Reading.{IsUpdateRead}
use Rattle.update_reads.specs.Fed.{IsUpdateEnded}

-- what is added does not go by the file that is being read
adds_to : (coming : Option Coming) (old new : Contents) (bytes : List ℕ) → Adds (with_coming coming old) new bytes → Adds old new bytes
adds_to coming old new bytes adds =
    record { reading = adds.reading; is_reading = adds.is_reading; keeps = adds.keeps; files = adds.files; entries = adds.entries }

pub ended : (result : Result (Unit {0}) UpdateAnswer) (tells : Type 0) (held bytes : List ℕ) (before now : ℕ) (old fed new : Contents) → now ≡ before → length bytes ≤ FILE_LIMIT → (tells → bytes ≡ held) → fed ≡ with_coming fed.coming old
    → IsUpdateEnded bytes fed new result → IsUpdateRead tells held before now old new result
ended (Ok unit) tells held bytes before now old fed new count within told kept end =
    (count, (bytes, within, told, adds_to fed.coming old new bytes (subst (λ (v : Contents). Adds v new bytes) kept end.0), end.1))
ended (Err ReadFault) tells held bytes before now old fed new count within told kept end = absurd end
ended (Err (BadFile fault)) tells held bytes before now old fed new count within told kept end =
    (count, (bytes, told, inr (within, end.0)), end.1 ∙ ap (λ (v : Contents). with_coming None v) kept)
ended (Err NoMemory) tells held bytes before now old fed new count within told kept end =
    (count, end ∙ ap (λ (v : Contents). with_coming None v) kept)
