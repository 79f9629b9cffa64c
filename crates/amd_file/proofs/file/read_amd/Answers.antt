use Rattle.std.proofs.Common.{ℕ, List, [], Err}
use Rattle.uc_bytes.specs.declared.causes.FileAnswer.{FileAnswer}
use Rattle.uc_bytes.specs.declared.causes.FileAnswer.TheVariants.{Fault, NoMemory}
use Rattle.amd_file.specs.declared.stream.AmdStream.{AmdStream}
use Rattle.amd_file.specs.Reading.{IsFileRead}
use Rattle.amd_file.specs.Stream.{IsFed}
use Rattle.amd_file.proofs.file.read_amd.Goals as goal

-- a refusal of the first piece is that of a file that has no other
refused : (bytes : List ℕ) (stream : AmdStream) (answer : FileAnswer) → IsFed [] bytes stream (Err answer) → IsFileRead bytes (Err answer)
refused bytes stream (Fault fault) fed = fed.1.0
refused bytes stream NoMemory fed = tt

pub returns-in-Err : goal.returns-in-Err
returns-in-Err c = refused c.args.bytes.now c.feed.new.self c.in-Err.answer (c.in-Err.ensures.stands [] c.new-stream.ensures.stands)
