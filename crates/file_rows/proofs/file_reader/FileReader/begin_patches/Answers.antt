use Rattle.std.proofs.Common.{ℕ, List, [], Err, subst}
use Rattle.file_rows.specs.PatchReading as patches
use Rattle.file_rows.proofs.FileReads.{patches_begun, patches_refused}
use Rattle.file_rows.proofs.file_reader.FileReader.begin_patches.Goals as goal

pub returns-in-Ok-clause-begun : goal.returns-in-Ok-clause-begun
returns-in-Ok-clause-begun c =
    let head = c.args.self.now.head.items in
    let reads = subst (λ (l : List ℕ). patches.Reads l c.feed.new.self) c.as_slice.ensures.value (c.in-Ok.ensures.reads [] c.new.ensures.reads).0 in
    patches_begun c.feed-in-Ok.result head c.args.rest.now c.feed-in-Ok.new.self (c.feed-in-Ok.ensures.reads head reads)

pub returns-in-Err-clause-begun : goal.returns-in-Err-clause-begun
returns-in-Err-clause-begun c =
    let refused = subst (λ (l : List ℕ). patches.IsFed [] l c.feed.new.self (Err c.in-Err.answer)) c.as_slice.ensures.value (c.in-Err.ensures.reads [] c.new.ensures.reads) in
    patches_refused c.in-Err.answer c.args.self.now.head.items c.args.rest.now c.feed.new.self refused
