use Rattle.std.proofs.Common.{[]}
use Rattle.intel_file.proofs.Standing.{fed_refused}
use Rattle.intel_file.proofs.file.read_intel.Goals as goal

pub returns-in-Ok : goal.returns-in-Ok
returns-in-Ok c = c.finish.ensures c.args.bytes.now (c.in-Ok.ensures.stands [] c.new-stream.ensures.stands).0

pub returns-in-Err : goal.returns-in-Err
returns-in-Err c = fed_refused c.args.bytes.now c.feed.new.self c.in-Err.answer (c.in-Err.ensures.stands [] c.new-stream.ensures.stands)
