use Rattle.uc_script.proofs.Read.{all_read}
use Rattle.uc_script.proofs.reading.read.Goals as goal

pub returns : goal.returns
returns c =
    all_read c.args.limits c.args.bytes.now _ c.loop-line.draft _ c.loop-line.lines c.finish.result c.loop-line.invariant c.new-draft.ensures c.new-lines.ensures c.in_default.ensures.0 c.finish.ensures
