use Rattle.uc_gen.proofs.Lines.{first_line_feed_is}
use Rattle.uc_gen.proofs.tally.first_line_feed.Goals as goal

pub returns : goal.returns
returns c = first_line_feed_is c.args.bytes.now c.memchr.result c.memchr.ensures
