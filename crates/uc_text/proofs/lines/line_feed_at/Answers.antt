use Rattle.std.proofs.Common.{◌∙◌}
use Rattle.uc_text.proofs.Pieces.{first_byte_at}
use Rattle.uc_text.proofs.lines.line_feed_at.Goals as goal

pub returns-clause-value : goal.returns-clause-value
returns-clause-value c = c.unwrap_or.ensures ∙ first_byte_at 10 c.args.bytes.now c.memchr.result c.memchr.ensures
