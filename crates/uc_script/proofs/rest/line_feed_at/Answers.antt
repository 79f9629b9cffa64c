use Rattle.std.proofs.Common.{rules, tests, ◌∙◌, ap}
use Rattle.std.specs.Prelude.{unwrap_or, length}
use Rattle.std.proofs.lemmas.Iterator.{YieldsList-from_slice}
use Rattle.std.proofs.lemmas.Iterator.Search.{position_from_yields_List}
use Rattle.uc_text.specs.Lines.{is_line_feed}
use Rattle.uc_script.proofs.FirstLines.{first_byte_at, position_or_end}
use Rattle.uc_script.proofs.rest.line_feed_at.Goals as goal

pub returns-in-35-clause-value : goal.returns-in-35-clause-value
returns-in-35-clause-value c =
    let found = position_from_yields_List is_line_feed _ _ c.position.result c.position.ensures.ran (YieldsList-from_slice c.args.text.now cc) (λ x b q k. search (rules, tests)) in
    c.unwrap_or.ensures ∙ ap (λ r. unwrap_or r (length c.args.text.now)) found ∙ position_or_end is_line_feed c.args.text.now

pub returns-in_default-clause-value : goal.returns-in_default-clause-value
returns-in_default-clause-value c = c.unwrap_or-in_default.ensures ∙ first_byte_at 10 c.args.text.now c.memchr.result c.memchr.ensures
