use Rattle.tool_laws.proofs.Causes.{texts_have_causes}
use Rattle.tool_laws.proofs.each_text_has_its_cause.Goals as goal

pub returns : goal.returns
returns c = texts_have_causes c.the_verdict_is_the_first_that_holds.ensures.one
