use Rattle.tool_laws.proofs.SomeText.{tool_text}
use Rattle.tool_laws.proofs.some_text.Goals as goal

pub returns : goal.returns
returns c = tool_text c.some_session_text.ensures.played c.some_session_text.ensures.generated
