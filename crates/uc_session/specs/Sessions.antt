-- What a session stands for.
use Rattle.session_steps.specs.State.{Setting, State}
use Rattle.session_parts.specs.Parts as parts
use Rattle.uc_session.specs.declared.sessions.Session.{Session}

-- what never changes
abbrev pub setting_of : Session → Setting
setting_of session = parts.setting_of session.parts

-- the state between two commands
abbrev pub state_of : Session → State
state_of session = parts.state_of session.parts
