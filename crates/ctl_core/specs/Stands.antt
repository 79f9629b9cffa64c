-- A thread's state, as it is kept.
use Rattle.rendezvous_steps.specs.declared.steps.Local.{Local}
use Rattle.ctl_core.specs.declared.stands.Stand.{Stand}

abbrev pub local_of : Stand → Local
local_of s = record { phase = s.phase; at = s.at; polls = s.polls; mine = s.mine }
