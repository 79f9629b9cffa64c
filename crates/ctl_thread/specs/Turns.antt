-- A step that is being taken.
use Rattle.rendezvous_steps.specs.declared.steps.Phase.{Phase}
use Rattle.rendezvous_steps.specs.declared.steps.Local.{Local}
use Rattle.rendezvous_steps.specs.declared.items.What.{What}
use Rattle.rendezvous_steps.specs.StepTable.{after_in}
use Rattle.ctl_words.specs.Plans.{plan_of}
use Rattle.ctl_thread.specs.declared.turns.Turn.{Turn}

-- the row of the table for this phase: the thread's next state and the item
abbrev pub row_of : Turn → Phase → Local × What
row_of turn phase = after_in (plan_of turn.plan.now) turn.thread turn.local.now turn.how turn.found phase
