-- One step of the model: an event at a thread, and what comes of it.
use Rattle.std.specs.Prelude.{◌≡◌, ℕ, true, if◌then◌else◌}
use Rattle.rendezvous_steps.specs.declared.items.What.{What}
use Rattle.rendezvous_steps.specs.declared.items.What.TheVariants as what
use Rattle.rendezvous_steps.specs.declared.items.Event.{Event}
use Rattle.rendezvous_steps.specs.declared.items.Event.TheVariants as event
use Rattle.rendezvous_steps.specs.Plan.{Plan}
use Rattle.rendezvous_model.specs.Round.{State, Cause, Step, Timeout, Nmi, Run, is_own, is_held}
use Rattle.rendezvous_model.specs.RoundItems.{Enters, Kicks, Arrives, Goes, Drops, DropsByKick, Withdraws, Begins}
use Rattle.rendezvous_model.specs.RoundItems.{Writes, Reports, Frees}
use Rattle.rendezvous_model.specs.RoundEnds.{Leaves, Halts, Polls, StaysIn, RunsOrdinary, Latches, Idles}

-- an attempt to run ordinary code is a step of a thread that is held
abbrev pub cause_of : State → Event → Cause
cause_of state (event.Step t) = Step
cause_of state (event.Timeout t) = Timeout
cause_of state (event.Nmi t) = Nmi
cause_of state (event.Run t) = if is_held (state.place t) then Step else Run

abbrev pub thread_of : Event → ℕ
thread_of (event.Step t) = t
thread_of (event.Timeout t) = t
thread_of (event.Nmi t) = t
thread_of (event.Run t) = t

-- the thread does it by a step of its own
abbrev pub Own : Cause → Type 0 → Type 0
Own cause Item = (is_own cause ≡ true) × Item

abbrev pub RoundBy : Plan → ℕ → Cause → State → What → State → Type 0
RoundBy plan t cause before what.Enter after = Enters plan t cause before after
RoundBy plan t cause before (what.Kick k) after = Own cause (Kicks plan t k before after)
RoundBy plan t cause before what.Arrive after = Own cause (Arrives plan t before after)
RoundBy plan t cause before what.Go after = Own cause (Goes t before after)
RoundBy plan t cause before what.Drop after = Drops plan t cause before after
RoundBy plan t cause before what.DropKick after = DropsByKick plan t cause before after
RoundBy plan t cause before (what.Withdraw k) after = Own cause (Withdraws t k before after)
RoundBy plan t cause before (what.Begin g) after = Own cause (Begins plan t g before after)
RoundBy plan t cause before (what.Wrote g r) after = Own cause (Writes plan t g r before after)
RoundBy plan t cause before (what.Report g x) after = Own cause (Reports plan t g x before after)
RoundBy plan t cause before (what.Free u) after = Own cause (Frees plan t u before after)
RoundBy plan t cause before (what.Leave x) after = Own cause (Leaves plan t x before after)
RoundBy plan t cause before what.Halt after = Halts plan t cause before after
RoundBy plan t cause before what.Ordinary after = RunsOrdinary plan t cause before after
RoundBy plan t cause before what.Poll after = Own cause (Polls plan t before after)
RoundBy plan t cause before what.Inner after = Own cause (StaysIn t before after)
RoundBy plan t cause before what.Latched after = Latches t cause before after
RoundBy plan t cause before what.Idle after = Idles plan t cause before after

-- From the state before, this event comes to this item and leads to the state after.
abbrev pub Round : Plan → State → Event → What → State → Type 0
Round plan before happened item after = RoundBy plan (thread_of happened) (cause_of before happened) before item after
