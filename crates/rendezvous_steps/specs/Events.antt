-- What an event of a schedule does. An event comes at a thread; what it does goes by the words, the thread's state and
-- whether an NMI is latched for it.
use Rattle.std.specs.Prelude.{ℕ, ◌==◌, ◌&&◌, ◌||◌, Bool, true, false, not, if◌then◌else◌, Option, Some, None, nat_le}
use Rattle.rendezvous_steps.specs.declared.steps.Kind.{Kind}
use Rattle.rendezvous_steps.specs.declared.steps.Kind.TheVariants.{Online, Offline, Absent}
use Rattle.rendezvous_steps.specs.declared.steps.Phase.{Phase}
use Rattle.rendezvous_steps.specs.declared.steps.Phase.TheVariants as phase
use Rattle.rendezvous_steps.specs.declared.steps.Local.{Local}
use Rattle.rendezvous_steps.specs.declared.steps.How.{How}
use Rattle.rendezvous_steps.specs.declared.steps.How.TheVariants as how
use Rattle.rendezvous_steps.specs.declared.operations.Word.{Word}
use Rattle.rendezvous_steps.specs.declared.operations.Word.TheVariants as word
use Rattle.rendezvous_steps.specs.declared.operations.Op.{Op}
use Rattle.rendezvous_steps.specs.declared.items.What.{What}
use Rattle.rendezvous_steps.specs.declared.items.What.TheVariants as what
use Rattle.rendezvous_steps.specs.declared.items.Event.{Event}
use Rattle.rendezvous_steps.specs.declared.items.Event.TheVariants as event
use Rattle.rendezvous_steps.specs.Plan.{Plan, is_offline, is_absent}
use Rattle.rendezvous_steps.specs.Words.{touched, words_after, opening_words}
use Rattle.rendezvous_steps.specs.StepTable.{operation, after, opening}

-- What the words show of a thread.

-- it waited too long and halted
abbrev pub shows_halted : (Word → ℕ) → ℕ → Bool
shows_halted words t = words (word.Ctrl t) == 3

-- it left the handler
abbrev pub shows_left : (Word → ℕ) → ℕ → Bool
shows_left words t = nat_le 8 (words (word.Mode t))

-- its kick was taken back
abbrev pub shows_withdrawn : Plan → (Word → ℕ) → ℕ → Bool
shows_withdrawn plan words t = is_offline (plan.kind t) && (words (word.Nmi t) == 3)

abbrev pub is_inside : Kind → ℕ → ℕ → Bool
is_inside Online mode nmi = (mode == 1) || (mode == 2)
is_inside Offline mode nmi = (nmi == 2) && (mode == 0)
is_inside Absent mode nmi = false

-- it is in the handler, and has not halted
abbrev pub shows_held : Plan → (Word → ℕ) → ℕ → Bool
shows_held plan words t =
    is_inside (plan.kind t) (words (word.Mode t)) (words (word.Nmi t)) && not (shows_halted words t)

-- it left, halted, was withdrawn, or takes no part
abbrev pub shows_finished : Plan → (Word → ℕ) → ℕ → Bool
shows_finished plan words t =
    shows_left words t || shows_halted words t || shows_withdrawn plan words t || is_absent (plan.kind t)

-- A rendezvous between two events: the words, each thread's state, and the threads for which an NMI is latched.
pub record Running : Type 0 where
  pub words : Word → ℕ
  pub locals : ℕ → Local
  pub latched : ℕ → Bool

abbrev pub opening_running : Plan → Running
opening_running plan = record { words = opening_words plan; locals = opening plan; latched = λ _. false }

-- a table with the entry of one thread changed
unfoldable pub put : {A : Type 0} → (ℕ → A) → ℕ → A → ℕ → A
put table t entry u = if u == t then entry else table u

-- the thread runs ordinary code, where an NMI that was latched for it comes through
abbrev pub runs_ordinary : ℕ → Running → Running × What
runs_ordinary t running = (record running { latched = put running.latched t false }, what.Ordinary)

abbrev pub latches : ℕ → Running → Running × What
latches t running = (record running { latched = put running.latched t true }, what.Latched)

abbrev pub idles : Running → Running × What
idles running = (running, what.Idle)

abbrev pub left_with_latch : ℕ → Running → Bool
left_with_latch t running = shows_left running.words t && running.latched t

-- the thread does this operation. Where it has none, a latched NMI comes through once it has left
abbrev pub performs : Plan → ℕ → How → Running → Option Op → Running × What
performs plan t h running (Some op) =
    let next = after plan t (running.locals t) h (running.words (touched op)) in
    (record running { words = words_after running.words op; locals = put running.locals t next.0 }, next.1)
performs plan t h running None = if left_with_latch t running then runs_ordinary t running else idles running

abbrev pub steps : Plan → ℕ → How → Running → Running × What
steps plan t h running = performs plan t h running (operation plan t (running.locals t) h)

-- an attempt to run ordinary code, by a thread of this kind that is not held
abbrev pub runs_by : Kind → Plan → ℕ → Running → Running × What
runs_by Online plan t running =
    if shows_halted running.words t then idles running else runs_ordinary t running
runs_by Offline plan t running =
    if left_with_latch t running then runs_ordinary t running else idles running
runs_by Absent plan t running = idles running

abbrev pub is_outside : Phase → Bool
is_outside phase.Outside = true
is_outside phase = false

-- an NMI from elsewhere, at an Offline thread that is not held
abbrev pub nmi_offline : Plan → ℕ → Running → Running × What
nmi_offline plan t running =
    if is_outside ((running.locals t).phase) then steps plan t how.Nmi running else
    if shows_left running.words t || shows_withdrawn plan running.words t
    then runs_ordinary t running
    else idles running

-- an NMI from elsewhere, at a thread of this kind that is not held
abbrev pub nmi_by : Kind → Plan → ℕ → Running → Running × What
nmi_by Online plan t running =
    if shows_halted running.words t then idles running else runs_ordinary t running
nmi_by Offline plan t running = nmi_offline plan t running
nmi_by Absent plan t running = idles running

-- an attempt to run ordinary code
abbrev pub runs : Plan → ℕ → Running → Running × What
runs plan t running =
    if shows_held plan running.words t then steps plan t how.Step running else runs_by (plan.kind t) plan t running

-- an NMI from elsewhere
abbrev pub nmi_comes : Plan → ℕ → Running → Running × What
nmi_comes plan t running =
    if shows_held plan running.words t then latches t running else nmi_by (plan.kind t) plan t running

-- what an event does, and its item
unfoldable pub happens : Plan → Event → Running → Running × What
happens plan (event.Step t) running = steps plan t how.Step running
happens plan (event.Timeout t) running = steps plan t how.Timeout running
happens plan (event.Run t) running = runs plan t running
happens plan (event.Nmi t) running = nmi_comes plan t running
