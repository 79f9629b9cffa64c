-- A moment of a rendezvous, seen as its lists, and the moment of the definition that they stand for.
use Rattle.std.specs.Prelude.{◌≡◌, ◌==◌, ℕ, ◌<◌, ◌^◌, Bool, true, false, not, ◌&&◌, nat_le, List, length, slice_get}
use Rattle.std.specs.Prelude.{unwrap_or, count_by, Option, Some, None}
use Rattle.std.specs.List.{find}
use Rattle.rendezvous_steps.specs.declared.steps.Phase.{Phase}
use Rattle.rendezvous_steps.specs.declared.steps.Phase.TheVariants.{Waiting, SiblingWait, OfflineHold, Left, Halted}
use Rattle.rendezvous_steps.specs.declared.steps.Phase.TheVariants.{Withdrawn, Nothing}
use Rattle.rendezvous_steps.specs.declared.steps.Local.{Local}
use Rattle.rendezvous_steps.specs.declared.operations.Word.{Word}
use Rattle.rendezvous_steps.specs.declared.operations.Word.TheVariants.{Decide, Mode, Ctrl, Nmi, Rev}
use Rattle.rendezvous_steps.specs.declared.steps.How.TheVariants.{Step}
use Rattle.rendezvous_steps.specs.declared.items.What.{What}
use Rattle.rendezvous_steps.specs.declared.items.What.TheVariants.{Poll}
use Rattle.rendezvous_steps.specs.Plan.{Plan, threads_from}
use Rattle.rendezvous_steps.specs.StepTable.{write_of}
use Rattle.rendezvous_steps.specs.Events.{Running, shows_finished, steps}
use Rattle.ctl_words.specs.Lists.{Lists, has_word, word_of}
use Rattle.ctl_words.specs.Places.{is_word}
use Rattle.ctl_core.specs.Chains.{Tables, Chained}

-- how many threads are unfinished by the words
abbrev pub unfinished_in : Plan → (Word → ℕ) → ℕ
unfinished_in plan words = count_by (λ t. not (shows_finished plan words t)) (threads_from plan 0)

-- the lowest unfinished thread from one on
unfoldable pub unfinished_from : Plan → (Word → ℕ) → ℕ → Option ℕ
unfinished_from plan words k = find (λ t. not (shows_finished plan words t)) (threads_from plan k)

-- the thread that a word is one of
abbrev pub owner : Word → Option ℕ
owner (Mode t) = Some t
owner (Ctrl t) = Some t
owner (Nmi t) = Some t
owner word = None

-- a word of a thread that holds this shows that the thread left, halted, or had its kick taken back
abbrev pub is_end : Word → ℕ → Bool
is_end (Mode t) value = nat_le 8 value
is_end (Ctrl t) value = value == 3
is_end (Nmi t) value = value == 3
is_end word value = false

pub record State : Type 0 where
  pub words : Lists
  pub locals : List Local
  pub latched : List Bool
  pub unfinished : ℕ
  pub chains : Tables

-- where a thread past the last one stands
abbrev pub nowhere : Local
nowhere = record { phase = Nothing; at = 0; polls = 0; mine = 0 }

abbrev pub running_of : State → Running
running_of s =
    record {
      words = word_of s.words;
      locals = λ t. unwrap_or (slice_get s.locals t) nowhere;
      latched = λ t. unwrap_or (slice_get s.latched t) false;
    }

-- revisions are of 32 bits: those at the start, and those that a write leaves
pub record SmallRevisions (plan : Plan) : Type 0 where
  pub first : (g : ℕ) → plan.rev0 g < 2 ^ 32
  pub writes : (g : ℕ) → write_of plan g < 2 ^ 32

-- the lists have the plan's places, each thread's loop is at a thread of the plan, revisions are of 32 bits, the count
-- is that of the words, and the threads are linked as the plan's
pub record Fits (plan : Plan) (s : State) : Type 0 where
  pub words : (w : Word) → has_word s.words w ≡ is_word plan w
  pub locals : length s.locals ≡ plan.threads
  pub latched : length s.latched ≡ plan.threads
  pub places : (t : ℕ) → t < plan.threads → ((running_of s).locals t).at < plan.threads
  pub writes : (g : ℕ) → write_of plan g < 2 ^ 32
  pub revisions : (g : ℕ) → word_of s.words (Rev g) < 2 ^ 32
  pub counted : s.unfinished ≡ unfinished_in plan (word_of s.words)
  pub chained : Chained plan s.chains

abbrev pub is_poll : What → Bool
is_poll Poll = true
is_poll item = false

-- a thread in this phase waits for the decision or for its release, and that is not there
abbrev pub waits : Phase → (Word → ℕ) → ℕ → Bool
waits Waiting words t = words Decide == 0
waits SiblingWait words t = words (Ctrl t) == 0
waits OfflineHold words t = words (Ctrl t) == 0
waits phase words t = false

-- a thread in this phase has no operation
abbrev pub rests : Phase → Bool
rests Left = true
rests Halted = true
rests Withdrawn = true
rests Nothing = true
rests phase = false

-- the thread is unfinished and its next step is no Poll
abbrev pub is_ready : Plan → Running → ℕ → Bool
is_ready plan moment t = not (shows_finished plan moment.words t) && not (is_poll (steps plan t Step moment).1)

-- the lowest such thread from one on
unfoldable pub ready_from : Plan → Running → ℕ → Option ℕ
ready_from plan moment k = find (is_ready plan moment) (threads_from plan k)
