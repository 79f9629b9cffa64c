-- What a list of events comes to, from any moment on: the items, one for each event, and the moments between them. Once
-- no thread is unfinished the rendezvous is over, and no further event does anything.
use Rattle.std.specs.Prelude.{ℕ, zero, suc, Bool, not, if◌then◌else◌, List, [], ◌∷◌}
use Rattle.std.specs.List.{list_any}
use Rattle.rendezvous_steps.specs.declared.items.Event.{Event}
use Rattle.rendezvous_steps.specs.declared.items.Item.{Item}
use Rattle.rendezvous_steps.specs.Plan.{Plan, threads_from}
use Rattle.rendezvous_steps.specs.Events.{Running, happens, shows_finished}
use Rattle.rendezvous_model.specs.RoundStep.{thread_of}

-- some thread is unfinished
abbrev pub has_unfinished : Plan → Running → Bool
has_unfinished plan moment = list_any (λ t. not (shows_finished plan moment.words t)) (threads_from plan 0)

abbrev pub is_over : Plan → Running → Bool
is_over plan moment = not (has_unfinished plan moment)

-- the items
abbrev pub play : Plan → Running → List Event → List Item
play plan moment [] = []
play plan moment (event ∷ events) =
    if is_over plan moment
    then []
    else
    record { thread = thread_of event; what = (happens plan event moment).1 }
    ∷ play plan (happens plan event moment).0 events

-- the moment after the first k events
abbrev pub moment_at : Plan → Running → List Event → ℕ → Running
moment_at plan moment events zero = moment
moment_at plan moment [] (suc k) = moment
moment_at plan moment (event ∷ events) (suc k) =
    if is_over plan moment then moment else moment_at plan (happens plan event moment).0 events k

-- the moment after all of them
abbrev pub last_moment : Plan → Running → List Event → Running
last_moment plan moment [] = moment
last_moment plan moment (event ∷ events) =
    if is_over plan moment then moment else last_moment plan (happens plan event moment).0 events
