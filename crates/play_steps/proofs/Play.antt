-- What more events come to, and events past the end.
use Rattle.std.proofs.Common.{◌≡◌, ℕ, zero, suc, ◌≤◌, Bool, true, false, List, [], ◌∷◌, ◌++◌, length, refl, sym, ap, ◌∙◌, arith}
use Rattle.rendezvous_steps.specs.declared.items.Event.{Event}
use Rattle.rendezvous_steps.specs.declared.items.Item.{Item}
use Rattle.rendezvous_steps.specs.Plan.{Plan}
use Rattle.rendezvous_steps.specs.Events.{Running, happens}
use Rattle.rendezvous_model.specs.RoundStep.{thread_of}
use Rattle.play_steps.specs.Play.{is_over, play, moment_at, last_moment}

-- the item of an event
abbrev pub item_of : Plan → Running → Event → Item
item_of plan moment event = record { thread = thread_of event; what = (happens plan event moment).1 }

-- the next event, while it is not over
pub play_next :
    (plan : Plan) (moment : Running) (event : Event) (events : List Event) →
    is_over plan moment ≡ false →
    play plan moment (event ∷ events) ≡ item_of plan moment event ∷ play plan (happens plan event moment).0 events
play_next plan moment event events goes_on = rw goes_on refl

pub last_moment_next :
    (plan : Plan) (moment : Running) (event : Event) (events : List Event) →
    is_over plan moment ≡ false →
    last_moment plan moment (event ∷ events) ≡ last_moment plan (happens plan event moment).0 events
last_moment_next plan moment event events goes_on = rw goes_on refl

pub moment_at_next :
    (plan : Plan) (moment : Running) (event : Event) (events : List Event) (k : ℕ) →
    is_over plan moment ≡ false →
    moment_at plan moment (event ∷ events) (suc k) ≡ moment_at plan (happens plan event moment).0 events k
moment_at_next plan moment event events k goes_on = rw goes_on refl

-- nothing comes once it is over
pub play_over :
    (plan : Plan) (moment : Running) (events : List Event) → is_over plan moment ≡ true →
    play plan moment events ≡ []
play_over plan moment [] over = refl
play_over plan moment (event ∷ events) over = rw over refl

pub last_moment_over :
    (plan : Plan) (moment : Running) (events : List Event) → is_over plan moment ≡ true →
    last_moment plan moment events ≡ moment
last_moment_over plan moment [] over = refl
last_moment_over plan moment (event ∷ events) over = rw over refl

pub moment_at_over :
    (plan : Plan) (moment : Running) (events : List Event) (k : ℕ) → is_over plan moment ≡ true →
    moment_at plan moment events k ≡ moment
moment_at_over plan moment events zero over = refl
moment_at_over plan moment [] (suc k) over = refl
moment_at_over plan moment (event ∷ events) (suc k) over = rw over refl

-- events, and then others

play_append_by :
    (plan : Plan) (moment : Running) (event : Event) (xs ys : List Event) (over : Bool) →
    is_over plan moment ≡ over →
    play plan (happens plan event moment).0 (xs ++ ys)
    ≡ play plan (happens plan event moment).0 xs ++ play plan (last_moment plan (happens plan event moment).0 xs) ys →
    play plan moment (event ∷ (xs ++ ys)) ≡ play plan moment (event ∷ xs) ++ play plan
    (last_moment plan moment (event ∷ xs)) ys
play_append_by plan moment event xs ys true over rest = rw over (sym (play_over plan moment ys over))
play_append_by plan moment event xs ys false over rest = rw over (ap (λ items. item_of plan moment event ∷ items) rest)

pub play_append :
    (plan : Plan) (moment : Running) (xs ys : List Event) →
    play plan moment (xs ++ ys) ≡ play plan moment xs ++ play plan (last_moment plan moment xs) ys
play_append plan moment [] ys = refl
play_append plan moment (event ∷ xs) ys =
    play_append_by plan moment event xs ys (is_over plan moment) refl
    (play_append plan (happens plan event moment).0 xs ys)

last_append_by :
    (plan : Plan) (moment : Running) (event : Event) (xs ys : List Event) (over : Bool) →
    is_over plan moment ≡ over →
    last_moment plan (happens plan event moment).0 (xs ++ ys)
    ≡ last_moment plan (last_moment plan (happens plan event moment).0 xs) ys →
    last_moment plan moment (event ∷ (xs ++ ys)) ≡ last_moment plan (last_moment plan moment (event ∷ xs)) ys
last_append_by plan moment event xs ys true over rest = rw over (sym (last_moment_over plan moment ys over))
last_append_by plan moment event xs ys false over rest = rw over rest

pub last_moment_append :
    (plan : Plan) (moment : Running) (xs ys : List Event) →
    last_moment plan moment (xs ++ ys) ≡ last_moment plan (last_moment plan moment xs) ys
last_moment_append plan moment [] ys = refl
last_moment_append plan moment (event ∷ xs) ys =
    last_append_by plan moment event xs ys (is_over plan moment) refl
    (last_moment_append plan (happens plan event moment).0 xs ys)

-- there are as many items as events until it is over, and the last moment is the one after the last item

last_by :
    (plan : Plan) (moment : Running) (event : Event) (xs : List Event) (over : Bool) →
    is_over plan moment ≡ over →
    last_moment plan (happens plan event moment).0 xs
    ≡ moment_at plan (happens plan event moment).0 xs (length (play plan (happens plan event moment).0 xs)) →
    last_moment plan moment (event ∷ xs) ≡ moment_at plan moment (event ∷ xs) (length (play plan moment (event ∷ xs)))
last_by plan moment event xs true over rest = rw over refl
last_by plan moment event xs false over rest =
    last_moment_next plan moment event xs over
    ∙ rest
    ∙ sym (moment_at_next plan moment event xs (length (play plan (happens plan event moment).0 xs)) over)
    ∙ sym (ap (λ items. moment_at plan moment (event ∷ xs) (length items)) (play_next plan moment event xs over))

pub last_moment_is :
    (plan : Plan) (moment : Running) (events : List Event) →
    last_moment plan moment events ≡ moment_at plan moment events (length (play plan moment events))
last_moment_is plan moment [] = refl
last_moment_is plan moment (event ∷ events) =
    last_by plan moment event events (is_over plan moment) refl
    (last_moment_is plan (happens plan event moment).0 events)

shorter_by :
    (plan : Plan) (moment : Running) (event : Event) (xs : List Event) (over : Bool) →
    is_over plan moment ≡ over →
    length (play plan (happens plan event moment).0 xs) ≤ length xs →
    length (play plan moment (event ∷ xs)) ≤ length (event ∷ xs)
shorter_by plan moment event xs true over rest = rw over (omega arith)
shorter_by plan moment event xs false over rest = rw over (omega arith)

pub play_no_longer :
    (plan : Plan) (moment : Running) (events : List Event) → length (play plan moment events) ≤ length events
play_no_longer plan moment [] = omega arith
play_no_longer plan moment (event ∷ events) =
    shorter_by plan moment event events (is_over plan moment) refl
    (play_no_longer plan (happens plan event moment).0 events)
