-- How many items count over a list of events.
use Rattle.std.proofs.Common.{◌≡◌, ◌≢◌, ℕ, ◌+◌, ◌-◌, ◌*◌, ◌≤◌, ◌==◌, ◌&&◌, Bool, true, false, cond, if◌then◌else◌, max, List, [], ◌∷◌, count_by, refl, arith, inl, inr}
use Rattle.std.proofs.lemmas.Bool.{cases_lt}
use Rattle.std.proofs.lemmas.Bool.Decides.{nat_tests}
use Rattle.std.proofs.lemmas.List.Sums.{sum_by-cons}
use Rattle.rendezvous_steps.specs.declared.steps.Kind.{Kind}
use Rattle.rendezvous_steps.specs.declared.steps.Kind.TheVariants.{Online, Offline, Absent}
use Rattle.rendezvous_steps.specs.declared.items.What.{What}
use Rattle.rendezvous_steps.specs.declared.items.What.TheVariants as what
use Rattle.rendezvous_steps.specs.declared.items.Event.{Event}
use Rattle.rendezvous_steps.specs.Plan.{Plan, is_primary}
use Rattle.rendezvous_steps.specs.Padded.{Padded}
use Rattle.rendezvous_steps.specs.StepTable.{opening, opening_phase}
use Rattle.rendezvous_steps.specs.Events.{Running, happens, opening_running}
use Rattle.rendezvous_model.specs.RoundStep.{thread_of}
use Rattle.rendezvous_model.specs.Run.{is_inner, is_inner_of}
use Rattle.play_steps.specs.Play.{is_over, play, last_moment}
use Rattle.play_steps.specs.Rank.{is_counted, weight, offlines_left, siblings_left, rank_in, rank, all_ranks}
use Rattle.play_steps.proofs.Play.{item_of}
use Rattle.run_laws.specs.Counted.{FewInnerItems, FewCounted, count_of}
use Rattle.run_laws.proofs.Tables.{same_or_not}
use Rattle.run_laws.proofs.Left.{offlines_few, siblings_few}
use Rattle.run_laws.proofs.Events.{ranks_fall}
use Rattle.run_laws.proofs.Ranks.{weight_is, rank_kept, all_ranks_fall, first_ranks}
use Rattle.run_laws.proofs.Sums.{sum_le}

-- Items that nobody else sees.

inner_weight : (item : What) → (if is_inner item then 1 else 0) ≤ weight false item
inner_weight what.Inner = omega arith
inner_weight item = omega arith

-- an item of t counts for t
inner_here : (t u : ℕ) (item : What) → t ≡ u → cond ((u == t) && is_inner item) 1 0 ≤ weight false item
inner_here t u item e =
    let same : (u == t) ≡ true = grind (arith, nat_tests) in
    rw same (inner_weight item)

inner_elsewhere : (t u : ℕ) (item : What) → t ≢ u → cond ((u == t) && is_inner item) 1 0 ≤ 0
inner_elsewhere t u item other =
    let different : (u == t) ≡ false = grind (arith, nat_tests) in
    rw different (omega arith)

inner_falls : (plan : Plan) (t : ℕ) (moment : Running) (event : Event) →
    cond (is_inner_of t (item_of plan moment event)) 1 0 + rank false plan t ((happens plan event moment).0.locals t)
    ≤ rank false plan t (moment.locals t)
inner_falls plan t moment event =
    let after = happens plan event moment in
    let falls = ranks_fall false plan event moment in
    elim (same_or_not t (thread_of event)) [
      | inl e ↦
          let own : weight false after.1 + rank false plan t (after.0.locals t) ≤ rank false plan t (moment.locals t) =
          rw e falls.own in
          let counts = inner_here t (thread_of event) after.1 e in
          omega arith
      | inr other ↦
          let kept = rank_kept false plan (thread_of event) moment after falls t in
          let none = inner_elsewhere t (thread_of event) after.1 other in
          omega arith
    ]

inner_by : (plan : Plan) (t : ℕ) (moment : Running) (event : Event) (events : List Event) (over : Bool) →
    is_over plan moment ≡ over →
    count_by (is_inner_of t) (play plan (happens plan event moment).0 events) ≤ rank false plan t
    ((happens plan event moment).0.locals t) →
    count_by (is_inner_of t) (play plan moment (event ∷ events)) ≤ rank false plan t (moment.locals t)
inner_by plan t moment event events true over rest = rw over (omega arith)
inner_by plan t moment event events false over rest =
    let falls = inner_falls plan t moment event in
    let first = sum_by-cons (λ item. cond (is_inner_of t item) 1 0) (item_of plan moment event)
    (play plan (happens plan event moment).0 events) in
    rw over (omega arith)

inner_within : (plan : Plan) (t : ℕ) (moment : Running) (events : List Event) →
    count_by (is_inner_of t) (play plan moment events) ≤ rank false plan t (moment.locals t)
inner_within plan t moment [] = omega arith
inner_within plan t moment (event ∷ events) =
    inner_by plan t moment event events (is_over plan moment) refl
    (inner_within plan t (happens plan event moment).0 events)

path_by : (plan : Plan) (t : ℕ) (primary zero : Bool) →
    max (if primary then 2 + siblings_left plan t 0 else 2)
    (if zero then 2 * offlines_left plan 0 + 0 else 0) ≤ 2 * plan.threads + 2
path_by plan t true true = let a = offlines_few plan 0 in let b = siblings_few plan t 0 in omega arith
path_by plan t true false = let b = siblings_few plan t 0 in omega arith
path_by plan t false true = let a = offlines_few plan 0 in omega arith
path_by plan t false false = omega arith

enters_by : (plan : Plan) (t : ℕ) (primary zero : Bool) →
    (if zero then 2 else 1)
    + max (if primary then 2 + siblings_left plan t 0 else 2)
    (if zero then 2 * offlines_left plan 0 + 0 else 0) ≤ 2 * plan.threads + 8
enters_by plan t primary true = let path = path_by plan t primary true in omega arith
enters_by plan t primary false = let path = path_by plan t primary false in omega arith

first_by :
    (plan : Plan) (t : ℕ) (kind : Kind) → plan.kind t ≡ kind →
    rank_in false plan t 0 (opening_phase kind) ≤ 2 * plan.threads + 8
first_by plan t Offline e = rw e (omega arith)
first_by plan t Absent e = omega arith
first_by plan t Online e = rw e (enters_by plan t (is_primary plan t) (t == 0))

first_inner : (plan : Plan) (t : ℕ) → rank false plan t (opening plan t) ≤ 2 * plan.threads + 8
unfolding rank opening
first_inner plan t = first_by plan t (plan.kind t) refl

pub few_inner_items : FewInnerItems
few_inner_items plan events t =
    let within = inner_within plan t (opening_running plan) events in
    let first = first_inner plan t in
    omega arith

-- All items that count.

-- a thread past the plan's last has nothing to come to
abbrev Stands : Plan → Running → Type 0
Stands plan moment = (t : ℕ) → plan.threads ≤ t → rank true plan t (moment.locals t) ≡ 0

stands_still :
    (plan : Plan) (event : Event) (moment : Running) → Stands plan moment →
    Stands plan (happens plan event moment).0
stands_still plan event moment stands t past =
    let kept = rank_kept true plan (thread_of event) moment (happens plan event moment)
    (ranks_fall true plan event moment) t in
    let none = stands t past in
    omega arith

counted_falls : (plan : Plan) (event : Event) (moment : Running) → Stands plan moment →
    (if is_counted (happens plan event moment).1 then 1 else 0) + all_ranks plan (happens plan event moment).0.locals
    ≤ all_ranks plan moment.locals
unfolding all_ranks
counted_falls plan event moment stands =
    let after = happens plan event moment in
    let falls = ranks_fall true plan event moment in
    elim (cases_lt (thread_of event) plan.threads) [
      | inl within ↦ all_ranks_fall plan event moment within
      | inr past ↦
          let none = stands (thread_of event) past in
          let own = falls.own in
          let is = weight_is after.1 in
          let kept = sum_le (λ u. rank true plan u (after.0.locals u)) (λ u. rank true plan u (moment.locals u)) 0
          (plan.threads - 0)
          (rank_kept true plan (thread_of event) moment after falls) in
          omega arith
    ]

counted_by : (plan : Plan) (moment : Running) (event : Event) (events : List Event) (over : Bool) →
    is_over plan moment ≡ over →
    (if is_counted (happens plan event moment).1 then 1 else 0) + all_ranks plan (happens plan event moment).0.locals
    ≤ all_ranks plan moment.locals →
    count_of (play plan (happens plan event moment).0 events) + all_ranks plan
    (last_moment plan (happens plan event moment).0 events).locals
    ≤ all_ranks plan (happens plan event moment).0.locals →
    count_of (play plan moment (event ∷ events)) + all_ranks plan (last_moment plan moment (event ∷ events)).locals
    ≤ all_ranks plan moment.locals
counted_by plan moment event events true over falls rest = rw over (omega arith)
counted_by plan moment event events false over falls rest =
    let first = sum_by-cons (λ item. cond (is_counted item.what) 1 0) (item_of plan moment event)
    (play plan (happens plan event moment).0 events) in
    rw over (omega arith)

pub counted_within : (plan : Plan) (moment : Running) (events : List Event) → Stands plan moment →
    count_of (play plan moment events) + all_ranks plan (last_moment plan moment events).locals ≤ all_ranks plan
    moment.locals
counted_within plan moment [] stands = omega arith
counted_within plan moment (event ∷ events) stands =
    counted_by plan moment event events (is_over plan moment) refl (counted_falls plan event moment stands)
    (counted_within plan (happens plan event moment).0 events (stands_still plan event moment stands))

pub opening_stands : (plan : Plan) → Padded plan → Stands plan (opening_running plan)
unfolding rank opening
opening_stands plan padded t past = rw (padded.no_thread t past) refl

pub few_counted : FewCounted
few_counted plan events padded =
    let within = counted_within plan (opening_running plan) events (opening_stands plan padded) in
    let first = first_ranks plan in
    omega arith
