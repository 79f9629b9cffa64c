-- The ranks of all threads together: at most 20 for each and 8 more when a rendezvous begins, and fewer with each item that
-- counts.
use Rattle.std.proofs.Common.{◌≡◌, ℕ, zero, suc, ◌+◌, ◌-◌, ◌*◌, ◌<◌, ◌≤◌, ◌==◌, ◌&&◌, Bool, true, false, if◌then◌else◌, cond, max, refl, ap, sym, ◌∙◌, arith, inl, inr}
use Rattle.std.proofs.lemmas.Bool.Decides.{nat_tests}
use Rattle.rendezvous_steps.specs.declared.steps.Kind.{Kind}
use Rattle.rendezvous_steps.specs.declared.steps.Kind.TheVariants.{Online, Offline, Absent}
use Rattle.rendezvous_steps.specs.declared.items.What.{What}
use Rattle.rendezvous_steps.specs.declared.items.What.TheVariants as what
use Rattle.rendezvous_steps.specs.Plan.{Plan, is_primary, is_sibling}
use Rattle.rendezvous_steps.specs.StepTable.{opening, opening_phase}
use Rattle.rendezvous_steps.specs.Events.{Running, happens}
use Rattle.rendezvous_model.specs.RoundStep.{thread_of}
use Rattle.play_steps.specs.Rank.{is_counted, weight, offlines_left, siblings_left, rank_in, rank, all_ranks}
use Rattle.run_laws.specs.Counted.{Falls, AllRanksFall, FirstRanks}
use Rattle.run_laws.proofs.Tables.{same_or_not}
use Rattle.run_laws.proofs.Left.{offlines_few}
use Rattle.run_laws.proofs.Events.{ranks_fall}
use Rattle.run_laws.proofs.Sums.{sum_over, sum_le, sum_falls, sum_at_most, sum_none, sum_plus, sum_swap, sum_step, one_at_most}

-- What an item counts, where all items do.

pub weight_is : (item : What) → weight true item ≡ (if is_counted item then 1 else 0)
weight_is what.Inner = refl
weight_is item = refl

-- One event.

-- no thread's rank rises
pub rank_kept :
    (all : Bool) (plan : Plan) (t : ℕ) (before : Running) (after : Running × What) →
    Falls all plan t before after → (u : ℕ) → rank all plan u (after.0.locals u) ≤ rank all plan u (before.locals u)
rank_kept all plan t before after falls u =
    elim (same_or_not u t) [
      | inl e ↦
          let own = falls.own in
          rw e (omega arith)
      | inr other ↦
          let same = ap (rank all plan u) (falls.others u other) in
          omega arith
    ]

pub all_ranks_fall : AllRanksFall
unfolding all_ranks
all_ranks_fall plan event moment within =
    let t = thread_of event in
    let after = happens plan event moment in
    let falls = ranks_fall true plan event moment in
    let own : (if is_counted after.1 then 1 else 0) + rank true plan t (after.0.locals t) ≤ rank true plan t
    (moment.locals t) =
    rw (← weight_is after.1) falls.own in
    sum_falls (λ u. rank true plan u (after.0.locals u)) (λ u. rank true plan u (moment.locals u))
    (if is_counted after.1 then 1 else 0) t 0 (plan.threads - 0) (omega arith) (omega arith) own
    (rank_kept true plan t moment after falls)

-- The opening.

-- the other threads of the group of a primary that take part
abbrev kin : Plan → ℕ → ℕ
kin plan t = sum_over (λ u. cond (is_primary plan t && is_sibling plan t u) 1 0) 0 (plan.threads - 0)

kin_of_primary :
    (plan : Plan) (t : ℕ) (b : Bool) → is_primary plan t ≡ b →
    (if b then siblings_left plan t 0 else 0) ≤ kin plan t
unfolding siblings_left
kin_of_primary plan t true e =
    sum_le (λ u. cond (is_sibling plan t u) 1 0) (λ u. cond (is_primary plan t && is_sibling plan t u) 1 0) 0
    (plan.threads - 0) (λ u. rw e (omega arith))
kin_of_primary plan t false e = omega arith

-- a thread is one of the others of one primary's group at most
is_its_primary :
    (plan : Plan) (t u : ℕ) → (is_primary plan t && is_sibling plan t u) ≡ true → t ≡ plan.primary (plan.group u)
is_its_primary plan t u e =
    let primary : (t == plan.primary (plan.group t)) ≡ true = first (is_primary plan t) (is_sibling plan t u) e in
    let sibling : is_sibling plan t u ≡ true = second (is_primary plan t) (is_sibling plan t u) e in
    let of_group : (plan.group u == plan.group t) ≡ true = first3 (plan.group u == plan.group t) _ _ sibling in
    let same : plan.group u ≡ plan.group t = grind (arith, nat_tests) in
    let here : t ≡ plan.primary (plan.group t) = grind (arith, nat_tests) in
    here ∙ ap plan.primary (sym same)
  where
    first : (a b : Bool) → (a && b) ≡ true → a ≡ true
    first true b e = refl
    first false b e = e

    second : (a b : Bool) → (a && b) ≡ true → b ≡ true
    second true b e = e
    second false b e = cc

    first3 : (a b c : Bool) → ((a && b) && c) ≡ true → a ≡ true
    first3 true b c e = refl
    first3 false b c e = e

kin_few : (plan : Plan) → sum_over (kin plan) 0 (plan.threads - 0) ≤ plan.threads
kin_few plan =
    let n = plan.threads - 0 in
    let swap = sum_swap (λ t u. cond (is_primary plan t && is_sibling plan t u) 1 0) 0 n 0 n in
    let each = sum_at_most
    (λ u. sum_over (λ t. cond (is_primary plan t && is_sibling plan t u) 1 0) 0 n) (λ u. 0) 1 0 n
    (λ u. let one = one_at_most (λ t. is_primary plan t && is_sibling plan t u) (plan.primary (plan.group u)) 0 n
    (λ t e. is_its_primary plan t u e) in omega arith) in
    let nothing = sum_none 0 n in
    omega arith

-- what thread 0 has more than others: it kicks the Offline threads, and frees them or takes back their kicks
abbrev more : Plan → ℕ → ℕ
more plan t = if t == 0 then 1 + 3 * plan.threads else 0

first_path : (plan : Plan) (t : ℕ) (primary zero : Bool) →
    is_primary plan t ≡ primary → (t == 0) ≡ zero →
    (if zero then 2 + (2 + offlines_left plan 0) else 3)
    + max (if primary then 6 + siblings_left plan t 0 else 3) (if zero then 2 * offlines_left plan 0 + 1 else 1)
    ≤ 9 + (kin plan t + (if zero then 1 + 3 * plan.threads else 0))
first_path plan t true true p z = let few = offlines_few plan 0 in let k = kin_of_primary plan t true p in omega arith
first_path plan t true false p z = let few = offlines_few plan 0 in let k = kin_of_primary plan t true p in omega arith
first_path plan t false true p z = let few = offlines_few plan 0 in omega arith
first_path plan t false false p z = let few = offlines_few plan 0 in omega arith

first_by : (plan : Plan) (t : ℕ) (kind : Kind) → plan.kind t ≡ kind →
    rank_in true plan t 0 (opening_phase kind) ≤ 9 + (kin plan t + more plan t)
first_by plan t Offline e = rw e (omega arith)
first_by plan t Absent e = omega arith
first_by plan t Online e =
    rw e (first_path plan t (is_primary plan t) (t == 0) refl refl)

first_rank : (plan : Plan) (t : ℕ) → rank true plan t (opening plan t) ≤ 9 + (kin plan t + more plan t)
unfolding rank opening
first_rank plan t = first_by plan t (plan.kind t) refl

past_first : (w a n : ℕ) → 0 < a → sum_over (λ t. if t == 0 then w else 0) a n ≡ 0
past_first w a zero past = refl
past_first w a (suc n) past =
    let step = sum_step (λ t. if t == 0 then w else 0) a n in
    let rest = past_first w (a + 1) n (omega arith) in
    let here : (a == 0) ≡ false = grind (arith, nat_tests) in
    let none : (if a == 0 then w else 0) ≡ 0 = rw here refl in
    omega arith

first_alone : (w n : ℕ) → sum_over (λ t. if t == 0 then w else 0) 0 n ≤ w
first_alone w zero = omega arith
first_alone w (suc n) =
    let step = sum_step (λ t. if t == 0 then w else 0) 0 n in
    let rest = past_first w (0 + 1) n (omega arith) in
    omega arith

pub first_ranks : FirstRanks
unfolding all_ranks
first_ranks plan =
    let n = plan.threads - 0 in
    let all = sum_at_most (λ t. rank true plan t (opening plan t)) (λ t. kin plan t + more plan t) 9 0 n
    (first_rank plan) in
    let parts = sum_plus (kin plan) (more plan) 0 n in
    let few = kin_few plan in
    let one = first_alone (1 + 3 * plan.threads) n in
    omega arith
