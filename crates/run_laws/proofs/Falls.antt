-- Each step lowers the rank of its thread by what its item counts, by the step table alone.
use Rattle.std.proofs.Common.{◌≡◌, ℕ, ◌+◌, ◌*◌, ◌==◌, ◌≤◌, Bool, true, false, if◌then◌else◌, Option, Some, None, refl, arith}
use Rattle.rendezvous_steps.specs.declared.steps.Kind.{Kind}
use Rattle.rendezvous_steps.specs.declared.steps.Kind.TheVariants.{Online, Offline, Absent}
use Rattle.rendezvous_steps.specs.declared.steps.Phase.{Phase}
use Rattle.rendezvous_steps.specs.declared.steps.Phase.TheVariants.{Outside, Kicking, OfflineWait, Arriving, Deciding, Waiting, Reading, Beginning, Writing, Checking, Reporting, Freeing, SiblingWait, SiblingCheck, SiblingCopy, Withdrawing, Releasing, OfflineCount, OfflineHold, Leaving, Left, Halted, Withdrawn, Nothing}
use Rattle.rendezvous_steps.specs.declared.steps.Local.{Local}
use Rattle.rendezvous_steps.specs.declared.steps.How.{How}
use Rattle.rendezvous_steps.specs.declared.steps.How.TheVariants as how
use Rattle.rendezvous_steps.specs.declared.items.What.{What}
use Rattle.rendezvous_steps.specs.declared.items.What.TheVariants as what
use Rattle.rendezvous_steps.specs.Plan.{Plan, is_primary, offline_from, sibling_from, offline_count}
use Rattle.rendezvous_steps.specs.StepTable.{after, after_in, after_outside, outside_item, kick_at, loop_at, go_path, drop_path, withdraw_at, free_at, by_decision, by_release, polled, wait_in, with_result, to, told, exceeds}
use Rattle.play_steps.specs.Rank.{others, weight, offlines_left, siblings_left, go_rank, drop_rank, path_rank, outside_rank, rank_in, rank}
use Rattle.run_laws.proofs.Left.{offline_found, sibling_found}

-- a thread's state in this phase
abbrev here : Phase → ℕ → ℕ → ℕ → Local
here phase at polls mine = record { phase = phase; at = at; polls = polls; mine = mine }

-- what counts where all items count, in terms of the count of one
record Scaled (all : Bool) : Type 0 where
  one : others all 1 ≤ 1
  two : others all 2 ≡ 2 * others all 1
  three : others all 3 ≡ 3 * others all 1
  four : others all 4 ≡ 4 * others all 1

scaled : (all : Bool) → Scaled all
scaled true = record { one = omega arith; two = refl; three = refl; four = refl }
scaled false = record { one = omega arith; two = refl; three = refl; four = refl }

others_two : (all : Bool) (n : ℕ) → others all (2 + n) ≡ 2 * others all 1 + others all n
others_two true n = omega arith
others_two false n = omega arith

others_found : (all : Bool) (m n : ℕ) → 1 + m ≤ n → others all 1 + others all m ≤ others all n
others_found true m n fewer = fewer
others_found false m n fewer = omega arith

module _ (all : Bool) (plan : Plan) (t : ℕ) (s : Scaled all) where
  abbrev left : Local → ℕ
  left local = rank_in all plan t local.at local.phase

  -- the item and the rank after it are within this rank
  abbrev Fits : ℕ → Local × What → Type 0
  Fits n row = weight all row.1 + left row.0 ≤ n

  -- both rows of a test, both states, both items
  fits_both : (n : ℕ) (b : Bool) (x y : Local × What) → Fits n x → Fits n y → Fits n (if b then x else y)
  fits_both n true x y first second = first
  fits_both n false x y first second = second

  left_both : (n : ℕ) (b : Bool) (x y : Local) → left x ≤ n → left y ≤ n → left (if b then x else y) ≤ n
  left_both n true x y first second = first
  left_both n false x y first second = second

  weight_both :
      (n : ℕ) (b : Bool) (x y : What) → weight all x ≤ n → weight all y ≤ n → weight all (if b then x else y) ≤ n
  weight_both n true x y first second = first
  weight_both n false x y first second = second

  -- where the loops over threads lead

  kicks :
      (local : Local) (k : ℕ) (o : Option ℕ) → offline_from plan k ≡ o →
      left (kick_at local o) ≤ 2 + others all 1 + others all (offlines_left plan k) + path_rank all plan t
  kicks local k (Some m) e =
      let fewer = others_found all (offlines_left plan (m + 1)) (offlines_left plan k) (offline_found plan k m e) in
      let two = others_two all (offlines_left plan (m + 1)) in
      omega arith
  kicks local k None e = omega arith

  withdraws :
      (local : Local) (k : ℕ) (o : Option ℕ) → offline_from plan k ≡ o →
      left (withdraw_at local o) ≤ 2 * offlines_left plan k + others all 1
  withdraws local k (Some m) e = let fewer = offline_found plan k m e in omega arith
  withdraws local k None e = omega arith

  frees :
      (local : Local) (k : ℕ) (o : Option ℕ) → sibling_from plan t k ≡ o →
      left (free_at local o) ≤ siblings_left plan t k + others all 1
  frees local k (Some m) e = let fewer = sibling_found plan t k m e in omega arith
  frees local k None e = omega arith

  -- where the paths lead

  goes_by : (local : Local) (b : Bool) →
      left (if b then to local Reading else wait_in local SiblingWait)
      ≤ (if b then 2 + others all 4 + siblings_left plan t 0 else 2 + others all 1)
  goes_by local true = omega arith
  goes_by local false = omega arith

  goes : (local : Local) → left (go_path plan t local) ≤ go_rank all plan t
  goes local = goes_by local (is_primary plan t)

  drops_by : (local : Local) (b : Bool) →
      left (if b then withdraw_at (record local { mine = 5 }) (offline_from plan 0) else with_result local 5 Leaving)
      ≤ (if b then 2 * offlines_left plan 0 + others all 1 else others all 1)
  drops_by local true = withdraws (record local { mine = 5 }) 0 (offline_from plan 0) refl
  drops_by local false = omega arith

  drops : (local : Local) → left (drop_path plan t local) ≤ drop_rank all plan t
  drops local = drops_by local (t == 0)

  decides : (local : Local) (found : ℕ) → Fits (1 + path_rank all plan t) (by_decision plan t local found)
  decides local found =
      let go = goes local in
      let drop = drops local in
      fits_both (1 + path_rank all plan t) (found == 1) (go_path plan t local, what.Inner)
      (drop_path plan t local, what.Inner)
      (omega arith) (omega arith)

  released : (local : Local) (found : ℕ) → Fits (2 + others all 1) (by_release local found)
  released local found =
      fits_both (2 + others all 1) (found == 1) (to local SiblingCheck, what.Inner) (to local SiblingCopy, what.Inner)
      (omega arith) (omega arith)

  -- what a wait shows counts nothing
  quiet_poll : (h : How) → weight all (outside_item h what.Poll) ≡ others all 0
  quiet_poll how.Step = refl
  quiet_poll how.Timeout = refl
  quiet_poll how.Nmi = refl

  quiet_idle : (h : How) → weight all (outside_item h what.Idle) ≡ others all 0
  quiet_idle how.Step = refl
  quiet_idle how.Timeout = refl
  quiet_idle how.Nmi = refl

  none : others all 0 ≡ 0
  none = others_none all
    where
      others_none : (b : Bool) → others b 0 ≡ 0
      others_none true = refl
      others_none false = refl

  -- by phase

  first_kick : (local : Local) (o : Option ℕ) → offline_from plan 0 ≡ o →
      others all 1 + left (loop_at local Kicking o Arriving) ≤ 2 + others all (2 + offlines_left plan 0) + path_rank
      all plan t
  first_kick local (Some m) e =
      let fewer = others_found all (offlines_left plan (m + 1)) (offlines_left plan 0) (offline_found plan 0 m e) in
      let there = others_two all (offlines_left plan (m + 1)) in
      let before = others_two all (offlines_left plan 0) in
      omega arith
  first_kick local None e = let before = others_two all (offlines_left plan 0) in omega arith

  enters_by : (local : Local) (b : Bool) →
      others all 1 + left (if b then loop_at local Kicking (offline_from plan 0) Arriving else to local Arriving)
      ≤ (if b then 2 + others all (2 + offlines_left plan 0) else 1 + others all 2) + path_rank all plan t
  enters_by local true = first_kick local (offline_from plan 0) refl
  enters_by local false = omega arith

  outside_by : (at polls mine found : ℕ) (h : How) (kind : Kind) → plan.kind t ≡ kind →
      Fits (outside_rank kind all plan t) (after_outside kind plan t (here Outside at polls mine) h found)
  outside_by at polls mine found h Online e = enters_by (here Outside at polls mine) (t == 0)
  outside_by at polls mine found h Absent e = enters_by (here Outside at polls mine) (t == 0)
  outside_by at polls mine found h Offline e =
      let waits : left (here Outside at polls mine) ≡ 1 + others all 3 = rw e refl in
      let no_poll = quiet_poll h in
      let no_idle = quiet_idle h in
      let zero = none in
      let local = here Outside at polls mine in
      fits_both (1 + others all 3) (found == 1) (to local OfflineCount, what.Enter)
      (if found == 3 then (to local Withdrawn, outside_item h what.Idle) else (local, outside_item h what.Poll))
      (omega arith)
      (fits_both (1 + others all 3) (found == 3) (to local Withdrawn, outside_item h what.Idle)
      (local, outside_item h what.Poll)
      (omega arith) (omega arith))

  looks_for_offline : (local : Local) (found : ℕ) → left local ≡ 2 + others all 1 + path_rank all plan t →
      Fits (2 + others all 1 + path_rank all plan t)
      (if found == offline_count plan then (to local Arriving, what.Inner) else (polled local, what.Poll))
  looks_for_offline local found e =
      let zero = none in
      fits_both _ (found == offline_count plan) (to local Arriving, what.Inner) (polled local, what.Poll)
      (omega arith) (omega arith)

  looks_for_decision : (local : Local) (found : ℕ) → left local ≡ 1 + path_rank all plan t →
      Fits (1 + path_rank all plan t) (if found == 0 then (polled local, what.Poll) else by_decision plan t local found)
  looks_for_decision local found e =
      let zero = none in
      fits_both _ (found == 0) (polled local, what.Poll) (by_decision plan t local found) (omega arith)
      (decides local found)

  looks_for_release : (local : Local) (found : ℕ) → left local ≡ 2 + others all 1 →
      Fits (2 + others all 1) (if found == 0 then (polled local, what.Poll) else by_release local found)
  looks_for_release local found e =
      let zero = none in
      fits_both _ (found == 0) (polled local, what.Poll) (by_release local found) (omega arith) (released local found)

  looks_for_free : (local : Local) (found : ℕ) → left local ≡ 1 + others all 1 →
      Fits (1 + others all 1) (if found == 0 then (polled local, what.Poll) else (to local Leaving, what.Inner))
  looks_for_free local found e =
      let zero = none in
      fits_both _ (found == 0) (polled local, what.Poll) (to local Leaving, what.Inner) (omega arith) (omega arith)

  halts_or : (local : Local) (n found : ℕ) (row : Local × What) → others all 1 ≤ n → Fits n row →
      Fits n (if found == 0 then (to local Halted, what.Halt) else row)
  halts_or local n found row within other = fits_both n (found == 0) (to local Halted, what.Halt) row (omega arith)
      other

  fits : (at polls mine found : ℕ) (h : How) (p : Phase) →
      Fits (rank_in all plan t at p) (after_in plan t (here p at polls mine) h found p)
  fits at polls mine found h Outside = outside_by at polls mine found h (plan.kind t) refl
  fits at polls mine found h Kicking =
      let two = others_two all (offlines_left plan (at + 1)) in
      let next = kicks (here Kicking at polls mine) (at + 1) (offline_from plan (at + 1)) refl in
      omega arith
  fits at polls mine found how.Timeout OfflineWait =
      let next = drops (here OfflineWait at polls mine) in
      let item = weight_both 1 (found == 0) what.DropKick what.Inner (omega arith) (omega arith) in
      omega arith
  fits at polls mine found how.Step OfflineWait = looks_for_offline (here OfflineWait at polls mine) found refl
  fits at polls mine found how.Nmi OfflineWait = looks_for_offline (here OfflineWait at polls mine) found refl
  fits at polls mine found h Arriving =
      let local = here Arriving at polls mine in
      let next = left_both (1 + path_rank all plan t) (found == 1) (to local Deciding) (wait_in local Waiting)
      (omega arith) (omega arith) in
      omega arith
  fits at polls mine found h Deciding =
      let local = here Deciding at polls mine in
      let go = goes local in
      let drop = drops local in
      fits_both _ (found == 0) (go_path plan t local, what.Go) (drop_path plan t local, what.Inner) (omega arith)
      (omega arith)
  fits at polls mine found how.Timeout Waiting =
      let local = here Waiting at polls mine in
      let drop = drops local in
      fits_both _ (found == 0) (drop_path plan t local, what.Drop) (by_decision plan t local found) (omega arith)
      (decides local found)
  fits at polls mine found how.Step Waiting = looks_for_decision (here Waiting at polls mine) found refl
  fits at polls mine found how.Nmi Waiting = looks_for_decision (here Waiting at polls mine) found refl
  fits at polls mine found h Reading =
      let local = here Reading at polls mine in
      let next = left_both (1 + others all 4 + siblings_left plan t 0) (exceeds (plan.offer (plan.group t)) found)
      (to local Beginning) (with_result local 3 Reporting) (omega arith) (omega arith) in
      omega arith
  fits at polls mine found h Beginning = omega arith
  fits at polls mine found h Writing = omega arith
  fits at polls mine found h Checking = omega arith
  fits at polls mine found h Reporting =
      let next = frees (record { phase = Reporting; at = at; polls = polls; mine = told mine }) 0
      (sibling_from plan t 0) refl in
      omega arith
  fits at polls mine found h Freeing =
      let next = frees (here Freeing at polls mine) (at + 1) (sibling_from plan t (at + 1)) refl in
      let item = weight_both 1 (found == 0) (what.Free at) what.Inner (omega arith) (omega arith) in
      omega arith
  fits at polls mine found how.Timeout SiblingWait =
      let local = here SiblingWait at polls mine in
      halts_or local _ found (by_release local found) (omega arith) (released local found)
  fits at polls mine found how.Step SiblingWait = looks_for_release (here SiblingWait at polls mine) found refl
  fits at polls mine found how.Nmi SiblingWait = looks_for_release (here SiblingWait at polls mine) found refl
  fits at polls mine found h SiblingCheck = omega arith
  fits at polls mine found h SiblingCopy = omega arith
  fits at polls mine found h Withdrawing =
      let local = here Withdrawing at polls mine in
      let next = withdraws local (at + 1) (offline_from plan (at + 1)) refl in
      fits_both _ (found == 1) (withdraw_at local (offline_from plan (at + 1)), what.Withdraw at)
      (to local Releasing, what.Inner)
      (omega arith) (omega arith)
  fits at polls mine found h Releasing =
      let next = withdraws (here Releasing at polls mine) (at + 1) (offline_from plan (at + 1)) refl in
      let item = weight_both 1 (found == 0) (what.Free at) what.Inner (omega arith) (omega arith) in
      omega arith
  fits at polls mine found h OfflineCount = omega arith
  fits at polls mine found how.Timeout OfflineHold =
      let local = here OfflineHold at polls mine in
      halts_or local _ found (to local Leaving, what.Inner) (omega arith) (omega arith)
  fits at polls mine found how.Step OfflineHold = looks_for_free (here OfflineHold at polls mine) found refl
  fits at polls mine found how.Nmi OfflineHold = looks_for_free (here OfflineHold at polls mine) found refl
  fits at polls mine found h Leaving = omega arith
  fits at polls mine found h Left = let zero = none in omega arith
  fits at polls mine found h Halted = let zero = none in omega arith
  fits at polls mine found h Withdrawn = let zero = none in omega arith
  fits at polls mine found h Nothing = let zero = none in omega arith

-- a step lowers the rank of its thread by what its item counts
pub after_fits :
    (all : Bool) (plan : Plan) (t : ℕ) (local : Local) (h : How) (found : ℕ) →
    weight all (after plan t local h found).1 + rank all plan t (after plan t local h found).0 ≤ rank all plan t local
unfolding after rank
after_fits all plan t local h found = fits all plan t (scaled all) local.at local.polls local.mine found h local.phase
