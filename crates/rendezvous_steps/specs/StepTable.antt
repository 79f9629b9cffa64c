-- The steps of a thread: for each phase the operation, and for each old value of the word that it touches the item and
-- the thread's next state. `find` takes threads in ascending order, so a loop goes from the first to the next.
use Rattle.std.specs.Prelude.{ℕ, ◌+◌, ◌==◌, Bool, true, false, if◌then◌else◌, Option, Some, None, min, nat_lt}
use Rattle.rendezvous_steps.specs.declared.steps.Kind.{Kind}
use Rattle.rendezvous_steps.specs.declared.steps.Kind.TheVariants.{Offline, Absent}
use Rattle.rendezvous_steps.specs.declared.steps.ThreadResult.{ThreadResult}
use Rattle.rendezvous_steps.specs.declared.steps.ThreadResult.TheVariants as results
use Rattle.rendezvous_steps.specs.declared.steps.Phase.{Phase}
use Rattle.rendezvous_steps.specs.declared.steps.Phase.TheVariants.{Outside, Kicking, OfflineWait, Arriving, Deciding}
use Rattle.rendezvous_steps.specs.declared.steps.Phase.TheVariants.{Waiting, Reading, Beginning, Writing, Checking}
use Rattle.rendezvous_steps.specs.declared.steps.Phase.TheVariants.{Reporting, Freeing, SiblingWait, SiblingCheck}
use Rattle.rendezvous_steps.specs.declared.steps.Phase.TheVariants.{SiblingCopy, Withdrawing, Releasing, OfflineCount}
use Rattle.rendezvous_steps.specs.declared.steps.Phase.TheVariants.{OfflineHold, Leaving, Left, Halted, Withdrawn}
use Rattle.rendezvous_steps.specs.declared.steps.Phase.TheVariants.{Nothing}
use Rattle.rendezvous_steps.specs.declared.steps.Local.{Local}
use Rattle.rendezvous_steps.specs.declared.steps.How.{How}
use Rattle.rendezvous_steps.specs.declared.steps.How.TheVariants as how
use Rattle.rendezvous_steps.specs.declared.operations.Word.TheVariants as word
use Rattle.rendezvous_steps.specs.declared.operations.Op.{Op}
use Rattle.rendezvous_steps.specs.declared.operations.Op.TheVariants.{Load, Store, Add, Sub, Cas}
use Rattle.rendezvous_steps.specs.declared.items.What.{What}
use Rattle.rendezvous_steps.specs.declared.items.What.TheVariants as what
use Rattle.rendezvous_steps.specs.Plan.{Plan, is_primary, offline_from, sibling_from, offline_count, offer_or_rev0}

-- Numbers of results. Any other number, which no step meets, is taken for Error's.

abbrev pub number_of : ThreadResult → ℕ
number_of results.Updated = 1
number_of results.Okay = 2
number_of results.Current = 3
number_of results.Error = 4
number_of results.Timeout = 5
number_of results.Offline = 6

abbrev pub result_of : ℕ → ThreadResult
result_of n =
    if n == 1 then results.Updated else
    if n == 2 then results.Okay else
    if n == 3 then results.Current else
    if n == 5 then results.Timeout else
    if n == 6 then results.Offline else results.Error

abbrev pub told : ℕ → ℕ
told n = number_of (result_of n)

-- Where a thread goes next.

-- on to a phase
abbrev pub to : Local → Phase → Local
to local phase = record local { phase = phase }

-- on to a phase in which polls are counted
abbrev pub wait_in : Local → Phase → Local
wait_in local phase = record local { phase = phase; polls = 0 }

-- on to a phase, with a result for the leave
abbrev pub with_result : Local → ℕ → Phase → Local
with_result local mine phase = record local { phase = phase; mine = mine }

-- one poll more, up to the greatest count
abbrev pub polled : Local → Local
polled local = record local { polls = min (local.polls + 1) 4294967295 }

-- a loop's phase at the thread that was found, or else the phase after the loop
abbrev pub loop_at : Local → Phase → Option ℕ → Phase → Local
loop_at local phase (Some k) after = record local { phase = phase; at = k }
loop_at local phase None after = record local { phase = after }

-- kicks from this thread on, and then the wait for the kicked
abbrev pub kick_at : Local → Option ℕ → Local
kick_at local (Some k) = record local { phase = Kicking; at = k }
kick_at local None = wait_in local OfflineWait

-- after the enter of a thread that is not Offline
abbrev pub entered : Plan → ℕ → Local → Local
entered plan t local = if t == 0 then loop_at local Kicking (offline_from plan 0) Arriving else to local Arriving

-- the go path
abbrev pub go_path : Plan → ℕ → Local → Local
go_path plan t local = if is_primary plan t then to local Reading else wait_in local SiblingWait

-- withdrawals from this thread on, and then the leave
abbrev pub withdraw_at : Local → Option ℕ → Local
withdraw_at local k = loop_at local Withdrawing k Leaving

-- the drop path
abbrev pub drop_path : Plan → ℕ → Local → Local
drop_path plan t local =
    if t == 0 then withdraw_at (record local { mine = 5 }) (offline_from plan 0) else with_result local 5 Leaving

-- a free of this sibling, or else the leave
abbrev pub free_at : Local → Option ℕ → Local
free_at local s = loop_at local Freeing s Leaving

abbrev pub opening_mine : Kind → ℕ
opening_mine Offline = 6
opening_mine kind = 0

abbrev pub opening_phase : Kind → Phase
opening_phase Absent = Nothing
opening_phase kind = Outside

-- where a thread stands when a rendezvous begins
unfoldable pub opening : Plan → ℕ → Local
opening plan t =
    record { phase = opening_phase (plan.kind t); at = 0; polls = 0; mine = opening_mine (plan.kind t) }

-- the offer is there and greater than a revision
abbrev pub exceeds : Option ℕ → ℕ → Bool
exceeds (Some offer) revision = nat_lt revision offer
exceeds None revision = false

-- what the write of a group leaves
abbrev pub write_of : Plan → ℕ → ℕ
write_of plan g = if plan.refuse g then plan.rev0 g else offer_or_rev0 plan g

-- what a thread tells those that it frees: 1 apply, 2 done
abbrev pub release_of : Local → ℕ
release_of local = if local.mine == 1 then 1 else 2

-- the phases after which nothing comes
abbrev pub is_last : Phase → Bool
is_last Left = true
is_last Halted = true
is_last Withdrawn = true
is_last Nothing = true
is_last phase = false

-- The operation of a thread.

abbrev pub enter_operation : Kind → ℕ → Op
enter_operation Offline t = Cas (word.Nmi t) 1 2
enter_operation kind t = Store (word.Mode t) 1

abbrev pub operation_in : Plan → ℕ → Local → How → Phase → Option Op
operation_in plan t local h Outside = Some (enter_operation (plan.kind t) t)
operation_in plan t local h Kicking = Some (Store (word.Nmi local.at) 1)
operation_in plan t local how.Timeout OfflineWait = Some (Cas word.Decide 0 2)
operation_in plan t local h OfflineWait = Some (Load word.OffIn)
operation_in plan t local h Arriving = Some (Sub word.Arrive 1)
operation_in plan t local h Deciding = Some (Cas word.Decide 0 1)
operation_in plan t local how.Timeout Waiting = Some (Cas word.Decide 0 (3 + t))
operation_in plan t local h Waiting = Some (Load word.Decide)
operation_in plan t local h Reading = Some (Load (word.Rev (plan.group t)))
operation_in plan t local h Beginning = Some (Store (word.Mode t) 2)
operation_in plan t local h Writing = Some (Store (word.Rev (plan.group t)) (write_of plan (plan.group t)))
operation_in plan t local h Checking = Some (Load (word.Rev (plan.group t)))
operation_in plan t local h Reporting = Some (Store (word.Res (plan.group t)) (told local.mine))
operation_in plan t local h Freeing = Some (Cas (word.Ctrl local.at) 0 (release_of local))
operation_in plan t local how.Timeout SiblingWait = Some (Cas (word.Ctrl t) 0 3)
operation_in plan t local h SiblingWait = Some (Load (word.Ctrl t))
operation_in plan t local h SiblingCheck = Some (Load (word.Rev (plan.group t)))
operation_in plan t local h SiblingCopy = Some (Load (word.Res (plan.group t)))
operation_in plan t local h Withdrawing = Some (Cas (word.Nmi local.at) 1 3)
operation_in plan t local h Releasing = Some (Cas (word.Ctrl local.at) 0 2)
operation_in plan t local h OfflineCount = Some (Add word.OffIn 1)
operation_in plan t local how.Timeout OfflineHold = Some (Cas (word.Ctrl t) 0 3)
operation_in plan t local h OfflineHold = Some (Load (word.Ctrl t))
operation_in plan t local h Leaving = Some (Store (word.Mode t) (8 + told local.mine))
operation_in plan t local h Left = None
operation_in plan t local h Halted = None
operation_in plan t local h Withdrawn = None
operation_in plan t local h Nothing = None

unfoldable pub operation : Plan → ℕ → Local → How → Option Op
operation plan t local h = operation_in plan t local h local.phase

-- The next state of a thread, and the item, where its operation found an old value.

-- what an Offline thread outside shows while it is not taken
abbrev pub outside_item : How → What → What
outside_item how.Nmi quiet = what.Ordinary
outside_item h quiet = quiet

-- an Offline thread takes its kick, finds it taken back, or is not kicked yet
abbrev pub after_kick : Local → How → ℕ → Local × What
after_kick local h found =
    if found == 1 then (to local OfflineCount, what.Enter) else
    if found == 3 then (to local Withdrawn, outside_item h what.Idle) else (local, outside_item h what.Poll)

abbrev pub after_outside : Kind → Plan → ℕ → Local → How → ℕ → Local × What
after_outside Offline plan t local h found = after_kick local h found
after_outside kind plan t local h found = (entered plan t local, what.Enter)

-- the decision, as an exchange or a look that came too late finds it: 1 go, else drop
abbrev pub by_decision : Plan → ℕ → Local → ℕ → Local × What
by_decision plan t local found =
    if found == 1 then (go_path plan t local, what.Inner) else (drop_path plan t local, what.Inner)

-- the own control word, not 0, of a sibling: 1 apply, else done
abbrev pub by_release : Local → ℕ → Local × What
by_release local found =
    if found == 1 then (to local SiblingCheck, what.Inner) else (to local SiblingCopy, what.Inner)

abbrev pub after_in : Plan → ℕ → Local → How → ℕ → Phase → Local × What
after_in plan t local h found Outside = after_outside (plan.kind t) plan t local h found
after_in plan t local h found Kicking = (kick_at local (offline_from plan (local.at + 1)), what.Kick local.at)
after_in plan t local how.Timeout found OfflineWait =
    (drop_path plan t local, if found == 0 then what.DropKick else what.Inner)
after_in plan t local h found OfflineWait =
    if found == offline_count plan then (to local Arriving, what.Inner) else (polled local, what.Poll)
after_in plan t local h found Arriving =
    (if found == 1 then to local Deciding else wait_in local Waiting, what.Arrive)
after_in plan t local h found Deciding =
    if found == 0 then (go_path plan t local, what.Go) else (drop_path plan t local, what.Inner)
after_in plan t local how.Timeout found Waiting =
    if found == 0 then (drop_path plan t local, what.Drop) else by_decision plan t local found
after_in plan t local h found Waiting =
    if found == 0 then (polled local, what.Poll) else by_decision plan t local found
after_in plan t local h found Reading = (
  if exceeds (plan.offer (plan.group t)) found then to local Beginning else with_result local 3 Reporting,
  what.Inner,
)
after_in plan t local h found Beginning = (to local Writing, what.Begin (plan.group t))
after_in plan t local h found Writing =
    (to local Checking, what.Wrote (plan.group t) (write_of plan (plan.group t)))
after_in plan t local h found Checking =
    (with_result local (if found == offer_or_rev0 plan (plan.group t) then 1 else 4) Reporting, what.Inner)
after_in plan t local h found Reporting = (
  free_at (record local { mine = told local.mine }) (sibling_from plan t 0),
  what.Report (plan.group t) (result_of local.mine),
)
after_in plan t local h found Freeing =
    (free_at local (sibling_from plan t (local.at + 1)), if found == 0 then what.Free local.at else what.Inner)
after_in plan t local how.Timeout found SiblingWait =
    if found == 0 then (to local Halted, what.Halt) else by_release local found
after_in plan t local h found SiblingWait =
    if found == 0 then (polled local, what.Poll) else by_release local found
after_in plan t local h found SiblingCheck =
    (with_result local (if found == offer_or_rev0 plan (plan.group t) then 2 else 4) Leaving, what.Inner)
after_in plan t local h found SiblingCopy = (with_result local (told found) Leaving, what.Inner)
after_in plan t local h found Withdrawing =
    if found == 1
    then (withdraw_at local (offline_from plan (local.at + 1)), what.Withdraw local.at)
    else (to local Releasing, what.Inner)
after_in plan t local h found Releasing =
    (withdraw_at local (offline_from plan (local.at + 1)), if found == 0 then what.Free local.at else what.Inner)
after_in plan t local h found OfflineCount = (wait_in local OfflineHold, what.Arrive)
after_in plan t local how.Timeout found OfflineHold =
    if found == 0 then (to local Halted, what.Halt) else (to local Leaving, what.Inner)
after_in plan t local h found OfflineHold =
    if found == 0 then (polled local, what.Poll) else (to local Leaving, what.Inner)
after_in plan t local h found Leaving =
    (record local { phase = Left; mine = told local.mine }, what.Leave (result_of local.mine))
after_in plan t local h found Left = (local, what.Idle)
after_in plan t local h found Halted = (local, what.Idle)
after_in plan t local h found Withdrawn = (local, what.Idle)
after_in plan t local h found Nothing = (local, what.Idle)

unfoldable pub after : Plan → ℕ → Local → How → ℕ → Local × What
after plan t local h found = after_in plan t local h found local.phase
