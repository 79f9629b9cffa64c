-- Steps that count, by the thread's own state and the words alone.
use Rattle.std.proofs.Common.{◌≡◌, ◌≢◌, ℕ, ◌+◌, ◌==◌, Bool, true, false, if◌then◌else◌, Some, refl, ap, sym, ◌∙◌, subst, arith}
use Rattle.std.proofs.lemmas.Bool.Decides.{nat_tests}
use Rattle.rendezvous_steps.specs.declared.steps.Kind.TheVariants.{Online, Offline}
use Rattle.rendezvous_steps.specs.declared.steps.Phase.{Phase}
use Rattle.rendezvous_steps.specs.declared.steps.Phase.TheVariants.{Outside, Kicking, OfflineWait, Arriving, Deciding, Waiting, Reading, Beginning, Writing, Checking, Reporting, Freeing, SiblingWait, SiblingCheck, SiblingCopy, Withdrawing, Releasing, OfflineCount, OfflineHold, Leaving}
use Rattle.rendezvous_steps.specs.declared.steps.Local.{Local}
use Rattle.rendezvous_steps.specs.declared.steps.How.TheVariants as how
use Rattle.rendezvous_steps.specs.declared.operations.Word.{Word}
use Rattle.rendezvous_steps.specs.declared.operations.Word.TheVariants as word
use Rattle.rendezvous_steps.specs.declared.operations.Op.{Op}
use Rattle.rendezvous_steps.specs.declared.operations.Op.TheVariants.{Load, Store, Add, Sub, Cas}
use Rattle.rendezvous_steps.specs.declared.items.What.{What}
use Rattle.rendezvous_steps.specs.declared.items.What.TheVariants as what
use Rattle.rendezvous_steps.specs.Plan.{Plan, offline_from, offline_count}
use Rattle.rendezvous_steps.specs.Words.{touched}
use Rattle.rendezvous_steps.specs.StepTable.{operation, operation_in, enter_operation, after, after_in, after_outside, after_kick, write_of, release_of, told, go_path, drop_path, withdraw_at, by_decision, by_release, polled, to}
use Rattle.play_steps.specs.Rank.{is_counted}

-- the thread in this phase has an operation, whose item counts
record CountsIn (plan : Plan) (t : ℕ) (local : Local) (words : Word → ℕ) (p : Phase) : Type 0 where
  op : Op
  has : operation_in plan t local how.Step p ≡ Some op
  counts : is_counted (after_in plan t local how.Step (words (touched op)) p).1 ≡ true

pub record Counts (plan : Plan) (t : ℕ) (local : Local) (words : Word → ℕ) : Type 0 where
  pub op : Op
  pub has : operation plan t local how.Step ≡ Some op
  pub counts : is_counted (after plan t local how.Step (words (touched op))).1 ≡ true

counts_in :
    (plan : Plan) (t : ℕ) (local : Local) (words : Word → ℕ) (p : Phase) →
    local.phase ≡ p → CountsIn plan t local words p → Counts plan t local words
unfolding operation after
counts_in plan t local words p e by =
    let here : CountsIn plan t local words local.phase = subst (CountsIn plan t local words) (sym e) by in
    record { op = here.op; has = here.has; counts = here.counts }

-- both items of a test, both rows
item_both : (b : Bool) (x y : What) → is_counted x ≡ true → is_counted y ≡ true → is_counted (if b then x else y) ≡ true
item_both true x y first second = first
item_both false x y first second = second

row_both :
    (b : Bool) (x y : Local × What) → is_counted x.1 ≡ true → is_counted y.1 ≡ true →
    is_counted (if b then x else y).1 ≡ true
row_both true x y first second = first
row_both false x y first second = second

abbrev picked : Bool → Local × What → Local × What → Local × What
picked b x y = if b then x else y

-- the phases whose step counts, whatever it finds
abbrev pub always : Phase → Bool
always Kicking = true
always Arriving = true
always Deciding = true
always Reading = true
always Beginning = true
always Writing = true
always Checking = true
always Reporting = true
always Freeing = true
always SiblingCheck = true
always SiblingCopy = true
always Withdrawing = true
always Releasing = true
always OfflineCount = true
always Leaving = true
always p = false

always_by :
    (plan : Plan) (t : ℕ) (local : Local) (words : Word → ℕ) (p : Phase) → always p ≡ true →
    CountsIn plan t local words p
always_by plan t local words Kicking e = record { op = Store (word.Nmi local.at) 1; has = refl; counts = refl }
always_by plan t local words Arriving e = record { op = Sub word.Arrive 1; has = refl; counts = refl }
always_by plan t local words Deciding e =
    record {
      op = Cas word.Decide 0 1;
      has = refl;
      counts = row_both (words word.Decide == 0) (go_path plan t local, what.Go)
          (drop_path plan t local, what.Inner) refl refl;
    }
always_by plan t local words Reading e = record { op = Load (word.Rev (plan.group t)); has = refl; counts = refl }
always_by plan t local words Beginning e = record { op = Store (word.Mode t) 2; has = refl; counts = refl }
always_by plan t local words Writing e =
    record { op = Store (word.Rev (plan.group t)) (write_of plan (plan.group t)); has = refl; counts = refl }
always_by plan t local words Checking e = record { op = Load (word.Rev (plan.group t)); has = refl; counts = refl }
always_by plan t local words Reporting e =
    record { op = Store (word.Res (plan.group t)) (told local.mine); has = refl; counts = refl }
always_by plan t local words Freeing e =
    record {
      op = Cas (word.Ctrl local.at) 0 (release_of local);
      has = refl;
      counts = item_both (words (word.Ctrl local.at) == 0) (what.Free local.at) what.Inner refl refl;
    }
always_by plan t local words SiblingCheck e = record { op = Load (word.Rev (plan.group t)); has = refl; counts = refl }
always_by plan t local words SiblingCopy e = record { op = Load (word.Res (plan.group t)); has = refl; counts = refl }
always_by plan t local words Withdrawing e =
    record {
      op = Cas (word.Nmi local.at) 1 3;
      has = refl;
      counts =
          row_both (words (word.Nmi local.at) == 1)
          (withdraw_at local (offline_from plan (local.at + 1)), what.Withdraw local.at)
          (to local Releasing, what.Inner) refl refl;
    }
always_by plan t local words Releasing e =
    record {
      op = Cas (word.Ctrl local.at) 0 2;
      has = refl;
      counts = item_both (words (word.Ctrl local.at) == 0) (what.Free local.at) what.Inner refl refl;
    }
always_by plan t local words OfflineCount e = record { op = Add word.OffIn 1; has = refl; counts = refl }
always_by plan t local words Leaving e = record {
  op = Store (word.Mode t) (8 + told local.mine);
  has = refl;
  counts = refl;
}
always_by plan t local words p e = cc

pub always_counts :
    (plan : Plan) (t : ℕ) (local : Local) (words : Word → ℕ) (p : Phase) →
    local.phase ≡ p → always p ≡ true → Counts plan t local words
always_counts plan t local words p e on = counts_in plan t local words p e (always_by plan t local words p on)

-- the other phases, by what they find

-- an Online thread enters
pub online_counts :
    (plan : Plan) (t : ℕ) (local : Local) (words : Word → ℕ) →
    plan.kind t ≡ Online → local.phase ≡ Outside → Counts plan t local words
online_counts plan t local words online e =
    counts_in plan t local words Outside e (record {
      op = Store (word.Mode t) 1;
      has = ap (λ kind. Some (enter_operation kind t)) online;
      counts = ap (λ kind. is_counted (after_outside kind plan t local how.Step (words (word.Mode t))).1) online;
    })

-- an Offline thread that was kicked does
pub kicked_counts :
    (plan : Plan) (t : ℕ) (local : Local) (words : Word → ℕ) →
    plan.kind t ≡ Offline → local.phase ≡ Outside → words (word.Nmi t) ≡ 1 → Counts plan t local words
kicked_counts plan t local words offline e found =
    counts_in plan t local words Outside e (record {
      op = Cas (word.Nmi t) 1 2;
      has = ap (λ kind. Some (enter_operation kind t)) offline;
      counts =
          ap (λ kind. is_counted (after_outside kind plan t local how.Step (words (word.Nmi t))).1) offline
          ∙ ap (λ n. is_counted (after_kick local how.Step n).1) found;
    })

-- thread 0 that finds every Offline thread counted in
pub all_in_counts :
    (plan : Plan) (t : ℕ) (local : Local) (words : Word → ℕ) →
    local.phase ≡ OfflineWait → words word.OffIn ≡ offline_count plan → Counts plan t local words
all_in_counts plan t local words e found =
    let same : (words word.OffIn == offline_count plan) ≡ true = grind (arith, nat_tests) in
    counts_in plan t local words OfflineWait e (record {
      op = Load word.OffIn;
      has = refl;
      counts = ap (λ b. is_counted (picked b (to local Arriving, what.Inner) (polled local, what.Poll)).1) same;
    })

some_found : (n : ℕ) → n ≢ 0 → (n == 0) ≡ false
some_found n e = grind (arith, nat_tests)

-- one that finds the decision made
pub decided_counts :
    (plan : Plan) (t : ℕ) (local : Local) (words : Word → ℕ) →
    local.phase ≡ Waiting → words word.Decide ≢ 0 → Counts plan t local words
decided_counts plan t local words e found =
    let some = some_found (words word.Decide) found in
    counts_in plan t local words Waiting e (record {
      op = Load word.Decide;
      has = refl;
      counts =
          ap (λ b. is_counted (if b then (polled local, what.Poll) else by_decision plan t local
          (words word.Decide)).1) some
          ∙ row_both (words word.Decide == 1) (go_path plan t local, what.Inner)
          (drop_path plan t local, what.Inner) refl refl;
    })

-- one that finds itself freed
pub sibling_counts :
    (plan : Plan) (t : ℕ) (local : Local) (words : Word → ℕ) →
    local.phase ≡ SiblingWait → words (word.Ctrl t) ≢ 0 → Counts plan t local words
sibling_counts plan t local words e found =
    let some = some_found (words (word.Ctrl t)) found in
    counts_in plan t local words SiblingWait e (record {
      op = Load (word.Ctrl t);
      has = refl;
      counts =
          ap (λ b. is_counted (if b then (polled local, what.Poll) else by_release local (words (word.Ctrl t))).1) some
          ∙ row_both (words (word.Ctrl t) == 1) (to local SiblingCheck, what.Inner)
          (to local SiblingCopy, what.Inner) refl refl;
    })

pub held_counts :
    (plan : Plan) (t : ℕ) (local : Local) (words : Word → ℕ) →
    local.phase ≡ OfflineHold → words (word.Ctrl t) ≢ 0 → Counts plan t local words
held_counts plan t local words e found =
    let some = some_found (words (word.Ctrl t)) found in
    counts_in plan t local words OfflineHold e (record {
      op = Load (word.Ctrl t);
      has = refl;
      counts = ap (λ b. is_counted (picked b (polled local, what.Poll) (to local Leaving, what.Inner)).1) some;
    })
