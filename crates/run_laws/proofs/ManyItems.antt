-- Runs in which many items count.
use Rattle.std.proofs.Common.{◌≡◌, ℕ, zero, suc, ◌+◌, ◌*◌, ◌<◌, ◌≤◌, ◌==◌, Bool, true, false, if◌then◌else◌, List, [], ◌∷◌, Option, Some, None, refl, arith}
use Rattle.std.proofs.lemmas.Bool.Decides.{nat_tests}
use Rattle.rendezvous_steps.specs.declared.steps.Kind.{Kind}
use Rattle.rendezvous_steps.specs.declared.steps.Kind.TheVariants.{Online, Absent}
use Rattle.rendezvous_steps.specs.declared.items.Event.{Event}
use Rattle.rendezvous_steps.specs.declared.items.Event.TheVariants.{Step}
use Rattle.rendezvous_steps.specs.Plan.{Plan, offline_from, sibling_from, online_count, offline_count}
use Rattle.rendezvous_steps.specs.Padded.{Padded}
use Rattle.rendezvous_steps.specs.Events.{opening_running, happens, put}
use Rattle.rendezvous_steps.specs.StepTable.{operation, after, opening}
use Rattle.play_steps.specs.Play.{play}
use Rattle.run_laws.specs.Counted.{count_of}
use Rattle.run_laws.specs.Needed.{PaddedIsNeeded, TwoAThreadAreFew}

-- a plan of one thread, past which every number is an Online thread's
abbrev endless : Plan
endless =
    record {
      threads = 1;
      groups = 1;
      kind = λ t. Online;
      group = λ t. t;
      primary = λ g. g;
      offer = λ g. None;
      refuse = λ g. false;
      rev0 = λ g. 0;
      patience = 0;
    }

-- a step of each of so many threads from one on
abbrev steps_from : ℕ → ℕ → List Event
steps_from t zero = []
steps_from t (suc n) = Step t ∷ steps_from (t + 1) n

each_enters : count_of (play endless (opening_running endless) (steps_from 1 29)) ≡ 29
unfolding happens put opening operation after offline_from online_count offline_count
each_enters = refl

pub padded_is_needed : PaddedIsNeeded
padded_is_needed all =
    let counted = all endless (steps_from 1 29) in
    let many = each_enters in
    omega (arith, counted, many)

-- Two threads, each the only one of its group, which has an offer.

abbrev kind_apart : ℕ → Kind
kind_apart t = if t == 0 then Online else if t == 1 then Online else Absent

abbrev offer_apart : ℕ → Option ℕ
offer_apart g = if g == 0 then Some 1 else if g == 1 then Some 1 else None

abbrev apart : Plan
apart =
    record {
      threads = 2;
      groups = 2;
      kind = kind_apart;
      group = λ t. t;
      primary = λ g. g;
      offer = offer_apart;
      refuse = λ g. false;
      rev0 = λ g. 0;
      patience = 0;
    }

past_one : (t : ℕ) → 2 ≤ t → (t == 0 ≡ false) × (t == 1 ≡ false)
past_one t past = (grind (arith, nat_tests), grind (arith, nat_tests))

apart_padded : Padded apart
apart_padded =
    record {
      no_thread = λ t past. rw ((past_one t past).0, (past_one t past).1) refl;
      no_offer = λ g past. rw ((past_one g past).0, (past_one g past).1) refl;
      no_primary = λ g past. rw ((past_one g past).0, (past_one g past).1) refl;
    }

-- so many rounds
abbrev rounds : ℕ → List Event
rounds zero = []
rounds (suc n) = Step 0 ∷ Step 1 ∷ rounds n

both_write : count_of (play apart (opening_running apart) (rounds 12)) ≡ 18
unfolding happens put opening operation after offline_from sibling_from online_count offline_count
both_write = refl

pub two_a_thread_are_few : TwoAThreadAreFew
two_a_thread_are_few all =
    let counted = all apart (rounds 12) apart_padded in
    let many = both_write in
    omega (arith, counted, many)
