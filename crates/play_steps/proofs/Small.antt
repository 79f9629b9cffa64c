-- Small plans, by which laws show that a premise is needed.
use Rattle.std.proofs.Common.{◌≡◌, ℕ, ◌<◌, ◌≤◌, ◌==◌, Bool, true, false, if◌then◌else◌, Option, Some, None, refl, sym, ap, ◌∙◌, arith}
use Rattle.std.proofs.lemmas.Bool.Decides.{nat_tests}
use Rattle.rendezvous_steps.specs.declared.steps.Kind.{Kind}
use Rattle.rendezvous_steps.specs.declared.steps.Kind.TheVariants.{Online, Absent}
use Rattle.rendezvous_steps.specs.Plan.{Plan, Sound}
use Rattle.rendezvous_steps.specs.Padded.{Padded}

-- Two threads of one group, the second of this kind, which has an offer.

abbrev pub kind_of_pair : Kind → ℕ → Kind
kind_of_pair second t = if t == 0 then Online else if t == 1 then second else Absent

abbrev pub primary_of_pair : ℕ → ℕ
primary_of_pair g = if g == 0 then 0 else 2

abbrev pub offer_of_pair : ℕ → Option ℕ
offer_of_pair g = if g == 0 then Some 1 else None

abbrev pub pair : Kind → Plan
pair second =
    record {
      threads = 2;
      groups = 1;
      kind = kind_of_pair second;
      group = λ t. 0;
      primary = primary_of_pair;
      offer = offer_of_pair;
      refuse = λ g. false;
      rev0 = λ g. 0;
      patience = 0;
    }

below_one : (g : ℕ) → g < 1 → 0 ≡ g
below_one g below = omega arith

primary_there : (g : ℕ) → 0 ≡ g → primary_of_pair g < 2
primary_there g e = rw (sym e) (omega arith)

primary_online : (second : Kind) (g : ℕ) → 0 ≡ g → kind_of_pair second (primary_of_pair g) ≡ Online
primary_online second g e = rw (sym e) refl

some_is : (o : ℕ) → Some 1 ≡ Some o → 0 < o
some_is o e =
    let one : 1 ≡ o = cc in
    omega (arith, one)

offer_above : (g o : ℕ) → 0 ≡ g → offer_of_pair g ≡ Some o → 0 < o
offer_above g o e offer = some_is o (ap offer_of_pair e ∙ offer)

pub pair_sound : (second : Kind) → Sound (pair second)
pair_sound second =
    record {
      some_thread = omega arith;
      few_threads = omega arith;
      groups_in_range = λ t below. omega arith;
      primaries_in_range = λ g below. primary_there g (below_one g below);
      primary_is_one_of_its_group = λ g below. below_one g below;
      primary_is_the_lowest = λ t below. omega arith;
      thread_0_is_online = refl;
      present_primary = λ t below present. refl;
      offer_to_present = λ g o below offer. primary_online second g (below_one g below);
      offer_is_greater = λ g o below offer. offer_above g o (below_one g below) offer;
    }

past_one : (t : ℕ) → 2 ≤ t → (t == 0 ≡ false) × (t == 1 ≡ false)
past_one t past = (grind (arith, nat_tests), grind (arith, nat_tests))

past_zero : (g : ℕ) → 1 ≤ g → g == 0 ≡ false
past_zero g past = grind (arith, nat_tests)

pub pair_padded : (second : Kind) → Padded (pair second)
pair_padded second =
    record {
      no_thread = λ t past. rw ((past_one t past).0, (past_one t past).1) refl;
      no_offer = λ g past. rw (past_zero g past) refl;
      no_primary = λ g past. rw (past_zero g past) refl;
    }
