-- The plan of a load that has come as far as its rendezvous.
use Rattle.std.proofs.Common.{◌≡◌, ◌≢◌, ℕ, ◌<◌, ◌≤◌, Bool, true, false, not, ◌==◌, ◌&&◌, if◌then◌else◌, List, Option, Some, None, option_map, refl, sym, ap, ◌∙◌, subst, arith}
use Rattle.std.proofs.Math.Nat.{le_refl}
use Rattle.std.proofs.lemmas.Bool.{false≢true, lt-ltb, le-ltb, eq-eqb, not-false, or_left, and_from}
use Rattle.uc_topology.specs.Stated.{IsPartition, primary, lead}
use Rattle.entry_model.specs.Entry.{Entry}
use Rattle.read_model.specs.Reads.{Read}
use Rattle.region_steps.proofs.Rows.{none_found}
use Rattle.rendezvous_steps.specs.declared.steps.Kind.TheVariants as kind
use Rattle.rendezvous_steps.specs.Plan.{Plan, Sound}
use Rattle.rendezvous_steps.specs.Padded.{Padded}
use Rattle.machine_steps.specs.declared.states.ThreadState.{ThreadState}
use Rattle.machine_steps.specs.declared.states.ThreadState.TheVariants.{Cold, Up, Offline}
use Rattle.machine_steps.specs.Hardware.{is_cold, is_up}
use Rattle.machine_steps.specs.BringUps.{revision}
use Rattle.machine_steps.specs.Puts.{Puts, patch_at}
use Rattle.session_steps.specs.State.{Setting, State, machine_of, core_of, takes_part, core_takes_part, is_needed, is_missing, first_missing}
use Rattle.session_steps.specs.Offers.{bytes_at, offer_of, table, kind_of, put_revision, plan_of}
use Rattle.session_steps.specs.Step.{AllPresent}
use Rattle.session_laws.specs.Standing.{Standing}
use Rattle.session_laws.specs.Plans.{IsReady, PlansSound}
use Rattle.session_laws.proofs.Entries.{HaveRevisions, entries_have, offered_has, offered_is_above}
use Rattle.session_laws.proofs.Groups.{group_at, group_below, primary_in_group, primary_is_lowest}
use Rattle.session_laws.proofs.Parts.{IsOffered, at_load, load_offers, something_is_on, warm_takes_part}
use Rattle.session_laws.proofs.Putting.{PutsStand, all_put_stand}

-- ---- tables

table_in : {A : Type 0} (places : ℕ) (each : ℕ → A) (behind : A) (k : ℕ) → k < places →
    table places each behind k ≡ each k
table_in places each behind k below = ap (λ (b : Bool). if b then each k else behind) (lt-ltb k places below)

table_past : {A : Type 0} (places : ℕ) (each : ℕ → A) (behind : A) (k : ℕ) → places ≤ k →
    table places each behind k ≡ behind
table_past places each behind k past = ap (λ (b : Bool). if b then each k else behind) (le-ltb k places past)

-- ---- threads

present_is_warm : (state : ThreadState) → kind_of state ≢ kind.Absent → is_cold state ≡ false
present_is_warm Cold present = absurd (present refl)
present_is_warm Up present = refl
present_is_warm Offline present = refl

up_is : (state : ThreadState) → is_up state ≡ true → state ≡ Up
up_is Up is = refl
up_is Cold is = absurd (false≢true is)
up_is Offline is = absurd (false≢true is)

-- ---- the revision of a put

some_put : (puts : Puts) (offer : Option ℕ) (new : ℕ) → put_revision puts offer ≡ Some new →
    (entry : ℕ) × (offer ≡ Some entry)
some_put puts None new is = absurd cc
some_put puts (Some entry) new is = (entry, refl)

put_revision_at : (puts : Puts) (bytes : List ℕ) (place : Option ℕ) (new : ℕ) →
    ((block : ℕ) → place ≡ Some block → puts.patches block ≡ Some bytes) →
    option_map revision (patch_at puts.patches place) ≡ Some new → revision bytes ≡ new
put_revision_at puts bytes None new there is = absurd cc
put_revision_at puts bytes (Some block) new there is =
    let whole : Some (revision bytes) ≡ Some new = sym (ap (option_map revision) (there block refl)) ∙ is in cc

module _ (setting : Setting) (state : State) (puts : Puts) (offers : List (Option ℕ)) where
  abbrev plan : Plan
  plan = plan_of setting state puts offers

  abbrev threads : ℕ
  threads = (machine_of setting).threads

  abbrev groups : ℕ
  groups = (machine_of setting).groups

  kind_in : (t : ℕ) → t < threads → plan.kind t ≡ kind_of (state.hardware.thread t)
  unfolding plan_of
  kind_in t below = table_in threads (λ t. kind_of (state.hardware.thread t)) kind.Absent t below

  kind_past : (t : ℕ) → threads ≤ t → plan.kind t ≡ kind.Absent
  unfolding plan_of
  kind_past t past = table_past threads (λ t. kind_of (state.hardware.thread t)) kind.Absent t past

  pub group_in : (t : ℕ) → t < threads → plan.group t ≡ group_at setting.machine.stated t
  unfolding plan_of
  group_in t below = table_in threads (machine_of setting).group groups t below

  primary_in : (g : ℕ) → g < groups → plan.primary g ≡ primary setting.machine.stated g
  unfolding plan_of
  primary_in g below = table_in groups (primary setting.machine.stated) threads g below

  primary_past : (g : ℕ) → groups ≤ g → plan.primary g ≡ threads
  unfolding plan_of
  primary_past g past = table_past groups (primary setting.machine.stated) threads g past

  pub offer_in : (g : ℕ) → g < groups → plan.offer g ≡ put_revision puts (offer_of offers g)
  unfolding plan_of
  offer_in g below = table_in groups (λ g. put_revision puts (offer_of offers g)) None g below

  offer_past : (g : ℕ) → groups ≤ g → plan.offer g ≡ None
  unfolding plan_of
  offer_past g past = table_past groups (λ g. put_revision puts (offer_of offers g)) None g past

  pub rev0_in : (g : ℕ) → g < groups → plan.rev0 g ≡ state.hardware.rev g
  unfolding plan_of
  rev0_in g below = table_in groups state.hardware.rev 0 g below

  module _ (partition : IsPartition setting.machine.stated) (stands : Standing setting state) where
    own_primary : (t : ℕ) → t < threads → plan.primary (plan.group t) ≡ primary setting.machine.stated
        (group_at setting.machine.stated t)
    own_primary t below = ap plan.primary (group_in t below)
        ∙ primary_in (group_at setting.machine.stated t) (group_below setting.machine.stated partition t below)

    -- the primary of a group that takes part is up, where no needed thread is missing
    primary_is_up : (g : ℕ) → g < groups → AllPresent setting state → takes_part setting state g ≡ true →
        state.hardware.thread (primary setting.machine.stated g) ≡ Up
    unfolding first_missing
    primary_is_up g below present part =
        let p : ℕ = primary setting.machine.stated g in
        let there : p < threads = partition.has_primary g below in
        let own : group_at setting.machine.stated p ≡ g = primary_in_group setting.machine.stated partition g below in
        let missing : is_missing setting state p ≡ false =
        none_found (is_missing setting state) 0 threads p present (omega arith) (omega (arith, there)) in
        let first : ((p == primary setting.machine.stated ((machine_of setting).group p)) && takes_part setting state
        ((machine_of setting).group p)) ≡ true =
        and_from _ _ (eq-eqb p (primary setting.machine.stated ((machine_of setting).group p))
        (sym (ap (primary setting.machine.stated) own))) (ap (takes_part setting state) own ∙ part) in
        let needed : is_needed setting state p ≡ true =
        or_left _ ((p == lead setting.machine.stated (core_of setting p)) && core_takes_part setting state
        (core_of setting p)) first in
        let up : not (is_up (state.hardware.thread p)) ≡ false =
        sym (ap (λ (b : Bool). b && not (is_up (state.hardware.thread p))) needed) ∙ missing in
        up_is (state.hardware.thread p) (not-false (is_up (state.hardware.thread p)) up)

    primary_is_online : (g : ℕ) → g < groups → AllPresent setting state → takes_part setting state g ≡ true →
        plan.kind (primary setting.machine.stated g) ≡ kind.Online
    primary_is_online g below present part =
        kind_in (primary setting.machine.stated g) (partition.has_primary g below)
        ∙ ap kind_of (primary_is_up g below present part)

    module _ (force : Bool) (names : List (List ℕ)) (reads : List Read) (entries : List Entry)
        (ready : IsReady setting state force names reads entries offers puts) where
      have : HaveRevisions entries
      have = entries_have names reads entries ready.read

      now : PutsStand setting.blocks (bytes_at entries) (IsOffered groups entries offers)
          (λ entry offered. offered.has.long) state.patches puts
      now = all_put_stand setting.blocks (bytes_at entries) (IsOffered groups entries offers)
          (λ entry offered. offered.has.long) state.patches offers puts stands.patches.whole
          (at_load setting state force entries offers have ready.are_offers) ready.put

      -- what a group is offered in the plan is the revision of an entry, which is above the group's
      offer_is_above : (g new : ℕ) → g < groups → plan.offer g ≡ Some new →
          (takes_part setting state g ≡ true) × (state.hardware.rev g < new)
      offer_is_above g new below is =
          let put : put_revision puts (offer_of offers g) ≡ Some new = sym (offer_in g below) ∙ is in
          let some = some_put puts (offer_of offers g) new put in
          let its = load_offers setting state force entries offers ready.are_offers g some.0 some.1 in
          let has = offered_has entries _ force some.0 have its.is_offer in
          let same : revision (bytes_at entries some.0) ≡ new =
          put_revision_at puts (bytes_at entries some.0) (puts.first some.0) new
          (λ block place. now.there some.0 block place) (sym (ap (put_revision puts) some.1) ∙ put) in (
            its.part,
            subst (λ (n : ℕ). state.hardware.rev g < n) (sym has.stated ∙ same)
                (offered_is_above entries _ force some.0 its.is_offer),
          )

      is_sound : Sound plan
      unfolding plan_of
      is_sound = record {
        some_thread = partition.some_thread;
        few_threads = partition.groups.threads_fit;
        groups_in_range = λ t below. subst (λ (g : ℕ). g < groups) (sym (group_in t below))
            (group_below setting.machine.stated partition t below);
        primaries_in_range = λ g below. subst (λ (t : ℕ). t < threads) (sym (primary_in g below))
            (partition.has_primary g below);
        primary_is_one_of_its_group = λ g below.
            ap plan.group (primary_in g below) ∙ group_in (primary setting.machine.stated g)
            (partition.has_primary g below) ∙ primary_in_group setting.machine.stated partition g below;
        primary_is_the_lowest = λ t below. subst (λ (p : ℕ). p ≤ t) (sym (own_primary t below))
            (primary_is_lowest setting.machine.stated partition t);
        thread_0_is_online =
            kind_in 0 partition.some_thread ∙ ap kind_of (stands.threads.first_is_up
            (something_is_on setting state force entries offers stands ready.are_offers ready.something));
        present_primary = λ t below present.
            let warm : is_cold (state.hardware.thread t) ≡ false =
            present_is_warm (state.hardware.thread t) (λ absent. present (kind_in t below ∙ absent)) in
            ap plan.kind (own_primary t below)
            ∙ primary_is_online (group_at setting.machine.stated t)
            (group_below setting.machine.stated partition t below) ready.present
            (warm_takes_part setting state t below warm);
        offer_to_present = λ g new below is. ap plan.kind (primary_in g below)
            ∙ primary_is_online g below ready.present (offer_is_above g new below is).0;
        offer_is_greater = λ g new below is. subst (λ (rev : ℕ). rev < new) (sym (rev0_in g below))
            (offer_is_above g new below is).1;
      }

  is_padded : Padded plan
  unfolding plan_of
  is_padded = record {
    no_thread = kind_past;
    no_offer = offer_past;
    no_primary = λ g past. ap plan.kind (primary_past g past) ∙ kind_past threads (le_refl threads);
  }

pub plans_sound : PlansSound
plans_sound setting state force names reads entries offers puts partition stands ready = (
  is_sound setting state puts offers partition stands force names reads entries ready,
  is_padded setting state puts offers,
)
