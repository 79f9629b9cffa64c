-- The plan of a load, by its tables.
use Rattle.std.proofs.Common.{◌≡◌, ℕ, ◌+◌, false, List, [], ◌∷◌, ◌++◌, length, map, Option, None, option_map, sym, ap, ◌∙◌, arith}
use Rattle.std.specs.Prelude.{slice_get, unwrap_or}
use Rattle.std.specs.List.{range_with_len}
use Rattle.std.proofs.Math.Path.{fun_ext}
use Rattle.uc_topology.specs.Stated.{IsPartition, primary}
use Rattle.rendezvous_steps.specs.declared.steps.Kind.{Kind}
use Rattle.rendezvous_steps.specs.declared.steps.Kind.TheVariants as kind
use Rattle.region_steps.specs.Region.{Patches}
use Rattle.patch_pool.specs.declared.pool.PatchId.{PatchId}
use Rattle.machine_steps.specs.Puts.{Puts, patch_at}
use Rattle.machine_steps.specs.BringUps.{revision}
use Rattle.ctl_words.specs.declared.plans.Plan.{Plan as Tables}
use Rattle.ctl_words.specs.Plans.{plan_of, TablesFit}
use Rattle.entry_model.specs.Entry.{Entry}
use Rattle.session_steps.specs.State.{Setting, State, machine_of}
use Rattle.session_steps.specs.Offers.{table, kind_of, offer_of, put_revision, plan_of as load_plan}
use Rattle.session_parts.specs.Loads.{ArePlaces, IsPut}
use Rattle.session_parts.specs.Plans.{AreByThread, AreByGroup, revision_put}
use Rattle.session_parts.proofs.Tables.{map_more, map_length, table_is}

-- ---- the tables grow

pub threads_more : (setting : Setting) (state : State) (n : ℕ) (kinds kinds' : List Kind) (groups groups' : List ℕ)
    (one : Kind) (group : ℕ) → AreByThread setting state n kinds groups
    → kinds' ≡ kinds ++ one ∷ [] → groups' ≡ groups ++ group ∷ [] → one ≡ kind_of (state.hardware.thread n) →
    group ≡ (machine_of setting).group n → AreByThread setting state (n + 1) kinds' groups'
threads_more setting state n kinds kinds' groups groups' one group are pushed pushed' is is' = record {
  kinds_are = map_more (λ t. kind_of (state.hardware.thread t)) n kinds kinds' one are.kinds_are pushed is;
  groups_are = map_more (machine_of setting).group n groups groups' group are.groups_are pushed' is';
}

-- ---- the plan that they make

-- a plan has the tables of a load
pub record HasTables (setting : Setting) (state : State) (p : Tables) : Type 0 where
  pub threads_are : p.threads ≡ (machine_of setting).threads
  pub by_thread : AreByThread setting state (machine_of setting).threads p.kind.items p.group.items
  pub by_group : AreByGroup setting state (machine_of setting).groups p.primary.items p.refuse.items p.rev0.items
  pub patience_is : p.patience ≡ setting.patience

module _ (setting : Setting) (state : State) (p : Tables) (has : HasTables setting state p) where
  abbrev threads : ℕ
  threads = (machine_of setting).threads

  abbrev groups : ℕ
  groups = (machine_of setting).groups

  pub groups_are : length p.primary.items ≡ groups
  groups_are = map_length (primary setting.machine.stated) groups p.primary.items has.by_group.primaries_are

  pub tables_fit : IsPartition setting.machine.stated → length p.offer.items ≡ groups → TablesFit p
  tables_fit partition offers = record {
    some_thread = omega (arith, has.threads_are, partition.some_thread);
    few_threads = omega (arith, has.threads_are, partition.groups.threads_fit);
    kinds = map_length (λ t. kind_of (state.hardware.thread t)) threads p.kind.items has.by_thread.kinds_are
        ∙ sym has.threads_are;
    groups = map_length (machine_of setting).group threads p.group.items has.by_thread.groups_are ∙ sym has.threads_are;
    offers = offers ∙ sym groups_are;
    refusals = map_length state.hardware.refuses groups p.refuse.items has.by_group.refusals_are ∙ sym groups_are;
    revisions = map_length state.hardware.rev groups p.rev0.items has.by_group.revisions_are ∙ sym groups_are;
  }

  pub plan_is : (puts : Puts) (offers : List (Option ℕ)) →
      p.offer.items ≡ map (λ g. put_revision puts (offer_of offers g)) (range_with_len 0 groups) →
      plan_of p ≡ load_plan setting state puts offers
  unfolding load_plan
  plan_is puts offers offers_are =
      let kinds = table_is (λ t. kind_of (state.hardware.thread t)) threads kind.Absent p.kind.items
      has.by_thread.kinds_are in
      let group_by : ℕ → ℕ → ℕ = λ behind t. unwrap_or (slice_get p.group.items t) behind in
      let thread_groups : group_by (length p.primary.items) ≡ table threads (machine_of setting).group groups =
      ap group_by groups_are ∙ table_is (machine_of setting).group threads groups p.group.items
      has.by_thread.groups_are in
      let primary_by : ℕ → ℕ → ℕ = λ behind g. unwrap_or (slice_get p.primary.items g) behind in
      let primaries : primary_by p.threads ≡ table groups (primary setting.machine.stated) threads =
      ap primary_by has.threads_are ∙ table_is
      (primary setting.machine.stated) groups threads p.primary.items has.by_group.primaries_are in
      let offered = table_is (λ g. put_revision puts (offer_of offers g)) groups None p.offer.items offers_are in
      let refusals = table_is state.hardware.refuses groups false p.refuse.items has.by_group.refusals_are in
      let revisions = table_is state.hardware.rev groups 0 p.rev0.items has.by_group.revisions_are in
      λ i. record {
        threads = has.threads_are i;
        groups = groups_are i;
        kind = kinds i;
        group = thread_groups i;
        primary = primaries i;
        offer = offered i;
        refuse = refusals i;
        rev0 = revisions i;
        patience = has.patience_is i;
      }

-- ---- what was put

-- the revisions of the patches of offers
abbrev pub put_revisions : Puts → List (Option ℕ) → ℕ → Option ℕ
put_revisions puts offers g = put_revision puts (offer_of offers g)

-- the revisions of the patches at the places are those of the offers
pub revisions_put : (puts : Puts) (offers : List (Option ℕ)) (patches : Patches) (places : List (Option PatchId)) →
    patches ≡ puts.patches → ArePlaces puts offers places
    → revision_put patches places ≡ put_revisions puts offers
revisions_put puts offers patches places same are =
    ap (λ (p : Patches). revision_put p places) same
    ∙ fun_ext (λ g. ap (λ (place : Option ℕ). option_map revision (patch_at puts.patches place)) (are.place g))

-- a plan goes by the hardware alone, which a put leaves
pub plan_before : (setting : Setting) (entries : List Entry) (offers : List (Option ℕ)) (before now : State)
    (places : List (Option PatchId)) (put : IsPut setting entries offers before now places)
    → load_plan setting now put.puts offers ≡ load_plan setting before put.puts offers
unfolding load_plan
plan_before setting entries offers before now places put =
    ap (λ (state : State). load_plan setting state put.puts offers) put.after

-- the list of the revisions at the places, by the offers
pub offered_is : (puts : Puts) (offers : List (Option ℕ)) (patches : Patches) (places : List (Option PatchId))
    (groups : ℕ) (items : List (Option ℕ)) → items
    ≡ map (revision_put patches places) (range_with_len 0 (length places))
    → length places ≡ groups → patches ≡ puts.patches → ArePlaces puts offers places →
    items ≡ map (put_revisions puts offers) (range_with_len 0 groups)
offered_is puts offers patches places groups items so_far count same are =
    so_far ∙ ap (λ (n : ℕ). map (revision_put patches places) (range_with_len 0 n)) count
    ∙ ap (λ (each : ℕ → Option ℕ). map each (range_with_len 0 groups))
    (revisions_put puts offers patches places same are)
