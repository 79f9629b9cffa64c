-- The tables of a new machine.
use Rattle.std.proofs.Common.{◌≡◌, ℕ, ◌<◌, ◌≤◌, length, List, get_or, map, ap, ◌∙◌, inl, inr, nat_eq, sym, arith}
use Rattle.std.specs.Prelude.{slice_index}
use Rattle.std.specs.List.{All, range_with_len}
use Rattle.std.proofs.Math.Path.{fun_ext}
use Rattle.std.proofs.lemmas.Bool.{cases_lt, ne_eqb}
use Rattle.std.proofs.lemmas.List.{get_or_past, get_or-map, length-map}
use Rattle.std.proofs.lemmas.List.FromFn.{get_or-map-range_with_len, length-map-range_with_len}
use Rattle.std.proofs.lemmas.List.Sums.{position_or_len_is}
use Rattle.uc_topology.specs.Stated.{Stated, AreGroups, core_at, group_of, group_count, group_facts, first_core, no_core, thread_groups}
use Rattle.machine_steps.specs.Hardware.{Setting, setting_of as stated_setting}

-- past the last group no core is of it
none_past : (stated : Stated) → AreGroups stated → (g : ℕ) → group_count stated.cores ≤ g → first_core stated.cores g ≡ length stated.cores
none_past stated groups g past =
    position_or_len_is (λ core. nat_eq (group_of core) g) stated.cores (length stated.cores) no_core (omega arith) (λ k lt. ne_eqb (core_at stated.cores k).group g (λ e. omega (arith, e, groups.in_groups k no_core lt))) (λ lt. absurd (omega (arith, lt)))

-- and its facts are 0
facts_past : (stated : Stated) → AreGroups stated → (g : ℕ) → group_count stated.cores ≤ g → (group_facts stated.cores g).rev ≡ 0
facts_past stated groups g past =
    ap (λ core. (core_at stated.cores core).facts.rev) (none_past stated groups g past)
    ∙ ap (λ core. core.facts.rev) (get_or_past stated.cores (length stated.cores) no_core (omega arith))

-- the firmware's revisions by group, past the last one too
abbrev pub revisions : Stated → List ℕ
revisions stated =
    map (λ g. (group_facts stated.cores g).rev) (range_with_len 0 (group_count stated.cores))

revision_at : (stated : Stated) → AreGroups stated → (g : ℕ) → slice_index (revisions stated) g ≡ (group_facts stated.cores g).rev
revision_at stated groups g =
    elim (cases_lt g (group_count stated.cores)) [
      | inl below ↦ get_or-map-range_with_len _ 0 (group_count stated.cores) g g 0 below (omega arith)
      | inr past ↦ get_or_past (revisions stated) g 0 (omega (arith, length-map-range_with_len (λ g. (group_facts stated.cores g).rev) 0 (group_count stated.cores), past)) ∙ sym (facts_past stated groups g past)
    ]

abbrev made : ℕ → ℕ → (ℕ → ℕ) → (ℕ → ℕ) → Setting
made threads groups group bios = record { threads = threads; groups = groups; group = group; bios = bios }

-- the tables are those of the machine that the topology states
pub setting_is : (stated : Stated) → AreGroups stated → made (length (thread_groups stated)) (length (revisions stated)) (λ t. slice_index (thread_groups stated) t) (λ g. slice_index (revisions stated) g) ≡ stated_setting stated
setting_is stated groups =
    ap (λ n. made n (length (revisions stated)) (λ t. slice_index (thread_groups stated) t) (λ g. slice_index (revisions stated) g)) (length-map stated.threads _)
    ∙ ap (λ n. made (length stated.threads) n (λ t. slice_index (thread_groups stated) t) (λ g. slice_index (revisions stated) g)) (length-map-range_with_len _ 0 _)
    ∙ ap (made (length stated.threads) (group_count stated.cores) (λ t. slice_index (thread_groups stated) t)) (fun_ext (revision_at stated groups))

-- the group of each thread is one of them
pub groups_in_range : (stated : Stated) → AreGroups stated → All (λ g. g < length (revisions stated)) (thread_groups stated)
groups_in_range stated groups k d below =
    let group : ℕ → ℕ = λ core. group_of (core_at stated.cores core) in
    let inside : k < length stated.threads = omega (arith, below, length-map stated.threads group) in
    let is = get_or-map group stated.threads k 0 d inside in
    let fits = groups.in_groups (get_or stated.threads k 0) no_core (groups.on_cores k 0 inside) in
    omega (arith, is, fits, length-map-range_with_len (λ g. (group_facts stated.cores g).rev) 0 (group_count stated.cores))
