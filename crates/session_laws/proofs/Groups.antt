-- The groups of a machine's threads, and the primary of each.
use Rattle.std.proofs.Common.{◌≡◌, ℕ, ◌<◌, ◌≤◌, nat_eq, length, get_or, refl, sym, ◌∙◌, subst, inl, inr}
use Rattle.std.proofs.lemmas.Bool.{false≢true, cases_lt, eq-eqb, eqb-true}
use Rattle.std.proofs.lemmas.List.{length-map, get_or-map}
use Rattle.std.proofs.lemmas.List.Sums.{passes_at_first, fails_before_first}
use Rattle.uc_topology.specs.Stated.{Stated, IsPartition, no_core, core_at, group_of, group_count, thread_groups, primary}

-- the group of a thread
abbrev pub group_at : Stated → ℕ → ℕ
group_at stated t = get_or (thread_groups stated) t 0

module _ (stated : Stated) (partition : IsPartition stated) where
  a_group_each : length (thread_groups stated) ≡ length stated.threads
  a_group_each = length-map stated.threads (λ core. group_of (core_at stated.cores core))

  pub group_below : (t : ℕ) → t < length stated.threads → group_at stated t < group_count stated.cores
  group_below t below =
      let core : ℕ = get_or stated.threads t 0 in
      let at : group_at stated t ≡ group_of (core_at stated.cores core) =
      get_or-map (λ core. group_of (core_at stated.cores core)) stated.threads t 0 0 below in
      subst (λ (g : ℕ). g < group_count stated.cores) (sym at)
      (partition.groups.in_groups core no_core (partition.groups.on_cores t 0 below))

  pub primary_in_group : (g : ℕ) → g < group_count stated.cores → group_at stated (primary stated g) ≡ g
  primary_in_group g below =
      let there : primary stated g < length (thread_groups stated) =
      subst (λ (n : ℕ). primary stated g < n) (sym a_group_each) (partition.has_primary g below) in
      eqb-true _ _ (passes_at_first (λ other. nat_eq other g) (thread_groups stated) 0 there)

  pub primary_is_lowest : (t : ℕ) → primary stated (group_at stated t) ≤ t
  primary_is_lowest t = elim (cases_lt t (primary stated (group_at stated t))) [
    | inl before ↦ absurd (false≢true
        (sym (fails_before_first (λ other. nat_eq other (group_at stated t)) (thread_groups stated) t 0 before)
        ∙ eq-eqb (group_at stated t) (group_at stated t) refl))
    | inr le ↦ le
  ]
