-- What joining a run with the next leaves of a list, by indices.
use Rattle.std.proofs.Common.{◌≡◌, ◌≢◌, ℕ, zero, suc, ◌+◌, ◌<◌, ◌≤◌, List, [], ◌∷◌, length, refl, sym, ap, ◌∙◌, subst, inl, inr, arith}
use Rattle.std.specs.List.{remove, slice_set, slice_index_or, insert}
use Rattle.std.proofs.lemmas.Bool.{cases_eq, eq-eqb, ne_eqb}
use Rattle.std.proofs.lemmas.List.{get_or_read}
use Rattle.patch_pool.specs.declared.runs.Run.{Run}
use Rattle.patch_pool.specs.Runs.{end_of, AreSpaced, AllEnd, no_run, run_at, joined, join_first, join_at}

-- two runs that touch
pub join_touching : (runs : List Run) (at : ℕ) → suc at < length runs → end_of (run_at runs at) ≡ (run_at runs (suc at)).first
    → remove (slice_set runs at (joined (run_at runs at) (run_at runs (suc at)))) (suc at) ≡ join_at runs at
join_touching [] at lt touch = absurd (omega (arith, lt))
join_touching (run ∷ []) zero lt touch = absurd (omega (arith, lt))
join_touching (run ∷ next ∷ runs) zero lt touch = rw (eq-eqb (end_of run) next.first touch) refl
join_touching (run ∷ runs) (suc at) lt touch = ap (λ (rest : List Run). run ∷ rest) (join_touching runs at (omega (arith, lt)) touch)

-- two that don't
pub join_apart : (runs : List Run) (at : ℕ) → suc at < length runs → end_of (run_at runs at) ≢ (run_at runs (suc at)).first → runs ≡ join_at runs at
join_apart [] at lt apart = absurd (omega (arith, lt))
join_apart (run ∷ []) zero lt apart = absurd (omega (arith, lt))
join_apart (run ∷ next ∷ runs) zero lt apart = rw (ne_eqb (end_of run) next.first apart) refl
join_apart (run ∷ runs) (suc at) lt apart = ap (λ (rest : List Run). run ∷ rest) (join_apart runs at (omega (arith, lt)) apart)

-- the last run
pub join_last : (runs : List Run) (at : ℕ) → length runs ≤ suc at → runs ≡ join_at runs at
join_last [] at le = refl
join_last (run ∷ []) zero le = refl
join_last (run ∷ next ∷ runs) zero le = absurd (omega (arith, le))
join_last (run ∷ runs) (suc at) le = ap (λ (rest : List Run). run ∷ rest) (join_last runs at (omega (arith, le)))

-- ---- the ends of runs

pub end_at : (runs : List Run) (to at : ℕ) → AllEnd to runs → at < length runs → end_of (run_at runs at) ≤ to
end_at [] to at ends lt = absurd (omega (arith, lt))
end_at (run ∷ runs) to zero ends lt = ends.0
end_at (run ∷ runs) to (suc at) ends lt = end_at runs to at ends.1 (omega (arith, lt))

pub ends_insert : (runs : List Run) (from to at : ℕ) (run : Run) → AreSpaced from to runs → end_of run ≤ to → AllEnd to (insert runs at run)
ends_insert [] from to zero run spaced le = (le, tt)
ends_insert [] from to (suc at) run spaced le = (le, tt)
ends_insert (next ∷ []) from to zero run spaced le = (le, (spaced.0.1.1, tt))
ends_insert (next ∷ runs) from to zero run spaced le = (le, ends_insert runs (end_of next + 1) to zero next spaced.1 spaced.0.1.1)
ends_insert (next ∷ runs) from to (suc at) run spaced le = (spaced.0.1.1, ends_insert runs (end_of next + 1) to at run spaced.1 le)

ends_join_first : (run : Run) (runs : List Run) (to : ℕ) → AllEnd to (run ∷ runs) → AllEnd to (join_first run runs)
ends_join_first run [] to ends = ends
ends_join_first run (next ∷ runs) to ends =
    elim (cases_eq (end_of run) next.first) [
      | inl touch ↦ rw (eq-eqb (end_of run) next.first touch) (omega (arith, ends.1.0, touch), ends.1.1)
      | inr apart ↦ rw (ne_eqb (end_of run) next.first apart) ends
    ]

pub ends_join_at : (runs : List Run) (to at : ℕ) → AllEnd to runs → AllEnd to (join_at runs at)
ends_join_at [] to at ends = tt
ends_join_at (run ∷ runs) to zero ends = ends_join_first run runs to ends
ends_join_at (run ∷ runs) to (suc at) ends = (ends.0, ends_join_at runs to at ends.1)

-- ---- lengths

pub length_join_at : (runs : List Run) (at : ℕ) → at < length runs → at < length (join_at runs at)
length_join_at [] at lt = lt
length_join_at (run ∷ []) zero lt = lt
length_join_at (run ∷ next ∷ runs) zero lt =
    elim (cases_eq (end_of run) next.first) [
      | inl touch ↦ rw (eq-eqb (end_of run) next.first touch) (omega arith)
      | inr apart ↦ rw (ne_eqb (end_of run) next.first apart) (omega arith)
    ]
length_join_at (run ∷ runs) (suc at) lt = let rest = length_join_at runs at (omega (arith, lt)) in omega (arith, rest)

-- ---- the runs that were read

suc_is : (n : ℕ) → suc n ≡ n + 1
suc_is n = omega arith

-- a run and the next, as they stand in a list
pub record ArePair (runs : List Run) (at : ℕ) (run next : Run) : Type 0 where
  pub there : suc at < length runs
  pub first : run ≡ run_at runs at
  pub second : next ≡ run_at runs (suc at)

pub pair_read : (runs : List Run) (at : ℕ) (run next : Run) → at + 1 < length runs → run ≡ slice_index_or runs at run → next ≡ slice_index_or runs (at + 1) next → ArePair runs at run next
pair_read runs at run next lt one two = record {
  there = omega (arith, lt);
  first = get_or_read runs at run (omega (arith, lt)) one no_run;
  second = get_or_read runs (at + 1) next lt two no_run ∙ ap (run_at runs) (sym (suc_is at));
}

pub first_ends : (runs : List Run) (to at : ℕ) (run next : Run) → AllEnd to runs → ArePair runs at run next → (end_of run ≤ to) × (end_of next ≤ to)
first_ends runs to at run next ends are =
    let one = end_at runs to at ends (omega (arith, are.there)) in
    let two = end_at runs to (suc at) ends are.there in
    (subst (λ (r : Run). end_of r ≤ to) (sym are.first) one, subst (λ (r : Run). end_of r ≤ to) (sym are.second) two)

pub pair_touching : (runs : List Run) (at : ℕ) (run next : Run) → ArePair runs at run next → end_of run ≡ next.first → remove (slice_set runs at (joined run next)) (at + 1) ≡ join_at runs at
pair_touching runs at run next are touch =
    ap (λ (j : ℕ). remove (slice_set runs at (joined run next)) j) (sym (suc_is at)) ∙ ap (λ (r : Run). remove (slice_set runs at (joined r next)) (suc at)) are.first ∙ ap (λ (n : Run). remove (slice_set runs at (joined (run_at runs at) n)) (suc at)) are.second ∙ join_touching runs at are.there (ap end_of (sym are.first) ∙ touch ∙ ap (λ (n : Run). n.first) are.second)

pub pair_apart : (runs : List Run) (at : ℕ) (run next : Run) → ArePair runs at run next → end_of run ≢ next.first → runs ≡ join_at runs at
pair_apart runs at run next are apart =
    join_apart runs at are.there (λ e. apart (ap end_of are.first ∙ e ∙ ap (λ (n : Run). n.first) (sym are.second)))
