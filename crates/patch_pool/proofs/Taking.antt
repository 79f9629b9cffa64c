-- What a list of runs is after blocks were taken from it.
use Rattle.std.proofs.Common.{◌≡◌, ℕ, zero, suc, ◌+◌, ◌-◌, ◌<◌, ◌≤◌, true, false, ◌&&◌, not, List, [], ◌∷◌, length, refl, sym, ◌∙◌, inl, inr, arith}
use Rattle.std.specs.List.{remove, slice_set}
use Rattle.std.proofs.lemmas.Bool.{false≢true, cases_lt, cases_Bool}
use Rattle.std.proofs.lemmas.Bool.Decides.{nat_tests}
use Rattle.std.proofs.lemmas.List.Folds.{list_any_at}
use Rattle.patch_pool.specs.declared.runs.Run.{Run}
use Rattle.patch_pool.specs.Free.{is_within}
use Rattle.patch_pool.specs.Runs.{end_of, in_run, is_in, AreSpaced, run_at, no_run}
use Rattle.patch_pool.proofs.Spaced.{within, below_within, past_within, in_below, spaced_from}

-- a block of a run is in none behind it
not_behind : (run : Run) (runs : List Run) (from to block : ℕ) → AreSpaced from to (run ∷ runs) → in_run run block ≡ true → is_in runs block ≡ false
not_behind run runs from to block spaced has =
    elim (cases_lt block (end_of run)) [
      | inl lt ↦ in_below runs (end_of run + 1) to block spaced.1 (omega (arith, lt))
      | inr past ↦ absurd (false≢true (sym (past_within run.first run.len block past) ∙ has))
    ]

-- the blocks of a run among those behind another are none of the other's
not_before : (run : Run) (runs : List Run) (from to at block : ℕ) → AreSpaced from to (run ∷ runs) → at < length runs → in_run run block ≡ true → in_run (run_at runs at) block ≡ false
not_before run runs from to at block spaced lt has =
    elim (cases_Bool (in_run (run_at runs at) block)) [
      | inl yes' ↦ absurd (false≢true (sym (not_behind run runs from to block spaced has) ∙ list_any_at (λ r. in_run r block) runs at no_run lt yes'))
      | inr not' ↦ not'
    ]

-- ---- a whole run

pub spaced_remove : (runs : List Run) (from to at : ℕ) → AreSpaced from to runs → at < length runs → AreSpaced from to (remove runs at)
spaced_remove [] from to at spaced lt = absurd (omega (arith, lt))
spaced_remove (run ∷ runs) from to zero spaced lt = spaced_from runs (end_of run + 1) from to spaced.1 (omega (arith, spaced.0.0))
spaced_remove (run ∷ runs) from to (suc at) spaced lt = (spaced.0, spaced_remove runs (end_of run + 1) to at spaced.1 (omega (arith, lt)))

pub in_remove : (runs : List Run) (from to at block : ℕ) → AreSpaced from to runs → at < length runs → is_in (remove runs at) block ≡ (is_in runs block && not (in_run (run_at runs at) block))
in_remove [] from to at block spaced lt = absurd (omega (arith, lt))
in_remove (run ∷ runs) from to zero block spaced lt =
    elim (cases_Bool (in_run run block)) [
      | inl has ↦ rw (has, not_behind run runs from to block spaced has) refl
      | inr not' ↦ rw not' (grind (arith, nat_tests))
    ]
in_remove (run ∷ runs) from to (suc at) block spaced lt =
    let rest = in_remove runs (end_of run + 1) to at block spaced.1 (omega (arith, lt)) in
    elim (cases_Bool (in_run run block)) [
      | inl has ↦ rw (has, not_before run runs from to at block spaced (omega (arith, lt)) has) refl
      | inr not' ↦ rw not' rest
    ]

-- ---- the front of a run

-- what is left of a run
abbrev pub rest_of : Run → ℕ → Run
rest_of run needed = record { first = run.first + needed; len = run.len - needed }

-- behind what is taken a run has the blocks that it had
same_rest : (run : Run) (needed block : ℕ) → needed < run.len → run.first + needed ≤ block → in_run (rest_of run needed) block ≡ in_run run block
same_rest run needed block less left =
    elim (cases_lt block (end_of run)) [
      | inl inside ↦ rw (within (run.first + needed) (run.len - needed) block left (omega (arith, less, inside)), within run.first run.len block (omega (arith, left)) inside) refl
      | inr past ↦ rw (past_within (run.first + needed) (run.len - needed) block (omega (arith, less, past)), past_within run.first run.len block past) refl
    ]

narrower : (first needed len block : ℕ) → needed ≤ len → is_within first len block ≡ false → is_within first needed block ≡ false
narrower first needed len block le not' = grind (arith, nat_tests)

pub spaced_set : (runs : List Run) (from to at needed : ℕ) → AreSpaced from to runs → at < length runs → needed < (run_at runs at).len → AreSpaced from to (slice_set runs at (rest_of (run_at runs at) needed))
spaced_set [] from to at needed spaced lt less = absurd (omega (arith, lt))
spaced_set (run ∷ runs) from to zero needed spaced lt less =
    ((omega (arith, spaced.0.0), (omega (arith, less), omega (arith, spaced.0.1.1, less))), spaced_from runs (end_of run + 1) (end_of (rest_of run needed) + 1) to spaced.1 (omega (arith, less)))
spaced_set (run ∷ runs) from to (suc at) needed spaced lt less = (spaced.0, spaced_set runs (end_of run + 1) to at needed spaced.1 (omega (arith, lt)) less)

pub in_set : (runs : List Run) (from to at needed block : ℕ) → AreSpaced from to runs → at < length runs → needed < (run_at runs at).len → is_in (slice_set runs at (rest_of (run_at runs at) needed)) block ≡ (is_in runs block && not (is_within (run_at runs at).first needed block))
in_set [] from to at needed block spaced lt less = absurd (omega (arith, lt))
in_set (run ∷ runs) from to zero needed block spaced lt less =
    elim (cases_lt block run.first) [
      | inl low ↦ rw (below_within (run.first + needed) (run.len - needed) block (omega (arith, low)), below_within run.first run.len block low, below_within run.first needed block low) (grind (arith, nat_tests))
      | inr behind ↦ elim (cases_lt block (run.first + needed)) [
        | inl taken ↦ rw (below_within (run.first + needed) (run.len - needed) block taken, within run.first needed block behind taken, in_below runs (end_of run + 1) to block spaced.1 (omega (arith, taken, less))) (grind (arith, nat_tests))
        | inr left ↦ rw (past_within run.first needed block left, same_rest run needed block less left) (grind (arith, nat_tests))
      ]
    ]
in_set (run ∷ runs) from to (suc at) needed block spaced lt less =
    let rest = in_set runs (end_of run + 1) to at needed block spaced.1 (omega (arith, lt)) less in
    elim (cases_Bool (in_run run block)) [
      | inl has ↦
          let apart = narrower (run_at runs at).first needed (run_at runs at).len block (omega (arith, less)) (not_before run runs from to at block spaced (omega (arith, lt)) has) in
          rw (has, apart) refl
      | inr not' ↦ rw not' rest
    ]
