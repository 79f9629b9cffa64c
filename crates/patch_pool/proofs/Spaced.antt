-- What lists of runs have in them, and what joining two runs leaves.
use Rattle.std.proofs.Common.{◌≡◌, ℕ, zero, suc, ◌+◌, ◌*◌, ◌<◌, ◌≤◌, Bool, true, false, ◌||◌, List, [], ◌∷◌, length, refl, ap, arith}
use Rattle.std.proofs.lemmas.Bool.Decides.{nat_tests}
use Rattle.patch_pool.specs.declared.runs.Run.{Run}
use Rattle.patch_pool.specs.Free.{is_within}
use Rattle.patch_pool.specs.Runs.{end_of, in_run, is_in, AreSpaced, join_first, join_at}

pub within : (first count block : ℕ) → first ≤ block → block < first + count → is_within first count block ≡ true
within first count block low high = grind (arith, nat_tests)

pub below_within : (first count block : ℕ) → block < first → is_within first count block ≡ false
below_within first count block low = grind (arith, nat_tests)

pub past_within : (first count block : ℕ) → first + count ≤ block → is_within first count block ≡ false
past_within first count block past = grind (arith, nat_tests)

-- runs from a later block on are runs from an earlier one on
pub spaced_from : (runs : List Run) (from earlier to : ℕ) → AreSpaced from to runs → earlier ≤ from → AreSpaced earlier to runs
spaced_from [] from earlier to spaced le = tt
spaced_from (run ∷ runs) from earlier to spaced le = ((omega (arith, spaced.0.0, le), spaced.0.1), spaced.1)

-- runs that end at a block or before it end at a later one or before it
pub spaced_to : (runs : List Run) (from to later : ℕ) → AreSpaced from to runs → to ≤ later → AreSpaced from later runs
spaced_to [] from to later spaced le = tt
spaced_to (run ∷ runs) from to later spaced le = ((spaced.0.0, (spaced.0.1.0, omega (arith, spaced.0.1.1, le))), spaced_to runs (end_of run + 1) to later spaced.1 le)

-- no run has a block before the first
pub in_below : (runs : List Run) (from to block : ℕ) → AreSpaced from to runs → block < from → is_in runs block ≡ false
in_below [] from to block spaced low = refl
in_below (run ∷ runs) from to block spaced low =
    rw (below_within run.first run.len block (omega (arith, spaced.0.0, low)), in_below runs (end_of run + 1) to block spaced.1 (omega (arith, spaced.0.0, low))) refl

-- joining two runs that touch changes no block
in_join_first : (run : Run) (runs : List Run) (block : ℕ) → is_in (join_first run runs) block ≡ is_in (run ∷ runs) block
in_join_first run [] block = refl
in_join_first run (next ∷ runs) block = grind (arith, nat_tests)

pub in_join_at : (runs : List Run) (at block : ℕ) → is_in (join_at runs at) block ≡ is_in runs block
in_join_at [] at block = refl
in_join_at (run ∷ runs) zero block = in_join_first run runs block
in_join_at (run ∷ runs) (suc at) block = ap (λ (b : Bool). in_run run block || b) (in_join_at runs at block)

-- at most one run for two blocks
pub few_runs : (runs : List Run) (from to : ℕ) → AreSpaced from to runs → from ≤ to + 1 → from + 2 * length runs ≤ to + 1
few_runs [] from to spaced le = omega arith
few_runs (run ∷ runs) from to spaced le =
    let rest = few_runs runs (end_of run + 1) to spaced.1 (omega (arith, spaced.0.1.1)) in
    omega (arith, spaced.0.0, spaced.0.1.0, rest)
