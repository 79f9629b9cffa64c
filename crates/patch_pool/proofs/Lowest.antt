-- Which run of a list is the lowest that is long enough, and how long the longest is.
use Rattle.std.proofs.Common.{◌≡◌, ℕ, zero, suc, ◌+◌, ◌-◌, ◌<◌, ◌≤◌, max, ◌⊎◌, Bool, true, false, not, nat_le, List, [], ◌∷◌, length, Option, Some, None, MatchOption, is_some, refl, sym, ap, ◌∙◌, inl, inr, arith}
use Rattle.std.specs.List.{list_all, position, position_or_len, fold, range_with_len}
use Rattle.std.proofs.lemmas.Bool.{false≢true, cases_eq, cases_lt, lt-ltb, le-ltb}
use Rattle.std.proofs.lemmas.List.Sums.{prefix_len-le-length}
use Rattle.std.proofs.lemmas.Bool.Decides.{nat_tests}
use Rattle.region_steps.proofs.Rows.{all_pass, not_all, all_alike, found_none, found}
use Rattle.patch_pool.specs.declared.runs.Run.{Run}
use Rattle.patch_pool.specs.Free.{lowest_of, IsLongest}
use Rattle.patch_pool.specs.Runs.{end_of, is_in, AreSpaced, run_at, IsFit}
use Rattle.patch_pool.proofs.Spaced.{within, below_within, past_within, in_below}

-- so many free blocks, from one on
abbrev pub is_row : List Run → ℕ → ℕ → Bool
is_row runs needed first = list_all (is_in runs) (range_with_len first needed)

-- the first run that has so many blocks
abbrev pub first_fit : List Run → ℕ → ℕ
first_fit runs needed = position_or_len (λ run. nat_le needed run.len) runs

fit_first : (run : Run) (runs : List Run) (needed : ℕ) → first_fit (run ∷ runs) needed ≡ zero → needed ≤ run.len
fit_first run runs needed is =
    elim (cases_lt run.len needed) [
      | inl short ↦ absurd (grind (arith, nat_tests))
      | inr fits ↦ fits
    ]

short_first : (run : Run) (runs : List Run) (needed at : ℕ) → first_fit (run ∷ runs) needed ≡ suc at → (run.len < needed) × (first_fit runs needed ≡ at)
short_first run runs needed at is =
    elim (cases_lt run.len needed) [
      | inl short ↦ (short, grind (arith, nat_tests))
      | inr fits ↦ absurd (grind (arith, nat_tests))
    ]

-- where the first run that is long enough begins, or any block where none is
abbrev pub IsBelow : List Run → ℕ → ℕ → Type 0
IsBelow runs at first = at < length runs → first < (run_at runs at).first

-- below that run there are not so many in a row
no_lower : (runs : List Run) (from to needed at first : ℕ) → AreSpaced from to runs → 0 < needed → first_fit runs needed ≡ at → IsBelow runs at first → is_row runs needed first ≡ false
no_lower [] from to needed at first spaced some is below = not_all (is_in []) first needed first (omega arith) (omega (arith, some)) refl
no_lower (run ∷ runs) from to needed zero first spaced some is below =
    let low : first < run.first = below (omega arith) in
    not_all (is_in (run ∷ runs)) first needed first (omega arith) (omega (arith, some)) (rw (below_within run.first run.len first low, in_below runs (end_of run + 1) to first spaced.1 (omega (arith, low))) refl)
no_lower (run ∷ runs) from to needed (suc at) first spaced some is below =
    let short = short_first run runs needed at is in
    let below_rest : IsBelow runs at first = λ lt. below (omega (arith, lt)) in
    elim (cases_lt first run.first) [
      | inl low ↦ not_all (is_in (run ∷ runs)) first needed first (omega arith) (omega (arith, some)) (rw (below_within run.first run.len first low, in_below runs (end_of run + 1) to first spaced.1 (omega (arith, low))) refl)
      | inr behind ↦ elim (cases_lt first (end_of run + 1)) [
        | inl inside ↦ not_all (is_in (run ∷ runs)) first needed (end_of run) (omega (arith, inside)) (omega (arith, behind, short.0)) (rw (past_within run.first run.len (end_of run) (omega arith), in_below runs (end_of run + 1) to (end_of run) spaced.1 (omega arith)) refl)
        | inr past ↦
            all_alike (is_in (run ∷ runs)) (is_in runs) first needed (λ block low high. rw (past_within run.first run.len block (omega (arith, past, low))) refl) ∙ no_lower runs (end_of run + 1) to needed at first spaced.1 some short.1 below_rest
      ]
    ]

-- a run of the list has its blocks, and lies within its bounds
pub record IsRunOf (runs : List Run) (to : ℕ) (run : Run) : Type 0 where
  pub has : (block : ℕ) → run.first ≤ block → block < end_of run → is_in runs block ≡ true
  pub ends : end_of run ≤ to

is_run_at : (runs : List Run) (from to at : ℕ) → AreSpaced from to runs → at < length runs → IsRunOf runs to (run_at runs at)
is_run_at [] from to at spaced lt = absurd (omega (arith, lt))
is_run_at (run ∷ runs) from to zero spaced lt = record { has = λ block low high. rw (within run.first run.len block low high) refl; ends = spaced.0.1.1 }
is_run_at (run ∷ runs) from to (suc at) spaced lt =
    let rest = is_run_at runs (end_of run + 1) to at spaced.1 (omega (arith, lt)) in
    record { has = λ block low high. let e = rest.has block low high in grind (arith, nat_tests); ends = rest.ends }

fits_at : (runs : List Run) (needed at : ℕ) → first_fit runs needed ≡ at → at < length runs → needed ≤ (run_at runs at).len
fits_at [] needed at is lt = absurd (omega (arith, lt))
fits_at (run ∷ runs) needed zero is lt = fit_first run runs needed is
fits_at (run ∷ runs) needed (suc at) is lt = fits_at runs needed at (short_first run runs needed at is).1 (omega (arith, lt))

-- where the first run that is long enough begins is where so many free blocks begin
pub lowest_at : (runs : List Run) (to needed at : ℕ) → AreSpaced 0 to runs → 0 < needed → first_fit runs needed ≡ at → at < length runs → lowest_of (is_in runs) to needed ≡ Some (run_at runs at).first
unfolding lowest_of
lowest_at runs to needed at spaced some is lt =
    let run = run_at runs at in
    let its = is_run_at runs 0 to at spaced lt in
    let fits = fits_at runs needed at is lt in
    found (is_row runs needed) 0 (to + 1 - needed) run.first
    (record {
      low = omega arith;
      high = omega (arith, its.ends, fits);
      passes = all_pass (is_in runs) run.first needed (λ block low high. its.has block low (omega (arith, high, fits)));
      fails = λ j low lower. no_lower runs 0 to needed at j spaced some is (λ _. lower);
    })

-- where no run is long enough there are not so many
pub lowest_none : (runs : List Run) (to needed : ℕ) → AreSpaced 0 to runs → 0 < needed → first_fit runs needed ≡ length runs → lowest_of (is_in runs) to needed ≡ None
unfolding lowest_of
lowest_none runs to needed spaced some is =
    found_none (is_row runs needed) 0 (to + 1 - needed) (λ first low high. no_lower runs 0 to needed (length runs) first spaced some is (λ lt. absurd (omega (arith, lt))))

-- ---- the index that a search answers

fit_some : (runs : List Run) (needed at : ℕ) → position (λ run. nat_le needed run.len) runs ≡ Some at → (first_fit runs needed ≡ at) × (at < length runs)
fit_some runs needed at e =
    elim (cases_lt (first_fit runs needed) (length runs)) [
      | inl lt ↦ let same : first_fit runs needed ≡ at = let e' : Some (first_fit runs needed) ≡ Some at = rw (lt-ltb (first_fit runs needed) (length runs) lt) at e in (cc) in (same, omega (arith, same, lt))
      | inr ge ↦ let e' : None ≡ Some at = rw (le-ltb (first_fit runs needed) (length runs) ge) at e in absurd (cc)
    ]

fit_none : (runs : List Run) (needed : ℕ) → position (λ run. nat_le needed run.len) runs ≡ None → first_fit runs needed ≡ length runs
fit_none runs needed e =
    elim (cases_lt (first_fit runs needed) (length runs)) [
      | inl lt ↦ let e' : Some (first_fit runs needed) ≡ None = rw (lt-ltb (first_fit runs needed) (length runs) lt) at e in absurd (cc)
      | inr ge ↦ omega (arith, ge, prefix_len-le-length (λ x. not (nat_le needed x.len)) runs)
    ]

fit : (runs : List Run) (blocks needed at : ℕ) → AreSpaced 0 blocks runs → 0 < needed → position (λ run. nat_le needed run.len) runs ≡ Some at → IsFit runs blocks needed at
fit runs blocks needed at spaced some e =
    let is = fit_some runs needed at e in
    record {
      within = is.1;
      lowest = lowest_at runs blocks needed at spaced some is.0 is.1;
      enough = fits_at runs needed at is.0 is.1;
      ends = (is_run_at runs 0 blocks at spaced is.1).ends;
    }

no_fit : (runs : List Run) (blocks needed : ℕ) → AreSpaced 0 blocks runs → 0 < needed → position (λ run. nat_le needed run.len) runs ≡ None → lowest_of (is_in runs) blocks needed ≡ None
no_fit runs blocks needed spaced some e = lowest_none runs blocks needed spaced some (fit_none runs needed e)

-- the same, of what a search answers
pub fit_or_none : (runs : List Run) (blocks needed : ℕ) (answer : Option ℕ) → AreSpaced 0 blocks runs → 0 < needed → answer ≡ position (λ run. nat_le needed run.len) runs
    → MatchOption answer (lowest_of (is_in runs) blocks needed ≡ None) (λ at. IsFit runs blocks needed at)
fit_or_none runs blocks needed None spaced some e = no_fit runs blocks needed spaced some (sym e)
fit_or_none runs blocks needed (Some at) spaced some e = fit runs blocks needed at spaced some (sym e)

-- ---- the longest run

abbrev pub most : ℕ → List Run → ℕ
most least runs = fold (λ longest run. max longest run.len) least runs

most_from : (runs : List Run) (least : ℕ) → least ≤ most least runs
most_from [] least = omega arith
most_from (run ∷ runs) least = let rest = most_from runs (max least run.len) in omega (arith, rest)

most_at : (runs : List Run) (least at : ℕ) → at < length runs → (run_at runs at).len ≤ most least runs
most_at [] least at lt = absurd (omega (arith, lt))
most_at (run ∷ runs) least zero lt = let rest = most_from runs (max least run.len) in omega (arith, rest)
most_at (run ∷ runs) least (suc at) lt = most_at runs (max least run.len) at (omega (arith, lt))

-- a run with as many blocks
abbrev pub HasRun : List Run → ℕ → Type 0
HasRun runs needed = (at : ℕ) × ((at < length runs) × (needed ≤ (run_at runs at).len))

most_is : (runs : List Run) (least : ℕ) → (most least runs ≡ least) ⊎ HasRun runs (most least runs)
most_is [] least = inl refl
most_is (run ∷ runs) least =
    elim (most_is runs (max least run.len)) [
      | inl same ↦ elim (cases_lt least run.len) [
        | inl lt ↦ inr (0, (omega arith, omega (arith, same, lt)))
        | inr ge ↦ inl (omega (arith, same, ge))
      ]
      | inr there ↦ inr (suc there.0, (omega (arith, there.1.0), there.1.1))
    ]

fit_there : (runs : List Run) (needed at : ℕ) → at < length runs → needed ≤ (run_at runs at).len → first_fit runs needed < length runs
fit_there [] needed at lt fits = absurd (omega (arith, lt))
fit_there (run ∷ runs) needed zero lt fits = grind (arith, nat_tests)
fit_there (run ∷ runs) needed (suc at) lt fits = let rest = fit_there runs needed at (omega (arith, lt)) fits in grind (arith, nat_tests)

-- no more than the longest has
none_longer : (runs : List Run) (blocks needed : ℕ) → AreSpaced 0 blocks runs → is_some (lowest_of (is_in runs) blocks needed) ≡ true → needed ≤ most 0 runs
none_longer runs blocks needed spaced there =
    elim (cases_lt (most 0 runs) needed) [
      | inl more ↦ elim (cases_lt (first_fit runs needed) (length runs)) [
        | inl lt ↦ absurd (omega (arith, fits_at runs needed (first_fit runs needed) refl lt, most_at runs 0 (first_fit runs needed) lt, more))
        | inr ge ↦ absurd (false≢true (ap is_some (sym (lowest_none runs blocks needed spaced (omega (arith, more)) (omega (arith, ge, prefix_len-le-length (λ x. not (nat_le needed x.len)) runs)))) ∙ there))
      ]
      | inr le ↦ le
    ]

-- a row of no blocks is there
no_blocks : (runs : List Run) (blocks : ℕ) → is_some (lowest_of (is_in runs) blocks 0) ≡ true
unfolding lowest_of
no_blocks runs blocks =
    ap is_some (found (is_row runs 0) 0 (blocks + 1 - 0) 0 (record { low = omega arith; high = omega arith; passes = refl; fails = λ j low lt. absurd (omega (arith, lt)) }))

-- as many as the longest has
there_are : (runs : List Run) (blocks : ℕ) → AreSpaced 0 blocks runs → is_some (lowest_of (is_in runs) blocks (most 0 runs)) ≡ true
there_are runs blocks spaced =
    elim (most_is runs 0) [
      | inl none ↦ rw none (no_blocks runs blocks)
      | inr there ↦ elim (cases_eq (most 0 runs) 0) [
        | inl none ↦ rw none (no_blocks runs blocks)
        | inr some ↦ ap is_some (lowest_at runs blocks (most 0 runs) (first_fit runs (most 0 runs)) spaced (omega (arith, some)) refl (fit_there runs (most 0 runs) there.0 there.1.0 there.1.1))
      ]
    ]

pub longest_is : (runs : List Run) (blocks : ℕ) → AreSpaced 0 blocks runs → IsLongest (is_in runs) blocks (most 0 runs)
longest_is runs blocks spaced = record {
  is_there = there_are runs blocks spaced;
  none_longer = λ needed there. none_longer runs blocks needed spaced there;
}
