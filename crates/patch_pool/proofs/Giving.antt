-- What a list of runs is after blocks were given back to it.
use Rattle.std.proofs.Common.{◌≡◌, ℕ, zero, suc, ◌+◌, ◌-◌, ◌<◌, ◌≤◌, true, false, ◌||◌, nat_lt, List, [], ◌∷◌, refl, sym, ap, ◌∙◌, inl, inr, arith}
use Rattle.std.specs.List.{insert, position_or_len}
use Rattle.std.proofs.lemmas.Bool.{false≢true, cases_eq, cases_lt, eq-eqb, ne_eqb}
use Rattle.std.proofs.lemmas.Bool.Decides.{nat_tests}
use Rattle.patch_pool.specs.declared.runs.Run.{Run}
use Rattle.patch_pool.specs.Free.{is_within}
use Rattle.patch_pool.specs.Runs.{end_of, in_run, is_in, LiesIn, AreSpaced, joined, join_first, join_at, settle}
use Rattle.patch_pool.proofs.Spaced.{within, spaced_from, in_join_at}

-- the place of a run among others that ascend
abbrev pub place : List Run → ℕ → ℕ
place runs first = position_or_len (λ run. nat_lt first run.first) runs

-- ---- the blocks

in_insert : (runs : List Run) (at : ℕ) (run : Run) (block : ℕ) → is_in (insert runs at run) block ≡ (is_in runs block || in_run run block)
in_insert [] zero run block = grind (arith, nat_tests)
in_insert [] (suc at) run block = grind (arith, nat_tests)
in_insert (next ∷ runs) zero run block = grind (arith, nat_tests)
in_insert (next ∷ runs) (suc at) run block =
    let e = in_insert runs at run block in
    grind (arith, nat_tests)

pub in_settle : (runs : List Run) (at block : ℕ) → is_in (settle runs at) block ≡ is_in runs block
in_settle runs zero block = in_join_at runs zero block
in_settle runs (suc at) block = in_join_at (join_at runs (suc at)) at block ∙ in_join_at runs (suc at) block

pub in_given : (runs : List Run) (at : ℕ) (run : Run) (block : ℕ) → is_in (settle (insert runs at run) at) block ≡ (is_in runs block || in_run run block)
in_given runs at run block = in_settle (insert runs at run) at block ∙ in_insert runs at run block

-- ---- the order

-- a run before others that begin at its end or later
spaced_join_first : (run : Run) (runs : List Run) (from to : ℕ) → LiesIn from to run → AreSpaced (end_of run) to runs → AreSpaced from to (join_first run runs)
spaced_join_first run [] from to lies spaced = (lies, tt)
spaced_join_first run (next ∷ runs) from to lies spaced =
    elim (cases_eq (end_of run) next.first) [
      | inl touch ↦ rw (eq-eqb (end_of run) next.first touch) ((lies.0, (omega (arith, lies.1.0), omega (arith, spaced.0.1.1, touch))), spaced_from runs (end_of next + 1) (end_of (joined run next) + 1) to spaced.1 (omega (arith, touch)))
      | inr apart ↦ rw (ne_eqb (end_of run) next.first apart) (lies, ((omega (arith, spaced.0.0, apart), spaced.0.1), spaced.1))
    ]

-- the first of two that share no block ends before the other
ends_before : (run next : Run) (block : ℕ) → 0 < run.len → run.first ≤ next.first → is_within run.first run.len next.first ≡ false → end_of run ≤ next.first
ends_before run next block some le apart =
    elim (cases_lt next.first (end_of run)) [
      | inl low ↦ absurd (false≢true (sym apart ∙ within run.first run.len next.first le low))
      | inr past ↦ past
    ]

-- the blocks of a run are in none of these
pub record AreApart (run : Run) (runs : List Run) : Type 0 where
  pub none : (block : ℕ) → in_run run block ≡ true → is_in runs block ≡ false

apart_rest : (run next : Run) (runs : List Run) → AreApart run (next ∷ runs) → AreApart run runs
apart_rest run next runs apart = record { none = λ block has. let e = apart.none block has in grind (arith, nat_tests) }

-- the run before a later one that is apart
ends_before_next : (run next : Run) (runs : List Run) → AreApart run (next ∷ runs) → 0 < next.len → run.first < next.first → end_of run ≤ next.first
ends_before_next run next runs apart some lt =
    elim (cases_lt next.first (end_of run)) [
      | inl low ↦
          let e = apart.none next.first (within run.first run.len next.first (omega (arith, lt)) low) in
          let there = within next.first next.len next.first (omega arith) (omega (arith, some)) in
          absurd (grind (arith, nat_tests))
      | inr past ↦ past
    ]

-- the run behind an earlier one that is apart
begins_past : (run next : Run) (runs : List Run) → AreApart run (next ∷ runs) → 0 < run.len → next.first ≤ run.first → end_of next ≤ run.first
begins_past run next runs apart some le =
    elim (cases_lt run.first (end_of next)) [
      | inl low ↦
          let e = apart.none run.first (within run.first run.len run.first (omega arith) (omega (arith, some))) in
          let there = within next.first next.len run.first le low in
          absurd (grind (arith, nat_tests))
      | inr past ↦ past
    ]

-- runs from the end of a run on, where the first of them begins behind it
spaced_behind : (run : Run) (runs : List Run) (from to : ℕ) → AreSpaced from to runs → AreApart run runs → place runs run.first ≡ zero → AreSpaced (end_of run) to runs
spaced_behind run [] from to spaced apart at = tt
spaced_behind run (next ∷ runs) from to spaced apart at =
    elim (cases_lt run.first next.first) [
      | inl lt ↦ ((ends_before_next run next runs apart spaced.0.1.0 lt, spaced.0.1), spaced.1)
      | inr ge ↦ absurd (grind (arith, nat_tests))
    ]

-- what is known of the first of runs, where a block's place is behind it
behind_first : (next : Run) (runs : List Run) (first at : ℕ) → place (next ∷ runs) first ≡ suc at → (next.first ≤ first) × (place runs first ≡ at)
behind_first next runs first at is =
    elim (cases_lt first next.first) [
      | inl lt ↦ absurd (grind (arith, nat_tests))
      | inr ge ↦ (ge, grind (arith, nat_tests))
    ]

-- a block whose place is behind a run is not below the runs
not_below : (runs : List Run) (from to first at : ℕ) → AreSpaced from to runs → place runs first ≡ suc at → from ≤ first
not_below [] from to first at spaced is = absurd (omega (arith, is))
not_below (run ∷ runs) from to first at spaced is = omega (arith, spaced.0.0, (behind_first run runs first at is).0)

-- a run that was given back at its place, and joined with its neighbours
pub spaced_given : (runs : List Run) (from to at : ℕ) (run : Run) → AreSpaced from to runs → LiesIn from to run → AreApart run runs → place runs run.first ≡ at → AreSpaced from to (settle (insert runs at run) at)
spaced_given runs from to zero run spaced lies apart is =
    spaced_join_first run runs from to lies (spaced_behind run runs from to spaced apart is)
spaced_given [] from to (suc at) run spaced lies apart is = absurd (omega (arith, is))
spaced_given (next ∷ runs) from to (suc zero) run spaced lies apart is =
    let behind = behind_first next runs run.first zero is in
    let past = begins_past run next runs apart lies.1.0 behind.0 in
    let rest = spaced_behind run runs (end_of next + 1) to spaced.1 (apart_rest run next runs apart) behind.1 in
    spaced_join_first next (join_first run runs) from to spaced.0 (spaced_join_first run runs (end_of next) to (past, lies.1) rest)
spaced_given (next ∷ runs) from to (suc (suc at)) run spaced lies apart is =
    let behind = behind_first next runs run.first (suc at) is in
    let past = not_below runs (end_of next + 1) to run.first at spaced.1 behind.1 in
    (spaced.0, spaced_given runs (end_of next + 1) to (suc at) run spaced.1 (past, lies.1) (apart_rest run next runs apart) behind.1)

-- ---- as it is done

pub settle_first : (runs : List Run) (at : ℕ) → at ≤ 0 → join_at runs at ≡ settle runs at
settle_first runs zero le = refl
settle_first runs (suc at) le = absurd (omega (arith, le))

pub settle_later : (runs : List Run) (at : ℕ) → 0 < at → join_at (join_at runs at) (at - 1) ≡ settle runs at
settle_later runs zero lt = absurd (omega (arith, lt))
settle_later runs (suc at) lt = ap (λ (before : ℕ). join_at (join_at runs (suc at)) before) (omega arith)
