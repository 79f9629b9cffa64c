-- Lists of free runs.
use Rattle.std.specs.Prelude.{◌≡◌, ℕ, zero, suc, ◌+◌, ◌<◌, ◌≤◌, ◌==◌, Bool, if◌then◌else◌, List, [], ◌∷◌}
use Rattle.std.specs.Prelude.{slice_index_or, length, Some}
use Rattle.std.specs.List.{list_any}
use Rattle.std.specs.Coded.{×_prop, Unit-prop, le_prop}
use Rattle.patch_pool.specs.declared.runs.Run.{Run}
use Rattle.patch_pool.specs.Free.{is_within, lowest_of}

abbrev pub no_run : Run
no_run = record { first = 0; len = 0 }

-- the run at an index
abbrev pub run_at : List Run → ℕ → Run
run_at runs at = slice_index_or runs at no_run

abbrev pub end_of : Run → ℕ
end_of run = run.first + run.len

abbrev pub in_run : Run → ℕ → Bool
in_run run block = is_within run.first run.len block

-- a run of the list has the block
abbrev pub is_in : List Run → ℕ → Bool
is_in runs block = list_any (λ run. in_run run block) runs

-- the run is not empty and lies between two blocks
abbrev pub LiesIn : ℕ → ℕ → Run → Type 0
LiesIn from to run = (from ≤ run.first) × ((0 < run.len) × (end_of run ≤ to))

-- The runs ascend within these bounds, none is empty, and no two touch.
abbrev pub AreSpaced : ℕ → ℕ → List Run → Type 0
AreSpaced from to [] = Unit {0}
AreSpaced from to (run ∷ runs) = LiesIn from to run × AreSpaced (end_of run + 1) to runs

-- each run ends at a block or before it
abbrev pub AllEnd : ℕ → List Run → Type 0
AllEnd to [] = Unit {0}
AllEnd to (run ∷ runs) = (end_of run ≤ to) × AllEnd to runs

pub AreSpaced-prop : (from to : ℕ) (runs : List Run) → IsProp (AreSpaced from to runs)
AreSpaced-prop from to [] = Unit-prop
AreSpaced-prop from to (run ∷ runs) =
    ×_prop (×_prop le_prop (×_prop le_prop le_prop)) (AreSpaced-prop (end_of run + 1) to runs)

-- the run at an index is the lowest with so many free blocks
pub record IsFit (runs : List Run) (blocks needed at : ℕ) : Type 0 where
  pub within : at < length runs
  pub lowest : lowest_of (is_in runs) blocks needed ≡ Some (run_at runs at).first
  pub enough : needed ≤ (run_at runs at).len
  pub ends : end_of (run_at runs at) ≤ blocks

-- a run and the next as one
abbrev pub joined : Run → Run → Run
joined run next = record { first = run.first; len = run.len + next.len }

-- a run before others, made one with the first of them where they touch
abbrev pub join_first : Run → List Run → List Run
join_first run [] = run ∷ []
join_first run (next ∷ runs) = if end_of run == next.first then joined run next ∷ runs else run ∷ next ∷ runs

-- the same of the run at an index
abbrev pub join_at : List Run → ℕ → List Run
join_at [] at = []
join_at (run ∷ runs) zero = join_first run runs
join_at (run ∷ runs) (suc at) = run ∷ join_at runs at

-- a list of runs after the one at an index was joined with its neighbours
abbrev pub settle : List Run → ℕ → List Run
settle runs zero = join_at runs zero
settle runs (suc at) = join_at (join_at runs (suc at)) at
