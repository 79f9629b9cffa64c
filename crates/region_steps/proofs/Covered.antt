-- Which blocks are covered, and how putting a patch and taking one out changes it.
use Rattle.std.proofs.Common.{◌≡◌, ℕ, ◌+◌, ◌<◌, ◌≤◌, ◌⊎◌, true, false, not, sym, ◌∙◌, inl, inr, arith}
use Rattle.std.proofs.lemmas.Bool.{false≢true, cases_lt, cases_Bool}
use Rattle.std.proofs.lemmas.Bool.Decides.{nat_tests}
use Rattle.region_steps.specs.Region.{Patches, width, covers, is_covered, is_free_run}
use Rattle.region_steps.proofs.Rows.{any_passes, none_passes, any_found, each_passes}

-- ---- one patch

pub covers_within : (patches : Patches) (first block : ℕ) → first ≤ block → block < first + width (patches first) → covers patches first block ≡ true
covers_within patches first block low high = grind (arith, nat_tests)

pub covers_below : (patches : Patches) (first block : ℕ) → block < first → covers patches first block ≡ false
covers_below patches first block low = grind (arith, nat_tests)

pub covers_past : (patches : Patches) (first block : ℕ) → first + width (patches first) ≤ block → covers patches first block ≡ false
covers_past patches first block past = grind (arith, nat_tests)

-- what a patch that covers a block says of it
pub covers_means : (patches : Patches) (first block : ℕ) → covers patches first block ≡ true → (first ≤ block) × (block < first + width (patches first))
covers_means patches first block yes' =
    elim (cases_lt block first) [
      | inl low ↦ absurd (false≢true (sym (covers_below patches first block low) ∙ yes'))
      | inr le ↦ elim (cases_lt block (first + width (patches first))) [
        | inl lt ↦ (le, lt)
        | inr past ↦ absurd (false≢true (sym (covers_past patches first block past) ∙ yes'))
      ]
    ]

-- ---- all of them

pub covered_by : (patches : Patches) (first block : ℕ) → covers patches first block ≡ true → is_covered patches block ≡ true
unfolding is_covered
covered_by patches first block yes' = any_passes (λ f. covers patches f block) 0 (block + 1) first (omega arith) (omega (arith, (covers_means patches first block yes').0)) yes'

pub not_covered_by : (patches : Patches) (first block : ℕ) → is_covered patches block ≡ false → covers patches first block ≡ false
not_covered_by patches first block free =
    elim (cases_Bool (covers patches first block)) [
      | inl yes' ↦ absurd (false≢true (sym free ∙ covered_by patches first block yes'))
      | inr no' ↦ no'
    ]

pub not_covered : (patches : Patches) (block : ℕ) → ((first : ℕ) → covers patches first block ≡ false) → is_covered patches block ≡ false
unfolding is_covered
not_covered patches block none = none_passes (λ f. covers patches f block) 0 (block + 1) (λ first low high. none first)

-- some patch covers a block that is covered
pub record Coverer (patches : Patches) (block : ℕ) : Type 0 where
  pub first : ℕ
  pub covers_it : covers patches first block ≡ true

pub coverer : (patches : Patches) (block : ℕ) → is_covered patches block ≡ true → Coverer patches block
unfolding is_covered
coverer patches block yes' = let found = any_found (λ f. covers patches f block) 0 (block + 1) yes' in record { first = found.0; covers_it = found.1 }

-- ---- a free run

pub run_is_free : (patches : Patches) (needed first block : ℕ) → is_free_run patches needed first ≡ true → first ≤ block → block < first + needed → is_covered patches block ≡ false
unfolding is_free_run
run_is_free patches needed first block free low high =
    let e = each_passes (λ block. not (is_covered patches block)) first needed block free low high in
    grind (arith, nat_tests)

-- a patch with blocks lies before a free run or behind it
pub apart_from_run : (patches : Patches) (needed first other : ℕ) → is_free_run patches needed first ≡ true → 0 < needed → 0 < width (patches other) → (other + width (patches other) ≤ first) ⊎ (first + needed ≤ other)
apart_from_run patches needed first other free some has =
    elim (cases_lt first (other + width (patches other))) [
      | inl lt ↦ elim (cases_lt other (first + needed)) [
        | inl low ↦ elim (cases_lt other first) [
          | inl before ↦ absurd (false≢true (sym (run_is_free patches needed first first free (omega arith) (omega (arith, some))) ∙ covered_by patches other first (covers_within patches other first (omega (arith, before)) lt)))
          | inr behind ↦ absurd (false≢true (sym (run_is_free patches needed first other free behind low) ∙ covered_by patches other other (covers_within patches other other (omega arith) (omega (arith, has)))))
        ]
        | inr past ↦ inr past
      ]
      | inr le ↦ inl le
    ]

-- none begins at a free run with blocks
pub begins_no_patch : (patches : Patches) (needed first : ℕ) → is_free_run patches needed first ≡ true → 0 < needed → width (patches first) ≡ 0
begins_no_patch patches needed first free some =
    elim (cases_lt 0 (width (patches first))) [
      | inl has ↦ elim (apart_from_run patches needed first first free some has) [
        | inl le ↦ absurd (omega (arith, le, has))
        | inr le ↦ absurd (omega (arith, le, some))
      ]
      | inr none ↦ omega (arith, none)
    ]
