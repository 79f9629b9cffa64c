-- Where the lowest run of free blocks is, and what the length of the longest says of it.
use Rattle.std.proofs.Common.{◌≡◌, ℕ, ◌+◌, ◌-◌, ◌<◌, ◌≤◌, true, false, not, Option, Some, None, is_some, refl, sym, ap, ◌∙◌, inl, inr, arith}
use Rattle.std.proofs.lemmas.Bool.{false≢true, cases_lt}
use Rattle.region_steps.specs.Region.{Patches, is_covered, is_free_run, lowest_run, IsLongestFree}
use Rattle.region_steps.proofs.Rows.{all_pass, each_passes, first_found, none_found}

-- a run of free blocks inside the region
pub record IsFreeInside (patches : Patches) (blocks needed first : ℕ) : Type 0 where
  pub free : is_free_run patches needed first ≡ true
  pub inside : first + needed ≤ blocks

pub lowest_is_free : (patches : Patches) (blocks needed first : ℕ) → lowest_run patches blocks needed ≡ Some first → IsFreeInside patches blocks needed first
unfolding lowest_run
lowest_is_free patches blocks needed first e =
    let is = first_found (is_free_run patches needed) 0 (blocks + 1 - needed) first e in
    record { free = is.passes; inside = omega (arith, is.high) }

-- so many free blocks begin with as many as are fewer
shorter : (patches : Patches) (fewer more first : ℕ) → fewer ≤ more → is_free_run patches more first ≡ true → is_free_run patches fewer first ≡ true
unfolding is_free_run
shorter patches fewer more first le free =
    all_pass (λ block. not (is_covered patches block)) first fewer (λ block low high. each_passes (λ block. not (is_covered patches block)) first more block free low (omega (arith, high, le)))

no_run_inside : (patches : Patches) (blocks needed first : ℕ) → lowest_run patches blocks needed ≡ None → first + needed ≤ blocks → is_free_run patches needed first ≡ false
unfolding lowest_run
no_run_inside patches blocks needed first e inside = none_found (is_free_run patches needed) 0 (blocks + 1 - needed) first e (omega arith) (omega (arith, inside))

some_is : (answer : Option ℕ) → is_some answer ≡ true → (k : ℕ) × (answer ≡ Some k)
some_is None e = absurd (false≢true e)
some_is (Some k) e = (k, refl)

-- there is no run of so many where the longest has fewer
pub longer_than_longest : (patches : Patches) (blocks longest needed : ℕ) → IsLongestFree patches blocks longest → lowest_run patches blocks needed ≡ None → longest < needed
longer_than_longest patches blocks longest needed is none =
    elim (cases_lt longest needed) [
      | inl lt ↦ lt
      | inr le ↦
          let its = some_is (lowest_run patches blocks longest) is.is_there in
          let free = lowest_is_free patches blocks longest its.0 its.1 in
          absurd (false≢true (sym (no_run_inside patches blocks needed its.0 none (omega (arith, free.inside, le))) ∙ shorter patches needed longest its.0 le free.free))
    ]

pub not_longer : (patches : Patches) (blocks longest needed first : ℕ) → IsLongestFree patches blocks longest → lowest_run patches blocks needed ≡ Some first → needed ≤ longest
not_longer patches blocks longest needed first is some = is.none_longer needed (ap is_some some)
