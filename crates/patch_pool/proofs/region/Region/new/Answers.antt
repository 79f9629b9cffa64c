use Rattle.std.proofs.Common.{◌≡◌, ℕ, ◌*◌, List, replicate, cond, count_by, sym, ap, ◌∙◌, inl, inr, arith}
use Rattle.std.specs.List.{slice_index}
use Rattle.std.proofs.lemmas.Bool.{cases_lt}
use Rattle.std.proofs.lemmas.List.{get_or-replicate, get_or_past, length-replicate}
use Rattle.std.proofs.lemmas.List.Folds.{sum_by-replicate}
use Rattle.patch_pool.specs.Bytes.{begins}
use Rattle.patch_pool.proofs.Memory.{none_in}
use Rattle.patch_pool.proofs.region.Region.new.Goals as goal

all_zero : (n first : ℕ) → slice_index (replicate n 0) first ≡ 0
all_zero n first =
    elim (cases_lt first n) [
      | inl lt ↦ get_or-replicate n first 0 0 lt
      | inr past ↦ get_or_past (replicate n 0) first 0 (omega (arith, length-replicate {A = ℕ} n 0, past))
    ]

-- no patch has a length
no_length : (lengths : List ℕ) (n first : ℕ) → lengths ≡ replicate n 0 → slice_index lengths first ≡ 0
no_length lengths n first is = ap (λ (list : List ℕ). slice_index list first) is ∙ all_zero n first

none_counted : (lengths : List ℕ) (n : ℕ) → lengths ≡ replicate n 0 → 0 ≡ count_by begins lengths
none_counted lengths n is =
    let none : n * 0 ≡ 0 = omega arith in
    sym (ap (count_by begins) is ∙ sum_by-replicate (λ (len : ℕ). cond (begins len) 1 0) n 0 ∙ none)

pub invariant_of-result-clause-counted : goal.invariant_of-result-clause-counted
invariant_of-result-clause-counted c = none_counted c.in_ok-lengths.lengths.items c.args.blocks c.in_ok-lengths.ensures

pub invariant_of-result-clause-inside : goal.invariant_of-result-clause-inside
invariant_of-result-clause-inside c = λ first some. absurd (omega (arith, some, no_length c.in_ok-lengths.lengths.items c.args.blocks first c.in_ok-lengths.ensures))

pub returns-clause-empty : goal.returns-clause-empty
returns-clause-empty c = none_in c.in_ok-bytes.bytes.items c.in_ok-lengths.lengths.items (λ first. no_length c.in_ok-lengths.lengths.items c.args.blocks first c.in_ok-lengths.ensures)
