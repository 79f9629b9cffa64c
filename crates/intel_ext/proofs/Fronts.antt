-- What is known of a table's front, as its entries come.
use Rattle.std.proofs.Common.{◌≡◌, ◌≢◌, inl, inr, ℕ, zero, suc, ◌+◌, ◌*◌, ◌%◌, ◌^◌, ◌<◌, ◌≤◌, List, [], ◌∷◌, ◌++◌, length, map, drop, Some, None, refl, sym, ◌∙◌, ap, subst, arith, length-append}
use Rattle.std.specs.List.{range_with_len}
use Rattle.std.proofs.Math.Seq.{drop-append-add}
use Rattle.std.proofs.lemmas.Bool.{cases_eq}
use Rattle.std.proofs.lemmas.List.FromFn.{map-range_with_len_more}
use Rattle.byteorder.specs.Endian.{little_number}
use Rattle.uc_bytes.specs.Words.{word, word_sum_of}
use Rattle.uc_bytes.specs.declared.causes.FileCause.TheVariants.{ExtSum, EntrySum}
use Rattle.uc_bytes.proofs.Fronts.{word-append}
use Rattle.intel_format.specs.Update.{entry_count, entry_sum, pair_at, IsExtTable}
use Rattle.intel_format.specs.Checks.{IsFirstTableFault}
use Rattle.intel_ext.specs.declared.so_far.TableSoFar.{TableSoFar}
use Rattle.intel_ext.specs.SoFar.{IsTableSoFar, IsFirstBad}
use Rattle.intel_ext.proofs.Entries.{entry_fault}
use Rattle.intel_ext.proofs.Sums.{sum-append, sum_of_three}

-- a word behind a front
word_behind : (front back : List ℕ) (at k : ℕ) → at ≡ length front + k → word (front ++ back) at ≡ word back k
unfolding word
word_behind front back at k place =
    ap (λ (n : ℕ). little_number 4 (drop n (front ++ back))) place ∙ ap (little_number 4) (drop-append-add front back k)

pairs_same : (s t : List ℕ) (from count : ℕ) → ((i : ℕ) → from ≤ i → i < from + count → pair_at s i ≡ pair_at t i) → map (pair_at s) (range_with_len from count) ≡ map (pair_at t) (range_with_len from count)
pairs_same s t from zero same = refl
pairs_same s t from (suc count) same =
    let later : map (pair_at s) (range_with_len (from + 1) count) ≡ map (pair_at t) (range_with_len (from + 1) count) =
    pairs_same s t (from + 1) count (λ i least most. same i (omega arith) (omega arith)) in
    ap (λ (p : ℕ × ℕ). p ∷ map (pair_at s) (range_with_len (from + 1) count)) (same from (omega arith) (omega arith)) ∙ ap (λ (ps : List (ℕ × ℕ)). pair_at t from ∷ ps) later

-- an entry comes
module _ (table entry : List ℕ) (came : ℕ) (long : length table ≡ 20 + 12 * came) (whole : length entry ≡ 12) where
  same_pair : (i : ℕ) → i < came → pair_at (table ++ entry) i ≡ pair_at table i
  same_pair i below = λ j. (
    word-append table entry (20 + 12 * i) (omega (arith, below, long)) j,
    word-append table entry (24 + 12 * i) (omega (arith, below, long)) j,
  )

  same_sum : (i : ℕ) → i < came → entry_sum (table ++ entry) i ≡ entry_sum table i
  same_sum i below =
      omega (
        arith,
        word-append table entry (20 + 12 * i) (omega (arith, below, long)),
        word-append table entry (24 + 12 * i) (omega (arith, below, long)),
        word-append table entry (28 + 12 * i) (omega (arith, below, long)),
      )

  new_pair : pair_at (table ++ entry) came ≡ (word entry 0, word entry 4)
  new_pair = λ j. (
    word_behind table entry (20 + 12 * came) 0 (omega (arith, long)) j,
    word_behind table entry (24 + 12 * came) 4 (omega (arith, long)) j,
  )

  new_sum : entry_sum (table ++ entry) came ≡ word_sum_of entry
  new_sum =
      omega (
        arith,
        sum_of_three entry whole,
        word_behind table entry (20 + 12 * came) 0 (omega (arith, long)),
        word_behind table entry (24 + 12 * came) 4 (omega (arith, long)),
        word_behind table entry (28 + 12 * came) 8 (omega (arith, long)),
      )

  all_pairs : map (pair_at (table ++ entry)) (range_with_len 0 (came + 1)) ≡ map (pair_at table) (range_with_len 0 came) ++ (word entry 0, word entry 4) ∷ []
  all_pairs =
      map-range_with_len_more (pair_at (table ++ entry)) 0 came came (omega arith)
      ∙ ap (λ (ps : List (ℕ × ℕ)). ps ++ pair_at (table ++ entry) came ∷ []) (pairs_same (table ++ entry) table 0 came (λ i least most. same_pair i (omega arith)))
      ∙ ap (λ (p : ℕ × ℕ). map (pair_at table) (range_with_len 0 came) ++ p ∷ []) new_pair

  module _ (triple : ℕ) where
    pub still_bad : (bad : ℕ) → IsFirstBad triple table came (Some bad) → IsFirstBad triple (table ++ entry) (came + 1) (Some bad)
    still_bad bad (below, other, before) = (
      omega (arith, below),
      λ same. other (sym (same_sum bad below) ∙ same),
      λ j less. same_sum j (omega (arith, less, below)) ∙ before j less,
    )

    pub now_bad : IsFirstBad triple table came None → word_sum_of entry ≢ triple → IsFirstBad triple (table ++ entry) (came + 1) (Some came)
    now_bad good other = (
      omega arith,
      λ same. other (sym new_sum ∙ same),
      λ j less. same_sum j less ∙ good j less,
    )

    pub still_good : IsFirstBad triple table came None → word_sum_of entry ≡ triple → IsFirstBad triple (table ++ entry) (came + 1) None
    still_good good sum = λ i below. elim (cases_eq i came) [
      | inl here ↦ ap (λ (k : ℕ). entry_sum (table ++ entry) k) here ∙ new_sum ∙ sum
      | inr other ↦ same_sum i (omega (arith, below, other)) ∙ good i (omega (arith, below, other))
    ]

pub came_on : (triple : ℕ) (table entry : List ℕ) (known : TableSoFar) (pairs : List (ℕ × ℕ)) (after : TableSoFar) → IsTableSoFar triple table known pairs → length entry ≡ 12
    → after.count ≡ known.count → known.came < known.count → after.came ≡ (known.came + 1) % 2 ^ 32 → after.sum ≡ (known.sum + word_sum_of entry) % 2 ^ 32 → IsFirstBad triple (table ++ entry) (known.came + 1) after.bad
    → IsTableSoFar triple (table ++ entry) after (pairs ++ (word entry 0, word entry 4) ∷ [])
came_on triple table entry known pairs after so_far whole count some step sum bad =
    let came : after.came ≡ known.came + 1 = omega (arith, some, step, so_far.fits) in record {
      long = omega (arith, so_far.long, whole, came, length-append table entry);
      fits = omega (arith, count, so_far.fits);
      count = count ∙ so_far.count ∙ sym (word-append table entry 0 (omega (arith, so_far.long)));
      sum =
          sum ∙ ap (λ (n : ℕ). (n + word_sum_of entry) % 2 ^ 32) so_far.sum ∙ sym (sum-append table entry (omega (arith, so_far.long)));
      bad = subst (λ (n : ℕ). IsFirstBad triple (table ++ entry) n after.bad) (sym came) bad;
      entries =
          ap (λ (ps : List (ℕ × ℕ)). ps ++ (word entry 0, word entry 4) ∷ []) so_far.entries ∙ sym (all_pairs table entry known.came so_far.long whole)
          ∙ ap (λ (n : ℕ). map (pair_at (table ++ entry)) (range_with_len 0 n)) (sym came);
    }

-- all entries came
module _ (triple : ℕ) (table : List ℕ) (known : TableSoFar) (pairs : List (ℕ × ℕ)) (so_far : IsTableSoFar triple table known pairs) (all : known.came ≡ known.count) where
  whole_table : length table ≡ 20 + 12 * entry_count table
  whole_table = omega (arith, so_far.long, all, so_far.count)

  pub sum_is_fault : known.sum ≢ 0 → IsFirstTableFault triple table ExtSum
  sum_is_fault other =
      inr (λ cut. omega (arith, cut, so_far.long), inr (λ count. count whole_table, inl (λ none. other (so_far.sum ∙ none), refl)))

  module _ (sum : known.sum ≡ 0) where
    sum_is : word_sum_of table ≡ 0
    sum_is = sym so_far.sum ∙ sum

    pub entry_is_fault : (bad : ℕ) → IsFirstBad triple table known.came (Some bad) → IsFirstTableFault triple table (EntrySum bad)
    entry_is_fault bad (below, other, before) =
        entry_fault triple table bad (omega (arith, so_far.long)) whole_table sum_is (omega (arith, below, all, so_far.count), other, before)

    pub table_is : IsFirstBad triple table known.came None → IsExtTable triple table pairs
    table_is good = record {
      whole = whole_table;
      sum = sum_is;
      sums = λ i below. good i (omega (arith, below, all, so_far.count));
      entries = so_far.entries ∙ ap (λ (n : ℕ). map (pair_at table) (range_with_len 0 n)) (all ∙ so_far.count);
    }
