-- How an update comes on, unit after unit.
use Rattle.std.proofs.Common.{◌≡◌, ◌≢◌, inl, inr, ℕ, ◌+◌, ◌*◌, ◌%◌, ◌^◌, ◌<◌, List, [], ◌++◌, length, refl, sym, ◌∙◌, ap, subst, arith, append_assoc, length-append}
use Rattle.std.proofs.lemmas.List.{append-nil}
use Rattle.std.proofs.lemmas.List.FromFn.{length-map-range_with_len}
use Rattle.uc_bytes.specs.Words.{word_sum_of}
use Rattle.uc_bytes.specs.declared.causes.FileCause.{FileCause}
use Rattle.uc_bytes.specs.declared.causes.FileCause.TheVariants.{ExtCut, ExtCount, Sum}
use Rattle.intel_format.specs.declared.header.IntelHeader.{IntelHeader}
use Rattle.intel_format.specs.Header.{header_of, data_len, total_len, header_triple}
use Rattle.intel_format.specs.Update.{IsIntelUpdate, IsExtTable, IsSoundHeader, entry_count, pair_at}
use Rattle.intel_format.specs.Checks.{IsFirstTableFault}
use Rattle.intel_format.proofs.Front.{header_of-append}
use Rattle.intel_ext.specs.SoFar.{IsTableSoFar}
use Rattle.intel_ext.proofs.Sums.{sum-append}
use Rattle.intel_file.specs.declared.progress.Progress.{Progress}
use Rattle.intel_file.specs.Progress.{IsUpdateFault, IsDoomed, HasHeader, InData, AfterData, BeforeTable, HasFront, HasTable, IsPassed}
use Rattle.intel_file.proofs.Verdicts.{table_fault_read, sum_fault_read, update_read, doomed_cut, doomed_count, doomed_on, doomed_now}

-- the header stays in front of what more comes
pub has_on : (h : IntelHeader) (done more : List ℕ) → HasHeader h done → HasHeader h (done ++ more)
has_on h done more has = record {
  long = omega (arith, has.long, length-append done more);
  header = has.header ∙ sym (header_of-append done more has.long);
  sound = has.sound;
}

-- ---- the header

pub begins : (p : Progress) (unit : List ℕ) → length unit ≡ 48 → p.header ≡ header_of unit → IsSoundHeader p.header → p.left ≡ data_len p.header → 0 < p.left → p.sum ≡ word_sum_of unit → InData p unit
begins p unit long header sound left some sum = record {
  has = record { long = omega (arith, long); header = header; sound = sound };
  left = omega (arith, long, left);
  some = some;
  even = omega (arith, left, sound.data_in_words);
  sum = sum;
}

-- ---- the data

module _ (p q : Progress) (done unit : List ℕ) (begun : InData p done) (even : length unit % 4 ≡ 0) (header : q.header ≡ p.header) (left : q.left + length unit ≡ p.left) (sum : q.sum ≡ (p.sum + word_sum_of unit) % 2 ^ 32) where
  has_more : HasHeader q.header (done ++ unit)
  has_more = subst (λ (h : IntelHeader). HasHeader h (done ++ unit)) (sym header) (has_on p.header done unit begun.has)

  sum_more : q.sum ≡ word_sum_of (done ++ unit)
  sum_more =
      sum ∙ ap (λ (n : ℕ). (n + word_sum_of unit) % 2 ^ 32) begun.sum ∙ sym (sum-append done unit (omega (arith, begun.left, begun.even, begun.has.sound.data_in_words)))

  left_more : length (done ++ unit) + q.left ≡ 48 + data_len q.header
  left_more = omega (arith, left, begun.left, length-append done unit, ap data_len header)

  pub data_on : 0 < q.left → InData q (done ++ unit)
  data_on some = record { has = has_more; left = left_more; some = some; even = omega (arith, left, begun.even, even); sum = sum_more }

  pub data_ends : q.left ≡ 0 → AfterData q (done ++ unit)
  data_ends none = record { has = has_more; ended = omega (arith, left_more, none); sum = sum_more }

-- ---- behind the data

pub no_table : (p : Progress) (done : List ℕ) → AfterData p done → length done ≡ total_len p.header → HasTable p done []
no_table p done after whole = record { done = done; table = []; split = sym (append-nil done); after = after; is_table = inl (refl, refl); whole = whole }

pub passes_cut : (p q : Progress) (done : List ℕ) → AfterData p done → q.header ≡ p.header → length done + q.left ≡ total_len p.header → 0 < q.left → q.left < 20 → IsPassed q ExtCut done
passes_cut p q done after header left some short =
    let doomed : IsDoomed p.header done ExtCut = doomed_cut p.header done after.has after.ended (omega (arith, left, some)) (omega (arith, left, short)) in
    record {
      has = subst (λ (h : IntelHeader). HasHeader h done) (sym header) after.has;
      left = omega (arith, left, ap total_len header);
      some = some;
      even = omega (arith, left, after.ended, after.has.sound.data_in_words, after.has.sound.total_in_words);
      doomed = subst (λ (h : IntelHeader). IsDoomed h done ExtCut) (sym header) doomed;
    }

-- ---- the table's head

module _ (p : Progress) (done head : List ℕ) (before : BeforeTable p done) (long : length head ≡ 20) where
  doomed_here : (count : ℕ) → count ≡ entry_count head → total_len p.header ≢ length done + (20 + 12 * count) → IsDoomed p.header (done ++ head) ExtCount
  doomed_here count counted other =
      doomed_count p.header done head count before.after.has before.after.ended long counted before.room other

  pub count_is_fault : (count : ℕ) → count ≡ entry_count head → total_len p.header ≢ length done + (20 + 12 * count) → length done + 20 ≡ total_len p.header → IsUpdateFault (done ++ head) ExtCount
  count_is_fault count counted other whole =
      doomed_now p.header (done ++ head) ExtCount (doomed_here count counted other) (omega (arith, whole, long, length-append done head))

  module _ (q : Progress) (header : q.header ≡ p.header) where
    pub passes_count : (count : ℕ) → count ≡ entry_count head → total_len p.header ≢ length done + (20 + 12 * count) → length done + 20 + q.left ≡ total_len p.header → 0 < q.left → IsPassed q ExtCount (done ++ head)
    passes_count count counted other left some = record {
      has = subst (λ (h : IntelHeader). HasHeader h (done ++ head)) (sym header) (has_on p.header done head before.after.has);
      left = omega (arith, left, long, length-append done head, ap total_len header);
      some = some;
      even = omega (arith, left, before.after.ended, before.after.has.sound.data_in_words, before.after.has.sound.total_in_words);
      doomed = subst (λ (h : IntelHeader). IsDoomed h (done ++ head) ExtCount) (sym header) (doomed_here count counted other);
    }

    pub has_head : q.sum ≡ p.sum → IsTableSoFar (header_triple p.header) head q.table [] → total_len p.header ≡ length done + (20 + 12 * q.table.count) → HasFront q (done ++ head) []
    has_head sum so_far whole = record {
      done = done;
      table = head;
      split = refl;
      after = record {
        has = subst (λ (h : IntelHeader). HasHeader h done) (sym header) before.after.has;
        ended = before.after.ended ∙ ap (λ (h : IntelHeader). 48 + data_len h) (sym header);
        sum = sum ∙ before.after.sum;
      };
      so_far = subst (λ (h : IntelHeader). IsTableSoFar (header_triple h) head q.table []) (sym header) so_far;
      whole = sym whole ∙ ap total_len (sym header);
    }

-- ---- the entries

pub front_on : (p q : Progress) (own entry : List ℕ) (pairs more : List (ℕ × ℕ)) (front : HasFront p own pairs) → q.header ≡ p.header → q.sum ≡ p.sum → q.table.count ≡ p.table.count
    → IsTableSoFar (header_triple p.header) (front.table ++ entry) q.table more → HasFront q (own ++ entry) more
front_on p q own entry pairs more front header sum count so_far = record {
  done = front.done;
  table = front.table ++ entry;
  split = ap (λ (l : List ℕ). l ++ entry) front.split ∙ append_assoc front.done front.table entry;
  after = record {
    has = subst (λ (h : IntelHeader). HasHeader h front.done) (sym header) front.after.has;
    ended = front.after.ended ∙ ap (λ (h : IntelHeader). 48 + data_len h) (sym header);
    sum = sum ∙ front.after.sum;
  };
  so_far = subst (λ (h : IntelHeader). IsTableSoFar (header_triple h) (front.table ++ entry) q.table more) (sym header) so_far;
  whole = omega (arith, front.whole, count, ap total_len header);
}

module _ (p : Progress) (own : List ℕ) (pairs : List (ℕ × ℕ)) (front : HasFront p own pairs) (all : p.table.came ≡ p.table.count) where
  whole_own : length own ≡ total_len p.header
  whole_own = omega (arith, front.whole, all, front.so_far.long, ap length front.split, length-append front.done front.table)

  pub table_fails : (cause : FileCause) → IsFirstTableFault (header_triple p.header) front.table cause → IsUpdateFault own cause
  table_fails cause first =
      table_fault_read p.header front.done front.table own front.split front.after.has front.after.ended whole_own cause (omega (arith, front.so_far.long)) first

  pub table_holds : IsExtTable (header_triple p.header) front.table pairs → HasTable p own pairs
  table_holds is = record { done = front.done; table = front.table; split = front.split; after = front.after; is_table = inr is; whole = whole_own }

  pub pairs_counted : p.table.count ≡ length pairs
  pairs_counted =
      sym all ∙ sym (length-map-range_with_len (pair_at front.table) 0 p.table.came) ∙ ap length (sym front.so_far.entries)

-- ---- what is passed over

module _ (p q : Progress) (cause : FileCause) (own unit : List ℕ) (passed : IsPassed p cause own) (even : length unit % 4 ≡ 0) (header : q.header ≡ p.header) (left : q.left + length unit ≡ p.left) where
  pub passed_on : 0 < q.left → IsPassed q cause (own ++ unit)
  passed_on some = record {
    has = subst (λ (h : IntelHeader). HasHeader h (own ++ unit)) (sym header) (has_on p.header own unit passed.has);
    left = omega (arith, left, passed.left, length-append own unit, ap total_len header);
    some = some;
    even = omega (arith, left, passed.even, even);
    doomed = subst (λ (h : IntelHeader). IsDoomed h (own ++ unit) cause) (sym header) (doomed_on p.header own unit cause passed.doomed);
  }

  pub passed_all : q.left ≡ 0 → IsUpdateFault (own ++ unit) cause
  passed_all none =
      doomed_now p.header (own ++ unit) cause (doomed_on p.header own unit cause passed.doomed) (omega (arith, left, none, passed.left, length-append own unit))

-- ---- the end

module _ (p : Progress) (own : List ℕ) (pairs : List (ℕ × ℕ)) (is : HasTable p own pairs) where
  pub sum_fails : p.sum ≢ 0 → IsUpdateFault own Sum
  sum_fails other =
      sum_fault_read p.header is.done is.table own is.split is.after.has is.after.ended is.whole pairs is.is_table (λ none. other (is.after.sum ∙ none))

  pub sum_holds : p.sum ≡ 0 → IsIntelUpdate own p.header pairs
  sum_holds none =
      update_read p.header is.done is.table own is.split is.after.has is.after.ended is.whole pairs is.is_table (sym is.after.sum ∙ none)
