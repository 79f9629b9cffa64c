-- A sweep that has come to a block, with so many patches from there on.
use Rattle.std.proofs.Common.{◌≡◌, ◌≢◌, ℕ, zero, suc, ◌+◌, ◌-◌, ◌<◌, ◌≤◌, Bool, true, false, cond, count_by, Option, refl, sym, ap, ◌∙◌, inl, inr, arith}
use Rattle.std.specs.Prelude.{is_some}
use Rattle.std.specs.List.{range_with_len}
use Rattle.std.proofs.Math.Path.{fun_ext}
use Rattle.std.proofs.lemmas.Bool.{cases_Bool, cases_eq, cases_lt}
use Rattle.std.proofs.lemmas.List.Sums.{sum_by-cons}
use Rattle.region_steps.specs.Region.{Patches, begins_at, held, Stands}
use Rattle.region_steps.proofs.Changed.{out_here, out_other}
use Rattle.machine_steps.specs.Puts.{is_cached, swept}
use Rattle.early_load.specs.Caches.{swept_at}
use Rattle.early_load.proofs.Kept.{swept_stays, swept_goes, swept_past, none_begins}

count_step : (p : ℕ → Bool) (a n : ℕ) → count_by p (range_with_len a (suc n)) ≡ cond (p a) 1 0 + count_by p (range_with_len (a + 1) n)
count_step p a n = sum_by-cons (λ x. cond (p x) 1 0) a (range_with_len (a + 1) n)

one : (b : Bool) → b ≡ true → ◌≡◌ {A = ℕ} (cond b 1 0) 1
one b is = rw is refl

none : (b : Bool) → b ≡ false → ◌≡◌ {A = ℕ} (cond b 1 0) 0
none b is = rw is refl

-- where none is counted none passes
none_counted : (p : ℕ → Bool) (a n u : ℕ) → count_by p (range_with_len a n) ≡ 0 → a ≤ u → u < a + n → p u ≡ false
none_counted p a zero u count low high = absurd (omega arith)
none_counted p a (suc n) u count low high =
    elim (cases_Bool (p a)) [
      | inl passes ↦ absurd (omega (arith, count_step p a n, count, one (p a) passes))
      | inr fails ↦
          elim (cases_eq u a) [
            | inl same ↦ ap p same ∙ fails
            | inr other ↦ none_counted p (a + 1) n u (omega (arith, count_step p a n, count)) (omega arith) (omega arith)
          ]
    ]

-- the count from a block on, by the test of that block
count_from : (p : ℕ → Bool) (a n : ℕ) → a < n → count_by p (range_with_len a (n - a)) ≡ cond (p a) 1 0 + count_by p (range_with_len (a + 1) (n - (a + 1)))
count_from p a n below =
    let more : n - a ≡ suc (n - (a + 1)) = omega arith in
    rw more (count_step p a (n - (a + 1)))

-- the blocks before the next are swept, the others are as they were, and so many patches begin there
pub record Sweeping (groups : ℕ) (cached : ℕ → Option ℕ) (old now : Patches) (blocks next left : ℕ) : Type 0 where
  pub done : (block : ℕ) → block < next → now block ≡ swept groups cached old block
  pub rest : (block : ℕ) → next ≤ block → now block ≡ old block
  pub counted : left ≡ count_by (begins_at old) (range_with_len next (blocks - next))

pub sweeping-opens : (groups : ℕ) (cached : ℕ → Option ℕ) (old : Patches) (blocks left : ℕ) → left ≡ held old blocks → Sweeping groups cached old old blocks 0 left
unfolding held
sweeping-opens groups cached old blocks left is =
    let all : blocks - 0 ≡ blocks = omega arith in
    record {
      done = λ block below. absurd (omega arith);
      rest = λ block past. refl;
      counted = rw all is;
    }

-- nothing is left where no patch begins
swept_nothing : (groups : ℕ) (cached : ℕ → Option ℕ) (old : Patches) (block : ℕ) → begins_at old block ≡ false → swept groups cached old block ≡ old block
swept_nothing groups cached old block nothing =
    elim (cases_Bool (is_cached groups cached block)) [
      | inl is ↦ swept_stays groups cached old block is
      | inr not ↦ swept_goes groups cached old block not ∙ sym (none_begins (old block) nothing)
    ]

done_more : (groups : ℕ) (cached : ℕ → Option ℕ) (old now : Patches) (next : ℕ) → ((block : ℕ) → block < next → now block ≡ swept groups cached old block) → now next ≡ swept groups cached old next → (block : ℕ) → block < next + 1 → now block ≡ swept groups cached old block
done_more groups cached old now next done here block below =
    elim (cases_eq block next) [
      | inl same ↦ ap now same ∙ here ∙ ap (swept groups cached old) (sym same)
      | inr other ↦ done block (omega arith)
    ]

-- a block at which no patch begins
pub sweeping-skips : (groups : ℕ) (cached : ℕ → Option ℕ) (old now : Patches) (blocks next left : ℕ) → Sweeping groups cached old now blocks next left → next < blocks → begins_at now next ≡ false → Sweeping groups cached old now blocks (next + 1) left
sweeping-skips groups cached old now blocks next left so_far below nothing =
    let same = so_far.rest next (omega arith) in
    let none_there : begins_at old next ≡ false = ap is_some (sym same) ∙ nothing in
    record {
      done = done_more groups cached old now next so_far.done (same ∙ sym (swept_nothing groups cached old next none_there));
      rest = λ block past. so_far.rest block (omega (arith, past));
      counted = omega (arith, so_far.counted, count_from (begins_at old) next blocks below, none (begins_at old next) none_there);
    }

swept_here : (groups : ℕ) (cached : ℕ → Option ℕ) (old now : Patches) (block : ℕ) → now block ≡ old block → swept_at groups cached now block block ≡ swept groups cached old block
swept_here groups cached old now block same =
    elim (cases_Bool (is_cached groups cached block)) [
      | inl is ↦ rw is (same ∙ sym (swept_stays groups cached old block is))
      | inr not ↦ rw not (out_here now block ∙ sym (swept_goes groups cached old block not))
    ]

swept_elsewhere : (groups : ℕ) (cached : ℕ → Option ℕ) (now : Patches) (block other : ℕ) → other ≢ block → swept_at groups cached now block other ≡ now other
swept_elsewhere groups cached now block other apart =
    elim (cases_Bool (is_cached groups cached block)) [
      | inl is ↦ rw is refl
      | inr not ↦ rw not (out_other now block other apart)
    ]

-- a block at which a patch begins
pub sweeping-more : (groups : ℕ) (cached : ℕ → Option ℕ) (old now new : Patches) (blocks next left : ℕ) → Sweeping groups cached old now blocks next left → next < blocks → begins_at now next ≡ true → new ≡ swept_at groups cached now next → Sweeping groups cached old new blocks (next + 1) (left - 1)
sweeping-more groups cached old now new blocks next left so_far below some is =
    let same = so_far.rest next (omega arith) in
    let there : begins_at old next ≡ true = ap is_some (sym same) ∙ some in
    let at = λ (block : ℕ). ap (λ (patches : Patches). patches block) is in
    record {
      done = done_more groups cached old new next
          (λ block before. let apart : block ≢ next = omega (arith, before) in at block ∙ swept_elsewhere groups cached now next block apart ∙ so_far.done block before)
          (at next ∙ swept_here groups cached old now next same);
      rest = λ block past. let apart : block ≢ next = omega (arith, past) in at block ∙ swept_elsewhere groups cached now next block apart ∙ so_far.rest block (omega (arith, past));
      counted = omega (arith, so_far.counted, count_from (begins_at old) next blocks below, one (begins_at old next) there);
    }

-- no patch is left
pub sweeping-ends : (groups : ℕ) (cached : ℕ → Option ℕ) (old now : Patches) (blocks next left : ℕ) → Sweeping groups cached old now blocks next left → Stands old blocks → left ≡ 0 → now ≡ swept groups cached old
sweeping-ends groups cached old now blocks next left so_far stands none_left =
    fun_ext (λ block. elim (cases_lt block next) [
      | inl below ↦ so_far.done block below
      | inr past ↦
          elim (cases_lt block blocks) [
            | inl inside ↦
                so_far.rest block past
                ∙ sym (swept_nothing groups cached old block (none_counted (begins_at old) next (blocks - next) block (sym so_far.counted ∙ none_left) past (omega arith)))
            | inr outside ↦ so_far.rest block past ∙ sym (swept_past groups cached old blocks block stands outside)
          ]
    ])

-- past the last block none is left
pub sweeping-left : (groups : ℕ) (cached : ℕ → Option ℕ) (old now : Patches) (blocks next left : ℕ) → Sweeping groups cached old now blocks next left → blocks ≤ next → left ≡ 0
sweeping-left groups cached old now blocks next left so_far past =
    let gone : blocks - next ≡ 0 = omega arith in
    so_far.counted ∙ (rw gone refl)
