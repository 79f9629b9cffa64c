-- Patches as they lie in memory, and what a copy and a length of 0 leave of them.
use Rattle.std.proofs.Common.{◌≡◌, ◌≢◌, ℕ, zero, suc, ◌+◌, ◌-◌, ◌*◌, ◌/◌, ◌<◌, ◌≤◌, Bool, true, false, not, nat_eq, cond, List, [], ◌∷◌, ◌++◌, length, take, drop, count_by, Some, None, is_some, refl, sym, ap, ◌∙◌, subst, inl, inr, arith, length-take, length-drop}
use Rattle.std.specs.List.{range_with_len, slice_index, slice_set}
use Rattle.std.proofs.lemmas.Bool.{false≢true, cases_eq, cases_lt, eq-eqb, ne_eqb}
use Rattle.std.proofs.lemmas.List.{take_all, drop-drop, get_or_past, get_or-set_same, get_or-set_other}
use Rattle.std.proofs.lemmas.List.Sums.{sum_by-cons, sum_by-set}
use Rattle.std.proofs.Math.Seq.{take-length, take-append_seam, drop-append-add}
use Rattle.region_steps.specs.Region.{no_patches, begins_at, blocks_of, width, is_free_run, put_at, take_out, held}
use Rattle.region_steps.proofs.Covered.{apart_from_run, begins_no_patch}
use Rattle.region_steps.proofs.Changed.{put_here, put_other, out_here, out_other}
use Rattle.patch_pool.specs.Bytes.{patch_of, begins, patches_in, EndInside, copied_over}

-- ---- bytes

-- what lies before the copy stays
before_copy : (bytes rest : List ℕ) (at from n : ℕ) → at ≤ length bytes → from + n ≤ at → take n (drop from (take at bytes ++ rest)) ≡ take n (drop from bytes)
before_copy bytes rest at from zero le inside = refl
before_copy [] rest at from (suc n) le inside = absurd (omega (arith, le, inside))
before_copy (b ∷ bytes) rest zero from (suc n) le inside = absurd (omega (arith, inside))
before_copy (b ∷ bytes) rest (suc at) zero (suc n) le inside = ap (λ (bs : List ℕ). b ∷ bs) (before_copy bytes rest at zero n (omega (arith, le)) (omega (arith, inside)))
before_copy (b ∷ bytes) rest (suc at) (suc from) (suc n) le inside = before_copy bytes rest at from (suc n) (omega (arith, le)) (omega (arith, inside))

suc_sum : (a b : ℕ) → suc a + b ≡ suc (a + b)
suc_sum a b = omega arith

past_front : (bytes rest : List ℕ) (at more : ℕ) → at ≤ length bytes → drop (at + more) (take at bytes ++ rest) ≡ drop more rest
past_front bytes rest zero more le = ap (λ (n : ℕ). drop n rest) (omega arith)
past_front [] rest (suc at) more le = absurd (omega (arith, le))
past_front (b ∷ bytes) rest (suc at) more le =
    ap (λ (n : ℕ). drop n (b ∷ (take at bytes ++ rest))) (suc_sum at more) ∙ past_front bytes rest at more (omega (arith, le))

-- the copy itself
the_copy : (bytes : List ℕ) (at : ℕ) (new : List ℕ) → at ≤ length bytes → take (length new) (drop at (copied_over bytes at new)) ≡ new
the_copy bytes at new le =
    let front : drop at (copied_over bytes at new) ≡ new ++ drop (at + length new) bytes = ap (λ (n : ℕ). drop n (copied_over bytes at new)) (omega arith) ∙ past_front bytes (new ++ drop (at + length new) bytes) at 0 le in
    ap (take (length new)) front ∙ take-append_seam new (drop (at + length new) bytes)

-- what lies behind it stays
behind_copy : (bytes : List ℕ) (at : ℕ) (new : List ℕ) (from : ℕ) → at ≤ length bytes → at + length new ≤ from → drop from (copied_over bytes at new) ≡ drop from bytes
behind_copy bytes at new from le past =
    let more = from - (at + length new) in
    let rest = drop (at + length new) bytes in
    let split : from ≡ at + (length new + more) = omega (arith, past) in
    ap (λ (n : ℕ). drop n (copied_over bytes at new)) split ∙ past_front bytes (new ++ rest) at (length new + more) le ∙ drop-append-add new rest more ∙ drop-drop more (at + length new) bytes ∙ ap (λ (n : ℕ). drop n bytes) (omega (arith, past))

-- ---- one patch

some_patch : (len : ℕ) (bytes : List ℕ) → 0 < len → patch_of len bytes ≡ Some (take len bytes)
some_patch len bytes some = let e = ne_eqb len 0 (λ e. omega (arith, e, some)) in rw e refl

no_patch : (len : ℕ) (bytes : List ℕ) → len ≡ 0 → patch_of len bytes ≡ None
no_patch len bytes none = rw (eq-eqb len 0 none) refl

-- what a patch that begins at a block says of its length
pub record IsPatch (bytes lengths : List ℕ) (first : ℕ) : Type 0 where
  pub some : 0 < slice_index lengths first
  pub there : first < length lengths
  pub is : patches_in bytes lengths first ≡ Some (take (slice_index lengths first) (drop (1024 * first) bytes))

has_length : (bytes lengths : List ℕ) (first : ℕ) → 0 < slice_index lengths first → IsPatch bytes lengths first
unfolding patches_in
has_length bytes lengths first some = record {
  some = some;
  there = elim (cases_lt first (length lengths)) [
    | inl lt ↦ lt
    | inr past ↦ absurd (omega (arith, some, get_or_past lengths first 0 past))
  ];
  is = some_patch (slice_index lengths first) (drop (1024 * first) bytes) some;
}

has_none : (bytes lengths : List ℕ) (first : ℕ) → slice_index lengths first ≡ 0 → patches_in bytes lengths first ≡ None
unfolding patches_in
has_none bytes lengths first none = no_patch (slice_index lengths first) (drop (1024 * first) bytes) none

pub is_patch : (bytes lengths : List ℕ) (first : ℕ) → begins_at (patches_in bytes lengths) first ≡ true → IsPatch bytes lengths first
is_patch bytes lengths first begins =
    elim (cases_lt 0 (slice_index lengths first)) [
      | inl some ↦ has_length bytes lengths first some
      | inr none ↦ absurd (false≢true (sym (ap is_some (has_none bytes lengths first (omega (arith, none)))) ∙ begins))
    ]

pub begins_by_length : (bytes lengths : List ℕ) (first : ℕ) → not (nat_eq (slice_index lengths first) 0) ≡ begins_at (patches_in bytes lengths) first
begins_by_length bytes lengths first =
    elim (cases_lt 0 (slice_index lengths first)) [
      | inl some ↦ rw (ne_eqb (slice_index lengths first) 0 (λ e. omega (arith, e, some)), (has_length bytes lengths first some).is) refl
      | inr none ↦ let none' : slice_index lengths first ≡ 0 = omega (arith, none) in rw (eq-eqb (slice_index lengths first) 0 none', has_none bytes lengths first none') refl
    ]

-- how long a patch is, and how many blocks it takes
pub length_is : (bytes lengths : List ℕ) (first : ℕ) → EndInside bytes lengths → IsPatch bytes lengths first → length (take (slice_index lengths first) (drop (1024 * first) bytes)) ≡ slice_index lengths first
length_is bytes lengths first inside is =
    omega (arith, inside first is.some, length-take (slice_index lengths first) (drop (1024 * first) bytes), length-drop (1024 * first) bytes)

pub width_is : (bytes lengths : List ℕ) (first : ℕ) → EndInside bytes lengths → IsPatch bytes lengths first → width (patches_in bytes lengths first) ≡ (slice_index lengths first + 1023) / 1024
width_is bytes lengths first inside is = ap width is.is ∙ ap (λ (n : ℕ). (n + 1023) / 1024) (length_is bytes lengths first inside is)

-- ---- all of them

pub none_in : (bytes lengths : List ℕ) → ((first : ℕ) → slice_index lengths first ≡ 0) → patches_in bytes lengths ≡ no_patches
none_in bytes lengths none = λ i first. has_none bytes lengths first (none first) i

-- the same length, in the same bytes
alike : (bytes one two : List ℕ) (block : ℕ) → slice_index one block ≡ slice_index two block → patches_in bytes one block ≡ patches_in bytes two block
unfolding patches_in
alike bytes one two block same = ap (λ (n : ℕ). patch_of n (drop (1024 * block) bytes)) same

out_at : (bytes lengths : List ℕ) (first block : ℕ) → first < length lengths → patches_in bytes (slice_set lengths first 0) block ≡ take_out (patches_in bytes lengths) first block
out_at bytes lengths first block lt =
    elim (cases_eq block first) [
      | inl same ↦ subst (λ (b : ℕ). patches_in bytes (slice_set lengths first 0) b ≡ take_out (patches_in bytes lengths) first b) (sym same) (has_none bytes (slice_set lengths first 0) first (get_or-set_same lengths first 0 0 lt) ∙ sym (out_here (patches_in bytes lengths) first))
      | inr other ↦ alike bytes (slice_set lengths first 0) lengths block (get_or-set_other lengths first block 0 0 other) ∙ sym (out_other (patches_in bytes lengths) first block other)
    ]

pub patches_out : (bytes lengths : List ℕ) (first : ℕ) → first < length lengths → patches_in bytes (slice_set lengths first 0) ≡ take_out (patches_in bytes lengths) first
patches_out bytes lengths first lt = λ i block. out_at bytes lengths first block lt i

-- ---- more memory

-- what ends inside reads the same where bytes follow
with_more : (bytes more : List ℕ) (from n : ℕ) → from + n ≤ length bytes → take n (drop from (bytes ++ more)) ≡ take n (drop from bytes)
with_more bytes more from n inside =
    ap (λ (bs : List ℕ). take n (drop from (bs ++ more))) (sym (take-length bytes)) ∙ before_copy bytes more (length bytes) from n (omega arith) inside

more_at : (bytes more lengths : List ℕ) (first : ℕ) → EndInside bytes lengths → patches_in (bytes ++ more) lengths first ≡ patches_in bytes lengths first
more_at bytes more lengths first inside =
    elim (cases_lt 0 (slice_index lengths first)) [
      | inl some ↦
          let is = has_length bytes lengths first some in
          (has_length (bytes ++ more) lengths first some).is ∙ ap (λ (bs : List ℕ). Some bs) (with_more bytes more (1024 * first) (slice_index lengths first) (inside first is.some)) ∙ sym is.is
      | inr none ↦
          let none' : slice_index lengths first ≡ 0 = omega (arith, none) in
          has_none (bytes ++ more) lengths first none' ∙ sym (has_none bytes lengths first none')
    ]

patches_more : (bytes more lengths : List ℕ) → EndInside bytes lengths → patches_in (bytes ++ more) lengths ≡ patches_in bytes lengths
patches_more bytes more lengths inside = λ i first. more_at bytes more lengths first inside i

-- bytes that were made longer with others, or left as they were
pub patches_resized : (bytes more lengths now : List ℕ) (end : ℕ) (is_longer : Bool) → now ≡ cond is_longer (take end bytes ++ more) bytes → length bytes ≤ end → EndInside bytes lengths → patches_in now lengths ≡ patches_in bytes lengths
patches_resized bytes more lengths now end true is le inside =
    ap (λ (bs : List ℕ). patches_in bs lengths) (is ∙ ap (λ (bs : List ℕ). bs ++ more) (take_all end bytes le)) ∙ patches_more bytes more lengths inside
patches_resized bytes more lengths now end false is le inside = ap (λ (bs : List ℕ). patches_in bs lengths) is

-- what a put is done with
pub record CanPut (bytes lengths : List ℕ) (first : ℕ) (new : List ℕ) : Type 0 where
  pub inside : EndInside bytes lengths
  pub there : first < length lengths
  pub some : 0 < length new
  pub fits : 1024 * first + length new ≤ length bytes
  pub free : is_free_run (patches_in bytes lengths) (blocks_of new) first ≡ true

-- a patch at another block reads as it was put
stays : (bytes lengths : List ℕ) (first : ℕ) (new : List ℕ) (block : ℕ) → CanPut bytes lengths first new → IsPatch bytes lengths block
    → take (slice_index lengths block) (drop (1024 * block) (copied_over bytes (1024 * first) new)) ≡ take (slice_index lengths block) (drop (1024 * block) bytes)
stays bytes lengths first new block can is =
    let at_most : 1024 * first ≤ length bytes = omega (arith, can.fits) in
    let wide = width_is bytes lengths block can.inside is in
    elim (apart_from_run (patches_in bytes lengths) (blocks_of new) first block can.free (omega (arith, can.some)) (omega (arith, wide, is.some))) [
      | inl before ↦ before_copy bytes (new ++ drop (1024 * first + length new) bytes) (1024 * first) (1024 * block) (slice_index lengths block) at_most (omega (arith, before, wide))
      | inr behind ↦ ap (take (slice_index lengths block)) (behind_copy bytes (1024 * first) new (1024 * block) at_most (omega (arith, behind)))
    ]

put_other_at : (bytes lengths : List ℕ) (first : ℕ) (new : List ℕ) (block : ℕ) → CanPut bytes lengths first new → block ≢ first → patches_in (copied_over bytes (1024 * first) new) (slice_set lengths first (length new)) block ≡ patches_in bytes lengths block
unfolding patches_in
put_other_at bytes lengths first new block can other =
    let lengths' = slice_set lengths first (length new) in
    let bytes' = copied_over bytes (1024 * first) new in
    let same : slice_index lengths' block ≡ slice_index lengths block = get_or-set_other lengths first block (length new) 0 other in
    ap (λ (n : ℕ). patch_of n (drop (1024 * block) bytes')) same ∙
    elim (cases_lt 0 (slice_index lengths block)) [
      | inl some ↦
          let is = has_length bytes lengths block some in
          some_patch (slice_index lengths block) (drop (1024 * block) bytes') some ∙ ap (λ (bs : List ℕ). Some bs) (stays bytes lengths first new block can is) ∙ sym (some_patch (slice_index lengths block) (drop (1024 * block) bytes) some)
      | inr none ↦
          let none' : slice_index lengths block ≡ 0 = omega (arith, none) in
          no_patch (slice_index lengths block) (drop (1024 * block) bytes') none' ∙ sym (no_patch (slice_index lengths block) (drop (1024 * block) bytes) none')
    ]

put_at_it : (bytes lengths : List ℕ) (first : ℕ) (new : List ℕ) → CanPut bytes lengths first new → patches_in (copied_over bytes (1024 * first) new) (slice_set lengths first (length new)) first ≡ Some new
unfolding patches_in
put_at_it bytes lengths first new can =
    let bytes' = copied_over bytes (1024 * first) new in
    let is : slice_index (slice_set lengths first (length new)) first ≡ length new = get_or-set_same lengths first (length new) 0 can.there in
    ap (λ (n : ℕ). patch_of n (drop (1024 * first) bytes')) is ∙ some_patch (length new) (drop (1024 * first) bytes') can.some ∙ ap (λ (bs : List ℕ). Some bs) (the_copy bytes (1024 * first) new (omega (arith, can.fits)))

put_each : (bytes lengths : List ℕ) (first : ℕ) (new : List ℕ) (block : ℕ) → CanPut bytes lengths first new → patches_in (copied_over bytes (1024 * first) new) (slice_set lengths first (length new)) block ≡ put_at (patches_in bytes lengths) first new block
put_each bytes lengths first new block can =
    elim (cases_eq block first) [
      | inl same ↦ subst (λ (b : ℕ). patches_in (copied_over bytes (1024 * first) new) (slice_set lengths first (length new)) b ≡ put_at (patches_in bytes lengths) first new b) (sym same) (put_at_it bytes lengths first new can ∙ sym (put_here (patches_in bytes lengths) first new))
      | inr other ↦ put_other_at bytes lengths first new block can other ∙ sym (put_other (patches_in bytes lengths) first new block other)
    ]

pub patches_put : (bytes lengths : List ℕ) (first : ℕ) (new : List ℕ) → CanPut bytes lengths first new → patches_in (copied_over bytes (1024 * first) new) (slice_set lengths first (length new)) ≡ put_at (patches_in bytes lengths) first new
patches_put bytes lengths first new can = λ i block. put_each bytes lengths first new block can i

-- ---- how many

-- a count over a list is one over its indices
counts_alike : (xs : List ℕ) (one two : ℕ → Bool) (first : ℕ) → ((i : ℕ) → i < length xs → two (first + i) ≡ one (slice_index xs i)) → count_by one xs ≡ count_by two (range_with_len first (length xs))
counts_alike [] one two first each = refl
counts_alike (x ∷ xs) one two first each =
    let here : two first ≡ one x = ap two (omega arith) ∙ each 0 (omega arith) in
    let rest = counts_alike xs one two (first + 1) (λ i lt. ap two (omega arith) ∙ each (suc i) (omega (arith, lt))) in
    sum_by-cons (λ x. cond (one x) 1 0) x xs ∙ ap (λ (b : Bool). cond b 1 0 + count_by one xs) (sym here) ∙ ap (λ (n : ℕ). cond (two first) 1 0 + n) rest ∙ sym (sum_by-cons (λ k. cond (two k) 1 0) first (range_with_len (first + 1) (length xs)))

pub held_by_lengths : (bytes lengths : List ℕ) → count_by begins lengths ≡ held (patches_in bytes lengths) (length lengths)
unfolding held
held_by_lengths bytes lengths =
    counts_alike lengths begins (begins_at (patches_in bytes lengths)) 0 (λ i lt. ap (begins_at (patches_in bytes lengths)) (omega arith) ∙ sym (begins_by_length bytes lengths i))

-- where a patch was put there was none
pub none_before : (bytes lengths : List ℕ) (first : ℕ) (new : List ℕ) → CanPut bytes lengths first new → slice_index lengths first ≡ 0
none_before bytes lengths first new can =
    elim (cases_lt 0 (slice_index lengths first)) [
      | inl some ↦
          let wide = width_is bytes lengths first can.inside (has_length bytes lengths first some) in
          absurd (omega (arith, wide, some, begins_no_patch (patches_in bytes lengths) (blocks_of new) first can.free (omega (arith, can.some))))
      | inr none ↦ omega (arith, none)
    ]

abbrev one_if : ℕ → ℕ
one_if len = cond (begins len) 1 0

-- one more patch, and one less
pub one_more : (lengths : List ℕ) (first len : ℕ) → first < length lengths → slice_index lengths first ≡ 0 → 0 < len → count_by begins (slice_set lengths first len) ≡ count_by begins lengths + 1
one_more lengths first len lt none some =
    let change = sum_by-set one_if lengths first len 0 lt in
    omega (arith, change, ap one_if none, ap (λ (b : Bool). cond {A = ℕ} (not b) 1 0) (ne_eqb len 0 (λ e. omega (arith, e, some))))

pub one_less : (lengths : List ℕ) (first : ℕ) → first < length lengths → 0 < slice_index lengths first → count_by begins (slice_set lengths first 0) + 1 ≡ count_by begins lengths
one_less lengths first lt some =
    let change = sum_by-set one_if lengths first 0 0 lt in
    omega (arith, change, ap (λ (b : Bool). cond {A = ℕ} (not b) 1 0) (ne_eqb (slice_index lengths first) 0 (λ e. omega (arith, e, some))))

-- lengths that end inside memory, after one was set
pub inside_set : (bytes written lengths : List ℕ) (first len : ℕ) → EndInside bytes lengths → length written ≡ length bytes → 1024 * first + len ≤ length bytes → first < length lengths → EndInside written (slice_set lengths first len)
inside_set bytes written lengths first len inside same fits there block some =
    elim (cases_eq block first) [
      | inl e ↦ subst (λ (b : ℕ). 1024 * b + slice_index (slice_set lengths first len) b ≤ length written) (sym e) (omega (arith, get_or-set_same lengths first len 0 there, fits, same))
      | inr other ↦
          let is : slice_index (slice_set lengths first len) block ≡ slice_index lengths block = get_or-set_other lengths first block len 0 other in
          omega (arith, is, inside block (omega (arith, some, is)), same)
    ]
