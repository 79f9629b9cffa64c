-- How an operation changes which threads are unfinished.
use Rattle.std.proofs.Common.{◌≡◌, ◌≢◌, ℕ, zero, suc, ◌+◌, ◌-◌, ◌==◌, ◌<◌, ◌≤◌, ◌^◌, Bool, true, false, not, ◌||◌, ◌&&◌, nat_le, cond, if◌then◌else◌, count_by, Some, None, refl, sym, ap, ◌∙◌, subst, arith, inl, inr}
use Rattle.std.proofs.Math.Path.{fun_ext}
use Rattle.std.proofs.lemmas.Bool.Decides.{nat_tests, eqb_tells}
use Rattle.std.proofs.lemmas.List.Sums.{sum_by-cons, count_by-le-length}
use Rattle.std.proofs.lemmas.List.FromFn.{length-range_with_len}
use Rattle.std.specs.List.{range_with_len}
use Rattle.rendezvous_steps.specs.declared.operations.Word.{Word}
use Rattle.rendezvous_steps.specs.declared.operations.Word.TheVariants.{Arrive, OffIn, Decide, Mode, Ctrl, Nmi, Rev, Res}
use Rattle.rendezvous_steps.specs.declared.operations.Op.{Op}
use Rattle.rendezvous_steps.specs.declared.operations.Op.TheVariants.{Load}
use Rattle.rendezvous_steps.specs.Plan.{Plan, threads_from, is_absent, is_offline}
use Rattle.rendezvous_steps.specs.Words.{touched, written, put_word, words_after}
use Rattle.rendezvous_steps.specs.Events.{shows_left, shows_halted, shows_withdrawn, shows_finished}
use Rattle.ctl_words.specs.Places.{is_word}
use borrow.Author.Tests.{ltb-true}
use Rattle.ctl_core.specs.Moments.{unfinished_in, owner, is_end}

count_step : (p : ℕ → Bool) (a n : ℕ) → count_by p (range_with_len a (suc n)) ≡ cond (p a) 1 0 + count_by p (range_with_len (a + 1) n)
count_step p a n = sum_by-cons (λ x. cond (p x) 1 0) a (range_with_len (a + 1) n)

count_more : (p : ℕ → Bool) (a n : ℕ) → count_by p (range_with_len a (n + 1)) ≡ count_by p (range_with_len a n) + cond (p (a + n)) 1 0
count_more p a zero =
    let place : a + 0 ≡ a = omega arith in
    let here : cond (p (a + 0)) 1 0 ≡ cond (p a) 1 0 = ap {B = ℕ} (λ k. cond (p k) 1 0) place in
    omega (arith, count_step p a 0, here)
count_more p a (suc n) =
    let place : a + 1 + n ≡ a + suc n = omega arith in
    let rest = count_more p (a + 1) n in
    let last : cond (p (a + 1 + n)) 1 0 ≡ cond (p (a + suc n)) 1 0 = ap {B = ℕ} (λ k. cond (p k) 1 0) place in
    let next : suc n + 1 ≡ suc (n + 1) = omega arith in
    rw next (omega (arith, count_step p a (n + 1), count_step p a n, rest, last))

pub from_zero : (p : ℕ → Bool) (n : ℕ) → count_by p (range_with_len 0 (n + 1)) ≡ count_by p (range_with_len 0 n) + cond (p n) 1 0
from_zero p n =
    let place : 0 + n ≡ n = omega arith in
    let last : cond (p (0 + n)) 1 0 ≡ cond (p n) 1 0 = ap {B = ℕ} (λ k. cond (p k) 1 0) place in
    omega (arith, count_more p 0 n, last)

count_same_from : (p q : ℕ → Bool) (a n : ℕ) → ((u : ℕ) → a ≤ u → p u ≡ q u) → count_by p (range_with_len a n) ≡ count_by q (range_with_len a n)
count_same_from p q a zero same = refl
count_same_from p q a (suc n) same =
    let here = same a (omega arith) in
    let rest = count_same_from p q (a + 1) n (λ u h. same u (omega arith)) in
    count_step p a n ∙ ((rw (here, rest) refl) ∙ sym (count_step q a n))

-- two tests that differ at one number at most
count_moves : (p q : ℕ → Bool) (a n t : ℕ) → a ≤ t → t < a + n → ((u : ℕ) → u ≢ t → p u ≡ q u) → count_by q (range_with_len a n) + cond (p t) 1 0 ≡ count_by p (range_with_len a n) + cond (q t) 1 0
count_moves p q a zero t low high same = absurd (omega arith)
count_moves p q a (suc n) t low high same =
    elim (eqb_tells a t) [
      | inl e ↦
          let rest = count_same_from p q (a + 1) n (λ u above. same u (λ is. absurd (omega (arith, is, e.1)))) in
          let first = count_step p a n in
          let second = count_step q a n in
          let at_p : cond (p a) 1 0 ≡ cond (p t) 1 0 = ap {B = ℕ} (λ k. cond (p k) 1 0) e.1 in
          let at_q : cond (q a) 1 0 ≡ cond (q t) 1 0 = ap {B = ℕ} (λ k. cond (q k) 1 0) e.1 in
          omega (arith, first, second, rest, at_p, at_q)
      | inr e ↦
          let rest = count_moves p q (a + 1) n t (omega (arith, e.1)) (omega arith) same in
          let first = count_step p a n in
          let second = count_step q a n in
          let here : cond (p a) 1 0 ≡ cond (q a) 1 0 = ap {B = ℕ} (λ b. cond b 1 0) (same a (λ is. e.1 is)) in
          omega (arith, first, second, rest, here)
    ]

-- a word of one thread shows nothing of another

word_apart : (x y v w : ℕ) → x ≢ y → (if x == y then v else w) ≡ w
word_apart x y v w apart = grind (arith, nat_tests)

others_same : (plan : Plan) (words : Word → ℕ) (w : Word) (v t u : ℕ) → owner w ≡ Some t → u ≢ t → shows_finished plan (put_word words w v) u ≡ shows_finished plan words u
others_same plan words Arrive v t u is apart = refl
others_same plan words OffIn v t u is apart = refl
others_same plan words Decide v t u is apart = refl
others_same plan words (Mode k) v t u is apart = let e : k ≡ t = cc in rw (word_apart u k v (words (Mode u)) (λ h. apart (h ∙ e))) refl
others_same plan words (Ctrl k) v t u is apart = let e : k ≡ t = cc in rw (word_apart u k v (words (Ctrl u)) (λ h. apart (h ∙ e))) refl
others_same plan words (Nmi k) v t u is apart = let e : k ≡ t = cc in rw (word_apart u k v (words (Nmi u)) (λ h. apart (h ∙ e))) refl
others_same plan words (Rev g) v t u is apart = refl
others_same plan words (Res g) v t u is apart = refl

-- a word of no thread shows nothing of any
all_same : (plan : Plan) (words : Word → ℕ) (w : Word) (v u : ℕ) → owner w ≡ None → shows_finished plan (put_word words w v) u ≡ shows_finished plan words u
all_same plan words Arrive v u is = refl
all_same plan words OffIn v u is = refl
all_same plan words Decide v u is = refl
all_same plan words (Mode k) v u is = absurd (cc)
all_same plan words (Ctrl k) v u is = absurd (cc)
all_same plan words (Nmi k) v u is = absurd (cc)
all_same plan words (Rev g) v u is = refl
all_same plan words (Res g) v u is = refl

pub unfinished_stays : (plan : Plan) (words : Word → ℕ) (op : Op) → owner (touched op) ≡ None → unfinished_in plan (words_after words op) ≡ unfinished_in plan words
unfinished_stays plan words op is =
    count_same_from _ _ 0 (plan.threads - 0) (λ u _. ap (λ b. not b) (all_same plan words (touched op) (written op (words (touched op))) u is))

-- a word that shows an end, or none, as before shows of each thread what it showed
left_alike : (words : Word → ℕ) (k v u : ℕ) → nat_le 8 (words (Mode k)) ≡ nat_le 8 v → nat_le 8 (if u == k then v else words (Mode u)) ≡ nat_le 8 (words (Mode u))
left_alike words k v u same =
    elim (eqb_tells u k) [
      | inl e ↦ rw e.0 (sym same ∙ ap (λ n. nat_le 8 (words (Mode n))) (sym e.1))
      | inr e ↦ rw e.0 refl
    ]

halted_alike : (words : Word → ℕ) (k v u : ℕ) → (words (Ctrl k) == 3) ≡ (v == 3) → ((if u == k then v else words (Ctrl u)) == 3) ≡ (words (Ctrl u) == 3)
halted_alike words k v u same =
    elim (eqb_tells u k) [
      | inl e ↦ rw e.0 (sym same ∙ ap (λ n. words (Ctrl n) == 3) (sym e.1))
      | inr e ↦ rw e.0 refl
    ]

withdrawn_alike : (words : Word → ℕ) (k v u : ℕ) → (words (Nmi k) == 3) ≡ (v == 3) → ((if u == k then v else words (Nmi u)) == 3) ≡ (words (Nmi u) == 3)
withdrawn_alike words k v u same =
    elim (eqb_tells u k) [
      | inl e ↦ rw e.0 (sym same ∙ ap (λ n. words (Nmi n) == 3) (sym e.1))
      | inr e ↦ rw e.0 refl
    ]

shown_alike : (plan : Plan) (words : Word → ℕ) (w : Word) (v u : ℕ) → is_end w (words w) ≡ is_end w v → shows_finished plan (put_word words w v) u ≡ shows_finished plan words u
shown_alike plan words Arrive v u same = refl
shown_alike plan words OffIn v u same = refl
shown_alike plan words Decide v u same = refl
shown_alike plan words (Mode k) v u same = ap (λ b. b || shows_halted words u || shows_withdrawn plan words u || is_absent (plan.kind u)) (left_alike words k v u same)
shown_alike plan words (Ctrl k) v u same = ap (λ b. shows_left words u || b || shows_withdrawn plan words u || is_absent (plan.kind u)) (halted_alike words k v u same)
shown_alike plan words (Nmi k) v u same = ap (λ b. shows_left words u || shows_halted words u || (is_offline (plan.kind u) && b) || is_absent (plan.kind u)) (withdrawn_alike words k v u same)
shown_alike plan words (Rev g) v u same = refl
shown_alike plan words (Res g) v u same = refl

pub unfinished_alike : (plan : Plan) (words : Word → ℕ) (op : Op) → is_end (touched op) (words (touched op)) ≡ is_end (touched op) (written op (words (touched op))) → unfinished_in plan (words_after words op) ≡ unfinished_in plan words
unfinished_alike plan words op same =
    count_same_from _ _ 0 (plan.threads - 0) (λ u _. ap (λ b. not b) (shown_alike plan words (touched op) (written op (words (touched op))) u same))

turned : (b : Bool) → cond (not b) 1 0 + cond b 1 0 ≡ 1
turned true = refl
turned false = refl

-- a thread is counted anew where it was finished and is not, and no longer where it is the other way round
pub unfinished_changes : (plan : Plan) (words : Word → ℕ) (op : Op) (t : ℕ) → owner (touched op) ≡ Some t → t < plan.threads → unfinished_in plan (words_after words op) + cond (shows_finished plan (words_after words op) t) 1 0 ≡ unfinished_in plan words + cond (shows_finished plan words t) 1 0
unfinished_changes plan words op t is below =
    let before : ℕ → Bool = λ u. not (shows_finished plan words u) in
    let after : ℕ → Bool = λ u. not (shows_finished plan (words_after words op) u) in
    let moved = count_moves before after 0 (plan.threads - 0) t (omega arith) (omega arith) (λ u apart. ap (λ b. not b) (sym (others_same plan words (touched op) (written op (words (touched op))) t u is apart))) in
    omega (arith, moved, turned (shows_finished plan words t), turned (shows_finished plan (words_after words op) t))

pub few_unfinished : (plan : Plan) (words : Word → ℕ) → unfinished_in plan words ≤ plan.threads
few_unfinished plan words =
    omega (arith, count_by-le-length (λ t. not (shows_finished plan words t)) (threads_from plan 0), length-range_with_len 0 (plan.threads - 0))

-- a word of a thread that the plan has is one of a thread of the plan
pub owner_below : (plan : Plan) (w : Word) (t : ℕ) → owner w ≡ Some t → is_word plan w ≡ true → t < plan.threads
owner_below plan Arrive t is there = absurd (cc)
owner_below plan OffIn t is there = absurd (cc)
owner_below plan Decide t is there = absurd (cc)
owner_below plan (Mode k) t is there = let e : k ≡ t = cc in subst (λ n. n < plan.threads) e (ltb-true k plan.threads there)
owner_below plan (Ctrl k) t is there = let e : k ≡ t = cc in subst (λ n. n < plan.threads) e (ltb-true k plan.threads there)
owner_below plan (Nmi k) t is there = let e : k ≡ t = cc in subst (λ n. n < plan.threads) e (ltb-true k plan.threads there)
owner_below plan (Rev g) t is there = absurd (cc)
owner_below plan (Res g) t is there = absurd (cc)

-- The count after an operation on a word of a thread.
pub record Recount (plan : Plan) (words after : Word → ℕ) (t count : ℕ) (was is : Bool) : Type 0 where
  pub counted : count ≡ unfinished_in plan words
  pub was_finished : was ≡ shows_finished plan words t
  pub is_finished : is ≡ shows_finished plan after t
  pub moved : unfinished_in plan after + cond (shows_finished plan after t) 1 0 ≡ unfinished_in plan words + cond (shows_finished plan words t) 1 0
  pub few : plan.threads ≤ 256

bit_small : (b : Bool) → cond b 1 0 ≤ 1
bit_small true = omega arith
bit_small false = omega arith

pub recount-room : (plan : Plan) (words after : Word → ℕ) (t count : ℕ) (was is : Bool) → Recount plan words after t count was is → count + cond was 1 0 < 2 ^ 16
recount-room plan words after t count was is r = omega (arith, r.counted, r.few, few_unfinished plan words, bit_small was)

pub recount-some : (plan : Plan) (words after : Word → ℕ) (t count : ℕ) (was is : Bool) → Recount plan words after t count was is → cond is 1 0 ≤ count + cond was 1 0
recount-some plan words after t count was is r = rw (r.was_finished, r.is_finished) (omega (arith, r.counted, r.moved))

pub recount : (plan : Plan) (words after : Word → ℕ) (t count new : ℕ) (was is : Bool) → Recount plan words after t count was is → new + cond is 1 0 ≡ count + cond was 1 0 → new ≡ unfinished_in plan after
recount plan words after t count new was is r e =
    let e2 : new + cond (shows_finished plan after t) 1 0 ≡ count + cond (shows_finished plan words t) 1 0 = rw (← r.was_finished, ← r.is_finished) e in
    omega (arith, r.counted, r.moved, e2)

-- A load leaves each word as it was.

same_by : (u t : ℕ) (f : ℕ → ℕ) → (if u == t then f t else f u) ≡ f u
same_by u t f = elim (eqb_tells u t) [
  | inl e ↦ by_test (u == t) (f t) (f u) (ap f (sym e.1))
  | inr e ↦ word_apart u t (f t) (f u) e.1
]
  where
    by_test : (b : Bool) (x y : ℕ) → x ≡ y → (if b then x else y) ≡ y
    by_test true x y e = e
    by_test false x y e = refl

kept_at : (words : Word → ℕ) (w v : Word) → put_word words w (words w) v ≡ words v
kept_at words Arrive Arrive = refl
kept_at words OffIn OffIn = refl
kept_at words Decide Decide = refl
kept_at words (Mode t) (Mode u) = same_by u t (λ k. words (Mode k))
kept_at words (Ctrl t) (Ctrl u) = same_by u t (λ k. words (Ctrl k))
kept_at words (Nmi t) (Nmi u) = same_by u t (λ k. words (Nmi k))
kept_at words (Rev g) (Rev h) = same_by h g (λ k. words (Rev k))
kept_at words (Res g) (Res h) = same_by h g (λ k. words (Res k))
kept_at words w v = refl

pub load_keeps : (words : Word → ℕ) (w : Word) → words_after words (Load w) ≡ words
load_keeps words w = fun_ext (kept_at words w)
