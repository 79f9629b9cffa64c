-- A rendezvous is over where the state that is shown has no unfinished thread.
use Rattle.std.proofs.Common.{◌≡◌, ℕ, ◌+◌, ◌-◌, ◌<◌, Bool, true, false, cond, not, ◌&&◌, ◌||◌, ◌==◌, nat_le, if◌then◌else◌, List, [], ◌∷◌, count_by, refl, ap, sym, ◌∙◌, arith}
use Rattle.std.proofs.Math.Path.{fun_ext}
use Rattle.std.specs.List.{list_any}
use Rattle.std.proofs.lemmas.Bool.Decides.{nat_tests}
use Rattle.std.proofs.lemmas.List.Sums.{sum_by-cons}
use Rattle.rendezvous_steps.specs.declared.steps.Kind.{Kind}
use Rattle.rendezvous_steps.specs.declared.steps.Kind.TheVariants.{Online, Offline, Absent as KindAbsent}
use Rattle.rendezvous_steps.specs.declared.steps.ThreadResult.{ThreadResult}
use Rattle.rendezvous_steps.specs.Plan.{Plan, is_offline, is_absent, threads_from}
use Rattle.rendezvous_steps.specs.StepTable.{result_of}
use Rattle.rendezvous_steps.specs.Words.{families}
use Rattle.rendezvous_steps.specs.Events.{Running, shows_finished}
use Rattle.rendezvous_model.specs.Round.{Place, Out, In, Left, Halted, Withdrawn, is_unfinished, unfinished_count}
use Rattle.rendezvous_rule.specs.Shown.{shown_by, place_before_end}
use Rattle.play_steps.specs.Play.{is_over}

not_both : (n : ℕ) → (n == 2) ≡ true → (n == 3) ≡ false
not_both n e = grind (arith, nat_tests)

-- By words, in one that has neither left nor halted.
before_end :
    (kind : Kind) (mode nmi : ℕ) (taken : Bool) → (nmi == 2) ≡ taken →
    is_unfinished (place_before_end kind mode nmi) ≡ not ((is_offline kind && (nmi == 3)) || is_absent kind)
before_end Online mode nmi taken e = inside ((mode == 1) || (mode == 2))
  where
    inside : (b : Bool) → is_unfinished (if b then In else Out) ≡ true
    inside true = refl
    inside false = refl
before_end Offline mode nmi true e =
    ap (λ b. is_unfinished (if b then In else if nmi == 3 then Withdrawn else Out)) e
    ∙ sym (ap (λ b. not (b || false)) (not_both nmi e))
before_end Offline mode nmi false e =
    ap (λ b. is_unfinished (if b then In else if nmi == 3 then Withdrawn else Out)) e ∙ gone (nmi == 3)
  where
    gone : (b : Bool) → is_unfinished (if b then Withdrawn else Out) ≡ not (b || false)
    gone true = refl
    gone false = refl
before_end KindAbsent mode nmi taken e = refl

-- A thread is unfinished by its place just where it is so by the words.
unfinished_by :
    (halted left withdrawn absent : Bool) (x : ThreadResult) (place : Place) →
    is_unfinished place ≡ not (withdrawn || absent) →
    is_unfinished (if halted then Halted else if left then Left x else place) ≡ not
    (((left || halted) || withdrawn) || absent)
unfinished_by true true withdrawn absent x place e = refl
unfinished_by true false withdrawn absent x place e = refl
unfinished_by false true withdrawn absent x place e = refl
unfinished_by false false withdrawn absent x place e = e

pub unfinished_is :
    (plan : Plan) (moment : Running) (t : ℕ) →
    is_unfinished ((shown_by plan moment).place t) ≡ not (shows_finished plan moment.words t)
unfinished_is plan moment t =
    let w = families moment.words in
    unfinished_by (w.ctrl t == 3) (nat_le 8 (w.mode t)) (is_offline (plan.kind t) && (w.nmi t == 3))
    (is_absent (plan.kind t))
    (result_of (w.mode t - 8)) (place_before_end (plan.kind t) (w.mode t) (w.nmi t))
    (before_end (plan.kind t) (w.mode t) (w.nmi t) (w.nmi t == 2) refl)

-- One passes a test just where not none is counted.

count_any : (p : ℕ → Bool) (xs : List ℕ) → not (list_any p xs) ≡ (count_by p xs == 0)
count_any p [] = refl
count_any p (x ∷ xs) = by (p x) (list_any p xs) (count_by p xs) (count_any p xs)
    ∙ ap (λ n. n == 0) (sym (sum_by-cons (λ u. cond (p u) 1 0) x xs))
  where
    by : (b any : Bool) (n : ℕ) → not any ≡ (n == 0) → not (b || any) ≡ (cond b 1 0 + n == 0)
    by true any n e = grind (arith, nat_tests)
    by false any n e = grind (arith, nat_tests)

-- It is over just where no thread is unfinished in the state that is shown.
pub over_is :
    (plan : Plan) (moment : Running) → is_over plan moment ≡ (unfinished_count plan (shown_by plan moment) == 0)
unfolding unfinished_count
over_is plan moment =
    count_any (λ t. not (shows_finished plan moment.words t)) (threads_from plan 0)
    ∙ ap (λ p. count_by p (threads_from plan 0) == 0) (fun_ext (λ t. sym (unfinished_is plan moment t)))

pub over_none :
    (plan : Plan) (moment : Running) → is_over plan moment ≡ true → unfinished_count plan (shown_by plan moment) ≡ 0
over_none plan moment over =
    let e : (unfinished_count plan (shown_by plan moment) == 0) ≡ true = sym (over_is plan moment) ∙ over in
    zero_by (unfinished_count plan (shown_by plan moment)) e
  where
    zero_by : (n : ℕ) → (n == 0) ≡ true → n ≡ 0
    zero_by n e = grind (arith, nat_tests)

pub goes_on_some :
    (plan : Plan) (moment : Running) → is_over plan moment ≡ false →
    0 < unfinished_count plan (shown_by plan moment)
goes_on_some plan moment goes_on =
    let e : (unfinished_count plan (shown_by plan moment) == 0) ≡ false = sym (over_is plan moment) ∙ goes_on in
    some_by (unfinished_count plan (shown_by plan moment)) e
  where
    some_by : (n : ℕ) → (n == 0) ≡ false → 0 < n
    some_by n e = grind (arith, nat_tests)
