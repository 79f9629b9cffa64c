-- Every outcome has one verdict.
use Rattle.std.proofs.Common.{◌≡◌, ◌≢◌, ℕ, ◌+◌, ◌-◌, ◌<◌, ◌≤◌, Bool, true, false, ◌==◌, nat_le, Option, Some, None, refl, ap, sym, ◌∙◌, arith, inl, inr, true≢false}
use Rattle.std.proofs.lemmas.Bool.{cases_lt}
use Rattle.std.proofs.lemmas.Bool.Decides.{nat_tests}
use Rattle.rendezvous_steps.specs.Plan.{Plan}
use Rattle.rendezvous_model.specs.Outcome.{Outcome}
use Rattle.rendezvous_model.specs.Verdict.{Done, Panicked, Unfinished, OfflineSilent, TimedOut, Failed, Incomplete, halted_at, unfinished_at, refused_at, some_updated, IsLowest, NoThread, AllEnded, LoadVerdict, lowest, dropped, refused, verdict_from, load_verdict}
use Rattle.round_laws.specs.Laws.{VerdictHolds, VerdictIsOne}
use Rattle.rule_laws.proofs.Count.{same_or_not}
use Rattle.rule_laws.proofs.Search.{found, found_none}

is_lowest : (plan : Plan) (test : ℕ → Bool) (t : ℕ) → lowest plan test ≡ Some t → IsLowest plan test t
unfolding lowest
is_lowest plan test t e =
    let first = found test 0 (plan.threads - 0) t e in
    let high : t < 0 + (plan.threads - 0) = first.high in
    record { passes = first.passes; within = omega arith; lowest = λ u low. first.before u (omega arith) low }

is_none : (plan : Plan) (test : ℕ → Bool) → lowest plan test ≡ None → NoThread plan test
unfolding lowest
is_none plan test e u within = found_none test 0 (plan.threads - 0) e u (omega arith) (omega arith)

-- by what the search gives
none_by : (plan : Plan) (test : ℕ → Bool) (o : Option ℕ) → lowest plan test ≡ o → NoThread plan test → o ≡ None
none_by plan test None e none = refl
none_by plan test (Some t) e none =
    let low = is_lowest plan test t e in absurd (true≢false (sym low.passes ∙ none t low.within))

lowest_by :
    (plan : Plan) (test : ℕ → Bool) (t : ℕ) (o : Option ℕ) → lowest plan test ≡ o → IsLowest plan test t → o ≡ Some t
lowest_by plan test t None e low = absurd (true≢false (sym low.passes ∙ is_none plan test e t low.within))
lowest_by plan test t (Some u) e low =
    let other = is_lowest plan test u e in
    elim (same_or_not u t) [
      | inl same ↦ ap (λ v. Some v) same
      | inr apart ↦
          elim (cases_lt u t) [
            | inl before ↦ absurd (true≢false (sym other.passes ∙ low.lowest u before))
            | inr after ↦ absurd (true≢false (sym low.passes ∙ other.lowest t (omega arith)))
          ]
    ]

below_two : (d : ℕ) → (d == 2) ≡ false → nat_le 3 d ≡ false → d < 2
below_two d e f = grind (arith, nat_tests)

refused_holds :
    (plan : Plan) (outcome : Outcome) (t : ℕ) (updated : Bool) →
    some_updated outcome ≡ updated →
    AllEnded plan outcome → outcome.decide < 2 → IsLowest plan (refused_at plan outcome) t →
    LoadVerdict plan outcome (refused updated t)
refused_holds plan outcome t true e ended low least = (ended, low, least, e)
refused_holds plan outcome t false e ended low least = (ended, low, least, e)

-- the rest, where all threads ended
rest_holds :
    (plan : Plan) (outcome : Outcome) (by_kick by_thread : Bool) (refusing : Option ℕ) →
    AllEnded plan outcome →
    (outcome.decide == 2) ≡ by_kick →
    nat_le 3 outcome.decide ≡ by_thread →
    lowest plan (refused_at plan outcome) ≡ refusing →
    LoadVerdict plan outcome (verdict_from outcome None None (dropped by_kick by_thread outcome) refusing)
rest_holds plan outcome true by_thread refusing ended a b e =
    let two : outcome.decide ≡ 2 = grind (arith, nat_tests) in (ended, two, refl)
rest_holds plan outcome false true refusing ended a b e =
    let three : 3 ≤ outcome.decide = grind (arith, nat_tests) in (ended, three, refl)
rest_holds plan outcome false false None ended a b e =
    (ended, below_two outcome.decide a b, is_none plan (refused_at plan outcome) e)
rest_holds plan outcome false false (Some t) ended a b e =
    refused_holds plan outcome t (some_updated outcome) refl ended (below_two outcome.decide a b)
    (is_lowest plan (refused_at plan outcome) t e)

holds :
    (plan : Plan) (outcome : Outcome) (halted unfinished : Option ℕ) →
    lowest plan (halted_at outcome) ≡ halted →
    lowest plan (unfinished_at outcome) ≡ unfinished →
    LoadVerdict plan outcome
    (verdict_from outcome halted unfinished
    (dropped (outcome.decide == 2) (nat_le 3 outcome.decide) outcome)
    (lowest plan (refused_at plan outcome)))
holds plan outcome (Some t) unfinished a b = is_lowest plan (halted_at outcome) t a
holds plan outcome None (Some t) a b = (is_none plan (halted_at outcome) a, is_lowest plan (unfinished_at outcome) t b)
holds plan outcome None None a b =
    rest_holds plan outcome (outcome.decide == 2) (nat_le 3 outcome.decide) (lowest plan (refused_at plan outcome))
    (is_none plan (halted_at outcome) a, is_none plan (unfinished_at outcome) b)
    refl
    refl
    refl

pub verdict_holds : VerdictHolds
unfolding load_verdict
verdict_holds plan outcome =
    holds plan outcome (lowest plan (halted_at outcome)) (lowest plan (unfinished_at outcome)) refl refl

-- The function at the outcomes that each answer names.

at_none : (plan : Plan) (test : ℕ → Bool) → NoThread plan test → lowest plan test ≡ None
at_none plan test none = none_by plan test (lowest plan test) refl none

at_lowest : (plan : Plan) (test : ℕ → Bool) (t : ℕ) → IsLowest plan test t → lowest plan test ≡ Some t
at_lowest plan test t low = lowest_by plan test t (lowest plan test) refl low

no_kick : (d : ℕ) → d ≢ 2 → (d == 2) ≡ false
no_kick d e = grind (arith, nat_tests)

no_drop : (d : ℕ) → d < 2 → nat_le 3 d ≡ false
no_drop d e = grind (arith, nat_tests)

a_drop : (d : ℕ) → 3 ≤ d → nat_le 3 d ≡ true
a_drop d e = grind (arith, nat_tests)

pub verdict_is_one : VerdictIsOne
unfolding load_verdict
verdict_is_one plan outcome (Panicked t) h =
    let a = at_lowest plan (halted_at outcome) t h in
    sym
    (ap
    (λ o. verdict_from outcome o (lowest plan (unfinished_at outcome))
    (dropped (outcome.decide == 2) (nat_le 3 outcome.decide) outcome) (lowest plan (refused_at plan outcome))) a)
verdict_is_one plan outcome (Unfinished t) h =
    let a = at_none plan (halted_at outcome) h.0 in
    let b = at_lowest plan (unfinished_at outcome) t h.1 in rw (a, b) refl
verdict_is_one plan outcome (OfflineSilent k) h =
    let a = at_none plan (halted_at outcome) h.0.0 in
    let b = at_none plan (unfinished_at outcome) h.0.1 in
    let c : (outcome.decide == 2) ≡ true = ap (λ d. d == 2) h.1 in rw (a, b, c) (ap OfflineSilent h.2)
verdict_is_one plan outcome (TimedOut t) h =
    let a = at_none plan (halted_at outcome) h.0.0 in
    let b = at_none plan (unfinished_at outcome) h.0.1 in
    let three = h.1 in
    let c = no_kick outcome.decide (λ e. omega arith) in
    let d = a_drop outcome.decide three in rw (a, b, c, d) (ap TimedOut h.2)
verdict_is_one plan outcome (Failed t) h =
    let a = at_none plan (halted_at outcome) h.0.0 in
    let b = at_none plan (unfinished_at outcome) h.0.1 in
    let low = h.1 in
    let c = no_kick outcome.decide (λ e. omega arith) in
    let d = no_drop outcome.decide low in
    let e = at_lowest plan (refused_at plan outcome) t h.2 in let f = h.3 in rw (a, b, c, d, e, f) refl
verdict_is_one plan outcome (Incomplete t) h =
    let a = at_none plan (halted_at outcome) h.0.0 in
    let b = at_none plan (unfinished_at outcome) h.0.1 in
    let low = h.1 in
    let c = no_kick outcome.decide (λ e. omega arith) in
    let d = no_drop outcome.decide low in
    let e = at_lowest plan (refused_at plan outcome) t h.2 in let f = h.3 in rw (a, b, c, d, e, f) refl
verdict_is_one plan outcome Done h =
    let a = at_none plan (halted_at outcome) h.0.0 in
    let b = at_none plan (unfinished_at outcome) h.0.1 in
    let low = h.1 in
    let c = no_kick outcome.decide (λ e. omega arith) in
    let d = no_drop outcome.decide low in let e = at_none plan (refused_at plan outcome) h.2 in rw (a, b, c, d, e) refl
