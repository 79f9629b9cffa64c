-- A thread's loop over others: what it is past when it begins, and when it goes on from one to the next.
use Rattle.std.proofs.Common.{◌≡◌, ℕ, ◌+◌, ◌-◌, ◌<◌, ◌≤◌, Bool, true, false, ◌&&◌, nat_lt, Option, Some, None, find, refl, ap, sym, ◌∙◌, arith, inl, inr, true≢false}
use Rattle.std.specs.List.{range_with_len}
use Rattle.std.proofs.lemmas.Bool.{cases_lt}
use Rattle.std.proofs.lemmas.Bool.Decides.{nat_tests}
use Rattle.rendezvous_steps.specs.declared.steps.Kind.TheVariants.{Offline}
use Rattle.rendezvous_steps.specs.Plan.{Plan, is_offline, is_sibling, offline_from, sibling_from}
use Rattle.rendezvous_steps.specs.Padded.{Padded}
use Rattle.rendezvous_steps.specs.Events.{put}
use Rattle.rule_laws.proofs.Search.{found, found_none, offline_in_range, is_offline_kind}
use Rattle.rule_laws.proofs.Frame.{put_all, and_both, before_next, sibling_in_range}

-- a loop that is at the thread found is past those below it, and one that found none is past all
abbrev pub past : Option ℕ → ℕ → Bool
past (Some l) u = nat_lt u l
past None u = true

guarded : (b x y : Bool) → (b ≡ true → x ≡ y) → (b && x) ≡ (b && y)
guarded true x y same = same refl
guarded false x y same = refl

stays_out : (b x : Bool) → (b ≡ true → x ≡ false) → (b && x) ≡ false
stays_out true x same = same refl
stays_out false x same = refl

-- a loop that begins is past none that it goes over
pub begins :
    (p : ℕ → Bool) (n : ℕ) (next : Option ℕ) →
    ((u : ℕ) → p u ≡ true → u < n) → find p (range_with_len 0 (n - 0)) ≡ next → (u : ℕ) → (p u && past next u) ≡ false
begins p n (Some l) within e u =
    let first = found p 0 (n - 0) l e in
    stays_out (p u) (nat_lt u l)
    (λ passes.
    elim (cases_lt u l) [
      | inl before ↦ absurd (true≢false (sym passes ∙ first.before u (omega arith) before))
      | inr after ↦ grind (arith, nat_tests)
    ])
begins p n None within e u =
    stays_out (p u) true
    (λ passes. let low = within u passes in absurd
    (true≢false (sym passes ∙ found_none p 0 (n - 0) e u (omega arith) (omega arith))))

-- one that was at k is past k too when it goes on
pub goes_on :
    (p : ℕ → Bool) (n k : ℕ) (next : Option ℕ) →
    p k ≡ true →
    ((u : ℕ) → p u ≡ true → u < n) →
    find p (range_with_len (k + 1) (n - (k + 1))) ≡ next →
    (u : ℕ) → (p u && past next u) ≡ put (λ v. p v && nat_lt v k) k true u
goes_on p n k (Some l) here within e u =
    let first = found p (k + 1) (n - (k + 1)) l e in
    let low : k + 1 ≤ l = first.low in
    put_all (λ v y. (p v && nat_lt v l) ≡ y) (λ v. p v && nat_lt v k) k true
    (and_both (p k) (nat_lt k l) here (grind (arith, nat_tests)))
    (λ v other.
    guarded (p v) (nat_lt v l) (nat_lt v k)
    (λ passes. before_next v k l other (λ under over. true≢false (sym passes ∙ first.before v over under))
    (omega arith)))
    u
goes_on p n k None here within e u =
    put_all (λ v y. (p v && true) ≡ y) (λ v. p v && nat_lt v k) k true
    (and_both (p k) true here refl)
    (λ v other.
    guarded (p v) true (nat_lt v k)
    (λ passes.
    let low = within v passes in
    elim (cases_lt v k) [
      | inl before ↦ sym (grind (arith, nat_tests))
      | inr after ↦
          absurd (true≢false (sym passes ∙ found_none p (k + 1) (n - (k + 1)) e v (omega arith) (omega arith)))
    ]))
    u

-- Over the Offline threads.

offline_within : (plan : Plan) → Padded plan → (u : ℕ) → is_offline (plan.kind u) ≡ true → u < plan.threads
offline_within plan padded u e = offline_in_range plan padded u (is_offline_kind (plan.kind u) e)

pub offline_begins :
    (plan : Plan) (next : Option ℕ) →
    Padded plan → offline_from plan 0 ≡ next → (u : ℕ) → (is_offline (plan.kind u) && past next u) ≡ false
unfolding offline_from
offline_begins plan next padded e =
    begins (λ u. is_offline (plan.kind u)) plan.threads next (offline_within plan padded) e

pub offline_goes_on :
    (plan : Plan) (k : ℕ) (next : Option ℕ) →
    Padded plan →
    plan.kind k ≡ Offline →
    offline_from plan (k + 1) ≡ next →
    (u : ℕ) → (is_offline (plan.kind u) && past next u) ≡ put (λ v. is_offline (plan.kind v) && nat_lt v k) k true u
unfolding offline_from
offline_goes_on plan k next padded offline e =
    goes_on (λ u. is_offline (plan.kind u)) plan.threads k next (ap is_offline offline) (offline_within plan padded) e

-- the thread that such a loop goes to is Offline
pub offline_found : (plan : Plan) (k l : ℕ) → offline_from plan k ≡ Some l → plan.kind l ≡ Offline
unfolding offline_from
offline_found plan k l e =
    is_offline_kind (plan.kind l) (found (λ u. is_offline (plan.kind u)) k (plan.threads - k) l e).passes

-- where it finds none from the first on, no thread is Offline
pub none_offline : (plan : Plan) → Padded plan → offline_from plan 0 ≡ None → (u : ℕ) → is_offline (plan.kind u) ≡ false
unfolding offline_from
none_offline plan padded e u =
    by (is_offline (plan.kind u)) refl
  where
    by : (b : Bool) → is_offline (plan.kind u) ≡ b → b ≡ false
    by true f =
        let low = offline_within plan padded u f in
        absurd
        (true≢false
        (sym f ∙ found_none (λ v. is_offline (plan.kind v)) 0 (plan.threads - 0) e u (omega arith) (omega arith)))
    by false f = refl

-- Over the siblings of a thread.

pub sibling_begins :
    (plan : Plan) (t : ℕ) (next : Option ℕ) →
    Padded plan → sibling_from plan t 0 ≡ next → (u : ℕ) → (is_sibling plan t u && past next u) ≡ false
unfolding sibling_from
sibling_begins plan t next padded e =
    begins (is_sibling plan t) plan.threads next (λ u f. sibling_in_range plan t u padded f) e

pub sibling_goes_on :
    (plan : Plan) (t s : ℕ) (next : Option ℕ) →
    Padded plan →
    is_sibling plan t s ≡ true →
    sibling_from plan t (s + 1) ≡ next →
    (u : ℕ) → (is_sibling plan t u && past next u) ≡ put (λ v. is_sibling plan t v && nat_lt v s) s true u
unfolding sibling_from
sibling_goes_on plan t s next padded here e =
    goes_on (is_sibling plan t) plan.threads s next here (λ u f. sibling_in_range plan t u padded f) e

pub sibling_found : (plan : Plan) (t k l : ℕ) → sibling_from plan t k ≡ Some l → is_sibling plan t l ≡ true
unfolding sibling_from
sibling_found plan t k l e = (found (is_sibling plan t) k (plan.threads - k) l e).passes
