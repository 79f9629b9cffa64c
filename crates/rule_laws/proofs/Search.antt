-- The first number of a range that passes a test.
use Rattle.std.proofs.Common.{◌≡◌, ℕ, zero, suc, ◌+◌, ◌<◌, ◌≤◌, Bool, true, false, cond, Option, Some, None, find, refl, ap, sym, ◌∙◌, arith, ◌⊎◌, inl, inr}
use Rattle.std.specs.List.{range_with_len}
use Rattle.rendezvous_steps.specs.declared.steps.Kind.{Kind}
use Rattle.rendezvous_steps.specs.declared.steps.Kind.TheVariants.{Online, Offline, Absent}
use Rattle.rendezvous_steps.specs.Plan.{Plan, is_offline}
use Rattle.rendezvous_steps.specs.Padded.{Padded}
use Rattle.std.proofs.lemmas.Bool.{cases_lt}
use Rattle.rule_laws.proofs.Count.{same_or_not}

-- the first that passes: it passes, and none before it does
pub record First (p : ℕ → Bool) (a b k : ℕ) : Type 0 where
  pub passes : p k ≡ true
  pub low : a ≤ k
  pub high : k < b
  pub before : (u : ℕ) → a ≤ u → u < k → p u ≡ false

chosen :
    (b : Bool) (a k : ℕ) (rest : Option ℕ) → cond b (Some a) rest ≡ Some k →
    ((b ≡ true) × (a ≡ k)) ⊎ ((b ≡ false) × (rest ≡ Some k))
chosen true a k rest e = inl (refl, cc)
chosen false a k rest e = inr (refl, e)

none_chosen : (b : Bool) (a : ℕ) (rest : Option ℕ) → cond b (Some a) rest ≡ None → (b ≡ false) × (rest ≡ None)
none_chosen true a rest e = cc
none_chosen false a rest e = (refl, e)

pub found : (p : ℕ → Bool) (a n k : ℕ) → find p (range_with_len a n) ≡ Some k → First p a (a + n) k
found p a zero k e = cc
found p a (suc n) k e =
    elim (chosen (p a) a k (find p (range_with_len (a + 1) n)) e) [
      | inl here ↦
          let at : a ≡ k = here.1 in
          record {
            passes = ap p (sym at) ∙ here.0;
            low = omega arith;
            high = omega arith;
            before = λ u low high. absurd (omega arith);
          }
      | inr there ↦
          let rest = found p (a + 1) n k there.1 in
          let low' : a + 1 ≤ k = rest.low in
          let high' : k < a + 1 + n = rest.high in
          record {
            passes = rest.passes;
            low = omega arith;
            high = omega arith;
            before = λ u low high. elim (same_or_not a u) [
              | inl same ↦ ap p (sym same) ∙ there.0
              | inr other ↦ rest.before u (omega arith) high
            ];
          }
    ]

pub found_none :
    (p : ℕ → Bool) (a n : ℕ) → find p (range_with_len a n) ≡ None → (u : ℕ) → a ≤ u → u < a + n → p u ≡ false
found_none p a zero e u low high = absurd (omega arith)
found_none p a (suc n) e u low high =
    let not_here = none_chosen (p a) a (find p (range_with_len (a + 1) n)) e in
    elim (same_or_not a u) [
      | inl same ↦ ap p (sym same) ∙ not_here.0
      | inr other ↦ found_none p (a + 1) n not_here.1 u (omega arith) (omega arith)
    ]

-- an Offline thread is within the plan
pub offline_in_range : (plan : Plan) → Padded plan → (k : ℕ) → plan.kind k ≡ Offline → k < plan.threads
offline_in_range plan padded k offline =
    elim (cases_lt k plan.threads) [
      | inr past ↦ let same : Offline ≡ Absent = sym offline ∙ padded.no_thread k past in cc
      | inl within ↦ within
    ]

pub online_in_range : (plan : Plan) → Padded plan → (k : ℕ) → plan.kind k ≡ Online → k < plan.threads
online_in_range plan padded k online =
    elim (cases_lt k plan.threads) [
      | inr past ↦ let same : Online ≡ Absent = sym online ∙ padded.no_thread k past in cc
      | inl within ↦ within
    ]

pub is_offline_kind : (kind : Kind) → is_offline kind ≡ true → kind ≡ Offline
is_offline_kind Online e = cc
is_offline_kind Offline e = refl
is_offline_kind Absent e = cc
