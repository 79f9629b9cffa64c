-- What putting a patch and taking one out leave of the patches and of the blocks that are covered.
use Rattle.std.proofs.Common.{◌≡◌, ◌≢◌, ℕ, ◌+◌, Bool, true, false, ◌&&◌, ◌||◌, not, nat_lt, nat_le, List, Option, Some, None, refl, sym, ap, ◌∙◌, subst, inl, inr, arith}
use Rattle.std.proofs.lemmas.Bool.{false≢true, cases_eq, cases_lt, cases_Bool, eq-eqb, ne_eqb}
use Rattle.std.proofs.lemmas.Bool.Decides.{nat_tests}
use Rattle.region_steps.specs.Region.{Patches, blocks_of, width, covers, is_covered, put_at, take_out}
use Rattle.region_steps.proofs.Covered.{covers_below, covers_past, covered_by, not_covered_by, not_covered, coverer}

-- ---- by block

pub put_here : (patches : Patches) (first : ℕ) (bytes : List ℕ) → put_at patches first bytes first ≡ Some bytes
unfolding put_at
put_here patches first bytes = rw (eq-eqb first first refl) refl

pub put_other : (patches : Patches) (first : ℕ) (bytes : List ℕ) (other : ℕ) → other ≢ first → put_at patches first bytes other ≡ patches other
unfolding put_at
put_other patches first bytes other apart = rw (ne_eqb other first apart) refl

pub out_here : (patches : Patches) (first : ℕ) → take_out patches first first ≡ None
unfolding take_out
out_here patches first = rw (eq-eqb first first refl) refl

pub out_other : (patches : Patches) (first other : ℕ) → other ≢ first → take_out patches first other ≡ patches other
unfolding take_out
out_other patches first other apart = rw (ne_eqb other first apart) refl

-- what a patch covers goes by the patch alone
pub covers_same : (one two : Patches) (first block : ℕ) (patch : Option (List ℕ)) → one first ≡ patch → two first ≡ patch → covers one first block ≡ covers two first block
covers_same one two first block patch a b = ap (λ (p : Option (List ℕ)). nat_le first block && nat_lt block (first + width p)) (a ∙ sym b)

pub covers_none : (patches : Patches) (first block : ℕ) → width (patches first) ≡ 0 → covers patches first block ≡ false
covers_none patches first block none =
    elim (cases_lt block first) [
      | inl low ↦ covers_below patches first block low
      | inr past ↦ covers_past patches first block (omega (arith, none, past))
    ]

-- ---- after a put

-- the blocks of the bytes, put at a block
abbrev pub is_among : ℕ → List ℕ → ℕ → Bool
is_among first bytes block = nat_le first block && nat_lt block (first + blocks_of bytes)

pub covers_put : (patches : Patches) (first : ℕ) (bytes : List ℕ) (block : ℕ) → covers (put_at patches first bytes) first block ≡ is_among first bytes block
covers_put patches first bytes block = ap (λ (p : Option (List ℕ)). nat_le first block && nat_lt block (first + width p)) (put_here patches first bytes)

pub covers_put_other : (patches : Patches) (first : ℕ) (bytes : List ℕ) (other block : ℕ) → other ≢ first → covers (put_at patches first bytes) other block ≡ covers patches other block
covers_put_other patches first bytes other block apart = covers_same (put_at patches first bytes) patches other block (patches other) (put_other patches first bytes other apart) refl

pub covered_put : (patches : Patches) (first : ℕ) (bytes : List ℕ) (block : ℕ) → width (patches first) ≡ 0 → is_covered (put_at patches first bytes) block ≡ (is_covered patches block || is_among first bytes block)
covered_put patches first bytes block none =
    elim (cases_Bool (is_covered (put_at patches first bytes) block)) [
      | inl yes' ↦
          let its = coverer (put_at patches first bytes) block yes' in
          elim (cases_eq its.first first) [
            | inl same ↦
                let here : is_among first bytes block ≡ true = sym (covers_put patches first bytes block) ∙ subst (λ (f : ℕ). covers (put_at patches first bytes) f block ≡ true) same its.covers_it in
                rw (yes', here) (grind (arith, nat_tests))
            | inr other ↦
                let there = covered_by patches its.first block (sym (covers_put_other patches first bytes its.first block other) ∙ its.covers_it) in
                rw (yes', there) refl
          ]
      | inr no' ↦
          let here : is_among first bytes block ≡ false = sym (covers_put patches first bytes block) ∙ not_covered_by (put_at patches first bytes) first block no' in
          let others : (other : ℕ) → covers patches other block ≡ false = λ other. elim (cases_eq other first) [
            | inl same ↦ subst (λ (f : ℕ). covers patches f block ≡ false) (sym same) (covers_none patches first block none)
            | inr apart ↦ sym (covers_put_other patches first bytes other block apart) ∙ not_covered_by (put_at patches first bytes) other block no'
          ] in
          rw (no', here, not_covered patches block others) refl
    ]

-- ---- after one was taken out

pub covers_out : (patches : Patches) (first block : ℕ) → covers (take_out patches first) first block ≡ false
covers_out patches first block = covers_none (take_out patches first) first block (ap width (out_here patches first))

pub covers_out_other : (patches : Patches) (first other block : ℕ) → other ≢ first → covers (take_out patches first) other block ≡ covers patches other block
covers_out_other patches first other block apart = covers_same (take_out patches first) patches other block (patches other) (out_other patches first other apart) refl

pub covered_out : (patches : Patches) (first block : ℕ) → ((other : ℕ) → first ≢ other → covers patches first block ≡ true → covers patches other block ≡ false)
    → is_covered (take_out patches first) block ≡ (is_covered patches block && not (covers patches first block))
covered_out patches first block apart =
    elim (cases_Bool (is_covered (take_out patches first) block)) [
      | inl yes' ↦
          let its = coverer (take_out patches first) block yes' in
          let other : its.first ≢ first = λ same. false≢true (sym (covers_out patches first block) ∙ subst (λ (f : ℕ). covers (take_out patches first) f block ≡ true) same its.covers_it) in
          let there : covers patches its.first block ≡ true = sym (covers_out_other patches first its.first block other) ∙ its.covers_it in
          elim (cases_Bool (covers patches first block)) [
            | inl both ↦ absurd (false≢true (sym (apart its.first (λ same. other (sym same)) both) ∙ there))
            | inr alone ↦ rw (yes', alone, covered_by patches its.first block there) refl
          ]
      | inr no' ↦ elim (cases_Bool (covers patches first block)) [
        | inl its ↦ rw (no', its) (grind (arith, nat_tests))
        | inr not_its ↦
            let others : (other : ℕ) → covers patches other block ≡ false = λ other. elim (cases_eq other first) [
              | inl same ↦ subst (λ (f : ℕ). covers patches f block ≡ false) (sym same) not_its
              | inr apart' ↦ sym (covers_out_other patches first other block apart') ∙ not_covered_by (take_out patches first) other block no'
            ] in
            rw (no', not_covered patches block others) refl
      ]
    ]
