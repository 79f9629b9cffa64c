-- Patches stand before and after each step.
use Rattle.std.proofs.Common.{◌≡◌, ℕ, ◌+◌, ◌<◌, ◌≤◌, true, false, List, length, Some, None, sym, ap, ◌∙◌, subst, inl, inr, arith}
use Rattle.std.proofs.lemmas.Bool.{false≢true, cases_eq, cases_Bool}
use Rattle.region_steps.specs.Region.{Patches, no_patches, blocks_of, width, covers, is_free_run, put_at, take_out, Stands}
use Rattle.region_steps.proofs.Covered.{covers_means, not_covered_by, run_is_free}
use Rattle.region_steps.proofs.Changed.{put_here, put_other, out_here, out_other, covers_put_other, covers_out, covers_out_other}

pub none_stand : (blocks : ℕ) → Stands no_patches blocks
none_stand blocks = record {
  has_bytes = λ first bytes e. absurd (cc);
  is_inside = λ first bytes e. absurd (cc);
  are_apart = λ first other block apart e. absurd (omega (arith, (covers_means no_patches first block e).0, (covers_means no_patches first block e).1));
}

same_bytes : (one two : List ℕ) (P : List ℕ → Type 0) → Some one ≡ Some two → P one → P two
same_bytes one two P e p = let same : one ≡ two = cc in subst P same p

-- no patch that stands covers a block of one that is put at a free run
clear_of_put : (patches : Patches) (first : ℕ) (bytes : List ℕ) (other block : ℕ) → is_free_run patches (blocks_of bytes) first ≡ true → covers (put_at patches first bytes) first block ≡ true → covers patches other block ≡ false
clear_of_put patches first bytes other block free e =
    let means = covers_means (put_at patches first bytes) first block e in
    let high : block < first + blocks_of bytes = omega (arith, means.1, ap width (put_here patches first bytes)) in
    not_covered_by patches other block (run_is_free patches (blocks_of bytes) first block free means.0 high)

pub put_stands : (patches : Patches) (blocks first : ℕ) (bytes : List ℕ) → Stands patches blocks → 0 < length bytes → first + blocks_of bytes ≤ blocks → is_free_run patches (blocks_of bytes) first ≡ true → Stands (put_at patches first bytes) blocks
put_stands patches blocks first bytes stands some inside free =
    record {
      has_bytes = λ f b e. elim (cases_eq f first) [
        | inl same ↦ same_bytes bytes b (λ (b : List ℕ). 0 < length b) (sym (put_here patches first bytes) ∙ subst (λ (f : ℕ). put_at patches first bytes f ≡ Some b) same e) some
        | inr other ↦ stands.has_bytes f b (sym (put_other patches first bytes f other) ∙ e)
      ];
      is_inside = λ f b e. elim (cases_eq f first) [
        | inl same ↦ same_bytes bytes b (λ (b : List ℕ). f + blocks_of b ≤ blocks) (sym (put_here patches first bytes) ∙ subst (λ (f : ℕ). put_at patches first bytes f ≡ Some b) same e) (omega (arith, same, inside))
        | inr other ↦ stands.is_inside f b (sym (put_other patches first bytes f other) ∙ e)
      ];
      are_apart = λ f other block apart e. elim (cases_eq f first) [
        | inl same ↦
            let here : covers (put_at patches first bytes) first block ≡ true = subst (λ (f : ℕ). covers (put_at patches first bytes) f block ≡ true) same e in
            covers_put_other patches first bytes other block (λ its. apart (same ∙ sym its)) ∙ clear_of_put patches first bytes other block free here
        | inr differs ↦
            let there : covers patches f block ≡ true = sym (covers_put_other patches first bytes f block differs) ∙ e in
            elim (cases_eq other first) [
              | inl same ↦ elim (cases_Bool (covers (put_at patches first bytes) first block)) [
                | inl both ↦ absurd (false≢true (sym (clear_of_put patches first bytes f block free both) ∙ there))
                | inr clear ↦ subst (λ (o : ℕ). covers (put_at patches first bytes) o block ≡ false) (sym same) clear
              ]
              | inr apart' ↦ covers_put_other patches first bytes other block apart' ∙ stands.are_apart f other block apart there
            ]
      ];
    }

pub out_stands : (patches : Patches) (blocks first : ℕ) → Stands patches blocks → Stands (take_out patches first) blocks
out_stands patches blocks first stands = record {
  has_bytes = λ f b e. elim (cases_eq f first) [
    | inl same ↦ let none : None ≡ Some b = sym (out_here patches first) ∙ subst (λ (f : ℕ). take_out patches first f ≡ Some b) same e in absurd (cc)
    | inr other ↦ stands.has_bytes f b (sym (out_other patches first f other) ∙ e)
  ];
  is_inside = λ f b e. elim (cases_eq f first) [
    | inl same ↦ let none : None ≡ Some b = sym (out_here patches first) ∙ subst (λ (f : ℕ). take_out patches first f ≡ Some b) same e in absurd (cc)
    | inr other ↦ stands.is_inside f b (sym (out_other patches first f other) ∙ e)
  ];
  are_apart = λ f other block apart e. elim (cases_eq f first) [
    | inl same ↦ absurd (false≢true (sym (covers_out patches first block) ∙ subst (λ (f : ℕ). covers (take_out patches first) f block ≡ true) same e))
    | inr differs ↦ elim (cases_eq other first) [
      | inl same ↦ subst (λ (o : ℕ). covers (take_out patches first) o block ≡ false) (sym same) (covers_out patches first block)
      | inr apart' ↦ covers_out_other patches first other block apart' ∙ stands.are_apart f other block apart (sym (covers_out_other patches first f block differs) ∙ e)
    ]
  ];
}
