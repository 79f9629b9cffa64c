-- The patches at some places are freed, one after the other.
use Rattle.std.proofs.Common.{◌≡◌, ◌≢◌, ℕ, ◌+◌, Bool, true, false, ◌||◌, List, length, Option, Some, None, refl, sym, ap, ◌∙◌, subst, ◌⊎◌, inl, inr, arith}
use Rattle.std.proofs.Math.Path.{fun_ext}
use Rattle.std.proofs.lemmas.Bool.{cases_Bool, cases_eq, false≢true}
use Rattle.region_steps.specs.Region.{Patches, take_out}
use Rattle.region_steps.proofs.Changed.{out_here, out_other}
use Rattle.patch_pool.specs.declared.pool.PatchId.{PatchId}
use Rattle.machine_steps.specs.Puts.{is_at, is_cached}
use Rattle.early_load.specs.Caches.{place_at}
use Rattle.early_load.specs.Puts.{without}
use Rattle.early_load.proofs.Kept.{at_itself, at_means, cached_more, cached_is_not}

pub either : (a b : Bool) → (a || b) ≡ true → (a ≡ true) ⊎ (b ≡ true)
either true b e = inl refl
either false b e = inr e

pub neither : (a b : Bool) → (a || b) ≡ false → (a ≡ false) × (b ≡ false)
neither true b e = absurd cc
neither false b e = (refl, e)

pub record Freed (places : List (Option PatchId)) (old now : Patches) (n : ℕ) : Type 0 where
  pub gone : (block : ℕ) → is_cached n (place_at places) block ≡ true → now block ≡ None
  pub left : (block : ℕ) → is_cached n (place_at places) block ≡ false → now block ≡ old block

none_yet : (places : List (Option PatchId)) (block : ℕ) → is_cached 0 (place_at places) block ≡ false
none_yet places block = cached_is_not 0 (place_at places) block (λ g below. absurd (omega (arith, below)))

pub nothing_freed : (places : List (Option PatchId)) (old : Patches) → Freed places old old 0
nothing_freed places old = record {
  gone = λ block is. absurd (false≢true (sym (none_yet places block) ∙ is));
  left = λ block _. refl;
}

pub freed_none : (places : List (Option PatchId)) (old now : Patches) (n : ℕ) → Freed places old now n → place_at places n ≡ None → Freed places old now (n + 1)
freed_none places old now n freed none =
    let at : (block : ℕ) → is_at block (place_at places n) ≡ false = λ block. ap (is_at block) none in
    record {
      gone = λ block is. elim (either _ _ (sym (cached_more n (place_at places) block) ∙ is)) [
        | inl before ↦ freed.gone block before
        | inr here ↦ absurd (false≢true (sym (at block) ∙ here))
      ];
      left = λ block not. freed.left block (neither _ _ (sym (cached_more n (place_at places) block) ∙ not)).0;
    }

pub freed_next : (places : List (Option PatchId)) (old now new : Patches) (n first : ℕ) → Freed places old now n → place_at places n ≡ Some first → new ≡ take_out now first → Freed places old new (n + 1)
freed_next places old now new n first freed some out =
    let at = λ (block : ℕ). ap (λ (patches : Patches). patches block) out in
    record {
      gone = λ block is.
          elim (cases_eq block first) [
            | inl same ↦ at block ∙ subst (λ (k : ℕ). take_out now first k ≡ None) (sym same) (out_here now first)
            | inr other ↦
                elim (either _ _ (sym (cached_more n (place_at places) block) ∙ is)) [
                  | inl before ↦ at block ∙ out_other now first block other ∙ freed.gone block before
                  | inr here ↦
                      let found : Some first ≡ Some block = sym some ∙ at_means block (place_at places n) here in
                      let same : block ≡ first = cc in absurd (other same)
                ]
          ];
      left = λ block not.
          let parts = neither _ _ (sym (cached_more n (place_at places) block) ∙ not) in
          let other : block ≢ first = λ same. false≢true (sym parts.1 ∙ at_itself block (place_at places n) (some ∙ ap Some (sym same))) in
          at block ∙ out_other now first block other ∙ freed.left block parts.0;
    }

whole_freed : (places : List (Option PatchId)) (old now : Patches) → Freed places old now (length places) → now ≡ without places old
unfolding without
whole_freed places old now freed =
    fun_ext (λ block. elim (cases_Bool (is_cached (length places) (place_at places) block)) [
      | inl is ↦ rw is (freed.gone block is)
      | inr not ↦ rw not (freed.left block not)
    ])

pub all_freed : (places : List (Option PatchId)) (old now : Patches) (n : ℕ) → Freed places old now n → n ≡ length places → now ≡ without places old
all_freed places old now n freed all = whole_freed places old now (subst (Freed places old now) all freed)
