use Rattle.std.proofs.Common.{◌≡◌, inl, inr, ℕ, ◌-◌, ◌<◌, ◌==◌, Bool, true, false, [], ◌∷◌, ◌++◌, get_or, ◌∙◌, ap, arith}
use Rattle.std.proofs.Math.ListN.{set}
use Rattle.std.proofs.lemmas.Bool.{cases_eq}
use Rattle.std.proofs.lemmas.Bool.Decides.{Decides-eqb}
use Rattle.amd_file.specs.declared.container.AmdContainer.{AmdContainer}
use Rattle.amd_file.proofs.Listings.{set_last-is}
use Rattle.amd_file.proofs.listing.add_to_last.Goals as goal

-- what is not empty has an item
not_empty : (n : ℕ) (b : Bool) → b ≡ (n == 0) → b ≡ false → 0 < n
not_empty n b is none = elim (cases_eq n 0) [
  | inl zero_is ↦ absurd (let yes : (n == 0) ≡ true = (Decides-eqb n 0).1 zero_is in cc)
  | inr other ↦ omega arith
]

pub returns : goal.returns
returns c =
    let items = c.args.containers.now.items in
    let at = c.len-last.result - 1 in
    let found = c.index_mut-container.result.now in
    let value = c.index_mut-container.ensures.value in
    let pushed : c.push.new.self ≡ (get_or items at found).patches ++ c.args.patch ∷ [] =
    c.in_ok-push.ensures ∙ ap (λ (x : AmdContainer). x.patches ++ c.args.patch ∷ []) value in
    ap (λ (x : AmdContainer). set items at x) (λ i. record { start = (value i).start; table_len = (value i).table_len; patches = pushed i })
    ∙ set_last-is items at found c.args.patch (omega (arith, c.len-last.ensures, c.args.containers.now.ok.0, not_empty _ c.is_empty.result c.is_empty.ensures c.if-is_empty.false))
