use Rattle.std.proofs.Common.{◌≡◌, ℕ, ◌+◌, ◌<◌, [], length, Option, Some, sym, ◌∙◌, ap, subst, arith}
use Rattle.std.specs.Prelude.{slice_get}
use Rattle.std.proofs.lemmas.Bool.{false≢true}
use Rattle.std.proofs.lemmas.Option.{slice_get-get_or}
use Rattle.entry_model.specs.declared.facts.EntryFacts.{EntryFacts}
use Rattle.entry_model.specs.Entry.{patch_entry}
use Rattle.uc_catalog.specs.Contents.{entry_at}
use Rattle.uc_select.proofs.Best.{IsBestUpTo, better, no_better, best_of_all}
use Rattle.uc_select.proofs.choice.offer.Goals as goal
use Rattle.uc_select.proofs.choice.offer.Goals.{then-rev-best_rev+then-is_admissible, else-rev-best_rev, else-rev-best_rev-via-then-rev-best_rev+else-is_admissible, else-rev-best_rev-via-else-rev-best_rev}

pub loop-i-preserved : goal.loop-i-preserved
loop-i-preserved c =
    let entries = c.args.catalog.now.entries in
    let i = c.loop-i.i in
    let entry = entry_at c.args.catalog.now i in
    let within : i < length entries = omega (arith, c.len-i-end.ensures.count) in
    let here : slice_get entries i ≡ Some entry = slice_get-get_or entries i (patch_entry 0 0 [] []) within in
    let rev : c.entry-rev.result.rev ≡ entry.facts.rev = ap (λ (f : EntryFacts). f.rev) c.entry-rev.ensures in
    let after : (best : Option ℕ) (best_rev : ℕ) → c.if-rev-best_rev.best ≡ best → c.if-rev-best_rev.best_rev ≡ best_rev → IsBestUpTo entries c.args.core.now c.args.force (i + 1) best best_rev → IsBestUpTo entries c.args.core.now c.args.force (i + 1) c.if-rev-best_rev.best c.if-rev-best_rev.best_rev =
    λ best best_rev is_best is_rev is.
    subst (λ (b : Option ℕ). IsBestUpTo entries c.args.core.now c.args.force (i + 1) b c.if-rev-best_rev.best_rev) (sym is_best) (subst (λ (r : ℕ). IsBestUpTo entries c.args.core.now c.args.force (i + 1) best r) (sym is_rev) is) in
    elim c.if-rev-best_rev.branch [
      | then-rev-best_rev+then-is_admissible w ↦
          after (Some i) entry.facts.rev w.best-is (w.best_rev-is ∙ rev)
          (better entries c.args.core.now c.args.force i entry here c.loop-i.best c.loop-i.best_rev c.loop-i.invariant (omega (arith, rev, w.if-rev-best_rev.true)) (w.is_admissible.ensures.0 w.if-is_admissible.true))
      | else-rev-best_rev w ↦
          after c.loop-i.best c.loop-i.best_rev w.best-is w.best_rev-is
          (no_better entries c.args.core.now c.args.force i entry here c.loop-i.best c.loop-i.best_rev c.loop-i.invariant
          (elim w.else-rev-best_rev.branch [
            | else-rev-best_rev-via-then-rev-best_rev+else-is_admissible v ↦ λ above of. absurd (false≢true (sym v.if-is_admissible.false ∙ v.is_admissible.ensures.1 of))
            | else-rev-best_rev-via-else-rev-best_rev v ↦ λ above of. omega (arith, rev, above, v.if-rev-best_rev.false)
          ]))
    ]

pub returns : goal.returns
returns c =
    best_of_all c.args.catalog.now.entries c.args.core.now c.args.force c.loop-i.i c.loop-i.best c.loop-i.best_rev (omega (arith, c.len-i-end.ensures.count)) c.loop-i.invariant
