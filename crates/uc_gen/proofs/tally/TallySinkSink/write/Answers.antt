use Rattle.std.proofs.Common.{◌≡◌, ℕ, ◌-◌, List, ◌++◌, [], ◌∷◌, length, take, refl, sym, ◌∙◌, ap, subst, arith, append_assoc, take-append-drop}
use Rattle.uc_gen.specs.Tally.{Tallies}
use Rattle.uc_gen.proofs.Lists.{further, append_four}
use Rattle.uc_gen.proofs.Lines.{none_before, none_at_all, first_ends}
use Rattle.uc_gen.proofs.tally.TallySinkSink.write.Goals as goal

pub take_part-requires : goal.take_part-requires
take_part-requires c = none_before c.lines.rest.now c.in-Some.at (sym c.first_line_feed.ensures ∙ c.in-Some.is)

pub lines-preserved : goal.lines-preserved
lines-preserved c =
    let piece = c.args.piece.now in
    let rest = c.lines.rest.now in
    let at = c.in-Some.at in
    let ends = first_ends rest at (sym c.first_line_feed.ensures ∙ c.in-Some.is) in
    let on = further piece rest _ at c.lines.invariant.within c.lines.invariant.rest ends.0 c.split_at.ensures.back in
    let before = take (length piece - length rest) piece in
    record {
      within = on.0;
      rest = on.1;
      stands = λ text old.
          subst (Tallies c.end_line.new.self) (append_four text before (take at rest) (10 ∷ []) ∙ ap (λ (l : List ℕ). text ++ (before ++ l)) (sym ends.1) ∙ ap (λ (l : List ℕ). text ++ l) (sym on.2))
          (c.end_line.ensures ((text ++ before) ++ take at rest) (c.take_part.ensures (text ++ before) (c.lines.invariant.stands text old)));
    }

pub take_part-requires-2 : goal.take_part-requires-2
take_part-requires-2 c = none_at_all c.lines.rest.now (sym c.first_line_feed.ensures ∙ c.in_default.is)

pub returns : goal.returns
returns c =
    let piece = c.args.piece.now in
    let rest = c.lines.rest.now in
    let n = length piece - length rest in
    let whole : take n piece ++ rest ≡ piece = ap (λ (l : List ℕ). take n piece ++ l) c.lines.invariant.rest ∙ take-append-drop n piece in
    record {
      later = omega arith;
      still = refl;
      outcome = record {
        each = λ taken old.
            subst (Tallies c.take_part-2.new.self) (append_assoc taken (take n piece) rest ∙ ap (λ (l : List ℕ). taken ++ l) whole)
            (c.take_part-2.ensures (taken ++ take n piece) (c.lines.invariant.stands taken old));
      };
    }
