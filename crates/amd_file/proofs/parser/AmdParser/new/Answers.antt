use Rattle.std.proofs.Common.{inl, ℕ, List, [], refl, sym, subst, arith}
use Rattle.amd_file.specs.Parsing.{IsInHead}
use Rattle.amd_file.proofs.parser.AmdParser.new.Goals as goal

pub returns-clause-stands : goal.returns-clause-stands
returns-clause-stands c =
    let none : IsInHead [] [] 0 0 0 [] = record {
      came = record { containers = []; split = refl; each = tt; few = omega arith; all = refl; place = refl; counts = refl };
      begins = inl refl;
      parts = refl;
    } in
    subst (λ (l : List ℕ). IsInHead [] [] 0 0 0 l) (sym c.new.ensures) none
