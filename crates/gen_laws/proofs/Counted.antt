-- Lines that all count.
use Rattle.std.proofs.Common.{◌≡◌, ℕ, ◌+◌, true, List, [], ◌∷◌, ◌++◌, refl, ap}
use Rattle.std.specs.Prelude.{filter}
use Rattle.std.specs.List.{enumerate_from}
use Rattle.uc_text.specs.Lines.{counts}

abbrev pub AreCounted : List (List ℕ) → Type 0
AreCounted [] = Unit {0}
AreCounted (line ∷ lines) = ((n : ℕ) → counts (n, line) ≡ true) × AreCounted lines

-- none of them is passed over
pub kept : (n : ℕ) (lines : List (List ℕ)) → AreCounted lines → filter counts (enumerate_from n lines) ≡ enumerate_from n lines
kept n [] are = refl
kept n (line ∷ lines) are = rw (are.0 n) (ap (λ (l : List (ℕ × List ℕ)). (n, line) ∷ l) (kept (n + 1) lines are.1))

pub counted_append : (lines more : List (List ℕ)) → AreCounted lines → AreCounted more → AreCounted (lines ++ more)
counted_append [] more are then = then
counted_append (line ∷ lines) more are then = (are.0, counted_append lines more are.1 then)
