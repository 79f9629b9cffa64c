-- A put into a map by text.
use Rattle.std.proofs.Common.{◌≡◌, ℕ, List, Option, Some, refl, sym}
use Rattle.std.specs.Str.{bytes_eq}
use Rattle.std.specs.Map.{update}
use Rattle.std.specs.Cmp.Lexicographic.{bytes_decides}
use Rattle.std.specs.Option.{option_map}
use Rattle.std.proofs.lemmas.Bool.{false_from_ne_true}
use Rattle.uc_io.specs.Putting.{Puts}

-- a map that was updated at a name has its bytes there, and at every other name what it had, where `view` shows the bytes
-- of a value
pub Puts-update : {X : Type 0} (view : X → List ℕ) (old new : List ℕ → Option X) (name : List ℕ) (held : X) (bytes : List ℕ)
    → view held ≡ bytes → ((q : List ℕ) → new q ≡ update bytes_eq old name (Some held) q)
    → Puts (λ q. option_map view (old q)) (λ q. option_map view (new q)) name bytes
Puts-update view old new name held bytes same sets = record {
  there = rw (sets name, (bytes_decides name name).1 refl, same) refl;
  others = λ other apart. rw (sets other, false_from_ne_true _ (λ equal. apart (sym ((bytes_decides name other).0 equal)))) refl;
}
