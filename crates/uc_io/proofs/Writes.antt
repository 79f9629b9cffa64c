-- One write after another.
use Rattle.std.proofs.Common.{◌≡◌, ℕ, ◌<◌, ◌≤◌, List, ◌++◌, [], length, get_or, take, drop, take-append-drop, ◌+◌, Result, Ok, Err, sym, ap, ◌∙◌, subst, arith, append_assoc}
use Rattle.std.specs.List.{flat_map}
use Rattle.std.specs.Result.{IsErr}
use Rattle.std.proofs.lemmas.Grind.{flat_map-append}
use Rattle.std.proofs.lemmas.List.{flat_map_more, take_more}
use Rattle.uc_io.specs.Faults.{Rose}
use Rattle.uc_io.specs.Writing.{Grew, GrewByFront, Writes}

-- a count that rose in the second of two calls rose in the two
rose_late : (p q r : ℕ) → p ≤ q → q ≤ r → Rose q r → Rose p r
rose_late p q r first second rose = grind arith

-- and so one that rose in the first
rose_early : (p q r : ℕ) → q ≤ r → Rose p q → Rose p r
rose_early p q r second rose = grind arith

-- a list grew by a text, and then by another
pub Grew-then : {D : Type 0} (stands : D → List ℕ → Type 0) (old mid new : D) (a b : List ℕ) → Grew stands old mid a → Grew stands mid new b → Grew stands old new (a ++ b)
Grew-then stands old mid new a b first second = record {
  each = λ taken before. subst (stands new) (append_assoc taken a b) (second.each (taken ++ a) (first.each taken before));
}

module _ {D : Type 0} (stands : D → List ℕ → Type 0) (faults : D → ℕ) (old mid new : D) (a b : List ℕ) where
  grew_front : Grew stands old mid a → GrewByFront stands mid new b → GrewByFront stands old new (a ++ b)
  grew_front first second = record {
    front = a ++ second.front;
    rest = second.rest;
    split = ap (λ text. a ++ text) second.split ∙ sym (append_assoc a second.front second.rest);
    grew = record {
      each = λ taken before. subst (stands new) (append_assoc taken a second.front) (second.grew.each (taken ++ a) (first.each taken before));
    };
  }

  -- a text that was written, and then another
  pub Writes-then : {E : Type 0} (r : Result (Unit {0}) E) → Writes {E = E} stands faults old mid a (Ok tt) → Writes stands faults mid new b r → Writes stands faults old new (a ++ b) r
  Writes-then (Ok done) first second = record {
    later = omega (arith, first.later, second.later);
    still = second.still ∙ first.still;
    outcome = Grew-then stands old mid new a b first.outcome second.outcome;
  }
  Writes-then (Err e) first second = record {
    later = omega (arith, first.later, second.later);
    still = tt;
    outcome = (grew_front first.outcome second.outcome.0, rose_late _ _ _ first.later second.later second.outcome.1);
  }

-- a text that was not written is a front of a longer one that was not written either
module _ {D : Type 0} (stands : D → List ℕ → Type 0) (faults : D → ℕ) (old new : D) (a b : List ℕ) where
  pub Writes-more : {E F : Type 0} (e : E) (r : Result (Unit {0}) F) → IsErr r → Writes {E = E} stands faults old new a (Err e) → Writes stands faults old new (a ++ b) r
  Writes-more e (Ok done) err wrote = cc
  Writes-more e (Err f) err wrote = record {
    later = wrote.later;
    still = tt;
    outcome = (
      record {
        front = wrote.outcome.0.front;
        rest = wrote.outcome.0.rest ++ b;
        split = ap (λ text. text ++ b) wrote.outcome.0.split ∙ append_assoc wrote.outcome.0.front wrote.outcome.0.rest b;
        grew = wrote.outcome.0.grew;
      },
      wrote.outcome.1,
    );
  }

-- the texts of a list's items are those before a place, the one there and those behind it
flat_map_split : {X : Type 0} (text : X → List ℕ) (xs : List X) (i : ℕ) (d : X) → i < length xs → (flat_map text (take i xs) ++ text (get_or xs i d)) ++ flat_map text (drop (i + 1) xs) ≡ flat_map text xs
flat_map_split text xs i d inside =
    ap (λ front. front ++ flat_map text (drop (i + 1) xs)) (flat_map_more text [] (take i xs) (get_or xs i d) ∙ ap (flat_map text) (sym (take_more xs i d inside)))
    ∙ sym (flat_map-append text (take (i + 1) xs) (drop (i + 1) xs)) ∙ ap (flat_map text) (take-append-drop (i + 1) xs)

-- a loop that writes a text for each item, and stopped at one of them
pub Writes-cut : {D X E F : Type 0} (stands : D → List ℕ → Type 0) (faults : D → ℕ) (old mid new : D) (text : X → List ℕ) (xs : List X) (i : ℕ) (d : X) (e : E) (r : Result (Unit {0}) F)
    → i < length xs → IsErr r → Writes {E = E} stands faults old mid (flat_map text (take i xs)) (Ok tt) → Writes {E = E} stands faults mid new (text (get_or xs i d)) (Err e)
    → Writes stands faults old new (flat_map text xs) r
Writes-cut {E = E} stands faults old mid new text xs i d e r inside err so_far failed =
    subst (λ whole. Writes stands faults old new whole r) (flat_map_split text xs i d inside)
    (Writes-more stands faults old new (flat_map text (take i xs) ++ text (get_or xs i d)) (flat_map text (drop (i + 1) xs)) e r err (Writes-then stands faults old mid new (flat_map text (take i xs)) (text (get_or xs i d)) {E = E} (Err e) so_far failed))
