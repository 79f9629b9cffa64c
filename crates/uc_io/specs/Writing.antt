-- What a write did to a sink.
use Rattle.std.specs.Prelude.{◌≡◌, ℕ, ◌≤◌, List, ◌++◌, Result, OnOk, MatchResult}
use Rattle.uc_io.specs.Faults.{Rose}

-- the sink stands for each list that it stood for before, followed by the text
pub record Grew {D : Type 0} (stands : D → List ℕ → Type 0) (old new : D) (text : List ℕ) : Type 0 where
  pub each : (taken : List ℕ) → stands old taken → stands new (taken ++ text)

-- the same, by some front of the text
pub record GrewByFront {D : Type 0} (stands : D → List ℕ → Type 0) (old new : D) (text : List ℕ) : Type 0 where
  pub front : List ℕ
  pub rest : List ℕ
  pub split : text ≡ front ++ rest
  pub grew : Grew stands old new front

-- the text was written, and the count of faults stands still; or a front of it was, and the count rose
pub record Writes {D E : Type 0} (stands : D → List ℕ → Type 0) (faults : D → ℕ) (old new : D) (text : List ℕ) (result : Result (Unit {0}) E) : Type 0 where
  pub later : faults old ≤ faults new
  pub still : OnOk result (faults new ≡ faults old)
  pub outcome : MatchResult result (λ _. Grew stands old new text) (λ _. GrewByFront stands old new text × Rose (faults old) (faults new))
