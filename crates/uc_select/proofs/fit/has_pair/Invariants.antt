use Rattle.std.proofs.Common.{◌≡◌, ℕ, ◌<◌, Some}
use Rattle.std.specs.Prelude.{slice_get}
use Rattle.entry_model.specs.Selection.{FlagsMeet}
use Rattle.uc_catalog.specs.Contents.{entry_at}
use Rattle.uc_select.proofs.fit.has_pair.Given as goal

abbrev pub invariant-loop-k : goal.invariant-loop-k
invariant-loop-k l =
    (j : ℕ) (pair : ℕ × ℕ) → j < l.k → slice_get (entry_at l.catalog l.i).pairs j ≡ Some pair → pair.0 ≡ l.sig → FlagsMeet pair.1 l.flags → ⊥
