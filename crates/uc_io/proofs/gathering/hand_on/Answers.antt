use Rattle.std.proofs.Common.{◌-◌, ℕ, List, length, ap, arith}
use Rattle.std.proofs.lemmas.Bool.{false≢true}
use Rattle.std.proofs.lemmas.List.{length-drop}
use Rattle.uc_io.proofs.gathering.hand_on.Goals as goal

-- something is left where not all was written
pub returns-clause-all : goal.returns-clause-all
returns-clause-all g c =
    let written = c.write_all-written.result in
    let held : List ℕ = c.args.held.now.items in
    let counted = λ (l : List ℕ). length l in (
      λ ok. absurd (false≢true ok),
      λ none. absurd (omega (arith, ap counted none, ap counted c.keep_behind.ensures, length-drop written held, c.write_all-written.ensures.within, ap counted c.as_slice.ensures.value, c.len.ensures.value, c.if-written-len.false)),
    )
