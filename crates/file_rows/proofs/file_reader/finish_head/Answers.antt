use Rattle.std.proofs.Common.{◌≡◌, inl, ℕ, ◌<◌, List, [], length, refl, arith}
use Rattle.std.proofs.lemmas.Bool.Decides.{nat_tests}
use Rattle.entry_model.specs.Reading.{OfIntel, IsAmd}
use Rattle.intel_file.proofs.Walks.{none_from_length, ended_short}
use Rattle.file_rows.proofs.file_reader.finish_head.Goals as goal

-- fewer than four bytes are no AMD file
short_not_amd : (head : List ℕ) → length head < 4 → IsAmd head → ⊥
short_not_amd head short amd = omega (arith, short, amd.0)

pub returns-then-is_empty-clause-finished : goal.returns-then-is_empty-clause-finished
returns-then-is_empty-clause-finished c = λ short.
    let is : length c.args.head.now ≡ 0 = grind (arith, nat_tests, c.is_empty.ensures, c.if-is_empty.true) in
    let none : c.args.head.now ≡ [] = none_from_length c.args.head.now is in (
      OfIntel [],
      (short_not_amd c.args.head.now short, record { whole = none; each = tt; few = omega arith }),
      record { rows = c.new.ensures.rows; pairs = c.new.ensures.pairs },
    )

pub returns-else-is_empty-clause-finished : goal.returns-else-is_empty-clause-finished
returns-else-is_empty-clause-finished c = λ short.
    let head = c.args.head.now in
    let some : 0 < length head = grind (arith, nat_tests, c.is_empty.ensures, c.if-is_empty.false) in
    inl (short_not_amd head short, ended_short head head [] 0 refl tt (omega arith) refl some (omega (arith, short)))
