use Rattle.std.proofs.Common.{ℕ, List, [], ◌∷◌, ◌++◌, refl, sym, subst, arith}
use Rattle.intel_format.specs.Header.{header_triple}
use Rattle.intel_ext.specs.SoFar.{IsTableSoFar}
use Rattle.intel_file.specs.declared.progress.Progress.{Progress}
use Rattle.intel_file.specs.declared.progress.Stage.{Stage}
use Rattle.intel_file.specs.Progress.{IsAtStage, HasFront}
use Rattle.intel_file.proofs.Steps.{front_on}
use Rattle.intel_file.proofs.progress.Progress.entry_came.Goals as goal

pub returns-then-self : goal.returns-then-self
returns-then-self c = λ own pairs stage table.
    let p = c.args.self.now in
    let entry = c.args.unit.now in
    let front = table.0 in
    let more : List (ℕ × ℕ) = pairs ++ c.come.result ∷ [] in
    let q : Progress = record { stage = p.stage; header = p.header; left = p.left; sum = p.sum; table = c.come.new.self } in
    let so_far : IsTableSoFar (header_triple p.header) (front.table ++ entry) c.come.new.self more =
    subst (λ (t : ℕ). IsTableSoFar t (front.table ++ entry) c.come.new.self more) c.triple_of-triple.ensures
    (c.come.ensures.so_far front.table pairs (subst (λ (t : ℕ). IsTableSoFar t front.table p.table pairs) (sym c.triple_of-triple.ensures) front.so_far) table.1) in
    let now : HasFront q (own ++ entry) more = front_on p q own entry pairs more front refl refl c.come.ensures.count so_far in
    c.close_table-end.ensures (own ++ entry) more (now, c.if-self.true)

pub returns-else-self : goal.returns-else-self
returns-else-self c = λ own pairs stage table.
    let p = c.args.self.now in
    let entry = c.args.unit.now in
    let front = table.0 in
    let more : List (ℕ × ℕ) = pairs ++ c.come.result ∷ [] in
    let q : Progress = record { stage = p.stage; header = p.header; left = p.left; sum = p.sum; table = c.come.new.self } in
    let so_far : IsTableSoFar (header_triple p.header) (front.table ++ entry) c.come.new.self more =
    subst (λ (t : ℕ). IsTableSoFar t (front.table ++ entry) c.come.new.self more) c.triple_of-triple.ensures
    (c.come.ensures.so_far front.table pairs (subst (λ (t : ℕ). IsTableSoFar t front.table p.table pairs) (sym c.triple_of-triple.ensures) front.so_far) table.1) in
    let now : HasFront q (own ++ entry) more = front_on p q own entry pairs more front refl refl c.come.ensures.count so_far in
    subst (λ (s : Stage). IsAtStage s q (own ++ entry) more) (sym stage) (now, omega (arith, c.come.ensures.came, c.come.ensures.count, table.1, front.so_far.fits, c.if-self.false))
