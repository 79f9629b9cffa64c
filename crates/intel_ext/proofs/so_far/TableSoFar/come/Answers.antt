use Rattle.std.proofs.Common.{◌≡◌, ℕ, ◌+◌, ◌%◌, ◌^◌, ◌++◌, ◌∷◌, [], refl, sym, ap, subst}
use Rattle.uc_bytes.specs.Words.{word}
use Rattle.intel_ext.specs.declared.so_far.TableSoFar.{TableSoFar}
use Rattle.intel_ext.specs.SoFar.{IsTableSoFar}
use Rattle.intel_ext.proofs.Fronts.{came_on}
use Rattle.intel_ext.proofs.so_far.TableSoFar.come.Goals as goal

pub returns-clause-so_far : goal.returns-clause-so_far
returns-clause-so_far c = λ table pairs so_far some.
    let known = c.args.self.now in
    let entry = c.args.entry.now in
    let pair : (word entry 0, word entry 4) ≡ (c.word_at.result, c.word_at-2.result) = λ i. (sym c.word_at.ensures i, sym c.word_at-2.ensures i) in
    let after : TableSoFar = record { count = known.count; came = (known.came + 1) % 2 ^ 32; sum = (known.sum + c.word_sum-sum.result) % 2 ^ 32; bad = c.bad_after-self.result } in
    subst (λ (p : ℕ × ℕ). IsTableSoFar c.args.triple (table ++ entry) after (pairs ++ p ∷ [])) pair
    (came_on c.args.triple table entry known pairs after so_far c.requires refl some refl (ap (λ (n : ℕ). (known.sum + n) % 2 ^ 32) c.word_sum-sum.ensures)
    (c.bad_after-self.ensures table entry so_far.long c.requires c.word_sum-sum.ensures so_far.bad))
