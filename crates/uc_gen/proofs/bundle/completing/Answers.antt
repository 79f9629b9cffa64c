use Rattle.std.proofs.Common.{ℕ, arith}
use Rattle.std.proofs.lemmas.List.Sums.{sum_by-append}
use Rattle.uc_gen.proofs.bundle.completing.Goals as goal

pub returns : goal.returns
returns c =
    let both = sum_by-append (λ (x : ℕ). x) c.args.front.now c.args.back.now in
    omega (arith, both, c.total.ensures, c.total-2.ensures)
