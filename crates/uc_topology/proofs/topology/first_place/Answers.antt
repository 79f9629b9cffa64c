use Rattle.std.proofs.Common.{nat_eq, length, sym, arith}
use Rattle.std.proofs.lemmas.Bool.{eq-eqb}
use Rattle.std.proofs.lemmas.List.Sums.{position_or_len_is}
use Rattle.uc_topology.proofs.topology.first_place.Goals as goal

pub returns-then-other-number : goal.returns-then-other-number
returns-then-other-number c =
    sym (position_or_len_is (λ other. nat_eq other c.args.number) c.args.table.now c.loop-place.place 0 (omega arith) c.loop-place.invariant (λ _. eq-eqb _ _ c.if-other-number.true))

pub returns : goal.returns
returns c =
    sym (position_or_len_is (λ other. nat_eq other c.args.number) c.args.table.now (length c.args.table.now) 0 (omega arith) (λ k lt. c.loop-place.invariant k (omega (arith, lt))) (λ lt. absurd (omega (arith, lt))))
