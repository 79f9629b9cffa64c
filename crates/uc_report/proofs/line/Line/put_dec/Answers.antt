use Rattle.std.proofs.Common.{◌≡◌, ap, arith, rules, length, length-append, length-drop, decimal, drop}
use Rattle.uc_report.proofs.Digits.{few_digits}
use Rattle.uc_report.proofs.line.Line.put_dec.Goals as goal

-- there is room for all digits that a number can have
pub write_digits-self-inside-requires : goal.write_digits-self-inside-requires
write_digits-self-inside-requires c =
    let whole : length c.self.inside.bytes ≡ 160 = search rules in
    (omega (arith, whole, few_digits c.args.value c.ranges.value.fits, length-drop c.self.inside.at c.self.inside.bytes, ap length c.self.view_is, c.requires, c.self.invariant), omega (arith, whole, c.self.invariant))

pub returns-clause-len : goal.returns-clause-len
returns-clause-len c =
    omega (arith, few_digits c.args.value c.ranges.value.fits, ap length c.write_digits-self-inside.ensures.written, length-append (decimal c.args.value) (drop c.self.inside.at c.self.inside.bytes), ap length c.self.view_is)
