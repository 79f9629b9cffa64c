use Rattle.std.proofs.Common.{◌≡◌, ◌+◌, ◌≤◌, get_or, length, below_more, arith}
use Rattle.std.specs.Char.{digit_value}
use Rattle.std.proofs.lemmas.Bool.Decides.{nat_tests}
use Rattle.std.proofs.lemmas.Str.{digit_value_digit}
use Rattle.uc_text.proofs.Places.{place_value-more}
use Rattle.uc_text.proofs.MarkedWords.{digits_taken}
use Rattle.uc_text.proofs.numbers.leading_number.Goals as goal

pub loop-byte-preserved : goal.loop-byte-preserved
loop-byte-preserved c =
    let digit : digit_value (get_or c.args.text.now c.loop-byte.byte-index 0) + 48 ≡ get_or c.args.text.now c.loop-byte.byte-index 0 = digit_value_digit _ (grind (arith, nat_tests)) in
    let more = place_value-more 10 c.args.text.now c.loop-byte.byte-index c.loop-byte.value c.loop-byte-test.true c.loop-byte.invariant.value in
    record {
      digits = below_more _ _ c.loop-byte.invariant.digits (grind (arith, nat_tests));
      value = omega (arith, more, digit, c.from.ensures);
      count = omega arith;
    }

pub returns : goal.returns
returns c =
    let inside : c.loop-byte.byte-index ≤ length c.args.text.now = omega arith in
    digits_taken c.args.text.now c.loop-byte.byte-index c.loop-byte.count c.loop-byte.value c.loop-byte.invariant.count (grind (arith, nat_tests)) inside c.loop-byte.invariant.digits c.loop-byte.invariant.value
