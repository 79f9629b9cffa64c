use Rattle.std.proofs.Common.{◌≡◌, ◌^◌, ◌+◌, ◌≤◌, take, sym, ◌∙◌, below_more, arith}
use Rattle.std.proofs.lemmas.List.{take_all}
use Rattle.std.proofs.lemmas.Bool.Decides.{nat_tests}
use Rattle.uc_text.specs.Numbers.{place_value}
use Rattle.uc_text.proofs.Places.{place_value-more, too_great, all_digits}
use Rattle.uc_text.proofs.numbers.number_in.Goals as goal

pub returns-in_err-checked_mul : goal.returns-in_err-checked_mul
returns-in_err-checked_mul c =
    let more = place_value-more c.args.radix c.args.digits.now c.loop-byte.byte-index c.loop-byte.value c.loop-byte-test.true c.loop-byte.invariant.value in
    let great : 2 ^ 64 ≤ place_value c.args.radix (take (c.loop-byte.byte-index + 1) c.args.digits.now) = grind (arith, more, c.in_err-checked_mul.ensures) in
    c.from_residual-in_err-checked_mul.ensures ∙ sym (too_great c.args.radix c.args.digits.now (c.loop-byte.byte-index + 1) (omega (arith, c.requires.least)) great)

pub returns-in_err-value : goal.returns-in_err-value
returns-in_err-value c =
    let more = place_value-more c.args.radix c.args.digits.now c.loop-byte.byte-index c.loop-byte.value c.loop-byte-test.true c.loop-byte.invariant.value in
    let great : 2 ^ 64 ≤ place_value c.args.radix (take (c.loop-byte.byte-index + 1) c.args.digits.now) = grind (arith, more, c.in_err-value.ensures, c.in_ok-checked_mul.ensures, c.in_ok-digit.ensures.value) in
    c.from_residual-in_err-value.ensures ∙ sym (too_great c.args.radix c.args.digits.now (c.loop-byte.byte-index + 1) (omega (arith, c.requires.least)) great)

pub loop-byte-preserved : goal.loop-byte-preserved
loop-byte-preserved c =
    let more = place_value-more c.args.radix c.args.digits.now c.loop-byte.byte-index c.loop-byte.value c.loop-byte-test.true c.loop-byte.invariant.value in
    record {
      digits = below_more _ _ c.loop-byte.invariant.digits (grind (arith, c.in_ok-digit.ensures.value));
      fits = omega (arith, c.in_ok-value.ensures);
      value = grind (arith, more, c.in_ok-value.ensures, c.in_ok-checked_mul.ensures, c.in_ok-digit.ensures.value);
    }

pub returns : goal.returns
returns c =
    let whole : take c.loop-byte.byte-index c.args.digits.now ≡ c.args.digits.now = take_all c.loop-byte.byte-index c.args.digits.now c.loop-byte-test.false in
    sym (all_digits c.args.radix c.args.digits.now c.loop-byte.value (grind (arith, nat_tests)) (λ k lt. c.loop-byte.invariant.digits k (omega arith)) (rw whole at c.loop-byte.invariant.value) c.loop-byte.invariant.fits)
