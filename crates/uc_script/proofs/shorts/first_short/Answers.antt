use Rattle.std.proofs.Common.{refl, arith}
use Rattle.uc_script.proofs.ShortWords.{short_one, short_two, short_three}
use Rattle.uc_script.proofs.shorts.first_short.Goals as goal

pub returns-in-Some : goal.returns-in-Some
returns-in-Some c = λ marks.
    short_one c.args.text.now _ c.from-number.result c.in-Some.is_last
    (record { some = c.in-len3-up.len_at_least; rest = refl; low = omega arith; high = omega arith; is = omega arith }) c.in-Some.ensures marks

pub returns-in-Some-ends_word : goal.returns-in-Some-ends_word
returns-in-Some-ends_word c = λ marks.
    short_two c.args.text.now _ _ c.from-number.result c.from.result c.in-Some-ends_word.is_last
    (record { some = c.in-len3-up.len_at_least; rest = refl; low = omega arith; high = omega arith; is = omega arith })
    (record { some = c.in_default-len1-up.len_at_least; rest = refl; low = omega arith; high = omega arith; is = omega arith }) c.in-Some-ends_word.ensures marks

pub returns : goal.returns
returns c = λ marks.
    short_three c.args.text.now _ _ _ c.from-number.result c.from.result c.from-2.result c.in_ok-is_last.is_last
    (record { some = c.in-len3-up.len_at_least; rest = refl; low = omega arith; high = omega arith; is = omega arith })
    (record { some = c.in_default-len1-up.len_at_least; rest = refl; low = omega arith; high = omega arith; is = omega arith })
    (record { some = c.in_default-len1-up-2.len_at_least; rest = refl; low = omega arith; high = omega arith; is = omega arith }) c.in_ok-is_last.ensures marks
