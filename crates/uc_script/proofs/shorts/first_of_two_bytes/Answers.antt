use Rattle.std.proofs.Common.{◌≡◌, ℕ, get_or, refl, arith, subst}
use Rattle.std.proofs.lemmas.Bool.Decides.{nat_tests}
use Rattle.uc_script.specs.Shorts.{EndsWord}
use Rattle.uc_script.proofs.ShortWords.{short_one}
use Rattle.uc_script.proofs.shorts.first_of_two_bytes.Goals as goal

pub returns : goal.returns
returns c =
    let same : c.end_of.result ≡ get_or c.args.text.now 2 0 = grind (arith, nat_tests) in (
      λ marks. short_one c.args.text.now _ c.from.result c.args.is_last
          (record { some = c.in-len3-up.len_at_least; rest = refl; low = omega arith; high = omega arith; is = omega arith })
          (subst (λ (byte : ℕ). EndsWord byte c.args.is_last) same c.end_of.ensures) marks,
      refl,
    )
