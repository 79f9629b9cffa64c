use Rattle.std.proofs.Common.{arith}
use Rattle.std.proofs.lemmas.Bool.Decides.{nat_tests}
use Rattle.uc_script.proofs.ShortWords.{begin_apart}
use Rattle.uc_script.proofs.forms.begins_otherwise.Goals as goal

pub returns-then-first-letter : goal.returns-then-first-letter
returns-then-first-letter c =
    λ is. begin_apart c.args.form.now c.args.line.now (grind arith) (grind arith) (grind arith) (grind arith) (grind (arith, nat_tests, is, c.is_blank.ensures)) c.if-first-letter.true
