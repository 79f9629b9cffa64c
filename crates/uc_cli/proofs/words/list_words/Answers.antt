use Rattle.std.proofs.Common.{sym, ◌∙◌, arith}
use Rattle.uc_cli.proofs.Names.{few_names}
use Rattle.uc_cli.proofs.words.list_words.Goals as goal

pub returns-in-None-clause-few : goal.returns-in-None-clause-few
returns-in-None-clause-few c = omega (arith, few_names 16 2 1 c.args.words.now (omega arith) (sym c.wrong_name.ensures ∙ c.in-None.is))
