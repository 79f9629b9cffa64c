use Rattle.std.proofs.Common.{◌≡◌, ◌∙◌}
use Rattle.std.specs.Str.{IsValidUpTo, valid_up_to}
use Rattle.uc_script.proofs.Words.{is_ok-utf8}
use Rattle.uc_script.proofs.forms.is_utf8.Goals as goal

pub returns : goal.returns
returns c = c.is_ok.ensures.value ∙ is_ok-utf8 (λ s. s.now ≡ c.args.word.now) (λ e. IsValidUpTo c.args.word.now (valid_up_to e)) c.args.word.now c.from_utf8.result c.from_utf8.ensures.cases
