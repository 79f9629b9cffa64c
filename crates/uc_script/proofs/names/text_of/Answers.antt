use Rattle.std.proofs.Common.{◌≡◌, ◌∙◌}
use Rattle.std.specs.Str.{IsValidUpTo, valid_up_to}
use Rattle.uc_script.proofs.Words.{is_ok-utf8}
use Rattle.uc_script.proofs.names.text_of.Goals as goal

pub unwrap-requires : goal.unwrap-requires
unwrap-requires c = is_ok-utf8 (λ s. s.now ≡ c.args.word.now) (λ e. IsValidUpTo c.args.word.now (valid_up_to e)) c.args.word.now c.from_utf8.result c.from_utf8.ensures.cases ∙ c.requires
