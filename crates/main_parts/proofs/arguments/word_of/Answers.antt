use Rattle.std.proofs.Common.{◌≡◌, ◌∙◌, ℕ, List, subst}
use Rattle.std.specs.Prelude.{IfOk}
use Rattle.main_parts.proofs.Utf8.{as_text, as_dash}
use Rattle.main_parts.proofs.arguments.word_of.Goals as goal

pub returns-in-Ok : goal.returns-in-Ok
returns-in-Ok c = subst (λ (text : List ℕ). IfOk c.text_of.result (λ word. word ≡ text)) (c.in-Ok.ensures.cases.0 ∙ as_text c.args.bytes.now c.in-Ok.ensures.cases.1) c.text_of.ensures

pub returns-in-Err : goal.returns-in-Err
returns-in-Err c = subst (λ (text : List ℕ). IfOk c.text_of-in-Err.result (λ word. word ≡ text)) (as_dash c.args.bytes.now c.in-Err.ensures.cases.0) c.text_of-in-Err.ensures
