use Rattle.std.proofs.Common.{◌≤◌, ℕ, List, length, sym, ◌∙◌, subst}
use Rattle.tool_text.specs.script_text.Texts.{States, FirstFault}
use Rattle.tool_text.proofs.script_text.OneReading.{one_script, never_both}
use Rattle.uc_gen.specs.Texts.{script_text}
use Rattle.gen_laws.specs.Stated.{limits_of, script_of}
use Rattle.uc_script.specs.Answers.{IfFault}
use Rattle.uc_cli.proofs.generate.script_for.Goals as goal

pub read_script-requires : goal.read_script-requires
read_script-requires c =
    subst (λ (text : List ℕ). length text ≤ 16777216) (sym (c.as_slice.ensures.value ∙ c.in_ok-text.ensures))
    (c.generated_texts_are_short.ensures.script c.args.number)

pub unreachable-requires : goal.unreachable-requires
unreachable-requires c =
    never_both limits_of (script_text c.args.number) (script_of c.args.number) c.in-Err-Fault.field-0-0 (c.generated_script_is_read.ensures c.args.number)
    (subst (λ (text : List ℕ). FirstFault limits_of text c.in-Err-Fault.field-0-0) (c.as_slice.ensures.value ∙ c.in_ok-text.ensures)
    (subst (λ answer. IfFault answer (FirstFault limits_of c.as_slice.result.now)) c.in-Err-Fault.field-0-is c.in-Err-Fault.ensures.fault))

pub returns-in-Ok : goal.returns-in-Ok
returns-in-Ok c =
    one_script limits_of (script_text c.args.number) c.in-Ok.script (script_of c.args.number)
    (subst (λ (text : List ℕ). States limits_of text c.in-Ok.script) (c.as_slice.ensures.value ∙ c.in_ok-text.ensures) c.in-Ok.ensures.states)
    (c.generated_script_is_read.ensures c.args.number)
