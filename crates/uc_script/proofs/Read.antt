-- What was read is what the text states.
use Rattle.std.proofs.Common.{◌≡◌, ℕ, List, [], filter, Result, Ok, Err, sym, ap, subst, ◌∙◌}
use Rattle.std.specs.Prelude.{IfOk, IfErr}
use Rattle.script_text.specs.declared.forms.Limits.{Limits}
use Rattle.script_text.specs.Stated.{Stated}
use Rattle.script_text.specs.Texts.{States, FirstFault}
use Rattle.script_text.specs.Within.{IsWithin}
use Rattle.uc_text.specs.Lines.{counts, numbered_lines}
use Rattle.script_text.specs.Stands.{Before, opening}
use Rattle.script_text.specs.Reading.{finished, read_on, reading}
use Rattle.script_text.proofs.Kept.{within}
use Rattle.script_text.proofs.OneReading.{states, faults}
use Rattle.uc_script.specs.declared.answer.ScriptAnswer.{ScriptAnswer}
use Rattle.uc_script.specs.declared.answer.ScriptAnswer.TheVariants.{Fault, NoMemory}
use Rattle.uc_script.specs.Answers.{IsRead, IfFault}

pub read_states : (limits : Limits) (text : List ℕ) (r : Result Stated ScriptAnswer) → IsRead (reading limits text) r → IfOk r (States limits text)
read_states limits text (Ok script) read = states limits text script read
read_states limits text (Err answer) read = tt

pub read_within : (limits : Limits) (text : List ℕ) (r : Result Stated ScriptAnswer) → IsRead (reading limits text) r → IfOk r (IsWithin limits)
read_within limits text (Ok script) read = within limits text script (states limits text script read)
read_within limits text (Err answer) read = tt

pub read_faults : (limits : Limits) (text : List ℕ) (r : Result Stated ScriptAnswer) → IsRead (reading limits text) r → IfErr r (λ answer. IfFault answer (FirstFault limits text))
read_faults limits text (Ok script) read = tt
read_faults limits text (Err (Fault fault)) read = faults limits text fault read
read_faults limits text (Err NoMemory) read = tt

-- once no line is left
pub all_read : (limits : Limits) (text : List ℕ) (first last : Before) (all left : List (ℕ × List ℕ)) (r : Result Stated ScriptAnswer) → read_on limits last (filter counts left) ≡ read_on limits first (filter counts all)
    → first ≡ opening → all ≡ numbered_lines text → filter counts left ≡ [] → IsRead (finished last) r → IsRead (reading limits text) r
unfolding reading read_on
all_read limits text first last all left r same opens begins none read =
    subst (λ read. IsRead read r)
    (sym (ap (read_on limits last) none) ∙ same ∙ ap (λ (b : Before). read_on limits b (filter counts all)) opens ∙ ap (λ (lines : List (ℕ × List ℕ)). read_on limits opening (filter counts lines)) begins)
    read
