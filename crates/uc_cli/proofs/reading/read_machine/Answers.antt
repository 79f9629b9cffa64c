use Rattle.std.proofs.Common.{◌<◌, inl, ℕ, List, length, refl, subst}
use Rattle.tool_text.specs.read_model.declared.TheConstants.{TOPOLOGY_LIMIT}
use Rattle.tool_text.proofs.read_model.Accepted.{past_limit}
use Rattle.uc_cli.proofs.reading.read_machine.Goals as goal

pub returns-in-Err-TooLong-clause-answer : goal.returns-in-Err-TooLong-clause-answer
returns-in-Err-TooLong-clause-answer g c =
    let read = rw c.in-Err-TooLong.field-0-is at c.in-Err-TooLong.ensures.answer in
    let tells = g.F.Pieces.tells c.args.files.now in
    let holds = g.F.Files.holds c.args.files.now in
    let long = past_limit TOPOLOGY_LIMIT (holds c.args.name.now) tells (λ tell. subst (λ (name : List ℕ). TOPOLOGY_LIMIT < length (holds name)) c.as_str.ensures (read.2 tell)) in
    (read.0, (long.0, long.2, inl (long.1, refl, refl)))
