use Rattle.std.proofs.Common.{ℕ, ◌≡◌, ◌+◌, ◌%◌, ◌∙◌, ap, arith}
use Rattle.std.proofs.lemmas.Result.{on_ok_weaker}
use Rattle.uc_gen.specs.Draws.{state_after}
use Rattle.uc_gen.proofs.Drawing.{drawn}
use Rattle.uc_gen.proofs.Pieces.{container_put}
use Rattle.uc_gen.proofs.containers.push_container.Goals as goal

pub returns-clause-bytes : goal.returns-clause-bytes
returns-clause-bytes c = λ number before at.
    let one = drawn number before _ _ _ at c.draw-a.ensures.state c.draw-a.ensures.value in
    on_ok_weaker c.push_sections.result
    (container_put number before (c.draw-a.result % 4096) c.sig_for.result c.args.bytes.now.items c.push_equiv.new.bytes.items c.push_sections.new.bytes.items (ap (λ (d : ℕ). d % 4096) one.1) c.sig_for.ensures c.in_ok-push_equiv.ensures)
    (c.push_sections.ensures.bytes number (before + 1) one.0)

pub returns-clause-state : goal.returns-clause-state
returns-clause-state c = λ number before at.
    let one = drawn number before _ _ _ at c.draw-a.ensures.state c.draw-a.ensures.value in
    let end : before + 1 + 4 ≡ before + 5 = omega arith in
    on_ok_weaker c.push_sections.result (λ state. state ∙ ap (state_after number) end) (c.push_sections.ensures.state number (before + 1) one.0)
