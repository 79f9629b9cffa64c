use Rattle.std.proofs.Common.{ℕ, List, ◌≡◌, ◌+◌, ◌*◌, ◌%◌, ◌^◌, ◌++◌, sym, ◌∙◌, ap, arith}
use Rattle.uc_gen.specs.Draws.{state_after, draw}
use Rattle.uc_gen.specs.Texts.{core_line, core_sig, core_flags, core_lines}
use Rattle.uc_gen.proofs.Drawing.{state_none, drawn}
use Rattle.uc_gen.proofs.Pieces.{core_lines-none, core_lines-more, behind_more, behind_none, core_line_same}
use Rattle.uc_gen.proofs.texts.push_cores.Goals as goal

pub cores-init : goal.cores-init
cores-init c = record {
  state = c.new-draws.ensures ∙ sym (state_none c.args.number);
  lines = behind_none c.args.bytes.now.items (core_lines c.args.number 0) (core_lines-none c.args.number);
}

pub cores-preserved : goal.cores-preserved
cores-preserved c =
    let number = c.args.number in
    let core = c.cores.core in
    let first = drawn number (2 * core) _ _ _ c.cores.invariant.state c.draw.ensures.state c.draw.ensures.value in
    let second = drawn number (2 * core + 1) _ _ _ first.0 c.draw-in-cores.ensures.state c.draw-in-cores.ensures.value in
    let place : 2 * core + 1 + 1 ≡ 2 * core + 2 = omega arith in
    let end : 2 * core + 1 + 1 ≡ 2 * (core + 1) = omega arith in
    let flags = c.flags_of-flags.ensures ∙ ap (λ (d : ℕ). 2 ^ (d % 8)) (second.1 ∙ ap (draw number) place) in
    let line = core_line_same core _ (core_sig number core) _ (core_flags number core) (ap (λ (d : ℕ). 0x906e0 + d % 16) first.1) flags in
    record {
      state = second.0 ∙ ap (state_after number) end;
      lines = behind_more c.args.bytes.now.items (core_lines number core) (core_line core (core_sig number core) (core_flags number core)) _ _ _ c.cores.invariant.lines
          (c.in_ok-push_core.ensures ∙ ap (λ (l : List ℕ). c.cores.bytes.items ++ l) line)
          (core_lines-more number core);
    }

pub returns : goal.returns
returns c =
    let all : c.cores.core ≡ 128 = omega (arith, c.cores-test.false, c.cores.auto.core-end) in
    c.cores.invariant.lines ∙ ap (λ (n : ℕ). c.args.bytes.now.items ++ core_lines c.args.number n) all
