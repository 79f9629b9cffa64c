use Rattle.std.proofs.Common.{ℕ, ◌≡◌, ◌+◌, ◌*◌, ◌++◌, sym, ◌∙◌, ap, arith}
use Rattle.uc_gen.specs.Draws.{draw}
use Rattle.uc_gen.specs.Texts.{offline_line, offline_lines}
use Rattle.uc_gen.proofs.Drawing.{state_none, drawn}
use Rattle.uc_gen.proofs.Pieces.{offline_lines-none, offline_lines-more, behind_more, behind_none}
use Rattle.uc_gen.proofs.texts.push_offlines.Goals as goal

pub places-init : goal.places-init
places-init c = record {
  state = c.new-draws.ensures ∙ sym (state_none c.args.number);
  lines = behind_none c.args.bytes.now.items (offline_lines c.args.number 0) (offline_lines-none c.args.number);
}

pub places-preserved : goal.places-preserved
places-preserved c =
    let number = c.args.number in
    let place = c.places.place in
    let one = drawn number place _ _ _ c.places.invariant.state c.draw.ensures.state c.draw.ensures.value in
    record {
      state = one.0;
      lines = behind_more c.args.bytes.now.items (offline_lines number place) (offline_line (2 * place + 1) (draw number (place + 1))) _ _ _ c.places.invariant.lines
          (c.in_ok-push_offline.ensures ∙ ap (λ (d : ℕ). c.places.bytes.items ++ offline_line (2 * place + 1) d) one.1)
          (offline_lines-more number place);
    }

pub returns : goal.returns
returns c =
    let all : c.places.place ≡ 128 = omega (arith, c.places-test.false, c.places.auto.place-end) in
    c.places.invariant.lines ∙ ap (λ (n : ℕ). c.args.bytes.now.items ++ offline_lines c.args.number n) all
