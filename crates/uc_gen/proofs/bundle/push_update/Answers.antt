use Rattle.std.proofs.Common.{ℕ, List, ◌≡◌, ◌+◌, ◌%◌, ◌++◌, ◌∙◌, ap, arith}
use Rattle.std.proofs.lemmas.Result.{on_ok_weaker}
use Rattle.uc_gen.specs.Draws.{state_after, draw}
use Rattle.uc_gen.specs.Bundle.{bytes_of, header_words, completing}
use Rattle.uc_gen.proofs.Drawing.{drawn}
use Rattle.uc_gen.proofs.Pieces.{update_put}
use Rattle.uc_gen.proofs.bundle.push_update.Goals as goal

pub returns-clause-bytes : goal.returns-clause-bytes
returns-clause-bytes c = λ number before at.
    let first = drawn number before _ _ _ at c.draw.ensures.state c.draw.ensures.value in
    let second = drawn number (before + 1) _ _ _ first.0 c.draw-flags.ensures.state c.draw-flags.ensures.value in
    let third = drawn number (before + 1 + 1) _ _ _ second.0 c.draw-2.ensures.state c.draw-2.ensures.value in
    let payload = c.draw_data-payload.ensures.words number (before + 3) (third.0 ∙ ap (state_after number) (omega arith)) in
    let sig = 0x906e0 + c.draw.result % 16 in
    let flags = c.draw-flags.result % 256 in
    let rev = 0x81 + c.draw-2.result % 64 in
    let behind : List ℕ = c.draw_data-payload.result.items in
    let cksum : c.completing-cksum.result ≡ completing (header_words rev sig 0 flags ++ behind) = c.completing-cksum.ensures ∙ (λ i. completing (c.header.ensures i ++ c.as_slice.ensures.value i)) in
    let front : c.push_words.new.bytes.items ≡ c.args.bytes.now.items ++ bytes_of (header_words rev sig c.completing-cksum.result flags) =
    c.in_ok-push_words.ensures ∙ ap (λ (l : List ℕ). c.args.bytes.now.items ++ bytes_of l) c.header-2.ensures in
    on_ok_weaker c.push_words-2.result
    (λ put.
    update_put number before sig flags rev c.completing-cksum.result behind c.args.bytes.now.items c.push_words.new.bytes.items c.push_words-2.new.bytes.items
    (ap (λ (d : ℕ). 0x906e0 + d % 16) first.1)
    (ap (λ (d : ℕ). d % 256) (second.1 ∙ ap (draw number) (omega arith)))
    (ap (λ (d : ℕ). 0x81 + d % 64) (third.1 ∙ ap (draw number) (omega arith)))
    payload
    cksum
    front
    (put ∙ ap (λ (l : List ℕ). c.push_words.new.bytes.items ++ bytes_of l) c.as_slice-2.ensures.value))
    c.push_words-2.ensures

pub returns-clause-state : goal.returns-clause-state
returns-clause-state c = λ number before at.
    let first = drawn number before _ _ _ at c.draw.ensures.state c.draw.ensures.value in
    let second = drawn number (before + 1) _ _ _ first.0 c.draw-flags.ensures.state c.draw-flags.ensures.value in
    let third = drawn number (before + 1 + 1) _ _ _ second.0 c.draw-2.ensures.state c.draw-2.ensures.value in
    let state = c.draw_data-payload.ensures.state number (before + 3) (third.0 ∙ ap (state_after number) (omega arith)) ∙ ap (state_after number) (omega arith) in
    on_ok_weaker c.push_words-2.result (λ put. state) c.push_words-2.ensures
