use Rattle.std.proofs.Common.{ℕ, List, [], ◌∷◌, ◌+◌, ◌++◌, length, sym, ◌∙◌, ap, arith}
use Rattle.uc_gen.specs.Draws.{state_after}
use Rattle.uc_gen.specs.Bundle.{draws_behind}
use Rattle.uc_gen.proofs.Drawing.{drawn}
use Rattle.uc_gen.proofs.Pieces.{draws_behind-none, draws_behind-more}
use Rattle.uc_gen.proofs.bundle.draw_data.Goals as goal

pub words-init : goal.words-init
words-init c = record {
  count = ap length c.new-words.ensures;
  words = λ number before at. c.new-words.ensures ∙ sym (draws_behind-none number before);
  state = λ number before at. at ∙ ap (state_after number) (omega arith);
}

pub push-requires : goal.push-requires
push-requires c = (omega arith, omega (arith, c.words.invariant.count, c.words-test.true))

pub words-preserved : goal.words-preserved
words-preserved c =
    let counter = c.words.counter in
    record {
      count = omega (arith, c.push.ensures.len, c.words.invariant.count);
      words = λ number before at.
          let so_far = c.words.invariant.words number before at in
          let one = drawn number (before + counter) _ _ _ (c.words.invariant.state number before at) c.draw.ensures.state c.draw.ensures.value in
          c.push.ensures.items ∙ ap (λ (l : List ℕ). l ++ c.draw.result ∷ []) so_far ∙ ap (λ (d : ℕ). draws_behind number before counter ++ d ∷ []) one.1
          ∙ sym (draws_behind-more number before counter);
      state = λ number before at.
          let one = drawn number (before + counter) _ _ _ (c.words.invariant.state number before at) c.draw.ensures.state c.draw.ensures.value in
          one.0 ∙ ap (state_after number) (omega arith);
    }
