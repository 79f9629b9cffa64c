use Rattle.std.proofs.Common.{ℕ, ◌+◌, ◌%◌, ◌++◌, ◌∙◌, ap, arith}
use Rattle.uc_gen.specs.Draws.{state_after, draw}
use Rattle.uc_gen.specs.Bundle.{bytes_of}
use Rattle.uc_gen.specs.Containers.{section_words, sections}
use Rattle.uc_gen.proofs.Drawing.{drawn}
use Rattle.uc_gen.proofs.Pieces.{sections-none, sections-more, bytes_of-append, behind_none, behind_more}
use Rattle.uc_gen.proofs.containers.push_sections.Goals as goal

pub patches-init : goal.patches-init
patches-init c = record {
  bytes = λ number before at. behind_none c.args.bytes.now.items (bytes_of (sections number before c.args.id 0)) (ap bytes_of (sections-none number before c.args.id));
  state = λ number before at. at ∙ ap (state_after number) (omega arith);
}

pub patches-preserved : goal.patches-preserved
patches-preserved c =
    let counter = c.patches.counter in
    let id = c.args.id in
    record {
      bytes = λ number before at.
          let one = drawn number (before + counter) _ _ _ (c.patches.invariant.state number before at) c.draw.ensures.state c.draw.ensures.value in
          let section = section_words (0x0a000000 + draw number (before + counter + 1) % 65536) id in
          behind_more c.args.bytes.now.items (bytes_of (sections number before id counter)) (bytes_of section) _ _ _ (c.patches.invariant.bytes number before at)
          (c.in_ok-push_section.ensures ∙ ap (λ (d : ℕ). c.patches.bytes.items ++ bytes_of (section_words (0x0a000000 + d % 65536) id)) one.1)
          (ap bytes_of (sections-more number before id counter) ∙ bytes_of-append (sections number before id counter) section);
      state = λ number before at.
          let one = drawn number (before + counter) _ _ _ (c.patches.invariant.state number before at) c.draw.ensures.state c.draw.ensures.value in
          one.0 ∙ ap (state_after number) (omega arith);
    }
