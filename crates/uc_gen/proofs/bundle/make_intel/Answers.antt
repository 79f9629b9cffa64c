use Rattle.std.proofs.Common.{ℕ, List, ◌*◌, ◌++◌, sym, ◌∙◌, ap, arith}
use Rattle.uc_gen.specs.Draws.{state_after}
use Rattle.uc_gen.specs.Bundle.{bytes_of, update_words}
use Rattle.uc_gen.proofs.Drawing.{state_none}
use Rattle.uc_gen.proofs.Pieces.{updates-none, updates-more}
use Rattle.uc_gen.proofs.bundle.make_intel.Goals as goal

pub updates-init : goal.updates-init
updates-init c = record {
  bytes = c.in_ok-bytes.ensures.items ∙ sym (updates-none c.args.number);
  state = c.new-draws.ensures ∙ sym (state_none c.args.number);
}

pub updates-preserved : goal.updates-preserved
updates-preserved c =
    let number = c.args.number in
    let counter = c.updates.counter in
    record {
      bytes = c.in_ok-push_update.ensures.bytes number (503 * counter) c.updates.invariant.state ∙ ap (λ (l : List ℕ). l ++ bytes_of (update_words number (503 * counter))) c.updates.invariant.bytes
          ∙ sym (updates-more number counter);
      state = c.in_ok-push_update.ensures.state number (503 * counter) c.updates.invariant.state ∙ ap (state_after number) (omega arith);
    }
