use Rattle.std.proofs.Common.{ℕ, List, ◌*◌, ◌++◌, sym, ◌∙◌, ap, arith}
use Rattle.uc_gen.specs.Draws.{state_after}
use Rattle.uc_gen.specs.Bundle.{bytes_of}
use Rattle.uc_gen.specs.Containers.{container_words}
use Rattle.uc_gen.proofs.Drawing.{state_none}
use Rattle.uc_gen.proofs.Pieces.{containers-none, containers-more}
use Rattle.uc_gen.proofs.containers.make_amd.Goals as goal

pub containers-init : goal.containers-init
containers-init c = record {
  bytes = c.new-bytes.ensures.items ∙ sym (containers-none c.args.number);
  state = c.new-draws.ensures ∙ sym (state_none c.args.number);
}

pub containers-preserved : goal.containers-preserved
containers-preserved c =
    let number = c.args.number in
    let counter = c.containers.counter in
    record {
      bytes = c.in_ok-push_container.ensures.bytes number (5 * counter) c.containers.invariant.state ∙ ap (λ (l : List ℕ). l ++ bytes_of (container_words number (5 * counter))) c.containers.invariant.bytes
          ∙ sym (containers-more number counter);
      state = c.in_ok-push_container.ensures.state number (5 * counter) c.containers.invariant.state ∙ ap (state_after number) (omega arith);
    }
