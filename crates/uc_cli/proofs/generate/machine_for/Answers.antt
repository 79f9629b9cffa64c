use Rattle.std.proofs.Common.{◌≤◌, ℕ, List, length, sym, ◌∙◌, subst}
use Rattle.uc_topology.specs.Texts.{States, FirstFault}
use Rattle.uc_topology.proofs.Laws.{one_machine, never_both}
use Rattle.uc_gen.specs.Texts.{topology_text}
use Rattle.gen_laws.specs.Stated.{machine_of}
use Rattle.uc_cli.proofs.generate.machine_for.Goals as goal

pub read_topology-requires : goal.read_topology-requires
read_topology-requires c =
    subst (λ (text : List ℕ). length text ≤ 1048576) (sym (c.as_slice.ensures.value ∙ c.in_ok-text.ensures))
    (c.generated_texts_are_short.ensures.topology c.args.number)

pub unreachable-requires : goal.unreachable-requires
unreachable-requires c =
    never_both (topology_text c.args.number) (machine_of c.args.number) c.in-Err.field-0 (c.generated_topology_is_read.ensures c.args.number)
    (subst (λ (text : List ℕ). FirstFault text c.in-Err.field-0) (c.as_slice.ensures.value ∙ c.in_ok-text.ensures) c.in-Err.ensures.fault)

pub returns : goal.returns
returns c =
    one_machine (topology_text c.args.number) c.in-Ok.machine (machine_of c.args.number)
    (subst (λ (text : List ℕ). States text c.in-Ok.machine) (c.as_slice.ensures.value ∙ c.in_ok-text.ensures) c.in-Ok.ensures.stated)
    (c.generated_topology_is_read.ensures c.args.number)
