use Rattle.std.proofs.Common.{◌≡◌, ◌≤◌, map}
use Rattle.std.specs.List.{range_with_len}
use Rattle.uc_topology.specs.Stated.{group_count}
use Rattle.session_steps.specs.State.{takes_part}
use Rattle.session_steps.specs.Offers.{facts_now}
use Rattle.session_parts.specs.Parts.{setting_of, state_of}
use Rattle.session_parts.specs.Loads.{core_where}
use Rattle.session_parts.proofs.parts.Parts.present_cores.Given as goal

abbrev pub invariant-groups : goal.invariant-groups
invariant-groups l = record {
  within : l.g ≤ group_count (setting_of l.self).machine.stated.cores;
  so_far : l.cores.items ≡ map (λ g. core_where (takes_part (setting_of l.self) (state_of l.self) g)
      (facts_now (setting_of l.self) (state_of l.self) g)) (range_with_len 0 l.g);
}
