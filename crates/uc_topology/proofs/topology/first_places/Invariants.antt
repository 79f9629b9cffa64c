use Rattle.std.proofs.Common.{◌≡◌, map, nat_eq, length}
use Rattle.std.specs.List.{range_with_len, position_or_len}
use Rattle.uc_topology.proofs.topology.first_places.Given as goal

-- the places of the numbers so far
abbrev pub invariant-loop-number : goal.invariant-loop-number
invariant-loop-number l = record {
  size : length l.places.items ≡ l.number;
  places : l.places.items ≡ map (λ number. position_or_len (λ other. nat_eq other number) l.table) (range_with_len 0 l.number);
}
