use Rattle.std.proofs.Common.{◌≡◌, ℕ, List, [], ◌∷◌, ◌++◌, length, map, Option, Some, sym, ◌∙◌, ap, arith}
use Rattle.std.specs.List.{range_with_len}
use Rattle.std.proofs.lemmas.List.FromFn.{length-map-range_with_len, map-range_with_len_more}
use Rattle.uc_topology.specs.declared.tables.GroupFacts.{GroupFacts}
use Rattle.entry_model.specs.declared.facts.CoreFacts.{CoreFacts}
use Rattle.report_text.specs.Offers.{facts_of_group}
use Rattle.session_parts.specs.Facts.{facts_at}
use Rattle.session_parts.proofs.firmware.firmware_cores.Goals as goal

pub push-requires : goal.push-requires
push-requires c =
    let f : ℕ → Option CoreFacts = λ group. Some (facts_of_group c.args.topology.now group) in
    let count : length c.cores.cores.items ≡ c.cores.group = ap length c.cores.invariant.so_far
    ∙ length-map-range_with_len f 0 c.cores.group in (
      omega arith,
      omega (
        arith,
        count,
        c.cores-test.true,
        c.groups-group-end.ensures.value,
        c.groups-group-end.ensures.few,
      ),
    )

pub cores-preserved : goal.cores-preserved
cores-preserved c =
    let machine = c.args.topology.now in
    let f : ℕ → Option CoreFacts = λ group. Some (facts_of_group machine group) in
    let here : c.core_facts.result ≡ facts_of_group machine c.cores.group =
    c.core_facts.ensures ∙ ap (λ (facts : GroupFacts). facts_at machine c.cores.group facts.rev) c.facts-rev.ensures in
    record {
      within = omega (arith, c.cores-test.true, c.groups-group-end.ensures.value);
      so_far = c.push.ensures.items ∙ ap (λ (l : List (Option CoreFacts)). l ++ Some c.core_facts.result ∷ [])
          c.cores.invariant.so_far
          ∙ ap (λ (x : CoreFacts). map f (range_with_len 0 c.cores.group) ++ Some x ∷ []) here
          ∙ sym (map-range_with_len_more f 0 c.cores.group c.cores.group (omega arith));
    }
