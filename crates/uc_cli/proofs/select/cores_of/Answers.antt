use Rattle.std.proofs.Common.{◌≡◌, ℕ, List, [], ◌∷◌, ◌++◌, length, map, Option, Some, sym, ◌∙◌, ap, arith}
use Rattle.std.specs.List.{range_with_len}
use Rattle.std.proofs.lemmas.List.FromFn.{length-map-range_with_len, map-range_with_len_more}
use Rattle.tool_text.specs.entry_model.declared.facts.CoreFacts.{CoreFacts}
use Rattle.tool_text.specs.report_text.Offers.{facts_of_group}
use Rattle.uc_cli.proofs.select.cores_of.Goals as goal

pub push-requires : goal.push-requires
push-requires c =
    let f : ℕ → Option CoreFacts = λ group. Some (facts_of_group c.args.topology.now group) in
    let count : length c.cores.cores.items ≡ c.cores.group = ap length c.cores.invariant.so_far ∙ length-map-range_with_len f 0 c.cores.group in
    (omega arith, omega (arith, count, c.cores-test.true, c.groups-group-end.ensures.value, c.groups-group-end.ensures.few))

pub cores-preserved : goal.cores-preserved
cores-preserved c =
    let machine = c.args.topology.now in
    let f : ℕ → Option CoreFacts = λ group. Some (facts_of_group machine group) in
    let here : Some (record { vendor = c.vendor-vendor.result; sig = c.facts-facts.result.sig; flags = c.facts-facts.result.flags; rev = c.facts-facts.result.rev }) ≡ f c.cores.group =
    λ i. Some (record { vendor = c.vendor-vendor.ensures i; sig = (c.facts-facts.ensures i).sig; flags = (c.facts-facts.ensures i).flags; rev = (c.facts-facts.ensures i).rev }) in
    record {
      within = omega (arith, c.cores-test.true, c.groups-group-end.ensures.value);
      so_far = c.push.ensures.items ∙ ap (λ (l : List (Option CoreFacts)). l ++ Some (record { vendor = c.vendor-vendor.result; sig = c.facts-facts.result.sig; flags = c.facts-facts.result.flags; rev = c.facts-facts.result.rev }) ∷ []) c.cores.invariant.so_far
          ∙ ap (λ (x : Option CoreFacts). map f (range_with_len 0 c.cores.group) ++ x ∷ []) here ∙ sym (map-range_with_len_more f 0 c.cores.group c.cores.group (omega arith));
    }
