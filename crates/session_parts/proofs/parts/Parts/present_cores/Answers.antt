use Rattle.std.proofs.Common.{◌≡◌, ℕ, List, [], ◌∷◌, ◌++◌, length, map, Option, sym, ◌∙◌, ap, arith}
use Rattle.std.specs.List.{range_with_len}
use Rattle.std.proofs.lemmas.List.FromFn.{length-map-range_with_len, map-range_with_len_more}
use Rattle.entry_model.specs.declared.facts.CoreFacts.{CoreFacts}
use Rattle.session_steps.specs.State.{takes_part}
use Rattle.session_steps.specs.Offers.{facts_now}
use Rattle.session_parts.specs.Parts.{setting_of, state_of}
use Rattle.session_parts.specs.Loads.{core_where}
use Rattle.session_parts.proofs.parts.Parts.present_cores.Goals as goal

pub push-requires : goal.push-requires
push-requires c =
    let core : ℕ → Option CoreFacts = λ g. core_where
    (takes_part (setting_of c.args.self.now) (state_of c.args.self.now) g)
    (facts_now (setting_of c.args.self.now) (state_of c.args.self.now) g) in
    let count : length c.groups.cores.items ≡ c.groups.g = ap length c.groups.invariant.so_far
    ∙ length-map-range_with_len core 0 c.groups.g in
    (omega arith, omega (arith, count, c.groups-test.true, c.groups-g-end.ensures.value, c.groups-g-end.ensures.few))

pub groups-preserved : goal.groups-preserved
groups-preserved c =
    let core : ℕ → Option CoreFacts = λ g. core_where
    (takes_part (setting_of c.args.self.now) (state_of c.args.self.now) g)
    (facts_now (setting_of c.args.self.now) (state_of c.args.self.now) g) in
    record {
      within = omega (arith, c.groups-test.true, c.groups-g-end.ensures.value);
      so_far = c.push.ensures.items ∙ ap (λ (l : List (Option CoreFacts)). l ++ c.present_core.result ∷ [])
          c.groups.invariant.so_far
          ∙ ap (λ (x : Option CoreFacts). map core (range_with_len 0 c.groups.g) ++ x ∷ []) c.present_core.ensures
          ∙ sym (map-range_with_len_more core 0 c.groups.g c.groups.g (omega arith));
    }
