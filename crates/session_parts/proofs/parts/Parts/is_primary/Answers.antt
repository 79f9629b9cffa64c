use Rattle.std.proofs.Common.{◌≡◌, Bool, true, false, ap, sym, ◌∙◌}
use Rattle.std.specs.Prelude.{◌==◌, ◌&&◌}
use Rattle.std.proofs.lemmas.Bool.{eq-eqb, ne_eqb}
use Rattle.machine_steps.specs.Hardware.{Setting}
use Rattle.uc_topology.specs.Stated.{primary}
use Rattle.session_steps.specs.State.{machine_of, takes_part}
use Rattle.session_parts.specs.Parts.{setting_of, state_of}
use Rattle.session_parts.proofs.parts.Parts.is_primary.Goals as goal

pub returns-then-t-primary_of : goal.returns-then-t-primary_of
returns-then-t-primary_of c =
    let setting = setting_of c.args.self.now in
    let state = state_of c.args.self.now in
    let group : c.group_of-group.result ≡ (machine_of setting).group c.args.t = c.group_of-group.ensures.value
    ∙ ap (λ (s : Setting). s.group c.args.t) c.args.self.now.states in
    let first : (c.args.t == primary setting.machine.stated ((machine_of setting).group c.args.t)) ≡ true =
    eq-eqb _ _ (c.if-t-primary_of.true ∙ c.primary_of.ensures ∙ ap (primary setting.machine.stated) group) in
    c.takes_part.ensures ∙ ap (takes_part setting state) group
    ∙ sym (ap (λ (b : Bool). b && takes_part setting state ((machine_of setting).group c.args.t)) first)

pub returns-else-t-primary_of : goal.returns-else-t-primary_of
returns-else-t-primary_of c =
    let setting = setting_of c.args.self.now in
    let state = state_of c.args.self.now in
    let group : c.group_of-group.result ≡ (machine_of setting).group c.args.t = c.group_of-group.ensures.value
    ∙ ap (λ (s : Setting). s.group c.args.t) c.args.self.now.states in
    let at : c.primary_of.result ≡ primary setting.machine.stated ((machine_of setting).group c.args.t) =
    c.primary_of.ensures ∙ ap (primary setting.machine.stated) group in
    let first : (c.args.t == primary setting.machine.stated ((machine_of setting).group c.args.t)) ≡ false =
    ne_eqb _ _ (λ same. c.if-t-primary_of.false (same ∙ sym at)) in
    ne_eqb c.args.t c.primary_of.result c.if-t-primary_of.false
    ∙ sym (ap (λ (b : Bool). b && takes_part setting state ((machine_of setting).group c.args.t)) first)
