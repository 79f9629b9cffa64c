use Rattle.std.proofs.Common.{◌≡◌, ℕ, ◌+◌, List, Ok, Err, length, ◌∙◌, ap, subst, arith}
use Rattle.std.specs.List.{flat_map, range_with_len}
use Rattle.uc_io.specs.Writing.{Writes}
use Rattle.uc_io.specs.declared.sinks.SinkFailed.{SinkFailed}
use Rattle.uc_report.proofs.Counted.{Writes-number, Writes-number-cut}
use Rattle.ctl_words.specs.Plans.{plan_of}
use Rattle.session_report.proofs.LoadTexts.{are_revisions, offer_at, offer_is, all_offers}
use Rattle.session_report.proofs.loads.put_load_offers.Goals as goal

pub bounds-offers-group : goal.bounds-offers-group
bounds-offers-group g c =
    omega (arith, c.group_of_core-group.ensures.within, c.requires.count)

pub returns-in_err-put_offered : goal.returns-in_err-put_offered
returns-in_err-put_offered g c = λ setting state puts offered is_machine is_plan.
    let machine = c.args.topology.now in
    let rev = state.hardware.rev in
    let revisions = are_revisions setting state puts offered machine (plan_of c.args.plan.now) is_machine is_plan in
    let line = offer_at machine rev c.args.catalog.now.entries c.args.offers.now in
    let here = offer_is machine rev c.args.catalog.now.entries c.args.offers.now c.cores.core c.group_of_core-group.result c.rev0_of-rev.result c.group_of_core-group.ensures.value
    (c.rev0_of-rev.ensures ∙ revisions c.group_of_core-group.result c.group_of_core-group.ensures.within) in
    subst (λ (text : List ℕ). Writes g.S.Sink.stands g.S.Sink.faults c.args.out.now c.put_offered.new.out text c.from_residual.result)
    (ap (λ (n : ℕ). flat_map line (range_with_len 0 n)) c.cores-core-end.ensures ∙ all_offers setting state machine c.args.catalog.now.entries c.args.offers.now is_machine)
    (Writes-number-cut g.S.Sink.stands g.S.Sink.faults c.args.out.now c.cores.out c.put_offered.new.out line 0 c.cores.core c.cores.core (omega arith) c.cores-core-end.result c.in_err-put_offered.field-0.0 c.from_residual.result c.cores-test.true c.from_residual.ensures.0 (c.cores.invariant rev revisions)
    (subst (λ (text : List ℕ). Writes {E = SinkFailed} g.S.Sink.stands g.S.Sink.faults c.cores.out c.put_offered.new.out text (Err c.in_err-put_offered.field-0.0)) here c.in_err-put_offered.ensures))

pub cores-preserved : goal.cores-preserved
cores-preserved g c = λ rev revisions.
    let machine = c.args.topology.now in
    let line = offer_at machine rev c.args.catalog.now.entries c.args.offers.now in
    let here = offer_is machine rev c.args.catalog.now.entries c.args.offers.now c.cores.core c.group_of_core-group.result c.rev0_of-rev.result c.group_of_core-group.ensures.value
    (c.rev0_of-rev.ensures ∙ revisions c.group_of_core-group.result c.group_of_core-group.ensures.within) in
    Writes-number {E = SinkFailed} g.S.Sink.stands g.S.Sink.faults c.args.out.now c.cores.out c.put_offered.new.out line 0 c.cores.core c.cores.core (omega arith) (c.cores.core + 1) (omega arith) (c.cores.invariant rev revisions)
    (subst (λ (text : List ℕ). Writes {E = SinkFailed} g.S.Sink.stands g.S.Sink.faults c.cores.out c.put_offered.new.out text (Ok tt)) here c.in_ok-put_offered.ensures)

pub returns : goal.returns
returns g c = λ setting state puts offered is_machine is_plan.
    let machine = c.args.topology.now in
    let rev = state.hardware.rev in
    let line = offer_at machine rev c.args.catalog.now.entries c.args.offers.now in
    let whole : c.cores.core ≡ length machine.stated.cores = omega (arith, c.cores-test.false, c.cores.auto.core-end, c.cores-core-end.ensures) in
    subst (λ (text : List ℕ). Writes {E = SinkFailed} g.S.Sink.stands g.S.Sink.faults c.args.out.now c.cores.out text (Ok tt))
    (ap (λ (n : ℕ). flat_map line (range_with_len 0 n)) whole ∙ all_offers setting state machine c.args.catalog.now.entries c.args.offers.now is_machine)
    (c.cores.invariant rev (are_revisions setting state puts offered machine (plan_of c.args.plan.now) is_machine is_plan))
