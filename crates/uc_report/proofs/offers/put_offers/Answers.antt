use Rattle.std.proofs.Common.{◌≡◌, ℕ, ◌+◌, List, Option, None, Ok, Err, get_or, ap, ◌∙◌, subst, arith}
use Rattle.std.specs.List.{flat_map, range_with_len}
use Rattle.uc_io.specs.Writing.{Writes}
use Rattle.uc_io.specs.declared.sinks.SinkFailed.{SinkFailed}
use Rattle.uc_topology.specs.Stated.{Machine, group_of, core_at, group_facts}
use Rattle.uc_topology.specs.declared.tables.GroupFacts.{GroupFacts}
use Rattle.report_text.specs.Offers.{facts_of_group, line_of_offer}
use Rattle.entry_model.specs.declared.facts.EntryFacts.{EntryFacts}
use Rattle.uc_catalog.specs.Contents.{entry_at}
use Rattle.uc_report.proofs.Counted.{Writes-number, Writes-number-cut}
use Rattle.uc_report.proofs.offers.put_offers.Goals as goal

-- the line of a core, by its number
abbrev line_at : Machine → (ℕ → EntryFacts) → List (Option ℕ) → ℕ → List ℕ
line_at machine facts offers core =
    line_of_offer facts core (facts_of_group machine (group_of (core_at machine.stated.cores core))).rev (get_or offers (group_of (core_at machine.stated.cores core)) None)

-- what is written of a core is its line
line_is : (machine : Machine) (facts : ℕ → EntryFacts) (offers : List (Option ℕ)) (core group : ℕ) (shared : GroupFacts) → group ≡ group_of (core_at machine.stated.cores core) → shared ≡ group_facts machine.stated.cores group
    → line_of_offer facts core shared.rev (get_or offers group None) ≡ line_at machine facts offers core
line_is machine facts offers core group shared group_is shared_is =
    ap (λ (s : GroupFacts). line_of_offer facts core s.rev (get_or offers group None)) shared_is
    ∙ ap (λ (n : ℕ). line_of_offer facts core (facts_of_group machine n).rev (get_or offers n None)) group_is

pub facts-rev-requires : goal.facts-rev-requires
facts-rev-requires g c = c.group_of_core-group.ensures.within

pub bounds-offers-group : goal.bounds-offers-group
bounds-offers-group g c =
    omega (arith, c.group_of_core-group.ensures.within, c.requires.count)

pub returns-in_err-put_core : goal.returns-in_err-put_core
returns-in_err-put_core g c =
    let facts : ℕ → EntryFacts = λ n. (entry_at c.args.catalog.now n).facts in
    let line = line_is c.args.topology.now facts c.args.offers.now c.cores.core c.group_of_core-group.result c.facts-rev.result c.group_of_core-group.ensures.value c.facts-rev.ensures in
    subst (λ (n : ℕ). Writes g.S.Sink.stands g.S.Sink.faults c.args.out.now c.put_core.new.out (flat_map (line_at c.args.topology.now facts c.args.offers.now) (range_with_len 0 n)) c.from_residual.result) c.cores-core-end.ensures
    (Writes-number-cut g.S.Sink.stands g.S.Sink.faults c.args.out.now c.cores.out c.put_core.new.out (line_at c.args.topology.now facts c.args.offers.now) 0 c.cores.core c.cores.core (omega arith) c.cores-core-end.result c.in_err-put_core.field-0.0 c.from_residual.result c.cores-test.true c.from_residual.ensures.0 c.cores.invariant
    (subst (λ (text : List ℕ). Writes {E = SinkFailed} g.S.Sink.stands g.S.Sink.faults c.cores.out c.put_core.new.out text (Err c.in_err-put_core.field-0.0)) line c.in_err-put_core.ensures))

pub cores-preserved : goal.cores-preserved
cores-preserved g c =
    let facts : ℕ → EntryFacts = λ n. (entry_at c.args.catalog.now n).facts in
    let line = line_is c.args.topology.now facts c.args.offers.now c.cores.core c.group_of_core-group.result c.facts-rev.result c.group_of_core-group.ensures.value c.facts-rev.ensures in
    Writes-number {E = SinkFailed} g.S.Sink.stands g.S.Sink.faults c.args.out.now c.cores.out c.put_core.new.out (line_at c.args.topology.now facts c.args.offers.now) 0 c.cores.core c.cores.core (omega arith) (c.cores.core + 1) (omega arith) c.cores.invariant
    (subst (λ (text : List ℕ). Writes {E = SinkFailed} g.S.Sink.stands g.S.Sink.faults c.cores.out c.put_core.new.out text (Ok tt)) line c.in_ok-put_core.ensures)
