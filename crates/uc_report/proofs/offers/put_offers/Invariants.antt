use Rattle.std.proofs.Common.{Ok, None, get_or}
use Rattle.std.specs.List.{flat_map, range_with_len}
use Rattle.uc_io.specs.Writing.{Writes}
use Rattle.uc_io.specs.declared.sinks.SinkFailed.{SinkFailed}
use Rattle.uc_topology.specs.Stated.{group_of, core_at}
use Rattle.report_text.specs.Offers.{facts_of_group, line_of_offer}
use Rattle.uc_catalog.specs.Contents.{entry_at}
use Rattle.uc_report.proofs.offers.put_offers.Given as goal

abbrev pub invariant-cores : goal.invariant-cores
invariant-cores g l =
    Writes {E = SinkFailed} g.S.Sink.stands g.S.Sink.faults l.fn.out l.out
    (flat_map
    (λ core. line_of_offer (λ n. (entry_at l.catalog n).facts) core (facts_of_group l.topology (group_of (core_at l.topology.stated.cores core))).rev (get_or l.offers (group_of (core_at l.topology.stated.cores core)) None))
    (range_with_len 0 l.core))
    (Ok tt)
