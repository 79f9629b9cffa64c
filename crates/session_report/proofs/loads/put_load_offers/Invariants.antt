use Rattle.std.proofs.Common.{ℕ, Ok}
use Rattle.std.specs.List.{flat_map, range_with_len}
use Rattle.uc_io.specs.Writing.{Writes}
use Rattle.uc_io.specs.declared.sinks.SinkFailed.{SinkFailed}
use Rattle.ctl_words.specs.Plans.{plan_of}
use Rattle.session_report.proofs.LoadTexts.{AreRevisions, offer_at}
use Rattle.session_report.proofs.loads.put_load_offers.Given as goal

abbrev pub invariant-cores : goal.invariant-cores
invariant-cores g l =
    (rev : ℕ → ℕ) → AreRevisions l.topology (plan_of l.plan) rev →
    Writes {E = SinkFailed} g.S.Sink.stands g.S.Sink.faults l.fn.out l.out (flat_map (offer_at l.topology rev l.catalog.entries l.offers) (range_with_len 0 l.core)) (Ok tt)
