use Rattle.std.proofs.Common.{ℕ, List, Option, Ok, Err, subst}
use Rattle.std.proofs.lemmas.Result.{err_from_is_err_and}
use Rattle.uc_io.specs.declared.sinks.SinkFailed.{SinkFailed}
use Rattle.uc_io.specs.Writing.{Writes}
use Rattle.ctl_words.specs.Plans.{plan_of}
use Rattle.uc_rendezvous.specs.Outcomes.{came_to}
use Rattle.session_steps.specs.Offers.{load_offers_text}
use Rattle.uc_session.proofs.Meeting.{not_offered, they_met}
use Rattle.uc_session.proofs.loads.offer_and_run.Goals as goal

pub returns-in_err-put_load_offers-clause-meets : goal.returns-in_err-put_load_offers-clause-meets
returns-in_err-put_load_offers-clause-meets g c = λ setting state puts is_machine is_plan.
    let failed = err_from_is_err_and c.from_residual.result c.from_residual.ensures.1 in
    let plan = plan_of c.args.tables.now.plan in
    let entries = c.args.catalog.now.entries in
    rw (failed.1, failed.2)
    (not_offered (record { stands = g.S.Sink.stands; faults = g.S.Sink.faults; lists = g.R.Rendezvous.lists }) plan c.args.beats.now
    (load_offers_text setting state entries c.args.tables.now.offers.items) {E = SinkFailed} _ c.args.out.now c.put_load_offers.new.out
    (g.met.R.Rendezvous.always_runs plan c.args.beats.now c.requires.sound.sound (c.tables_end.ensures c.args.tables.now.plan c.requires.sound))
    (subst (λ (offers : List (Option ℕ)). Writes {E = SinkFailed} g.S.Sink.stands g.S.Sink.faults c.args.out.now c.put_load_offers.new.out (load_offers_text setting state entries offers) (Err _))
    c.as_slice.ensures.value (c.in_err-put_load_offers.ensures setting state puts c.args.tables.now.offers.items is_machine is_plan)))

pub returns-clause-meets : goal.returns-clause-meets
returns-clause-meets g c = λ setting state puts is_machine is_plan.
    let plan = plan_of c.args.tables.now.plan in
    let entries = c.args.catalog.now.entries in
    they_met (record { stands = g.S.Sink.stands; faults = g.S.Sink.faults; lists = g.R.Rendezvous.lists }) plan c.args.beats.now
    (load_offers_text setting state entries c.args.tables.now.offers.items) {E = SinkFailed}
    (record { runs = g.R.Rendezvous.runs c.args.how.now; sink = c.args.out.now })
    (record { runs = g.R.Rendezvous.runs c.run.new.self; sink = c.run.new.out }) c.put_load_offers.new.out (came_to c.run.new.outcome c.run.result)
    (g.met.R.Rendezvous.always_runs plan c.args.beats.now c.requires.sound.sound (c.tables_end.ensures c.args.tables.now.plan c.requires.sound))
    (subst (λ (offers : List (Option ℕ)). Writes {E = SinkFailed} g.S.Sink.stands g.S.Sink.faults c.args.out.now c.put_load_offers.new.out (load_offers_text setting state entries offers) (Ok tt))
    c.as_slice.ensures.value (c.in_ok-put_load_offers.ensures setting state puts c.args.tables.now.offers.items is_machine is_plan))
    c.run.ensures.answer
