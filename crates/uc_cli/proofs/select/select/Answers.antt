use Rattle.std.proofs.Common.{ℕ, suc, ◌≡◌, List, ◌∷◌, Err, inl, inr, length, refl, subst}
use Rattle.status_rule.specs.declared.status.Status.TheVariants.{Done}
use Rattle.status_rule.proofs.Endings.{Ends-written, ended_cause}
use Rattle.tool_text.specs.entry_model.Entry.{Entry}
use Rattle.tool_text.specs.read_model.Reads.{Read, AreHeld, AllRead, NotRead, Refused}
use Rattle.tool_text.proofs.read_model.Outcomes.{held_cons}
use Rattle.tool_text.specs.report_text.Offers.{offers_text}
use Rattle.tool_text.specs.Commands.{SelectText, facts_at, entries_of_all}
use Rattle.tool_text.specs.Tool.{FromReads}
use Rattle.tool_laws.proofs.SomeText.{select_text, whether_told}
use Rattle.uc_cli.specs.Reading.{AreUpdatesRead}
use Rattle.uc_cli.specs.Selecting.{PutsOffers}
use Rattle.uc_cli.proofs.Groups.{puts_kept}
use Rattle.uc_cli.proofs.Endings.{done_written, files_refused, topology_refused}
use Rattle.uc_cli.proofs.select.select.Goals as goal

-- the reads behind the topology's are of files that tell what they told before
held_behind : (tells told : Type 0) (before holds : List ℕ → List ℕ) (topology bytes : List ℕ) (reads : List Read) → (tells → told) → before ≡ holds → (tells → bytes ≡ holds topology) → (told → AreHeld before reads) → tells
    → AreHeld holds (record { name = topology; bytes = bytes } ∷ reads)
held_behind tells told before holds topology bytes reads still same first behind tell =
    held_cons holds (record { name = topology; bytes = bytes }) reads (first tell) (subst (λ (h : List ℕ → List ℕ). AreHeld h reads) same (behind (still tell)))

pub returns-in-Err-clause-written : goal.returns-in-Err-clause-written
returns-in-Err-clause-written g c =
    let topology = c.args.topology.now in
    let names = c.args.names.now in
    let holds = g.F.Files.holds c.args.files.now in
    topology_refused g.S.Sink.stands g.S.Sink.faults _ _ (SelectText topology names) _ topology holds _ _ c.in-Err.refusal _ (λ reads files text status fails. inl fails) (select_text topology names holds) c.in-Err.ensures.answer
    c.refuse.ensures.ends

pub returns-in-Ok-read_updates-clause-written : goal.returns-in-Ok-read_updates-clause-written
returns-in-Ok-read_updates-clause-written g c =
    let topology = c.args.topology.now in
    let names = c.args.names.now in
    let tells = g.F.Pieces.tells c.args.files.now in
    let holds = g.F.Files.holds c.args.files.now in
    let stated = c.in-Ok.ensures.answer.1 in
    let of = c.in-Ok-read_updates.ensures.answer.1 in
    let keeps = c.in-Ok-read_updates.catalog.keeps in
    let puts = puts_kept keeps c.in-Ok.machine (entries_of_all of.readings) g.S.Sink.stands g.S.Sink.faults c.args.out.now c.put_selection.new.out c.put_selection.result
    (subst (λ (entries : List Entry). PutsOffers g.S.Sink.stands g.S.Sink.faults c.args.out.now c.put_selection.new.out c.in-Ok.machine entries c.put_selection.result) of.of.entries c.put_selection.ensures) in
    done_written g.S.Sink.stands g.S.Sink.faults _ _ (FromReads tells holds (SelectText topology names)) _ (offers_text c.in-Ok.machine (facts_at (entries_of_all of.readings)) puts.offers) _
    (record {
      reads = record { name = topology; bytes = stated.0 } ∷ of.reads;
      held = held_behind tells _ _ holds topology stated.0 of.reads c.in-Ok.ensures.still c.in-Ok.ensures.same stated.1 of.held;
      is_text = inr
          (record {
            bytes = stated.0;
            behind = of.reads;
            first = refl;
            machine = c.in-Ok.machine;
            is_machine = stated.2;
            outcome = AllRead of.readings;
            come = (of.in_order, of.accepted);
            count = refl;
            selected = record { offers = puts.offers; are_offers = puts.are_offers; lines = refl };
          });
    })
    (Ends-written g.S.Sink.stands g.S.Sink.faults _ _ _ Done _ _ puts.wrote c.after_write.ensures)

pub returns-in-Ok-read_updates-clause-write_cause : goal.returns-in-Ok-read_updates-clause-write_cause
returns-in-Ok-read_updates-clause-write_cause g c =
    ended_cause g.S.Sink.stands g.S.Sink.faults _ _ _ Done _ (λ e. cc) (Ends-written g.S.Sink.stands g.S.Sink.faults _ _ _ Done _ _ c.put_selection.ensures.wrote c.after_write.ensures)

pub returns-in-Err-read_updates-clause-written : goal.returns-in-Err-read_updates-clause-written
returns-in-Err-read_updates-clause-written g c =
    let topology = c.args.topology.now in
    let names = c.args.names.now in
    let tells = g.F.Pieces.tells c.args.files.now in
    let told = g.F.Pieces.tells c.read_machine.new.files in
    let holds = g.F.Files.holds c.args.files.now in
    let before = g.F.Files.holds c.read_machine.new.files in
    let machine = c.in-Ok.machine in
    let stated = c.in-Ok.ensures.answer.1 in
    let read = subst (λ (count : ℕ). AreUpdatesRead told names before count (g.F.Pieces.faults c.read_updates.new.files) (Err c.in-Err-read_updates.refusal)) c.in-Ok.ensures.answer.0 c.in-Err-read_updates.ensures.answer in
    let held = λ (reads : List Read). held_behind tells told before holds topology stated.0 reads c.in-Ok.ensures.still c.in-Ok.ensures.same stated.1 in
    files_refused g.S.Sink.stands g.S.Sink.faults _ _ (FromReads tells holds (SelectText topology names)) told names before _ _ c.in-Err-read_updates.refusal _ (whether_told holds (SelectText topology names) (select_text topology names holds))
    (λ name of. (
      suc (length of.reads),
      record {
        reads = record { name = topology; bytes = stated.0 } ∷ of.reads;
        held = held of.reads of.held;
        is_text = inr
            (record {
              bytes = stated.0;
              behind = of.reads;
              first = refl;
              machine = machine;
              is_machine = stated.2;
              outcome = NotRead name;
              come = of.come;
              count = refl;
              selected = refl;
            });
      },
    ))
    (λ name offset cause of.
    record {
      reads = record { name = topology; bytes = stated.0 } ∷ of.reads;
      held = held of.reads of.held;
      is_text = inr
          (record {
            bytes = stated.0;
            behind = of.reads;
            first = refl;
            machine = machine;
            is_machine = stated.2;
            outcome = Refused name offset cause;
            come = of.come;
            count = refl;
            selected = refl;
          });
    })
    read
    c.refuse-in-Err-read_updates.ensures.ends
