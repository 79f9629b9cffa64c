use Rattle.std.proofs.Common.{sym, ap, ◌∙◌}
use Rattle.uc_catalog.specs.Contents.{Contents}
use Rattle.session_parts.specs.Parts.{setting_of, state_of}
use Rattle.uc_session.specs.Loads.{ready_of}
use Rattle.uc_session.proofs.Stopping.{sets_out, stops}
use Rattle.uc_session.proofs.setting_out.set_out.Goals as goal

pub returns-in-Ok-set_out_from-clause-answer : goal.returns-in-Ok-set_out_from-clause-answer
returns-in-Ok-set_out_from-clause-answer g c =
    sets_out (g.F.Pieces.tells c.args.files.now) (g.F.Files.holds c.args.files.now) (setting_of c.args.parts.now) c.args.force c.args.names.now
    (record { state = state_of c.args.parts.now; files = g.F.Pieces.faults c.args.files.now })
    (record { state = state_of c.set_out_from.new.parts; files = g.F.Pieces.faults c.read_files.new.files })
    (sym c.in_default.ensures) c.in-Ok.catalog c.in-Ok.ensures.answer.0 c.in-Ok.ensures.answer.1
    (c.in-Ok.ensures.keeps ∙ ap (λ (v : Contents). v.keeps) c.new.ensures)
    (setting_of c.set_out_from.new.parts) c.set_out_from.ensures.setting c.requires.standing c.tables_end.ensures
    (ready_of c.in-Ok.catalog c.set_out_from.new.tables) c.in-Ok-set_out_from.ensures.answer

pub returns-in-Err-clause-answer : goal.returns-in-Err-clause-answer
returns-in-Err-clause-answer g c =
    stops (g.F.Pieces.tells c.args.files.now) (g.F.Files.holds c.args.files.now) (setting_of c.args.parts.now) c.args.force c.args.names.now
    (record { state = state_of c.args.parts.now; files = g.F.Pieces.faults c.args.files.now })
    (record { state = state_of c.set_out_from.new.parts; files = g.F.Pieces.faults c.read_files.new.files })
    (sym c.in_default.ensures) c.in-Ok.catalog c.in-Ok.ensures.answer.0 c.in-Ok.ensures.answer.1
    (c.in-Ok.ensures.keeps ∙ ap (λ (v : Contents). v.keeps) c.new.ensures) c.in-Err.stop c.in-Err.ensures.answer.0
    c.in-Err.ensures.answer.1
