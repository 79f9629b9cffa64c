use Rattle.std.proofs.Common.{refl, ap, ◌∙◌}
use Rattle.uc_catalog.specs.Contents.{Contents}
use Rattle.session_parts.specs.Parts.{setting_of, state_of}
use Rattle.uc_session.proofs.Acting.{boot_read}
use Rattle.uc_session.proofs.boots.boot_off.Goals as goal

pub returns-in-Ok-clause-done : goal.returns-in-Ok-clause-done
returns-in-Ok-clause-done g c =
    boot_read (g.F.Pieces.tells c.args.files.now) (g.F.Files.holds c.args.files.now) (setting_of c.args.parts.now) c.args.names.now
    (record { state = state_of c.args.parts.now; files = g.F.Pieces.faults c.args.files.now })
    (record { state = state_of c.boot_from.new.parts; files = g.F.Pieces.faults c.read_files.new.files })
    c.boot_from.result c.in-Ok.catalog c.requires.off c.in-Ok.ensures.answer.0 c.in-Ok.ensures.answer.1 (c.in-Ok.ensures.keeps ∙ ap (λ (v : Contents). v.keeps) c.new.ensures) c.boot_from.result.answer refl
    c.boot_from.ensures.done
