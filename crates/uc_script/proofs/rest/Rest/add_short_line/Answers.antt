use Rattle.std.proofs.Common.{filter, sym, ◌∙◌, ap, subst}
use Rattle.uc_text.specs.Lines.{counts}
use Rattle.uc_script.specs.FirstLine.{first_line}
use Rattle.uc_script.specs.Schedules.{AddsLine}
use Rattle.uc_script.proofs.FirstLines.{counted-parts, counted-first}
use Rattle.uc_script.proofs.rest.Rest.add_short_line.Goals as goal

pub returns-in-Ok : goal.returns-in-Ok
returns-in-Ok c =
    let found = subst (AddsLine c.args.limits c.self.inside.text.now c.args.beats.now c.add_line.new.beats c.add_line.new.events) c.in-Ok.is c.in_ok-text.ensures in (
      (c.self.inside.number, first_line c.self.inside.text.now),
      ap (filter counts) (sym c.self.view_is) ∙ counted-parts c.self.inside.number c.self.inside.text.now c.in-Ok.text.now found.0 found.2,
      found.0.no_end,
      found.1,
    )

pub returns-in-Err : goal.returns-in-Err
returns-in-Err c =
    let found = subst (AddsLine c.args.limits c.self.inside.text.now c.args.beats.now c.add_line.new.beats c.add_line.new.events) c.in-Err.is c.in_ok-text.ensures in (
      (c.self.inside.number, first_line c.self.inside.text.now),
      _,
      c.in-Err.answer,
      ap (filter counts) (sym c.self.view_is) ∙ counted-first c.self.inside.number c.self.inside.text.now found.0,
      found.0.no_end,
      found.1,
      c.at.ensures,
    )
