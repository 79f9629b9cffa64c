use Rattle.std.proofs.Common.{◌≡◌, sym, subst}
use Rattle.uc_bytes.specs.declared.causes.Vendor.{Vendor}
use Rattle.report_text.specs.Listing.{line_by}
use Rattle.uc_report.proofs.lines.compose_entry.Goals as goal

-- the text of the update's date is the one that the caller has
pub returns-in-Intel : goal.returns-in-Intel
returns-in-Intel c = λ date_text are.
    subst (λ (v : Vendor). c.compose_update.new.line ≡ line_by v date_text c.args.number c.args.facts.now) (sym c.in-Intel.is)
    (c.compose_update.ensures (date_text c.args.facts.now.date) (are c.args.facts.now.date))

pub returns-in-Amd : goal.returns-in-Amd
returns-in-Amd c = λ date_text are.
    subst (λ (v : Vendor). c.compose_patch.new.line ≡ line_by v date_text c.args.number c.args.facts.now) (sym c.in-Amd.is) c.compose_patch.ensures
