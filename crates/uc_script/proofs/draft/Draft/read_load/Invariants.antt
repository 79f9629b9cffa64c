use Rattle.std.proofs.Common.{◌≡◌, ◌≤◌, filter, length}
use Rattle.uc_text.specs.Lines.{counts}
use Rattle.script_text.specs.declared.forms.Place.TheVariants.{InLoad}
use Rattle.script_text.specs.Reading.{read_on}
use Rattle.uc_script.specs.Schedules.{Counted}
use Rattle.uc_script.proofs.draft.Draft.read_load.Given as goal

-- the lines that are left are read on as all of them are
abbrev pub invariant-loop-load : goal.invariant-loop-load
invariant-loop-load l = record {
  same : read_on l.limits (record l.initial.self { place = InLoad; load = l.load }) (filter counts l.lines)
      ≡ read_on l.limits (record l.initial.self { place = InLoad; load = l.initial.load }) (filter counts l.initial.lines);
  kept : l.self ≡ l.initial.self;
  counted : Counted l.limits l.load.beats l.events;
  fewer : length (filter counts l.lines) ≤ length (filter counts l.initial.lines);
}

abbrev pub decreases-loop-load : goal.decreases-loop-load
decreases-loop-load l = length (filter counts l.lines)
