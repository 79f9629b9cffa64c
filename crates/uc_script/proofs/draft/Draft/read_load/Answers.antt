use Rattle.std.proofs.Common.{filter, length, ap, sym, ◌∙◌, subst, arith}
use Rattle.uc_text.specs.Lines.{counts}
use Rattle.script_text.specs.Stands.{Before}
use Rattle.uc_script.specs.Answers.{EndsLoad}
use Rattle.uc_script.specs.Schedules.{AddsShortLine}
use Rattle.uc_script.proofs.Lines.{end_goes_on, beats_go_on, beats_fail, none_left, unchanged, fails_anyhow}
use Rattle.uc_script.proofs.draft.Draft.read_load.Goals as goal

pub loop-load-preserved-in-Some-Ok : goal.loop-load-preserved-in-Some-Ok
loop-load-preserved-in-Some-Ok c =
    let taken = c.in-Ok.ensures.0 in
    let load = record c.loop-load.load { beats = c.add_event_lines.new.beats } in
    let same = taken.same c.args.self.now c.loop-load.load ∙ c.loop-load.invariant.same in
    let found = subst (AddsShortLine c.args.limits (filter counts c.add_event_lines.new.self) c.add_event_lines.new.beats (filter counts c.add_short_line.new.self) c.add_short_line.new.beats c.add_short_line.new.events) c.in-Some-Ok.field-0-is c.in-Some-Ok.ensures in
    record {
      same = beats_go_on c.args.limits c.args.self.now load found.0 _ c.args.load _ _ same found.1 _ found.2 found.3.0 found.3.1;
      kept = c.loop-load.invariant.kept;
      counted = found.3.2;
      fewer = omega (arith, c.loop-load.invariant.fewer, taken.fewer, ap length found.1);
    }

pub returns-in-Some-Err : goal.returns-in-Some-Err
returns-in-Some-Err c =
    let load = record c.loop-load.load { beats = c.add_event_lines.new.beats } in
    let same = c.in-Ok.ensures.0.same c.args.self.now c.loop-load.load ∙ c.loop-load.invariant.same in
    let found = subst (AddsShortLine c.args.limits (filter counts c.add_event_lines.new.self) c.add_event_lines.new.beats (filter counts c.add_short_line.new.self) c.add_short_line.new.beats c.add_short_line.new.events) c.in-Some-Err.field-0-is c.in-Some-Err.ensures in
    fails_anyhow c.args.limits _ c.args.self.now c.args.self.now _ found.1 (filter counts c.add_short_line.new.self) c.in-Some-Err.answer
    (beats_fail c.args.limits c.args.self.now load found.0 found.1 c.args.load _ _ same found.3 c.args.self.now c.add_short_line.new.beats c.add_short_line.new.events found.2 c.in-Some-Err.answer found.4 found.5 found.6)

pub returns-in_default : goal.returns-in_default
returns-in_default c =
    let load = record c.loop-load.load { beats = c.add_event_lines.new.beats } in
    let taken = c.in-Ok.ensures.0.same c.args.self.now c.loop-load.load ∙ c.loop-load.invariant.same in
    let same = unchanged c.args.limits c.args.self.now load c.args.load c.add_short_line.new.beats c.add_event_lines.new.self c.add_short_line.new.self _ taken c.in-None.ensures.0 c.in-None.ensures.1 in
    none_left c.args.limits c.args.self.now (record load { beats = c.add_short_line.new.beats }) c.args.load _ _ (filter counts c.next_counted.new.self) c.args.self.now c.fault_at.result same c.in_default.ensures.0 c.fault_at.ensures

pub returns-then-is_end : goal.returns-then-is_end
returns-then-is_end c =
    let first = record c.loop-load.load { beats = c.add_event_lines.new.beats } in
    let load = record first { beats = c.add_short_line.new.beats } in
    let taken = c.in-Ok.ensures.0.same c.args.self.now c.loop-load.load ∙ c.loop-load.invariant.same in
    let same = unchanged c.args.limits c.args.self.now first c.args.load c.add_short_line.new.beats c.add_event_lines.new.self c.add_short_line.new.self _ taken c.in-None.ensures.0 c.in-None.ensures.1 in
    end_goes_on c.args.limits c.args.self.now load (c.in-Some.line.number, c.in-Some.line.text.now) _ c.args.load _ _ same c.in-Some.ensures _ _
    (omega (arith, c.loop-load.invariant.fewer, c.in-Ok.ensures.0.fewer, ap (λ lines. length (filter counts lines)) c.in-None.ensures.0))
    (sym c.is_end.ensures ∙ c.if-is_end.true)
    (subst (λ (b : Before). EndsLoad b load c.end_load.new.self c.end_load.result) c.loop-load.invariant.kept c.end_load.ensures)

pub loop-load-preserved : goal.loop-load-preserved
loop-load-preserved c =
    let first = record c.loop-load.load { beats = c.add_event_lines.new.beats } in
    let load = record first { beats = c.add_short_line.new.beats } in
    let taken = c.in-Ok.ensures.0.same c.args.self.now c.loop-load.load ∙ c.loop-load.invariant.same in
    let same = unchanged c.args.limits c.args.self.now first c.args.load c.add_short_line.new.beats c.add_event_lines.new.self c.add_short_line.new.self _ taken c.in-None.ensures.0 c.in-None.ensures.1 in
    let split = c.in-Some.ensures in
    record {
      same = beats_go_on c.args.limits c.args.self.now load (c.in-Some.line.number, c.in-Some.line.text.now) _ c.args.load _ _ same split _
          (sym c.is_end.ensures ∙ c.if-is_end.false) c.in-Ok-add_beats.ensures.0 c.in-Ok-add_beats.ensures.1;
      kept = c.loop-load.invariant.kept;
      counted = c.in-Ok-add_beats.ensures.2;
      fewer = omega (arith, c.loop-load.invariant.fewer, c.in-Ok.ensures.0.fewer, ap length split, ap (λ lines. length (filter counts lines)) c.in-None.ensures.0);
    }

pub returns-in-Err-add_beats : goal.returns-in-Err-add_beats
returns-in-Err-add_beats c =
    let first = record c.loop-load.load { beats = c.add_event_lines.new.beats } in
    let load = record first { beats = c.add_short_line.new.beats } in
    let taken = c.in-Ok.ensures.0.same c.args.self.now c.loop-load.load ∙ c.loop-load.invariant.same in
    let same = unchanged c.args.limits c.args.self.now first c.args.load c.add_short_line.new.beats c.add_event_lines.new.self c.add_short_line.new.self _ taken c.in-None.ensures.0 c.in-None.ensures.1 in
    beats_fail c.args.limits c.args.self.now load (c.in-Some.line.number, c.in-Some.line.text.now) _ c.args.load _ _ same c.in-Some.ensures c.args.self.now c.add_beats.new.beats c.add_beats.new.events c.in-Err-add_beats.answer c.at.result
    (sym c.is_end.ensures ∙ c.if-is_end.false) c.in-Err-add_beats.ensures c.at.ensures
