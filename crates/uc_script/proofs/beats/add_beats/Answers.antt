use Rattle.std.proofs.Common.{Result, Some, subst}
use Rattle.rendezvous_steps.specs.declared.ends.Beat.{Beat}
use Rattle.script_text.specs.declared.fault.ScriptCause.{ScriptCause}
use Rattle.uc_text.specs.Lines.{words_of}
use Rattle.uc_script.specs.Schedules.{IsNextBeat}
use Rattle.uc_script.proofs.Scheduled.{scheduled_beat}
use Rattle.uc_script.proofs.beats.add_beats.Goals as goal

pub loop-read-preserved-in-Continue-1 : goal.loop-read-preserved-in-Continue-1
loop-read-preserved-in-Continue-1 c =
    let found = subst (λ (read : Result Beat ScriptCause). IsNextBeat c.args.limits c.loop-read.words c.next_beat.new.words (Some read)) c.in-Ok.is c.in-Some.ensures in
    scheduled_beat c.args.limits (words_of c.args.line.now) c.args.beats.now c.loop-read.words found.0 c.next_beat.new.words c.loop-read.beats c.loop-read.events c.loop-read.spelled c.loop-read.in_range
    found.1 c.loop-read.invariant found.2.0 c.in-Ok.beat c.push.new.self c.events_of.result c.saturating_add.result found.2.1 found.2.2 found.2.3 c.in_ok-push-in-Ok.ensures.ok c.events_of.ensures c.saturating_add.ensures
