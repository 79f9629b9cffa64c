use Rattle.std.proofs.Common.{◌<◌, arith}
use Rattle.uc_script.proofs.EventLines.{counted_one, reads_line, shorter}
use Rattle.uc_script.proofs.rest.Rest.add_event_lines.Goals as goal

pub loop-events-preserved : goal.loop-events-preserved
loop-events-preserved c =
    let found = c.in-Some.ensures in
    let pushed = c.in_ok-push.ensures.ok in
    let few : c.loop-events.events < 4194304 = omega arith in
    let less = shorter c.args.limits c.loop-events.beats c.loop-events.events c.in-Some.first.event c.push.new.self c.loop-events.invariant.counted few pushed c.loop-events.text.now c.in-Some.first.rest.now found in
    record {
      reads = reads_line c.args.limits c.loop-events.beats c.loop-events.events c.in-Some.first.event c.push.new.self c.loop-events.invariant.counted few pushed c.loop-events.text.now c.in-Some.first.rest.now found
          _ c.args.beats.now c.loop-events.number c.loop-events.invariant.reads;
      counted = counted_one c.args.limits c.loop-events.beats c.loop-events.events c.in-Some.first.event c.push.new.self c.loop-events.invariant.counted few pushed c.loop-events.text.now c.in-Some.first.rest.now found;
      within = omega (arith, c.loop-events.invariant.within, less);
    }
