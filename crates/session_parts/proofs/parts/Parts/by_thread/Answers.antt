use Rattle.std.proofs.Common.{ap, ◌∙◌, arith}
use Rattle.machine_steps.specs.Hardware.{Setting}
use Rattle.session_steps.specs.State.{machine_of}
use Rattle.session_steps.specs.Offers.{kind_of}
use Rattle.session_parts.specs.Parts.{setting_of, state_of}
use Rattle.session_parts.proofs.Tables.{map_length}
use Rattle.session_parts.proofs.PlanIs.{threads_more}
use Rattle.session_parts.proofs.parts.Parts.by_thread.Goals as goal

pub push-requires : goal.push-requires
push-requires c =
    let count = map_length (λ t. kind_of ((state_of c.args.self.now).hardware.thread t)) c.threads.t
    c.threads.kind.items c.threads.invariant.so_far.kinds_are in (
      omega arith,
      omega (
        arith,
        count,
        c.threads-test.true,
        c.threads-t-end.ensures.value,
        c.threads-t-end.ensures.partition.groups.threads_fit,
      ),
    )

pub push-requires-in-threads : goal.push-requires-in-threads
push-requires-in-threads c =
    let count = map_length (machine_of (setting_of c.args.self.now)).group c.threads.t c.threads.group.items
    c.threads.invariant.so_far.groups_are in (
      omega arith,
      omega (
        arith,
        count,
        c.threads-test.true,
        c.threads-t-end.ensures.value,
        c.threads-t-end.ensures.partition.groups.threads_fit,
      ),
    )

pub threads-preserved : goal.threads-preserved
threads-preserved c = record {
  within = omega (arith, c.threads-test.true, c.threads-t-end.ensures.value);
  so_far =
      threads_more (setting_of c.args.self.now)
      (state_of c.args.self.now) c.threads.t c.threads.kind.items c.push.new.self.items c.threads.group.items
      c.push-in-threads.new.self.items c.kind.result c.group_of.result c.threads.invariant.so_far
      c.push.ensures.items c.push-in-threads.ensures.items c.kind.ensures (c.group_of.ensures.value
      ∙ ap (λ (s : Setting). s.group c.threads.t) c.args.self.now.states);
}
