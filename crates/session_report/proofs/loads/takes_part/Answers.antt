use Rattle.std.proofs.Common.{◌≡◌, ◌<◌, false, length, sym, arith}
use Rattle.std.specs.Prelude.{slice_index}
use Rattle.rendezvous_steps.specs.Plan.{is_absent}
use Rattle.ctl_words.specs.Plans.{plan_of}
use Rattle.session_report.proofs.LoadTexts.{some_part, no_part}
use Rattle.session_report.proofs.loads.takes_part.Goals as goal

pub returns-then-not-is_absent : goal.returns-then-not-is_absent
returns-then-not-is_absent c =
    let machine = c.args.topology.now in
    let plan = plan_of c.args.plan.now in
    let below : c.threads.t < length machine.stated.threads = omega (arith, c.threads-test.true, c.threads-t-end.ensures.value) in
    let same : slice_index machine.stated.threads c.threads.t ≡ c.args.core = cc in
    let present : is_absent (plan.kind c.threads.t) ≡ false = cc in
    sym (some_part machine plan c.args.core c.threads.t below same present)

pub returns : goal.returns
returns c =
    sym (no_part c.args.topology.now (plan_of c.args.plan.now) c.args.core (λ t below. c.threads.invariant t (omega (arith, below, c.threads-test.false, c.threads-t-end.ensures.value))))
