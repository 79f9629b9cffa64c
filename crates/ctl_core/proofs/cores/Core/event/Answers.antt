use Rattle.std.proofs.Common.{◌≡◌, ℕ, ◌+◌, Bool, sym, ap, ◌∙◌, if◌then◌else◌, add-zero}
use Rattle.rendezvous_steps.specs.declared.items.What.{What}
use Rattle.play_steps.specs.Rank.{is_counted}
use Rattle.ctl_words.specs.Plans.{plan_of}
use Rattle.ctl_core.specs.Moments.{running_of}
use Rattle.rule_laws.proofs.Safety.{ruled_is_safe}
use Rattle.play_laws.proofs.EachEvent.{event_law}
use Rattle.ctl_words.proofs.TablesEnd.{padded}
use Rattle.ctl_core.proofs.Lawfully.{led_lawful, led_round}
use Rattle.ctl_core.proofs.Over.{still_few}
use Rattle.ctl_core.proofs.cores.Core.event.Goals as goal

counted_as : (spent : ℕ) (item what : What) (counts b : Bool) → counts ≡ is_counted item → item ≡ what → counts ≡ b → spent + (if b then 1 else 0) ≡ spent + (if is_counted what then 1 else 0)
counted_as spent item what counts b is same e = ap (λ (x : Bool). spent + (if x then 1 else 0)) (sym e ∙ (is ∙ ap is_counted same))

pub invariant_of-self : goal.invariant_of-self
invariant_of-self c =
    let plan = plan_of c.args.self.now.plan.now in
    record {
      sound = c.args.self.now.sound;
      fits = c.event-item.ensures.fits;
      few =
          still_few plan c.args.event (running_of c.args.self.now.moment) (running_of c.event-item.new.self) c.args.self.now.spent (c.args.self.now.spent + 1) c.requires c.event-item.ensures.state
          (counted_as c.args.self.now.spent _ _ _ _ c.is_counted.ensures c.event-item.ensures.item c.if-is_counted.true) c.args.self.now.few;
    }

pub invariant_of-self-else-is_counted : goal.invariant_of-self-else-is_counted
invariant_of-self-else-is_counted c =
    let plan = plan_of c.args.self.now.plan.now in
    record {
      sound = c.args.self.now.sound;
      fits = c.event-item.ensures.fits;
      few =
          still_few plan c.args.event (running_of c.args.self.now.moment) (running_of c.event-item.new.self) c.args.self.now.spent c.args.self.now.spent c.requires c.event-item.ensures.state
          (sym (add-zero c.args.self.now.spent) ∙ counted_as c.args.self.now.spent _ _ _ _ c.is_counted.ensures c.event-item.ensures.item c.if-is_counted.false) c.args.self.now.few;
    }

pub returns-then-is_counted-clause-lawful : goal.returns-then-is_counted-clause-lawful
returns-then-is_counted-clause-lawful c =
    led_lawful event_law (plan_of c.args.self.now.plan.now) c.args.self.now.sound.sound (padded c.args.self.now.plan.now c.args.self.now.sound) c.args.event (running_of c.args.self.now.moment) (running_of c.event-item.new.self) c.event-item.ensures.state

pub returns-then-is_counted-clause-round : goal.returns-then-is_counted-clause-round
returns-then-is_counted-clause-round c =
    led_round event_law (plan_of c.args.self.now.plan.now) c.args.self.now.sound.sound (padded c.args.self.now.plan.now c.args.self.now.sound) c.args.event (running_of c.args.self.now.moment) (running_of c.event-item.new.self) c.event-item.result.what c.event-item.ensures.state c.event-item.ensures.item

pub returns-then-is_counted-clause-safe : goal.returns-then-is_counted-clause-safe
returns-then-is_counted-clause-safe c = λ lawful.
    ruled_is_safe (plan_of c.args.self.now.plan.now) (running_of c.event-item.new.self) c.args.self.now.sound.sound (padded c.args.self.now.plan.now c.args.self.now.sound)
    (led_lawful event_law (plan_of c.args.self.now.plan.now) c.args.self.now.sound.sound (padded c.args.self.now.plan.now c.args.self.now.sound) c.args.event (running_of c.args.self.now.moment) (running_of c.event-item.new.self) c.event-item.ensures.state lawful).ruled

pub returns-else-is_counted-clause-lawful : goal.returns-else-is_counted-clause-lawful
returns-else-is_counted-clause-lawful c =
    led_lawful event_law (plan_of c.args.self.now.plan.now) c.args.self.now.sound.sound (padded c.args.self.now.plan.now c.args.self.now.sound) c.args.event (running_of c.args.self.now.moment) (running_of c.event-item.new.self) c.event-item.ensures.state

pub returns-else-is_counted-clause-round : goal.returns-else-is_counted-clause-round
returns-else-is_counted-clause-round c =
    led_round event_law (plan_of c.args.self.now.plan.now) c.args.self.now.sound.sound (padded c.args.self.now.plan.now c.args.self.now.sound) c.args.event (running_of c.args.self.now.moment) (running_of c.event-item.new.self) c.event-item.result.what c.event-item.ensures.state c.event-item.ensures.item

pub returns-else-is_counted-clause-safe : goal.returns-else-is_counted-clause-safe
returns-else-is_counted-clause-safe c = λ lawful.
    ruled_is_safe (plan_of c.args.self.now.plan.now) (running_of c.event-item.new.self) c.args.self.now.sound.sound (padded c.args.self.now.plan.now c.args.self.now.sound)
    (led_lawful event_law (plan_of c.args.self.now.plan.now) c.args.self.now.sound.sound (padded c.args.self.now.plan.now c.args.self.now.sound) c.args.event (running_of c.args.self.now.moment) (running_of c.event-item.new.self) c.event-item.ensures.state lawful).ruled
