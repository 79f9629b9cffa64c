use Rattle.std.proofs.Common.{ℕ, Option, IsNone, IsTrue, ◌↔◌, sym, subst, ◌∙◌}
use Rattle.play_steps.specs.Play.{is_over}
use Rattle.play_laws.proofs.Ready.{never_stuck}
use Rattle.ctl_words.proofs.TablesEnd.{padded}
use Rattle.ctl_core.specs.Cores.{plan_in, moment_in}
use Rattle.ctl_core.proofs.Shown.{lowest_ready-shown}
use Rattle.ctl_core.proofs.Lawfully.{ready_none}
use Rattle.ctl_core.proofs.cores.Core.ready.Goals as goal

pub returns-clause-lowest : goal.returns-clause-lowest
returns-clause-lowest c = c.first_ready.ensures ∙ lowest_ready-shown (plan_in c.args.self.now) (moment_in c.args.self.now)

pub returns-clause-none : goal.returns-clause-none
returns-clause-none c = λ lawful.
    let found = c.first_ready.ensures ∙ lowest_ready-shown (plan_in c.args.self.now) (moment_in c.args.self.now) in
    subst (λ (o : Option ℕ). IsNone o ↔ IsTrue (is_over (plan_in c.args.self.now) (moment_in c.args.self.now))) (sym found)
    (ready_none never_stuck (plan_in c.args.self.now) (moment_in c.args.self.now) c.args.self.now.sound.sound (padded c.args.self.now.plan.now c.args.self.now.sound) lawful)
