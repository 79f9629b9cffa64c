use Rattle.std.proofs.Common.{◌≡◌, Bool, true, false, ◌||◌, refl, sym, ap, ◌∙◌}
use Rattle.rendezvous_steps.specs.declared.steps.Local.{Local}
use Rattle.rendezvous_steps.specs.declared.steps.How.TheVariants.{Step}
use Rattle.rendezvous_steps.specs.declared.items.What.{What}
use Rattle.ctl_words.specs.Plans.{plan_of}
use Rattle.ctl_thread.proofs.Leading.{quiet}
use Rattle.ctl_table.specs.Seen.{gives_up_in, seen_of}
use Rattle.ctl_table.proofs.Answered.{stays_at_end, patient_seen}
use Rattle.ctl_table.proofs.bays.Bay.step.Goals as goal

or_false : (b : Bool) → b ≡ (b || false)
or_false true = refl
or_false false = refl

pub returns-in-Some-clause-patient : goal.returns-in-Some-clause-patient
returns-in-Some-clause-patient c =
    let took = c.turn.ensures.took in
    ap gives_up_in took.item ∙ patient_seen _ (quiet (plan_of c.args.self.now.plan.value) c.args.post.now.thread c.args.post.now.local took.found)

pub returns-in-None-clause-took : goal.returns-in-None-clause-took
returns-in-None-clause-took c =
    let post = c.args.post.now in
    let ended = c.in-None.ensures.none.0 refl in
    let stays = stays_at_end (plan_of c.args.self.now.plan.value) post.thread post.local Step 0 ended in
    record {
      found = 0;
      local = sym (ap (λ (x : Local × What). x.0) stays);
      item = sym (ap (λ (x : Local × What). seen_of x.1) stays);
      finished = λ _. ended;
      thread = refl;
      given = refl;
      joined = refl;
      late = or_false post.late;
    }
