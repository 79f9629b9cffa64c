use Rattle.std.proofs.Common.{refl, ap, sym, ◌∙◌, subst}
use Rattle.rendezvous_steps.specs.Plan.{Sound}
use Rattle.session_steps.specs.State.{State, machine_of}
use Rattle.session_laws.proofs.Plans.{plans_sound}
use Rattle.session_parts.specs.Parts.{setting_of, state_of}
use Rattle.session_parts.specs.Plans.{revision_put}
use Rattle.session_parts.proofs.Tables.{map_length}
use Rattle.session_parts.proofs.PlanIs.{tables_fit, plan_is, plan_before, offered_is}
use Rattle.session_parts.proofs.parts.Parts.plan.Goals as goal

pub returns-clause-tables : goal.returns-clause-tables
returns-clause-tables c =
    let setting = setting_of c.args.self.now in
    let state = state_of c.args.self.now in
    let offers = map_length (revision_put state.patches c.args.places.now) _ c.offered_revisions.new.revisions.items
    c.offered_revisions.ensures in
    tables_fit setting state _ (record {
      threads_are = c.threads-plan.ensures.value;
      by_thread =
          c.by_thread.ensures;
      by_group = c.by_group.ensures;
      patience_is = refl;
    })
    c.threads-plan.ensures.partition (offers ∙ c.requires.groups)

pub returns-clause-plan : goal.returns-clause-plan
returns-clause-plan c = λ entries offers before put.
    let setting = setting_of c.args.self.now in
    let state = state_of c.args.self.now in
    let places = c.args.places.now in
    plan_is setting state _ (record {
      threads_are = c.threads-plan.ensures.value;
      by_thread =
          c.by_thread.ensures;
      by_group = c.by_group.ensures;
      patience_is = refl;
    }) put.puts offers
    (offered_is put.puts offers state.patches places
    (machine_of setting).groups c.offered_revisions.new.revisions.items c.offered_revisions.ensures c.requires.groups
    (ap (λ (s : State). s.patches) put.after) put.places_are)
    ∙ plan_before setting entries offers before state places put

pub returns-clause-sound : goal.returns-clause-sound
returns-clause-sound c = λ force names reads entries offers before put stands present read are some.
    let setting = setting_of c.args.self.now in
    record {
      tables = returns-clause-tables c;
      sound = subst Sound (sym (returns-clause-plan c entries offers before put))
          (plans_sound setting before force names reads entries offers put.puts c.threads-plan.ensures.partition stands
          (record { present = present; read = read; are_offers = are; something = some; put = put.put })).0;
    }
