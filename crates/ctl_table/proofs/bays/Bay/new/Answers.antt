use Rattle.std.proofs.Common.{◌≡◌, [], ◌∙◌, length, refl, sym, ap, subst}
use Rattle.rendezvous_steps.specs.Plan.{Plan}
use Rattle.rendezvous_steps.specs.StepTable.{opening}
use Rattle.ctl_words.specs.declared.plans.Plan.{Plan as Tables}
use Rattle.ctl_words.specs.Plans.{plan_of}
use Rattle.ctl_words.specs.Places.{word_count}
use Rattle.ctl_table.specs.declared.standings.View.TheVariants.{Sits}
use Rattle.ctl_table.specs.Standings.{opening_standing}
use Rattle.ctl_table.specs.Copies.{IsCopy}
use Rattle.ctl_table.specs.Exact.{HasRoom}
use Rattle.ctl_table.proofs.Beginning.{copy_same, copy_sound, copy_holds, opening_row_long}
use Rattle.ctl_table.proofs.Opened.{opened_of}
use Rattle.ctl_table.proofs.bays.Bay.new.Goals as goal

-- what is equal to a copy is one
is_copy : (p q r : Tables) → r ≡ q → IsCopy p q → IsCopy p r
is_copy p q r same copy = subst (λ (x : Tables). IsCopy p x) (sym same) copy

pub of_words-requires : goal.of_words-requires
of_words-requires c =
    let plan = c.args.plan.now in
    let copy = is_copy plan c.copied.result c.deref-2.result.now (c.deref-2.ensures ∙ c.in_ok-plan.ensures.ok) c.copied.ensures in
    copy_holds plan c.deref-2.result.now c.deref.result.now copy c.requires.sound (c.deref.ensures.value ∙ c.in_ok-words.ensures)

pub opening-requires-clause-sound : goal.opening-requires-clause-sound
opening-requires-clause-sound c =
    let plan = c.args.plan.now in
    let copy = is_copy plan c.copied.result c.deref-3.result.now (c.deref-3.ensures ∙ c.in_ok-plan.ensures.ok) c.copied.ensures in
    copy_sound plan c.deref-3.result.now copy c.requires.sound

pub invariant_of-bay : goal.invariant_of-bay
invariant_of-bay c =
    let plan = c.args.plan.now in
    let boxed = c.in_ok-plan.plan.value in
    let copy = is_copy plan c.copied.result boxed c.in_ok-plan.ensures.ok c.copied.ensures in
    record {
      sound = copy_sound plan boxed copy c.requires.sound;
      keyed = c.in_ok-table.ensures.5 ∙ c.deref-2.ensures;
      no_slots = c.in_ok-table.ensures.1;
      sized = c.in_ok-table.ensures.0 ∙ (ap length (c.deref.ensures.value ∙ c.in_ok-words.ensures) ∙ (opening_row_long (plan_of plan) ∙ ap word_count (sym (copy_same plan boxed copy))));
      same_plan = c.in_ok-exact_plan.ensures ∙ sym (copy_same plan boxed copy);
      room = subst (λ (p : Plan). HasRoom p c.in_ok-outcome.outcome) (sym (copy_same plan boxed copy)) c.in_ok-outcome.ensures;
    }

pub returns-clause-ours : goal.returns-clause-ours
returns-clause-ours c =
    let plan = c.args.plan.now in
    let boxed = c.in_ok-plan.plan.value in
    let copy = is_copy plan c.copied.result boxed c.in_ok-plan.ensures.ok c.copied.ensures in
    let some_thread = (copy_sound plan boxed copy c.requires.sound).tables.some_thread in
    opened_of _ _ 0 c.in_ok-table.ensures.2 (c.in_ok-table.ensures.4 ∙ ap (λ (p : Tables). (Sits (opening_standing p 0), [])) c.deref-2.ensures)
    record { thread = refl; local = c.opening.ensures ∙ ap (λ (p : Tables). opening (plan_of p) 0) c.deref-3.ensures; given = refl; joined = refl; late = refl }
    some_thread some_thread
