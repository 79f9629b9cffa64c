use Rattle.std.proofs.Common.{◌∙◌, refl, sym, ap, subst}
use Rattle.std.proofs.lemmas.Grind.{merely}
use Rattle.std.specs.Mem.Slots.{slots_items}
use Rattle.rendezvous_steps.specs.Plan.{Plan}
use Rattle.ctl_words.specs.declared.plans.Plan.{Plan as Tables}
use Rattle.ctl_words.specs.Plans.{plan_of, IsSound}
use Rattle.ctl_words.specs.Places.{word_count}
use Rattle.ctl_table.specs.Exact.{exact_outcome_of, HasRoom}
use Rattle.ctl_table.specs.Words.{words_of, RevisionsAre}
use Rattle.ctl_table.specs.Ended.{ClosedShows}
use Rattle.ctl_table.specs.Lasts.{OutcomeReads}
use Rattle.ctl_table.proofs.Ending.{revisions_at_end, closed_at_end}
use Rattle.ctl_table.proofs.bays.Bay.close.Goals as goal

pub invariant_of-last : goal.invariant_of-last
invariant_of-last c =
    let had = c.close_with-words.ensures in
    let row = slots_items c.close_with-words.result.words in
    record {
      sound = subst IsSound (sym c.deref.ensures) c.args.self.sound;
      full = had.values.0;
      sized = had.counts.0 ∙ (c.args.self.sized ∙ sym (ap (λ (p : Tables). word_count (plan_of p)) c.deref.ensures));
      revisions = subst (λ (p : Tables). RevisionsAre (plan_of p) (words_of (plan_of p) row)) (sym c.deref.ensures)
          (revisions_at_end c.args.self c.args.post _ _ c.requires.ours had.values.2);
    }

pub fill-requires : goal.fill-requires
fill-requires c = subst (λ (p : Tables). HasRoom (plan_of p) c.args.self.outcome) (sym c.deref.ensures) c.args.self.room

pub invariant_of-result : goal.invariant_of-result
invariant_of-result c =
    let row = slots_items c.close_with-words.result.words in
    let outcome = c.fill.new.outcome in
    let reads = subst (λ (p : Tables). OutcomeReads (plan_of p) (words_of (plan_of p) row) outcome) c.deref.ensures c.fill.ensures in
    record {
      shows = merely (subst (λ (plan : Plan). ClosedShows plan (exact_outcome_of outcome) c.args.post.late) (sym c.args.self.same_plan)
          (closed_at_end c.args.self c.args.post _ _ c.requires.ours c.close_with-words.ensures.values.2 c.requires.first c.requires.all c.requires.ended outcome reads));
    }

pub returns : goal.returns
returns c =
    let row = slots_items c.close_with-words.result.words in
    let outcome = c.fill.new.outcome in
    let reads = subst (λ (p : Tables). OutcomeReads (plan_of p) (words_of (plan_of p) row) outcome) c.deref.ensures c.fill.ensures in
    record {
      its_plan = c.args.self.same_plan;
      its_late = refl;
      shows = closed_at_end c.args.self c.args.post _ _ c.requires.ours c.close_with-words.ensures.values.2 c.requires.first c.requires.all c.requires.ended outcome reads;
    }
