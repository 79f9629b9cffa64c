use Rattle.std.proofs.Common.{◌≡◌, ℕ, ◌<◌, [], IsTrue, refl, sym, ap, subst, ◌∙◌}
use Rattle.atomic_table.specs.Table.{Me}
use Rattle.rendezvous_steps.specs.declared.steps.Local.{Local}
use Rattle.rendezvous_steps.specs.declared.items.What.{What}
use Rattle.rendezvous_steps.specs.StepTable.{after, is_last}
use Rattle.rendezvous_steps.specs.Plan.{Plan}
use Rattle.ctl_words.specs.declared.plans.Plan.{Plan as Tables}
use Rattle.ctl_words.specs.Plans.{plan_of}
use Rattle.ctl_thread.proofs.Patient.{idle_is_last}
use Rattle.ctl_table.specs.declared.standings.Standing.{Standing}
use Rattle.ctl_table.specs.declared.standings.View.{View}
use Rattle.ctl_table.specs.declared.standings.View.TheVariants.{Sits}
use Rattle.ctl_table.specs.Standings.{moved, moved_view}
use Rattle.ctl_table.specs.Seen.{seen_of}
use Rattle.ctl_table.specs.Posts.{standing_of}
use Rattle.ctl_table.proofs.Answered.{finished_idles}
use Rattle.ctl_table.proofs.Performing.{may_turn, moved_so, loop_in_range}
use Rattle.ctl_table.proofs.bays.Bay.turn.Goals as goal

pub perform-found-requires : goal.perform-found-requires
perform-found-requires g c =
    record { may = may_turn c.args.self.now c.args.post.now c.args.how g.H.Manner.how c.args.op c.requires.ours c.requires.how c.requires.steps c.requires.next }

pub returns-clause-took : goal.returns-clause-took
returns-clause-took g c =
    let plan : Plan = plan_of c.args.self.now.plan.value in
    let post = c.args.post.now in
    let found : ℕ = c.perform-found.result in
    let next : Local × What = after plan post.thread post.local c.args.how found in
    let came : c.after-what.result ≡ next = c.after-what.ensures ∙ ap (λ (p : Tables). after (plan_of p) post.thread post.local c.args.how found) c.deref.ensures in
    let goes : c.after-what.result.0 ≡ next.0 = ap (λ (x : Local × What). x.0) came in
    let item : c.of.result ≡ seen_of next.1 = c.of.ensures ∙ ap (λ (x : Local × What). seen_of x.1) came in
    record {
      found = found;
      local = goes;
      item = item;
      finished = λ e. subst (λ (l : Local). IsTrue (is_last l.phase)) (sym goes) (idle_is_last plan post.thread post.local c.args.how found (finished_idles next.1 (sym item ∙ e)));
      thread = refl;
      given = refl;
      joined = refl;
      late = c.late_after-late.ensures;
    }

pub returns-clause-ours : goal.returns-clause-ours
returns-clause-ours g c =
    let bay = c.args.self.now in
    let post = c.args.post.now in
    let ours = c.requires.ours in
    let found : ℕ = c.perform-found.result in
    let came : c.after-what.result ≡ after (plan_of bay.plan.value) post.thread post.local c.args.how found = c.after-what.ensures ∙ ap (λ (p : Tables). after (plan_of p) post.thread post.local c.args.how found) c.deref.ensures in
    let goes : c.after-what.result.0 ≡ (after (plan_of bay.plan.value) post.thread post.local c.args.how found).0 = ap (λ (x : Local × What). x.0) came in
    let first : (moved_view g.H.Manner.how post.seat.me.0 found, post.seat.me.1) ≡ (Sits (moved g.H.Manner.how (standing_of bay.plan.value post) found), []) = ap (λ (m : Me (Unit {0}) View). (moved_view g.H.Manner.how m.0 found, m.1)) ours.sits in
    record {
      same_table = c.perform-found.ensures.same.0 ∙ ours.same_table;
      sits = c.perform-found.ensures.turned ∙ (first ∙ ap (λ (v : Standing). (Sits v, [])) (moved_so (standing_of bay.plan.value post) c.args.how g.H.Manner.how found c.after-what.result.0 c.late_after-late.result c.requires.how goes c.late_after-late.ensures));
      thread_in_range = ours.thread_in_range;
      at_in_range = subst (λ (l : Local). l.at < bay.plan.value.threads) (sym goes) (loop_in_range bay post c.args.how found ours);
    }
