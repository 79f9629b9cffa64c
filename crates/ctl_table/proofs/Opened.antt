-- A post as it begins is its bay's.
use Rattle.std.proofs.Common.{◌≡◌, ℕ, ◌<◌, [], refl, sym, ap, subst, ◌∙◌}
use Rattle.rendezvous_steps.specs.declared.steps.Local.{Local}
use Rattle.rendezvous_steps.specs.Plan.{Plan}
use Rattle.rendezvous_steps.specs.StepTable.{opening}
use Rattle.ctl_table.specs.declared.standings.Standing.{Standing}
use Rattle.ctl_table.specs.declared.standings.View.TheVariants.{Sits}
use Rattle.ctl_table.specs.declared.bays.Bay.{Bay}
use Rattle.ctl_table.specs.declared.posts.Post.{Post}
use Rattle.ctl_table.specs.Standings.{opening_standing}
use Rattle.ctl_table.specs.Posts.{plan_in, standing_of, IsOf, Opens}

opens_at_zero : (plan : Plan) (t : ℕ) → (opening plan t).at ≡ 0
unfolding opening
opens_at_zero plan t = refl

opens_so : (bay : Bay) (post : Post) (t : ℕ) → Opens (plan_in bay) t post → opening_standing bay.plan.value t ≡ standing_of bay.plan.value post
opens_so bay post t opens i =
    record {
      plan = bay.plan.value;
      thread = sym opens.thread i;
      local = sym opens.local i;
      given = sym opens.given i;
      joined = sym opens.joined i;
      late = sym opens.late i;
    }

pub opened_of : (bay : Bay) (post : Post) (t : ℕ) → post.seat.table_id ≡ bay.table.shared.table_id → post.seat.me ≡ (Sits (opening_standing bay.plan.value t), []) → Opens (plan_in bay) t post → t < bay.plan.value.threads → 0 < bay.plan.value.threads → IsOf bay post
opened_of bay post t same sits opens below some_thread =
    record {
      same_table = same;
      sits = sits ∙ ap (λ (v : Standing). (Sits v, [])) (opens_so bay post t opens);
      thread_in_range = subst (λ (n : ℕ). n < bay.plan.value.threads) (sym opens.thread) below;
      at_in_range = subst (λ (n : ℕ). n < bay.plan.value.threads) (sym (ap (λ (l : Local). l.at) opens.local ∙ opens_at_zero (plan_in bay) t)) some_thread;
    }
