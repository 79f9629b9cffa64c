-- Each kind of operation on the table is one that the post may do.
use Rattle.std.proofs.Common.{◌≡◌, ℕ, ◌+◌, ◌-◌, ◌%◌, ◌^◌, ◌<◌, ◌==◌, Bool, true, ◌||◌, IfSome, IsTrue, Option, Some, refl, sym, ap, subst, ◌∙◌, arith}
use prog.Atomic.{either}
use Rattle.atomic_table.specs.declared.shared.Seat.{Seat}
use Rattle.rendezvous_steps.specs.declared.steps.Local.{Local}
use Rattle.rendezvous_steps.specs.declared.steps.How.{How}
use Rattle.rendezvous_steps.specs.declared.operations.Word.{Word}
use Rattle.rendezvous_steps.specs.declared.operations.Op.{Op}
use Rattle.rendezvous_steps.specs.declared.operations.Op.TheVariants.{Load, Store, Add, Sub, Cas}
use Rattle.rendezvous_steps.specs.Words.{touched, written}
use Rattle.rendezvous_steps.specs.StepTable.{operation, after}
use Rattle.rule_laws.specs.Kept.{is_step}
use Rattle.ctl_words.specs.declared.plans.Plan.{Plan as Tables}
use Rattle.ctl_words.specs.Plans.{plan_of}
use Rattle.ctl_words.specs.Places.{is_word, place_of}
use Rattle.ctl_thread.proofs.Ranges.{words, place}
use Rattle.ctl_table.specs.declared.standings.Standing.{Standing}
use Rattle.ctl_table.specs.declared.standings.View.{View}
use Rattle.ctl_table.specs.declared.bays.Bay.{Bay}
use Rattle.ctl_table.specs.declared.posts.Post.{Post}
use Rattle.ctl_table.specs.Standings.{makes_late, moved}
use Rattle.ctl_table.specs.Posts.{standing_of, IsOf, MayTurn}
use Rattle.ctl_table.proofs.Reading.{place_below}
use Rattle.ctl_table.proofs.Turning.{Goes, turn_allowed}

-- a post's seat may do what the step table names for its thread
pub may_turn : (bay : Bay) (post : Post) (h h' : How) (op : Op) → IsOf bay post → h' ≡ h → is_step h ≡ true → operation (plan_of bay.plan.value) post.thread post.local h ≡ Some op → MayTurn bay h' post.seat op
may_turn bay post h h' op ours same steps operates =
    record {
      same_table = ours.same_table;
      standing = standing_of bay.plan.value post;
      sits = ours.sits;
      its_plan = refl;
      steps = subst (λ (x : How). is_step x ≡ true) (sym same) steps;
      operates = subst (λ (x : How). operation (plan_of bay.plan.value) post.thread post.local x ≡ Some op) (sym same) operates;
      known =
          subst (λ (o : Option Op). IfSome o (λ q. IsTrue (is_word (plan_of bay.plan.value) (touched q)))) operates
          (words (plan_of bay.plan.value) post.thread post.local h bay.sound.sound ours.thread_in_range ours.at_in_range);
    }

-- where a post stands once its thread has moved
pub moved_so : (v : Standing) (h h' : How) (found : ℕ) (local : Local) (late : Bool) → h' ≡ h → local ≡ (after (plan_of v.plan) v.thread v.local h found).0 → late ≡ (v.late || makes_late h) → moved h' v found ≡ record v { local = local; late = late }
moved_so v h h' found local late same goes later =
    ap (λ (x : How). moved x v found) same ∙ (λ i. record v { local = sym goes i; late = sym later i })

pub loop_in_range : (bay : Bay) (post : Post) (h : How) (found : ℕ) → IsOf bay post → (after (plan_of bay.plan.value) post.thread post.local h found).0.at < bay.plan.value.threads
loop_in_range bay post h found ours = place (plan_of bay.plan.value) post.thread post.local h found ours.at_in_range

module _ (bay : Bay) (seat : Seat (Unit {0}) View) (h : How) (op : Op) (place : ℕ) (may : MayTurn bay h seat op) (at : place ≡ place_of (plan_of bay.plan.value) (touched op)) where
  abbrev pub Performs : (ℕ → ℕ) → Type 0
  Performs f =
      (seat.table_id ≡ bay.table.shared.table_id)
      × (place < bay.table.shared.table_id.words) × Goes bay.table.shared.key bay.table.shared.table_id.slots seat.id h seat.me place f

  performs : (f : ℕ → ℕ) → ((n : ℕ) → f n ≡ written op n) → Performs f
  performs f does =
      let below = place_below (plan_of bay.plan.value) (touched op) may.known in
      let sized = bay.sized in (
        may.same_table,
        omega arith,
        subst (λ (p : Tables). Goes p bay.table.shared.table_id.slots seat.id h seat.me place f) (sym bay.keyed)
            (turn_allowed bay.plan.value bay.table.shared.table_id.slots seat.id may.standing h op seat.me place f bay.sound may.sits may.steps may.operates may.known at does),
      )

  pub turn_load : (w : Word) → op ≡ Load w → Performs (λ n. n)
  turn_load w is = performs (λ n. n) (λ n. ap (λ (o : Op). written o n) (sym is))

  pub turn_store : (w : Word) (new : ℕ) → op ≡ Store w new → Performs (λ n. new)
  turn_store w new is = performs (λ n. new) (λ n. ap (λ (o : Op). written o n) (sym is))

  pub turn_add : (w : Word) (by' : ℕ) → op ≡ Add w by' → Performs (λ n. (n + by') % 2 ^ 64)
  turn_add w by' is = performs (λ n. (n + by') % 2 ^ 64) (λ n. ap (λ (o : Op). written o n) (sym is))

  pub turn_sub : (w : Word) (by' : ℕ) → op ≡ Sub w by' → Performs (λ n. (n + (2 ^ 64 - by')) % 2 ^ 64)
  turn_sub w by' is = performs (λ n. (n + (2 ^ 64 - by')) % 2 ^ 64) (λ n. ap (λ (o : Op). written o n) (sym is))

  pub turn_cas : (w : Word) (expected new : ℕ) → op ≡ Cas w expected new → Performs (λ n. either (n == expected) new n)
  turn_cas w expected new is = performs (λ n. either (n == expected) new n) (λ n. ap (λ (o : Op). written o n) (sym is))
