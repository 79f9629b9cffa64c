-- What is safe of a state of the model.
use Rattle.std.specs.Prelude.{◌≡◌, ◌≢◌, ◌⊎◌, ℕ, Bool, true, false, ◌||◌, Some}
use Rattle.rendezvous_steps.specs.declared.steps.Kind.TheVariants.{Absent}
use Rattle.rendezvous_steps.specs.declared.steps.ThreadResult.TheVariants as results
use Rattle.rendezvous_steps.specs.Plan.{Plan}
use Rattle.rendezvous_model.specs.Round.{GroupPlace, Waiting, Writing, Written, Reported, Left, State, is_held}
use Rattle.rendezvous_model.specs.Round.{is_halted, is_going}

abbrev pub is_in_write : GroupPlace → Bool
is_in_write Writing = true
is_in_write Written = true
is_in_write place = false

pub record Safe (plan : Plan) (state : State) : Type 0 where
  -- while a group is Writing or Written, each of its threads that takes part is in the handler
  pub write_holds_all :
      (g u : ℕ) →
      is_in_write (state.group g) ≡ true →
      plan.group u ≡ g → plan.kind u ≢ Absent → (is_held (state.place u) || is_halted (state.place u)) ≡ true
  -- before a go, and after a drop, no group has begun
  pub nothing_without_go :
      is_going state.stage ≡ false → (g : ℕ) → (state.group g ≡ Waiting) × (state.revision g ≡ plan.rev0 g)
  pub first_or_offer : (g : ℕ) → (state.revision g ≡ plan.rev0 g) ⊎ (plan.offer g ≡ Some (state.revision g))
  -- success is only where the offer runs
  pub reported_updated : (g : ℕ) → state.group g ≡ Reported results.Updated → plan.offer g ≡ Some (state.revision g)
  pub left_updated :
      (t : ℕ) → state.place t ≡ Left results.Updated → plan.offer (plan.group t) ≡ Some (state.revision (plan.group t))
  pub left_okay :
      (t : ℕ) → state.place t ≡ Left results.Okay → plan.offer (plan.group t) ≡ Some (state.revision (plan.group t))
  -- an error is only where the group refuses
  pub reported_error :
      (g : ℕ) → state.group g ≡ Reported results.Error → (plan.refuse g ≡ true) × (state.revision g ≡ plan.rev0 g)
