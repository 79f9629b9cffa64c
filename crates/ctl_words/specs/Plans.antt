-- A plan's tables, seen as functions of thread and group numbers, and when a plan is sound.
use Rattle.std.specs.Prelude.{◌≡◌, ◌≢◌, ℕ, ◌<◌, ◌≤◌, false, length, Some, None, slice_get, unwrap_or}
use Rattle.rendezvous_steps.specs.declared.steps.Kind.TheVariants.{Online, Absent}
use Rattle.rendezvous_steps.specs.Plan.{Plan, Sound}
use Rattle.ctl_words.specs.declared.plans.Plan.{Plan as Tables}

abbrev pub plan_of : Tables → Plan
plan_of p =
    record {
      threads = p.threads;
      groups = length p.primary.items;
      kind = λ t. unwrap_or (slice_get p.kind.items t) Absent;
      group = λ t. unwrap_or (slice_get p.group.items t) (length p.primary.items);
      primary = λ g. unwrap_or (slice_get p.primary.items g) p.threads;
      offer = λ g. unwrap_or (slice_get p.offer.items g) None;
      refuse = λ g. unwrap_or (slice_get p.refuse.items g) false;
      rev0 = λ g. unwrap_or (slice_get p.rev0.items g) 0;
      patience = p.patience;
    }

-- one place for each thread, and one for each group
pub record TablesFit (p : Tables) : Type 0 where
  pub some_thread : 0 < p.threads
  pub few_threads : p.threads ≤ 256
  pub kinds : length p.kind.items ≡ p.threads
  pub groups : length p.group.items ≡ p.threads
  pub offers : length p.offer.items ≡ length p.primary.items
  pub refusals : length p.refuse.items ≡ length p.primary.items
  pub revisions : length p.rev0.items ≡ length p.primary.items

-- what `Sound` asks of a thread
pub record ThreadFits (plan : Plan) (t : ℕ) : Type 0 where
  pub group_in_range : plan.group t < plan.groups
  pub primary_is_no_later : plan.primary (plan.group t) ≤ t
  pub present_primary : plan.kind t ≢ Absent → plan.kind (plan.primary (plan.group t)) ≡ Online

-- what `Sound` asks of a group's offer
pub record OfferFits (plan : Plan) (g : ℕ) : Type 0 where
  pub to_present : (o : ℕ) → plan.offer g ≡ Some o → plan.kind (plan.primary g) ≡ Online
  pub is_greater : (o : ℕ) → plan.offer g ≡ Some o → plan.rev0 g < o

-- what `Sound` asks of a group
pub record GroupFits (plan : Plan) (g : ℕ) : Type 0 where
  pub primary_in_range : plan.primary g < plan.threads
  pub primary_is_one : plan.group (plan.primary g) ≡ g
  pub offer : OfferFits plan g

abbrev pub ThreadsFit : Plan → Type 0
ThreadsFit plan = (t : ℕ) → t < plan.threads → ThreadFits plan t

abbrev pub GroupsFit : Plan → Type 0
GroupsFit plan = (g : ℕ) → g < plan.groups → GroupFits plan g

-- Each table has its places, and the plan that they make is sound.
pub record IsSound (p : Tables) : Type 0 where
  pub tables : TablesFit p
  pub sound : Sound (plan_of p)
