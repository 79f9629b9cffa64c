-- A plan once more.
use Rattle.std.specs.Prelude.{◌≡◌}
use Rattle.ctl_words.specs.declared.plans.Plan.{Plan as Tables}

-- q has the tables of p
pub record IsCopy (p q : Tables) : Type 0 where
  pub threads : q.threads ≡ p.threads
  pub kind : q.kind.items ≡ p.kind.items
  pub group : q.group.items ≡ p.group.items
  pub primary : q.primary.items ≡ p.primary.items
  pub offer : q.offer.items ≡ p.offer.items
  pub refuse : q.refuse.items ≡ p.refuse.items
  pub rev0 : q.rev0.items ≡ p.rev0.items
  pub patience : q.patience ≡ p.patience
