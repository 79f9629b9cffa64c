use Rattle.std.proofs.Common.{◌≡◌}
use Rattle.early_load.specs.Caches.{groups_of, cached_of}
use Rattle.ctl_words.specs.Plans.{plan_of}
use Rattle.session_parts.specs.Loads.{kept_by_plan}
use Rattle.session_parts.proofs.loads.keep_written.Given as goal

-- the groups so far cache what they are to
abbrev pub invariant-groups : goal.invariant-groups
invariant-groups l = record {
  kept : cached_of l.cache ≡ kept_by_plan (plan_of l.plan) l.places l.revs (cached_of l.fn.cache) l.g;
  size : groups_of l.cache ≡ groups_of l.fn.cache;
}
