use Rattle.std.proofs.Common.{◌≡◌, length, replicate, None}
use Rattle.early_load.proofs.cache.PatchCache.new.Given as goal

abbrev pub invariant-loop-group : goal.invariant-loop-group
invariant-loop-group l = record {
  size : length l.patches.items ≡ l._group;
  items : l.patches.items ≡ replicate l._group None;
}
