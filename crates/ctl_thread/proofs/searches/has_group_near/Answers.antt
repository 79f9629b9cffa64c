use Rattle.std.proofs.Common.{◌+◌, sym, ◌∙◌, arith}
use Rattle.ctl_thread.proofs.Ascending.{none_held}
use Rattle.ctl_thread.proofs.searches.has_group_near.Goals as goal

pub returns : goal.returns
returns c = λ none k low high.
    rw (← c.as_slice-groups.ensures.value) (none_held c.as_slice-groups.result.now c.args.from (c.args.from + 16) c.args.group _ (sym c.holds.ensures ∙ none) (omega arith) k low high)
