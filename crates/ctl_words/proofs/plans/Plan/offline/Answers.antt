use Rattle.std.proofs.Common.{◌≡◌, ◌∙◌, count_by, rules}
use Rattle.rendezvous_steps.specs.declared.steps.Kind.TheVariants.{Absent}
use Rattle.rendezvous_steps.specs.Plan.{is_offline, offline_count}
use Rattle.ctl_words.proofs.Counts.{count_by-table}
use Rattle.ctl_words.proofs.plans.Plan.offline.Goals as goal

pub returns : goal.returns
unfolding offline_count
returns c =
    let kinds = c.args.self.now.kind.items in
    let listed : c.count.result ≡ count_by is_offline kinds = search rules in
    listed ∙ count_by-table is_offline kinds c.args.self.now.threads Absent c.requires.tables.kinds
