use Rattle.std.proofs.Common.{◌≡◌, ◌∙◌, count_by, rules}
use Rattle.rendezvous_steps.specs.declared.steps.Kind.TheVariants.{Absent}
use Rattle.rendezvous_steps.specs.Plan.{is_online, online_count}
use Rattle.ctl_words.proofs.Counts.{count_by-table}
use Rattle.ctl_words.proofs.plans.Plan.online.Goals as goal

pub returns : goal.returns
unfolding online_count
returns c =
    let kinds = c.args.self.now.kind.items in
    let listed : c.count.result ≡ count_by is_online kinds = search rules in
    listed ∙ count_by-table is_online kinds c.args.self.now.threads Absent c.requires.tables.kinds
