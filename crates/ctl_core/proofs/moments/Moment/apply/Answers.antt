use Rattle.std.proofs.Common.{sym, ap, ◌∙◌}
use Rattle.rendezvous_steps.specs.declared.operations.Op.{Op}
use Rattle.rendezvous_steps.specs.Words.{words_after}
use Rattle.ctl_words.specs.Lists.{word_of}
use Rattle.ctl_core.proofs.Counting.{load_keeps}
use Rattle.ctl_core.proofs.moments.Moment.apply.Goals as goal

pub returns-in-Load-clause-written : goal.returns-in-Load-clause-written
returns-in-Load-clause-written c =
    let words = word_of c.args.self.now.words in
    sym (load_keeps words c.in-Load.word) ∙ ap (λ (op : Op). words_after words op) (sym c.in-Load.is)
