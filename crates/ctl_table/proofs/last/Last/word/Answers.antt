use Rattle.std.proofs.Common.{sym, ap, ◌∙◌, slice_index}
use Rattle.std.specs.Mem.Slots.{slots_items}
use Rattle.ctl_words.specs.Plans.{plan_of}
use Rattle.ctl_table.proofs.Sitting.{index_of_found}
use Rattle.ctl_table.proofs.Reading.{word_read}
use Rattle.ctl_table.proofs.last.Last.word.Goals as goal

pub returns : goal.returns
returns c =
    let last = c.args.self.now in
    let row = slots_items last.words.now.words in
    sym (word_read (plan_of last.plan.now) row c.args.word c.requires ∙ (ap (slice_index row) (sym c.place.ensures.place) ∙ index_of_found row _ _ c.word.ensures))
