use Rattle.std.proofs.Common.{ℕ, List, ◌∙◌, ap}
use Rattle.uc_catalog.specs.Contents.{Contents, with_coming}
use Rattle.update_reads.proofs.Ended.{ended}
use Rattle.update_reads.proofs.reading.read_update.Goals as goal

pub returns-in-Ok-feed_pieces-clause-answer : goal.returns-in-Ok-feed_pieces-clause-answer
returns-in-Ok-feed_pieces-clause-answer g c =
    let tells = g.F.Pieces.tells c.args.files.now in
    let holds = g.F.Files.holds c.args.files.now in
    let opened = c.in-Ok.ensures.answer in
    let fed = c.in-Ok-feed_pieces.ensures.answer in
    let now = c.feed_pieces.new.catalog in
    ended c.end_update.result tells (holds c.args.name.now) fed.1.0 _ _ c.args.catalog.now now c.end_update.new.catalog
    (fed.0 ∙ opened.0)
    fed.1.1
    (λ tell. fed.1.2 (c.in-Ok.ensures.still tell) ∙ opened.1 tell ∙ ap (λ (name : List ℕ). holds name) c.as_str.ensures)
    (c.in-Ok-feed_pieces.ensures.kept ∙ ap (λ (v : Contents). with_coming now.coming v) c.drop_file.ensures)
    (c.end_update.ensures fed.1.0 fed.1.3)
