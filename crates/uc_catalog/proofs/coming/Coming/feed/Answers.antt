use Rattle.std.proofs.Common.{ℕ, List, ◌++◌, sym, ◌∙◌, ap}
use Rattle.file_rows.specs.Kept.{kept_bytes}
use Rattle.uc_catalog.proofs.Comings.{kept-append}
use Rattle.uc_catalog.proofs.coming.Coming.feed.Goals as goal

pub returns-in-Ok-feed-clause-come : goal.returns-in-Ok-feed-clause-come
returns-in-Ok-feed-clause-come c = λ bytes comes.
    let piece = c.args.piece.now in
    let keeps = c.args.keeps in
    let fed = c.in-Ok-feed.ensures.reads bytes comes.0 in (
      (fed.0, c.in-Ok.ensures.ok ∙ ap (λ (l : List ℕ). l ++ kept_bytes keeps piece) comes.1 ∙ sym (kept-append keeps bytes piece)),
      fed.1,
    )
