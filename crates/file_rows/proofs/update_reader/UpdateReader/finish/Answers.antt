use Rattle.std.proofs.Common.{ℕ, List, ◌++◌, ◌∙◌, ap}
use Rattle.std.proofs.lemmas.List.{append-nil}
use Rattle.file_rows.specs.UpdateRows.{pairs_of_updates}
use Rattle.file_rows.proofs.UpdateReads.{none_coming}
use Rattle.file_rows.proofs.update_reader.UpdateReader.finish.Goals as goal

pub returns-in-Some-clause-finished : goal.returns-in-Some-clause-finished
returns-in-Some-clause-finished c = λ bytes reads. (c.in-Some.ensures bytes reads.0.updates reads.0.coming reads.0.stands).0

pub returns-in-None-clause-finished : goal.returns-in-None-clause-finished
returns-in-None-clause-finished c = λ bytes reads.
    let lists = reads.0 in
    let file = c.in-None.ensures bytes lists.updates lists.coming lists.stands in
    let none = none_coming c.args.self.walk bytes lists.updates lists.coming lists.stands file in (
      lists.updates,
      file,
      record {
        rows = lists.has.kept_rows;
        pairs = lists.has.kept_pairs ∙ ap (λ (l : List (ℕ × ℕ)). pairs_of_updates lists.updates ++ l) none ∙ append-nil (pairs_of_updates lists.updates);
      },
    )
