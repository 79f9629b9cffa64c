use Rattle.std.proofs.Common.{refl, sym, ◌∙◌}
use Rattle.std.proofs.lemmas.Option.{unwrap_or-slice_get}
use Rattle.ctl_words.proofs.Openings.{word_of-opening, slice_index-zeros}
use Rattle.ctl_words.proofs.plain.PlainWords.begin.Goals as goal

pub returns-clause-opening : goal.returns-clause-opening
returns-clause-opening c =
    let zeros = slice_index-zeros in
    word_of-opening _ _
    record {
      arrive = c.from-self-inside.ensures ∙ c.online.ensures;
      off_in = refl;
      decide = refl;
      mode = λ t. rw (c.in_ok-fill_zeros.ensures) (zeros _ t);
      ctrl = λ t. rw (c.in_ok-fill_zeros-2.ensures) (zeros _ t);
      nmi = λ t. rw (c.in_ok-fill_zeros-3.ensures) (zeros _ t);
      rev = λ g. rw (c.in_ok-fill_revisions.ensures) (sym (unwrap_or-slice_get _ g 0));
      res = λ g. rw (c.in_ok-fill_zeros-4.ensures) (zeros _ g);
    }
