use Rattle.ctl_words.proofs.Writes.{word_of-with_word}
use Rattle.ctl_words.proofs.plain.PlainWordsWords.apply.Goals as goal

pub returns-clause-written : goal.returns-clause-written
returns-clause-written c =
    rw (c.set.ensures, c.written.ensures, c.get-found.ensures, c.word-word.ensures) (word_of-with_word _ _ _ c.requires)
