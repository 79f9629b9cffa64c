use Rattle.std.proofs.Common.{◌≡◌, ◌++◌, take}
use Rattle.update_samples.specs.Words.{bytes_of}
use Rattle.update_samples.proofs.words.push_words.Given as goal

abbrev pub invariant-words : goal.invariant-words
invariant-words l = l.bytes.items ≡ l.initial.bytes.items ++ bytes_of (take l.word-index l.words)
