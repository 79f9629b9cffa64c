use Rattle.std.proofs.Common.{◌≡◌, ◌+◌, ◌*◌, ◌++◌, length, take}
use Rattle.uc_gen.specs.Bundle.{bytes_of}
use Rattle.uc_gen.proofs.pushing.put_words.Given as goal

-- the words before are put
abbrev pub invariant-words : goal.invariant-words
invariant-words l = record {
  len : l.at + 4 * length l.words ≡ length l.bytes;
  items : take (l.at + 4 * l.k) l.bytes ≡ take l.at l.initial.bytes ++ bytes_of (take l.k l.words);
}
