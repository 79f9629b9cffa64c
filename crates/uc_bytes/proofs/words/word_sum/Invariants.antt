use Rattle.std.proofs.Common.{◌≡◌, ◌+◌, ◌%◌, ◌^◌, length}
use Rattle.uc_bytes.specs.Words.{word_total}
use Rattle.uc_bytes.proofs.words.word_sum.Given as goal

-- what is summed and what is left to sum are the whole
abbrev pub invariant-loop-chunk : goal.invariant-loop-chunk
invariant-loop-chunk l = record {
  size : l.chunk-iterator.size ≡ 4;
  even : length l.chunk-iterator.rest.now % 4 ≡ 0;
  sum : (l.total + word_total l.chunk-iterator.rest.now) % 2 ^ 32 ≡ word_total l.bytes % 2 ^ 32;
}
