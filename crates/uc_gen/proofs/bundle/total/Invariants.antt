use Rattle.std.proofs.Common.{◌≡◌, ◌%◌, ◌^◌, take, sum}
use Rattle.uc_gen.proofs.bundle.total.Given as goal

abbrev pub invariant-words : goal.invariant-words
invariant-words l = l.total ≡ sum (take l.word-index l.words) % 2 ^ 32
