use Rattle.std.proofs.Common.{◌≡◌, ◌+◌, ◌*◌, arith}
use Rattle.intel_ext.proofs.Pairs.{length-pairs, pair-in-pairs}
use Rattle.intel_ext.proofs.table.ExtTable.pair.Goals as goal

pub word_at-requires : goal.word_at-requires
word_at-requires c = omega (arith, length-pairs _ _ c.self.view_is)

pub word_at-requires-2 : goal.word_at-requires-2
word_at-requires-2 c = omega (arith, length-pairs _ _ c.self.view_is)

pub returns : goal.returns
returns c =
    let place : 20 + 12 * c.args.i + 4 ≡ 24 + 12 * c.args.i = omega arith in
    rw (c.word_at.ensures, c.word_at-2.ensures, place) (pair-in-pairs _ _ c.args.i c.self.view_is c.requires)
