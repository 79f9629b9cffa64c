use Rattle.std.proofs.Common.{sym, ◌∙◌, arith}
use Rattle.amd_equiv.proofs.Begins.{equiv_read, begins_read}
use Rattle.amd_equiv.proofs.table.read_equiv.Goals as goal

pub invariant_of-result : goal.invariant_of-result
invariant_of-result c =
    equiv_read c.args.bytes.now _ c.word_at-table_len.ensures (omega arith) (sym c.word_at.ensures ∙ c.if-word_at-ne-AMD_MAGIC.false) (sym c.word_at-2.ensures ∙ c.if-word_at-ne0.false) (omega arith)

pub returns : goal.returns
returns c =
    begins_read c.args.bytes.now _ c.word_at-table_len.ensures (omega arith) (sym c.word_at.ensures ∙ c.if-word_at-ne-AMD_MAGIC.false) (sym c.word_at-2.ensures ∙ c.if-word_at-ne0.false) (omega arith)
