use Rattle.std.proofs.Common.{◌<◌, length, sym, ◌∙◌, arith}
use Rattle.amd_format.specs.Equiv.{rows_of}
use Rattle.amd_equiv.proofs.Rows.{other-row, same-row, no-row}
use Rattle.amd_equiv.proofs.table.EquivTable.id_of.Goals as goal

pub returns-then-row_sig-sig : goal.returns-then-row_sig-sig
returns-then-row_sig-sig c =
    let inside : c.loop-i.i < length (rows_of c.args.self.now) = omega arith in
    sym (c.loop-i.invariant ∙ same-row (rows_of c.args.self.now) c.loop-i.i c.args.sig c.row-row_sig.result inside c.row-row_sig.ensures c.if-row_sig-sig.true)

pub loop-i-preserved : goal.loop-i-preserved
loop-i-preserved c =
    let inside : c.loop-i.i < length (rows_of c.args.self.now) = omega arith in
    c.loop-i.invariant ∙ other-row (rows_of c.args.self.now) c.loop-i.i c.args.sig c.row-row_sig.result inside c.row-row_sig.ensures c.if-row_sig-sig.false

pub returns : goal.returns
returns c = sym (c.loop-i.invariant ∙ no-row (rows_of c.args.self.now) c.loop-i.i c.args.sig (omega arith))
