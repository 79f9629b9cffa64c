use Rattle.std.proofs.Common.{◌≡◌, ◌+◌, [], ◌++◌, length, refl, arith}
use Rattle.intel_format.specs.Header.{total_len, header_triple}
use Rattle.intel_format.specs.Update.{entry_count}
use Rattle.intel_file.specs.declared.progress.Progress.{Progress}
use Rattle.intel_file.specs.declared.progress.Stage.TheVariants.{Entries}
use Rattle.intel_file.proofs.Steps.{count_is_fault, passes_count, has_head}
use Rattle.intel_file.proofs.progress.Progress.head_came.Goals as goal

pub returns-then-table_len-eq20 : goal.returns-then-table_len-eq20
returns-then-table_len-eq20 c = λ done before.
    let p = c.args.self.now in
    let whole : length done + c.table_len-table_len.result ≡ total_len p.header = c.table_len-table_len.ensures done before.after in
    let counted : c.begin_table-self.result.count ≡ entry_count c.args.unit.now = (c.begin_table-self.ensures 0).count in
    count_is_fault p done c.args.unit.now before c.requires c.begin_table-self.result.count counted (λ same. c.if-from.true (omega (arith, same, whole, c.from.ensures, c.from-2.ensures))) (omega (arith, whole, c.if-table_len-eq20.true))

pub returns-else-table_len-eq20 : goal.returns-else-table_len-eq20
returns-else-table_len-eq20 c = λ done before.
    let p = c.args.self.now in
    let whole : length done + c.table_len-table_len.result ≡ total_len p.header = c.table_len-table_len.ensures done before.after in
    let counted : c.begin_table-self.result.count ≡ entry_count c.args.unit.now = (c.begin_table-self.ensures 0).count in (
      passes_count p done c.args.unit.now before c.requires _ refl c.begin_table-self.result.count counted (λ same. c.if-from.true (omega (arith, same, whole, c.from.ensures, c.from-2.ensures)))
          (omega (arith, whole, before.room)) (omega (arith, whole, before.room, c.if-table_len-eq20.false)),
      refl,
    )

pub returns-then-self-eq0 : goal.returns-then-self-eq0
returns-then-self-eq0 c = λ done before.
    let p = c.args.self.now in
    let whole : length done + c.table_len-table_len.result ≡ total_len p.header = c.table_len-table_len.ensures done before.after in
    let q : Progress = record { stage = p.stage; header = p.header; left = p.left; sum = p.sum; table = c.begin_table-self.result } in
    c.close_table.ensures (done ++ c.args.unit.now) []
    (has_head p done c.args.unit.now before c.requires q refl refl (c.begin_table-self.ensures (header_triple p.header)) (omega (arith, whole, c.if-from.false, c.from.ensures, c.from-2.ensures)), omega (arith, (c.begin_table-self.ensures 0).long, c.requires, c.if-self-eq0.true))

pub returns-else-self-eq0 : goal.returns-else-self-eq0
returns-else-self-eq0 c = λ done before.
    let p = c.args.self.now in
    let whole : length done + c.table_len-table_len.result ≡ total_len p.header = c.table_len-table_len.ensures done before.after in
    let q : Progress = record { stage = Entries; header = p.header; left = p.left; sum = p.sum; table = c.begin_table-self.result } in
    (has_head p done c.args.unit.now before c.requires q refl refl (c.begin_table-self.ensures (header_triple p.header)) (omega (arith, whole, c.if-from.false, c.from.ensures, c.from-2.ensures)), omega (arith, (c.begin_table-self.ensures 0).long, c.requires, c.if-self-eq0.false))
