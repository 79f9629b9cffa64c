use Rattle.std.proofs.Common.{◌≡◌, ℕ, ◌+◌, ◌-◌, ◌*◌, ◌/◌, ◌%◌, List, Ok, Err, length, take, drop, sym, ap, ◌∙◌, subst, arith}
use Rattle.std.specs.Prelude.{min}
use Rattle.std.specs.List.{flat_map, range_with_len}
use Rattle.std.proofs.lemmas.List.{take_min}
use Rattle.std.proofs.lemmas.List.Folds.{flat_map-map}
use Rattle.std.proofs.lemmas.Slice.{between_to_end}
use Rattle.uc_io.specs.Writing.{Writes}
use Rattle.uc_io.specs.declared.sinks.SinkFailed.{SinkFailed}
use Rattle.report_text.specs.Show.{hex_line, rows_of_32}
use Rattle.uc_report.proofs.Counted.{Writes-number, Writes-number-cut}
use Rattle.uc_report.proofs.show.put_bytes.Goals as goal

-- the line of a row, by its number
abbrev line_at : List ℕ → ℕ → List ℕ
line_at bytes i = hex_line (take 32 (drop (32 * i) bytes))

-- the lines of all rows are the text of the bytes
lines_are : (bytes : List ℕ) (rows : ℕ) → rows ≡ length bytes / 32 + min 1 (length bytes % 32) → flat_map (line_at bytes) (range_with_len 0 rows) ≡ flat_map hex_line (rows_of_32 bytes)
lines_are bytes rows is =
    ap (λ (n : ℕ). flat_map (line_at bytes) (range_with_len 0 n)) (omega (arith, is)) ∙ sym (flat_map-map hex_line (λ i. take 32 (drop (32 * i) bytes)) (range_with_len 0 ((length bytes + 31) / 32)))

-- a row of what is left is what its line shows
row_is : (bytes : List ℕ) (i n : ℕ) → n ≡ min (length (take (length bytes - 32 * i) (drop (32 * i) bytes))) 32 → hex_line (take n (take (length bytes - 32 * i) (drop (32 * i) bytes))) ≡ line_at bytes i
row_is bytes i n is =
    let rest = take (length bytes - 32 * i) (drop (32 * i) bytes) in
    let few : n ≡ min 32 (length rest) = omega (arith, is) in
    ap hex_line
    (ap (λ (k : ℕ). take k rest) few ∙ take_min 32 rest ∙ ap (λ (l : List ℕ). take 32 l) (between_to_end bytes (32 * i) (length bytes) (omega arith)))

pub returns-in_err-put_row : goal.returns-in_err-put_row
returns-in_err-put_row g c =
    let bytes = c.args.bytes.now in
    subst (λ (text : List ℕ). Writes g.S.Sink.stands g.S.Sink.faults c.args.out.now c.put_row.new.out text c.from_residual.result) (lines_are bytes c.div_ceil-row-end.result c.div_ceil-row-end.ensures)
    (Writes-number-cut g.S.Sink.stands g.S.Sink.faults c.args.out.now c.rows.out c.put_row.new.out (line_at bytes) 0 c.rows.row c.rows.row (omega arith) c.div_ceil-row-end.result c.in_err-put_row.field-0.0 c.from_residual.result c.rows-test.true c.from_residual.ensures.0 c.rows.invariant
    (subst (λ (text : List ℕ). Writes {E = SinkFailed} g.S.Sink.stands g.S.Sink.faults c.rows.out c.put_row.new.out text (Err c.in_err-put_row.field-0.0)) (row_is bytes c.rows.row c.min.result c.min.ensures) c.in_err-put_row.ensures))

pub rows-preserved : goal.rows-preserved
rows-preserved g c =
    let bytes = c.args.bytes.now in
    Writes-number {E = SinkFailed} g.S.Sink.stands g.S.Sink.faults c.args.out.now c.rows.out c.put_row.new.out (line_at bytes) 0 c.rows.row c.rows.row (omega arith) (c.rows.row + 1) (omega arith) c.rows.invariant
    (subst (λ (text : List ℕ). Writes {E = SinkFailed} g.S.Sink.stands g.S.Sink.faults c.rows.out c.put_row.new.out text (Ok tt)) (row_is bytes c.rows.row c.min.result c.min.ensures) c.in_ok-put_row.ensures)

pub returns : goal.returns
returns g c =
    subst (λ (text : List ℕ). Writes {E = SinkFailed} g.S.Sink.stands g.S.Sink.faults c.args.out.now c.rows.out text (Ok tt)) (lines_are c.args.bytes.now c.rows.row (omega (arith, c.rows-test.false, c.rows.auto.row-end, c.div_ceil-row-end.ensures))) c.rows.invariant
