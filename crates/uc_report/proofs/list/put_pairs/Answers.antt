use Rattle.std.proofs.Common.{◌≡◌, ℕ, ◌+◌, ◌-◌, List, [], ◌∷◌, Ok, Err, length, get_or, drop, refl, sym, subst, arith}
use Rattle.std.specs.List.{flat_map, range_with_len}
use Rattle.std.proofs.lemmas.Option.{get_or_from_slice_get}
use Rattle.uc_io.specs.Writing.{Writes}
use Rattle.uc_io.specs.declared.sinks.SinkFailed.{SinkFailed}
use Rattle.report_text.specs.Lines.{pair_line}
use Rattle.uc_catalog.specs.Contents.{entry_at}
use Rattle.uc_report.proofs.Counted.{by_number, Writes-number, Writes-number-cut}
use Rattle.uc_report.proofs.list.put_pairs.Goals as goal

-- the line of a pair, by its number
abbrev line_at : List (ℕ × ℕ) → ℕ → List ℕ
line_at pairs k = pair_line (get_or pairs k (0, 0))

-- the lines of all pairs but the first
lines_are : (pairs : List (ℕ × ℕ)) → flat_map (line_at pairs) (range_with_len 1 (length pairs - 1)) ≡ flat_map pair_line (drop 1 pairs)
lines_are [] = refl
lines_are (pair ∷ pairs) =
    sym (by_number pair_line (pair ∷ pairs) (0, 0) 1 (length (pair ∷ pairs) - 1) (omega arith))

pub returns-in_err-put_pair : goal.returns-in_err-put_pair
returns-in_err-put_pair g c =
    let pairs = (entry_at c.args.catalog.now c.args.i).pairs in
    let here : get_or pairs c.pairs.k (0, 0) ≡ c.pair-sig.result = get_or_from_slice_get pairs c.pairs.k _ (0, 0) c.pair-sig.ensures in
    subst (λ (text : List ℕ). Writes g.S.Sink.stands g.S.Sink.faults c.args.out.now c.put_pair.new.out text c.from_residual.result) (lines_are pairs)
    (Writes-number-cut g.S.Sink.stands g.S.Sink.faults c.args.out.now c.pairs.out c.put_pair.new.out (line_at pairs) 1 (c.pairs.k - 1) c.pairs.k (omega (arith, c.pairs.auto.k)) (length pairs - 1) c.in_err-put_pair.field-0.0 c.from_residual.result (omega (arith, c.pairs.auto.k, c.pairs-test.true, c.pairs-k-end.ensures)) c.from_residual.ensures.0 c.pairs.invariant.wrote
    (subst (λ (p : ℕ × ℕ). Writes {E = SinkFailed} g.S.Sink.stands g.S.Sink.faults c.pairs.out c.put_pair.new.out (pair_line p) (Err c.in_err-put_pair.field-0.0)) (sym here) c.in_err-put_pair.ensures))

pub pairs-preserved : goal.pairs-preserved
pairs-preserved g c =
    let pairs = (entry_at c.args.catalog.now c.args.i).pairs in
    let here : get_or pairs c.pairs.k (0, 0) ≡ c.pair-sig.result = get_or_from_slice_get pairs c.pairs.k _ (0, 0) c.pair-sig.ensures in
    record {
      within = omega (arith, c.pairs-test.true, c.pairs-k-end.ensures);
      wrote =
          Writes-number {E = SinkFailed} g.S.Sink.stands g.S.Sink.faults c.args.out.now c.pairs.out c.put_pair.new.out (line_at pairs) 1 (c.pairs.k - 1) c.pairs.k (omega (arith, c.pairs.auto.k)) (c.pairs.k + 1 - 1) (omega (arith, c.pairs.auto.k)) c.pairs.invariant.wrote
          (subst (λ (p : ℕ × ℕ). Writes {E = SinkFailed} g.S.Sink.stands g.S.Sink.faults c.pairs.out c.put_pair.new.out (pair_line p) (Ok tt)) (sym here) c.in_ok-put_pair.ensures);
    }

pub returns : goal.returns
returns g c =
    let pairs = (entry_at c.args.catalog.now c.args.i).pairs in
    let all : c.pairs.k - 1 ≡ length pairs - 1 = omega (arith, c.pairs-test.false, c.pairs-k-end.ensures, c.pairs.invariant.within) in
    subst (λ (text : List ℕ). Writes {E = SinkFailed} g.S.Sink.stands g.S.Sink.faults c.args.out.now c.pairs.out text (Ok tt)) (lines_are pairs)
    (subst (λ (n : ℕ). Writes {E = SinkFailed} g.S.Sink.stands g.S.Sink.faults c.args.out.now c.pairs.out (flat_map (line_at pairs) (range_with_len 1 n)) (Ok tt)) all c.pairs.invariant.wrote)
