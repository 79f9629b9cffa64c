use Rattle.std.proofs.Common.{◌≡◌, ℕ, ◌+◌, ◌-◌, ◌<◌, ◌≤◌, List, [], ◌++◌, inl, inr, Some, Ok, Err, length, get_or, take, sym, ◌∙◌, ap, subst, arith}
use Rattle.std.specs.Prelude.{slice_get}
use Rattle.std.specs.List.{flat_map}
use Rattle.std.proofs.lemmas.List.{flat_map_more, take_more, take_all}
use Rattle.std.proofs.lemmas.Option.{get_or_from_slice_get, slice_get_within, slice_get_cases}
use Rattle.uc_io.specs.Writing.{Writes}
use Rattle.uc_io.proofs.Writes.{Writes-then, Writes-cut}
use Rattle.uc_io.specs.declared.sinks.SinkFailed.{SinkFailed}
use Rattle.entry_model.specs.Entry.{served}
use Rattle.report_text.specs.Lines.{sig_line}
use Rattle.uc_catalog.specs.Contents.{entry_at}
use Rattle.uc_report.proofs.list.put_sigs.Goals as goal

-- the lines of signatures, with one signature more
sigs_more : (sigs : List ℕ) (k sig : ℕ) → slice_get sigs k ≡ Some sig → flat_map sig_line (take k sigs) ++ sig_line sig ≡ flat_map sig_line (take (k + 1) sigs)
sigs_more sigs k sig at =
    ap (λ (s : ℕ). flat_map sig_line (take k sigs) ++ sig_line s) (sym (get_or_from_slice_get sigs k sig 0 at)) ∙ flat_map_more sig_line [] (take k sigs) (get_or sigs k 0)
    ∙ ap (flat_map sig_line) (sym (take_more sigs k 0 (slice_get_within sigs k sig at)))

pub returns-in_err-put_sig : goal.returns-in_err-put_sig
returns-in_err-put_sig g c =
    let sigs = served (entry_at c.args.catalog.now c.args.i) in
    let at : slice_get sigs c.sigs.k ≡ Some c.in-Some.sig = sym c.in-Some.ensures.value in
    Writes-cut g.S.Sink.stands g.S.Sink.faults _ _ _ sig_line sigs c.sigs.k 0 c.in_err-put_sig.field-0.0 c.from_residual.result (slice_get_within sigs c.sigs.k c.in-Some.sig at) c.from_residual.ensures.0 c.sigs.invariant.wrote
    (subst (λ (s : ℕ). Writes {E = SinkFailed} g.S.Sink.stands g.S.Sink.faults c.sigs.out c.put_sig.new.out (sig_line s) (Err c.in_err-put_sig.field-0.0)) (sym (get_or_from_slice_get sigs c.sigs.k c.in-Some.sig 0 at)) c.in_err-put_sig.ensures)

pub overflow_add-k : goal.overflow_add-k
overflow_add-k g c =
    let sigs = served (entry_at c.args.catalog.now c.args.i) in
    omega (arith, slice_get_within sigs c.sigs.k c.in-Some.sig (sym c.in-Some.ensures.value), c.in-Some.ensures.few)

pub sigs-smaller : goal.sigs-smaller
sigs-smaller g c =
    let sigs = served (entry_at c.args.catalog.now c.args.i) in
    let inside : c.sigs.k < length sigs = slice_get_within sigs c.sigs.k c.in-Some.sig (sym c.in-Some.ensures.value) in
    let fewer : length sigs - (c.sigs.k + 1) < length sigs - c.sigs.k = omega (arith, inside) in
    fewer

pub sigs-preserved : goal.sigs-preserved
sigs-preserved g c =
    let sigs = served (entry_at c.args.catalog.now c.args.i) in
    let at : slice_get sigs c.sigs.k ≡ Some c.in-Some.sig = sym c.in-Some.ensures.value in
    record {
      within = omega (arith, slice_get_within sigs c.sigs.k c.in-Some.sig at);
      wrote =
          subst (λ (text : List ℕ). Writes {E = SinkFailed} g.S.Sink.stands g.S.Sink.faults c.args.out.now c.put_sig.new.out text (Ok tt)) (sigs_more sigs c.sigs.k c.in-Some.sig at)
          (Writes-then g.S.Sink.stands g.S.Sink.faults _ _ _ _ _ (Ok tt) c.sigs.invariant.wrote c.in_ok-put_sig.ensures);
    }

-- no signature stands there: all were before
past : (sigs : List ℕ) (k : ℕ) → ((sig : ℕ) → slice_get sigs k ≡ Some sig → ⊥) → length sigs ≤ k
past sigs k none =
    elim ((slice_get_cases sigs k).1) [
      | inl one ↦ absurd (none one.0 one.2)
      | inr over ↦ over.0
    ]

pub returns : goal.returns
returns g c =
    let sigs = served (entry_at c.args.catalog.now c.args.i) in
    let all : take c.sigs.k sigs ≡ sigs = take_all c.sigs.k sigs (past sigs c.sigs.k (λ sig at. c.in_default.not-Some sig (c.served.ensures.value ∙ at))) in
    subst (λ (l : List ℕ). Writes {E = SinkFailed} g.S.Sink.stands g.S.Sink.faults c.args.out.now c.sigs.out (flat_map sig_line l) (Ok tt)) all c.sigs.invariant.wrote
