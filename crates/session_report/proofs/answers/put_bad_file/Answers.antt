use Rattle.std.proofs.Common.{◌≡◌, ◌++◌, ℕ, List, codes, sym, ◌∙◌, subst}
use Rattle.std.proofs.lemmas.List.{append_assoc}
use Rattle.uc_io.specs.Writing.{Writes}
use Rattle.session_report.proofs.answers.put_bad_file.Goals as goal

-- six pieces, joined from the right and from the left
six : (a b c d e f : List ℕ) → a ++ (b ++ (c ++ (d ++ (e ++ f)))) ≡ a ++ b ++ c ++ d ++ e ++ f
six a b c d e f =
    sym (append_assoc a b (c ++ (d ++ (e ++ f))))
    ∙ sym (append_assoc (a ++ b) c (d ++ (e ++ f)))
    ∙ sym (append_assoc (a ++ b ++ c) d (e ++ f))
    ∙ sym (append_assoc (a ++ b ++ c ++ d) e f)

pub returns : goal.returns
returns g c =
    rw (← c.dec-offset.ensures, ← c.as_slice.ensures.value, ← c.cause_text-cause.ensures, ← c.as_slice-2.ensures.value)
    (subst (λ (text : List ℕ). Writes g.S.Sink.stands g.S.Sink.faults c.args.out.now c.write_line.new.out (codes "answer bad-file " ++ text) c.write_line.result)
    (six c.args.name.now (codes " at ") c.as_slice.result.now (codes " ") c.as_slice-2.result.now (codes "\n")) c.write_line.ensures)
