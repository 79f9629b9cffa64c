use Rattle.std.proofs.Common.{◌≡◌, ◌∷◌, ◌&&◌, Bool, length, codes, sym, ap, ◌∙◌}
use Rattle.std.specs.Prelude.{◌==◌}
use Rattle.uc_text.specs.Lines.{words_of}
use Rattle.uc_script.proofs.Words.{end_alone, none_next, test_is}
use Rattle.uc_script.proofs.forms.is_end.Goals as goal

pub returns-then-ne : goal.returns-then-ne
returns-then-ne c =
    let split : words_of c.args.line.now ≡ c.in-Some.word.now ∷ c.next.new.self = sym c.new-words.ensures ∙ c.in-Some.ensures.steps in
    let other = test_is c.in-Some.word.now c.as_slice.result.now (codes "end") c.ne.result _ c.ne.ensures c.if-ne.true c.as_slice.ensures in
    sym (end_alone _ _ _ split ∙ ap (λ (b : Bool). b && (length c.next.new.self == 0)) other)

pub returns : goal.returns
returns c =
    let split : words_of c.args.line.now ≡ c.in-Some.word.now ∷ c.next.new.self = sym c.new-words.ensures ∙ c.in-Some.ensures.steps in
    let same = test_is c.in-Some.word.now c.as_slice.result.now (codes "end") c.ne.result _ c.ne.ensures c.if-ne.false c.as_slice.ensures in
    none_next (λ word. word.now) c.next.new.self c.next-2.new.self c.next-2.result c.is_none.result c.next-2.ensures.steps c.is_none.ensures
    ∙ sym (end_alone _ _ _ split ∙ ap (λ (b : Bool). b && (length c.next.new.self == 0)) same)
