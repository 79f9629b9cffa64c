use Rattle.std.proofs.Common.{◌-◌, ℕ, length, drop, ap, arith, refl, sym, ◌∙◌, length-drop}
use Rattle.std.proofs.lemmas.List.{nil_from_length, take_all}
use Rattle.uc_text.proofs.MarkedWords.{first_marked}
use Rattle.uc_text.proofs.lines.Words.next_marked.Goals as goal

pub returns-in-empty-1₀ : goal.returns-in-empty-1₀
returns-in-empty-1₀ c =
    first_marked c.self.inside.rest.now _ c.split_at.result.1.now _ c.args.self.now c.in_ok-number.count c.in_ok-number.number
    c.self.view_is (omega arith) refl (sym c.is_blank.ensures ∙ c.if-is_blank.false) c.in_ok-number.ensures.0 c.in_ok-number.ensures.1 (omega arith) c.split_at.ensures.back
    (λ some. absurd (omega arith)) (ap (drop {A = ℕ} 1) (sym (nil_from_length c.split_at.result.1.now (omega arith))))

pub returns-else-not-is_blank : goal.returns-else-not-is_blank
returns-else-not-is_blank c =
    first_marked c.self.inside.rest.now _ c.split_at.result.1.now _ c.args.self.now c.in_ok-number.count c.in_ok-number.number
    c.self.view_is (omega arith) refl (sym c.is_blank.ensures ∙ c.if-is_blank.false) c.in_ok-number.ensures.0 c.in_ok-number.ensures.1 (omega arith) c.split_at.ensures.back
    (λ some. sym c.is_blank-in-len1-up-1₀.ensures ∙ c.if-not-is_blank.false) (take_all (length c.split_at.result.1.now - 1) (drop 1 c.split_at.result.1.now) (omega (arith, length-drop 1 c.split_at.result.1.now)))
