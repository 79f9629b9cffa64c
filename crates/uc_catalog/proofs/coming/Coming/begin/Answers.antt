use Rattle.std.proofs.Common.{◌≡◌, ℕ, Bool, false, not, List, [], Option, Some, None, is_some, sym, ◌∙◌, ap, subst}
use Rattle.std.proofs.lemmas.Bool.{false≢true}
use Rattle.uc_catalog.specs.declared.coming.Coming.{Coming}
use Rattle.uc_catalog.specs.Coming.{ComesIn, ComesBy}
use Rattle.uc_catalog.proofs.coming.Coming.begin.Goals as goal

-- no bytes came where no file is being read
nothing_came : (keeps : Bool) (bytes : List ℕ) (coming : Option Coming) → is_some coming ≡ false → ComesBy keeps bytes coming → bytes ≡ []
nothing_came keeps bytes None none comes = comes
nothing_came keeps bytes (Some coming) none comes = absurd (false≢true (sym none))

pub returns-then-is_none-clause-comes : goal.returns-then-is_none-clause-comes
returns-then-is_none-clause-comes c = λ keeps bytes comes.
    let none = c.is_none.ensures ∙ ap not c.if-is_none.true in
    subst (λ (l : List ℕ). ComesIn keeps l c.new.result) (sym (nothing_came keeps bytes c.args.coming.now none comes)) (c.new.ensures.comes keeps)
