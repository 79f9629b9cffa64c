use Rattle.std.proofs.Common.{◌<◌, Option, None, List, [], ◌∷◌, ◌++◌, length, sym, ◌∙◌, ap, subst, arith}
use Rattle.std.proofs.lemmas.List.{length-map}
use Rattle.uc_catalog.specs.declared.coming.Coming.{Coming}
use Rattle.uc_catalog.specs.declared.file.KeptFile.{KeptFile}
use Rattle.uc_catalog.specs.Coming.{ComesBy}
use Rattle.uc_catalog.specs.Contents.{Contents, Adds, with_coming}
use Rattle.uc_catalog.specs.Files.{sum_of_rows, contents_of, IsComing}
use Rattle.uc_catalog.proofs.Located.{counted_is, counted_same}
use Rattle.uc_catalog.proofs.Added.{adds, are_kept}
use Rattle.uc_catalog.proofs.Comings.{some_came}
use Rattle.uc_catalog.proofs.catalog.Catalog.end_file.Goals as goal

pub returns-in_err-reserve-clause-counted : goal.returns-in_err-reserve-clause-counted
returns-in_err-reserve-clause-counted c = counted_same _ _ _ _ c.reserve.ensures.items c.self.invariant.0

pub invariant_of-self-in-Ok : goal.invariant_of-self-in-Ok
invariant_of-self-in-Ok c =
    let keeps = c.self.inside.keeps in
    let files = c.self.inside.files.items in
    let came = some_came keeps c.self.inside.coming c.self.invariant.1 in
    let before = subst (λ (o : Option Coming). ComesBy keeps came.0 o) (sym c.take.ensures.value) came.1 in
    let finished = c.in-Ok.ensures.finished keeps came.0 before in
    let behind = c.push_reserved.ensures.items ∙ ap (λ (l : List KeptFile). l ++ c.in-Ok.file ∷ []) c.reserve.ensures.items in
    let room : length files < 16 = omega (arith, subst (λ (v : Contents). length v.files < 16) (sym c.self.view_is) c.requires, length-map files (λ (f : KeptFile). sum_of_rows f.rows)) in (
      are_kept keeps files c.push_reserved.new.self.items c.in-Ok.file None None came.0 finished.0 finished.1 behind c.in-Ok.ensures.few room c.self.invariant.0,
      subst (λ (o : Option Coming). IsComing keeps o) (sym c.take.ensures.after) tt,
    )

pub returns-in-Ok-clause-ended : goal.returns-in-Ok-clause-ended
returns-in-Ok-clause-ended c = λ bytes comes.
    let keeps = c.self.inside.keeps in
    let came = subst (λ (v : Contents). ComesBy v.keeps bytes v.coming) (sym c.self.view_is) comes in
    let before = subst (λ (o : Option Coming). ComesBy keeps bytes o) (sym c.take.ensures.value) came in
    let finished = c.in-Ok.ensures.finished keeps bytes before in
    let behind = c.push_reserved.ensures.items ∙ ap (λ (l : List KeptFile). l ++ c.in-Ok.file ∷ []) c.reserve.ensures.items in (
      subst (λ (v : Contents). Adds v (contents_of keeps c.push_reserved.new.self.items c.take.new.self) bytes) c.self.view_is
          (adds keeps c.self.inside.files.items c.push_reserved.new.self.items c.in-Ok.file c.self.inside.coming c.take.new.self bytes finished.0 finished.1 behind),
      c.take.ensures.after,
    )

pub returns-in-Ok-clause-counted : goal.returns-in-Ok-clause-counted
returns-in-Ok-clause-counted c = counted_is _ _ _ (invariant_of-self-in-Ok c).0

pub returns-in-Err-clause-ended : goal.returns-in-Err-clause-ended
returns-in-Err-clause-ended c = λ bytes comes.
    let keeps = c.self.inside.keeps in
    let came = subst (λ (v : Contents). ComesBy v.keeps bytes v.coming) (sym c.self.view_is) comes in
    let before = subst (λ (o : Option Coming). ComesBy keeps bytes o) (sym c.take.ensures.value) came in (
      c.in-Err.ensures.finished keeps bytes before,
      (λ i. contents_of keeps (c.reserve.ensures.items i) (c.take.ensures.after i)) ∙ ap (λ (v : Contents). with_coming None v) c.self.view_is,
    )

pub returns-in-Err-clause-counted : goal.returns-in-Err-clause-counted
returns-in-Err-clause-counted c = counted_same _ _ _ _ c.reserve.ensures.items c.self.invariant.0
