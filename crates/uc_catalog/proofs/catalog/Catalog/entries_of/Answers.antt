use Rattle.std.proofs.Common.{◌≡◌, ◌+◌, ◌<◌, ◌≤◌, length, None, get_or, take, sym, ◌∙◌, ap, subst, arith}
use Rattle.std.specs.Prelude.{sum_by}
use Rattle.std.proofs.lemmas.List.{length-map, get_or-map}
use Rattle.uc_catalog.specs.declared.file.KeptFile.{KeptFile}
use Rattle.uc_catalog.specs.Files.{sum_of_rows, contents_of}
use Rattle.uc_catalog.specs.Contents.{FileSum, Contents, IsCounted, file_at}
use Rattle.uc_catalog.proofs.Located.{counted_is, within_all, sum_count}
use Rattle.uc_catalog.proofs.catalog.Catalog.entries_of.Goals as goal

pub returns-clause-counted : goal.returns-clause-counted
returns-clause-counted c = subst IsCounted c.self.view_is (counted_is _ _ _ c.self.invariant.0)

pub returns-clause-within : goal.returns-clause-within
returns-clause-within c =
    let keeps = c.self.inside.keeps in
    let files = c.self.inside.files.items in
    let sums = (contents_of keeps files None).files in
    let file = c.index.result.now in
    let none = file_at (contents_of keeps files None) (length sums) in
    let within : c.args.f < length files = omega (arith, subst (λ (v : Contents). c.args.f < length v.files) (sym c.self.view_is) c.requires, length-map files (λ (f : KeptFile). sum_of_rows f.rows)) in
    let here : get_or sums c.args.f none ≡ sum_of_rows file.rows =
    get_or-map (λ (f : KeptFile). sum_of_rows f.rows) files c.args.f file none within ∙ ap (λ (f : KeptFile). sum_of_rows f.rows) (sym c.index.ensures) in
    subst (λ (v : Contents). sum_by (λ file. file.entries) (take c.args.f v.files) + c.count.result ≤ length v.entries) c.self.view_is
    (omega (arith, within_all sums c.args.f none (omega (arith, within, length-map files (λ (f : KeptFile). sum_of_rows f.rows))), (counted_is keeps files None c.self.invariant.0).all, ap (λ (s : FileSum). s.entries) here, sum_count file.rows, c.count.ensures))
