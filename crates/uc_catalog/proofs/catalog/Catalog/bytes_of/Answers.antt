use Rattle.std.proofs.Common.{◌≡◌, ℕ, ◌+◌, ◌-◌, List, take, drop, sym, ◌∙◌, ap, subst, arith}
use Rattle.uc_catalog.specs.declared.file.KeptFile.{KeptFile}
use Rattle.uc_catalog.specs.Contents.{Contents, entry_at}
use Rattle.uc_catalog.specs.Files.{IsPlace}
use Rattle.file_rows.specs.UpdateRows.{own_of}
use Rattle.uc_catalog.proofs.RowsFound.{bytes_here}
use Rattle.uc_catalog.proofs.catalog.Catalog.bytes_of.Goals as goal

pub returns-clause-bytes : goal.returns-clause-bytes
returns-clause-bytes c =
    let extent = c.extent-start.result in
    let count : extent.0 + extent.1 - extent.0 ≡ extent.1 = omega arith in
    ap (λ (n : ℕ). take n (drop extent.0 c.as_slice-2.result.now)) count
    ∙ ap (λ (l : List ℕ). own_of l extent.0 extent.1) c.as_slice-2.ensures.value
    ∙ ap (λ (e : ℕ × ℕ). own_of c.index-file.result.now.bytes.items e.0 e.1) c.extent-start.ensures
    ∙ sym (bytes_here c.self.inside.keeps c.self.inside.files.items c.args.i c.place_of-place.result c.index-file.result.now (subst (λ (l : List KeptFile). IsPlace l c.args.i c.place_of-place.result) c.as_slice.ensures.value c.place_of-place.ensures) c.index-file.ensures)
    ∙ ap (λ (v : Contents). (entry_at v c.args.i).bytes) c.self.view_is
