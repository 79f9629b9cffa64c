use Rattle.std.proofs.Common.{suc, ◌+◌, ◌<◌, List, length, get_or, drop, ◌∙◌, ap, subst, arith}
use Rattle.std.proofs.lemmas.List.{get_or_append_left, get_or_default}
use Rattle.entry_model.specs.Entry.{Entry}
use Rattle.uc_catalog.specs.declared.file.KeptFile.{KeptFile}
use Rattle.file_rows.specs.FileRows.{count_of}
use Rattle.uc_catalog.specs.Files.{entries_of_file, entries_in}
use Rattle.uc_catalog.proofs.Located.{many_of_rows, parted}
use Rattle.uc_catalog.proofs.place.place_of.Goals as goal

pub returns-then-row-count : goal.returns-then-row-count
returns-then-row-count c =
    let files = c.args.files.now in
    let f = c.files.file in
    let inside : f < length files = omega (arith, c.files-test.true) in
    let counts : (d : KeptFile) → c.files.row < count_of (get_or files f d).rows =
    λ d. subst (λ (file : KeptFile). c.files.row < count_of file.rows) (get_or_default files f c.index-files-file.result d inside) (omega (arith, c.if-row-count.true, c.count-count.ensures)) in
    record {
      file = inside;
      row = counts;
      is = λ d e.
          let file = get_or files f d in
          c.files.invariant.same e ∙ ap (λ (l : List Entry). get_or l c.files.row e) (parted files f f d inside)
          ∙ get_or_append_left (entries_of_file f file) (entries_in (f + 1) (drop (suc f) files)) e c.files.row (omega (arith, counts d, many_of_rows f file.bytes.items file.rows));
    }
