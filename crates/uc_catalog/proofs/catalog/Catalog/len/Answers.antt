use Rattle.std.proofs.Common.{◌+◌, List, ◌∷◌, [], length, get_or, take, drop, suc, take-append-drop, sym, ◌∙◌, ap, subst, arith, length-append}
use Rattle.std.proofs.lemmas.List.{take_more}
use Rattle.entry_model.specs.Entry.{Entry}
use Rattle.uc_catalog.specs.declared.file.KeptFile.{KeptFile}
use Rattle.uc_catalog.specs.Contents.{IsCounted}
use Rattle.file_rows.specs.FileRows.{count_of}
use Rattle.uc_catalog.specs.Files.{entries_in, entries_of_file}
use Rattle.uc_catalog.proofs.Located.{counted_is, entries_append, many_of_rows, parted}
use Rattle.uc_catalog.proofs.catalog.Catalog.len.Goals as goal

pub returns-clause-counted : goal.returns-clause-counted
returns-clause-counted c = subst IsCounted c.self.view_is (counted_is _ _ _ c.self.invariant.0)

pub overflow_add-len : goal.overflow_add-len
overflow_add-len c =
    let files = c.self.inside.files.items in
    let items = c.deref-file-items.result.now in
    let at = c.files.file-index in
    let counted = counted_is c.self.inside.keeps files c.self.inside.coming c.self.invariant.0 in
    let split = ap (λ (l : List Entry). length l) (ap (entries_in 0) (sym c.deref-file-items.ensures.value ∙ sym (take-append-drop at items)) ∙ entries_append 0 (take at items) (drop at items)) in
    let next = ap (λ (l : List Entry). length l) (parted items at (0 + length (take at items)) c.file-item.result (omega arith)) in
    let count = many_of_rows (0 + length (take at items)) (get_or items at c.file-item.result).bytes.items (get_or items at c.file-item.result).rows in
    omega (
      arith,
      c.files.invariant,
      split,
      next,
      count,
      counted.few_files,
      counted.few_entries,
      c.count-len.ensures,
      ap (λ (f : KeptFile). count_of f.rows) c.file-item.is,
      length-append (entries_in 0 (take at items)) (entries_in (0 + length (take at items)) (drop at items)),
      length-append (entries_of_file (0 + length (take at items)) (get_or items at c.file-item.result)) (entries_in (0 + length (take at items) + 1) (drop (suc at) items)),
    )

pub files-preserved : goal.files-preserved
files-preserved c =
    let items = c.deref-file-items.result.now in
    let at = c.files.file-index in
    let file = get_or items at c.file-item.result in
    let more = ap (λ (l : List Entry). length l) (ap (entries_in 0) (take_more items at c.file-item.result (omega arith)) ∙ entries_append 0 (take at items) (file ∷ [])) in
    omega (
      arith,
      c.files.invariant,
      more,
      c.count-len.ensures,
      ap (λ (f : KeptFile). count_of f.rows) c.file-item.is,
      many_of_rows (0 + length (take at items)) file.bytes.items file.rows,
      length-append (entries_in 0 (take at items)) (entries_in (0 + length (take at items)) (file ∷ [])),
      length-append (entries_of_file (0 + length (take at items)) file) [],
    )
