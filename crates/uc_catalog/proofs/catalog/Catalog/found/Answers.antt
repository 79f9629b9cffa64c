use Rattle.std.proofs.Common.{◌≡◌, ℕ, ◌+◌, ◌-◌, ◌<◌, List, [], ◌∷◌, length, take, drop, sym, ◌∙◌, ap, subst, arith, length-take, length-drop}
use Rattle.std.proofs.lemmas.List.{get_or_default}
use Rattle.entry_model.specs.Entry.{Entry}
use Rattle.file_rows.specs.declared.updates.UpdateRow.{UpdateRow}
use Rattle.file_rows.specs.declared.patches.PatchRow.{PatchRow}
use Rattle.uc_catalog.specs.declared.file.KeptFile.{KeptFile}
use Rattle.uc_catalog.specs.Contents.{Contents, entry_at}
use Rattle.uc_catalog.specs.Files.{IsPlace}
use Rattle.file_rows.specs.UpdateRows.{own_of, entry_of_update}
use Rattle.file_rows.specs.PatchRows.{entry_of_patch}
use Rattle.uc_catalog.proofs.RowsFound.{update_here, update_stands, patch_here, patch_stands, patch_within}
use Rattle.uc_catalog.proofs.catalog.Catalog.found.Goals as goal

pub returns-in-Updates : goal.returns-in-Updates
returns-in-Updates c =
    let place = c.place_of-place.result in
    let file = c.index.result.now in
    let kept = c.in-Updates.kept in
    let row = c.index-update.result.now in
    let is : entry_at c.args.self.now c.args.i ≡ entry_of_update place.file file.bytes.items kept.pairs.items row =
    ap (λ (v : Contents). entry_at v c.args.i) (sym c.self.view_is)
    ∙ update_here c.self.inside.keeps c.self.inside.files.items c.args.i place file (subst (λ (l : List KeptFile). IsPlace l c.args.i c.place_of-place.result) c.as_slice.ensures.value c.place_of-place.ensures) c.index.ensures kept c.in-Updates.is row
    ∙ ap (λ (r : UpdateRow). entry_of_update place.file file.bytes.items kept.pairs.items r) (sym c.index-update.ensures) in
    let here = subst (λ (l : List KeptFile). IsPlace l c.args.i place) c.as_slice.ensures.value c.place_of-place.ensures in
    let stand = update_stands c.self.inside.keeps c.self.inside.files.items c.args.i place file here c.index.ensures kept c.in-Updates.is c.self.invariant.0 in
    let count : row.pairs_at + row.pairs - row.pairs_at ≡ row.pairs = omega arith in
    let pairs : take (row.pairs_at + row.pairs - row.pairs_at) (drop row.pairs_at c.deref.result.now) ≡ own_of kept.pairs.items row.pairs_at row.pairs =
    ap (λ (n : ℕ). take n (drop row.pairs_at c.deref.result.now)) count ∙ ap (λ (l : List (ℕ × ℕ)). own_of l row.pairs_at row.pairs) c.deref.ensures.value in (
      ap (λ (e : Entry). e.facts) is,
      ap (λ (e : Entry). e.pairs) is ∙ ap (λ (l : List (ℕ × ℕ)). (row.sig, row.flags) ∷ l) (sym pairs),
      ap (λ (e : Entry). e.rows) is,
      omega (arith, stand.few_pairs, ap (λ (l : List (ℕ × ℕ)). length l) c.deref.ensures.value, length-take (row.pairs_at + row.pairs - row.pairs_at) (drop row.pairs_at c.deref.result.now), length-drop row.pairs_at c.deref.result.now),
    )

pub returns-in-Patches : goal.returns-in-Patches
returns-in-Patches c =
    let place = c.place_of-place.result in
    let file = c.index.result.now in
    let kept = c.in-Patches.kept in
    let row = c.index-patch.result.now in
    let is : entry_at c.args.self.now c.args.i ≡ entry_of_patch place.file file.bytes.items kept.tables.items row =
    ap (λ (v : Contents). entry_at v c.args.i) (sym c.self.view_is)
    ∙ patch_here c.self.inside.keeps c.self.inside.files.items c.args.i place file (subst (λ (l : List KeptFile). IsPlace l c.args.i c.place_of-place.result) c.as_slice.ensures.value c.place_of-place.ensures) c.index.ensures kept c.in-Patches.is row
    ∙ ap (λ (r : PatchRow). entry_of_patch place.file file.bytes.items kept.tables.items r) (sym c.index-patch.ensures) in
    let here = subst (λ (l : List KeptFile). IsPlace l c.args.i place) c.as_slice.ensures.value c.place_of-place.ensures in
    let stand = patch_stands c.self.inside.keeps c.self.inside.files.items c.args.i place file here c.index.ensures kept c.in-Patches.is c.self.invariant.0 in
    let within = patch_within c.self.inside.keeps c.self.inside.files.items c.args.i place file here c.index.ensures kept c.in-Patches.is in
    let tabled : row.table < length kept.tables.items = subst (λ (r : PatchRow). r.table < length kept.tables.items) (sym c.index-patch.ensures) (stand.tables place.row row within) in (
      ap (λ (e : Entry). e.facts) is,
      ap (λ (e : Entry). e.pairs) is,
      ap (λ (e : Entry). e.rows) is ∙ get_or_default kept.tables.items row.table [] c.index-in-Patches.result.now tabled ∙ sym c.index-in-Patches.ensures,
    )
