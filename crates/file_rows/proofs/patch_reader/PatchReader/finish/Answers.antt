use Rattle.std.proofs.Common.{List, sym, ◌∙◌, ap}
use Rattle.amd_file.specs.declared.part.AmdPart.{AmdPart}
use Rattle.file_rows.specs.declared.patches.PatchRows.{PatchRows}
use Rattle.file_rows.specs.PatchSums.{nothing, with_parts, sum_of}
use Rattle.file_rows.proofs.Told.{all_told}
use Rattle.file_rows.proofs.patch_reader.PatchReader.finish.Goals as goal

pub returns-in-None : goal.returns-in-None
returns-in-None c = λ bytes reads.
    let gathers = reads.0 in
    let ended = c.in-None.ensures bytes gathers.told gathers.stands in (
      ended.0,
      ended.1,
      all_told c.into_rows.result (sum_of c.args.self.gathered) ended.0
          (gathers.sum ∙ ap (λ (told : List AmdPart). with_parts nothing told) ended.2)
          (ap (λ (kept : PatchRows). kept.rows.items) (sym c.into_rows.ensures))
          (ap (λ (kept : PatchRows). kept.tables.items) (sym c.into_rows.ensures)),
    )
