use Rattle.std.proofs.Common.{◌≡◌, ◌<◌, length, get_or, drop}
use Rattle.entry_model.specs.Entry.{Entry}
use Rattle.uc_catalog.specs.Files.{entries_in}
use Rattle.uc_catalog.proofs.place.place_of.Given as goal

abbrev pub invariant-files : goal.invariant-files
invariant-files l = record {
  within : l.row < length (entries_in l.file (drop l.file l.files));
  same : (e : Entry) → get_or (entries_in 0 l.files) l.entry e ≡ get_or (entries_in l.file (drop l.file l.files)) l.row e;
}
