use Rattle.std.proofs.Common.{◌≡◌, take, length}
use Rattle.uc_catalog.specs.Files.{entries_in}
use Rattle.uc_catalog.proofs.catalog.Catalog.len.Given as goal

abbrev pub invariant-files : goal.invariant-files
invariant-files l = l.len ≡ length (entries_in 0 (take l.file-index l.file-items))
