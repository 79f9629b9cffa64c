use Rattle.std.proofs.Common.{◌≡◌, take}
use Rattle.update_reads.specs.Reading.{IsOfFiles}
use Rattle.update_reads.proofs.reading.read_files.Given as goal

abbrev pub invariant-names : goal.invariant-names
invariant-names g l = record {
  same : g.F.Files.holds l.files ≡ g.F.Files.holds l.fn.files;
  still : g.F.Pieces.tells l.fn.files → g.F.Pieces.tells l.files;
  place : l.place ≡ l.name-index;
  count : g.F.Pieces.faults l.files ≡ g.F.Pieces.faults l.fn.files;
  keeps : l.catalog.keeps ≡ l.fn.catalog.keeps;
  stands : IsOfFiles (g.F.Pieces.tells l.fn.files) (take l.name-index l.names) (g.F.Files.holds l.fn.files) l.catalog;
}
