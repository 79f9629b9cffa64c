use Rattle.std.proofs.Common.{◌≡◌, ◌-◌, ◌≤◌}
use Rattle.uc_bytes.specs.declared.TheConstants.{FILE_LIMIT}
use Rattle.uc_catalog.specs.Contents.{with_coming, fed_of}
use Rattle.update_reads.specs.Fed.{HasTaken}
use Rattle.update_reads.proofs.pieces.feed_pieces.Given as goal

abbrev pub invariant-pieces : goal.invariant-pieces
invariant-pieces g l = record {
  within : l.came ≤ FILE_LIMIT;
  fed : fed_of l.catalog ≤ l.came;
  kept : l.catalog ≡ with_coming l.catalog.coming l.initial.catalog;
  same : g.F.Files.holds l.files ≡ g.F.Files.holds l.initial.files;
  still : g.F.Pieces.tells l.initial.files → g.F.Pieces.tells l.files;
  count : g.F.Pieces.faults l.files ≡ g.F.Pieces.faults l.initial.files;
  taken : HasTaken (g.F.Pieces.tells l.initial.files) (g.F.Pieces.left l.initial.files) (g.F.Pieces.left l.files) l.came l.fault l.catalog;
}

abbrev pub decreases-pieces : goal.decreases-pieces
decreases-pieces g l = FILE_LIMIT - l.came
