use Rattle.std.proofs.Common.{◌≡◌, [], take}
use Rattle.amd_file.specs.Listing.{grouped}
use Rattle.amd_file.proofs.listing.containers_of.Given as goal

abbrev pub invariant-loop-listed : goal.invariant-loop-listed
invariant-loop-listed l = l.containers.items ≡ grouped [] (take l.listed-index l.patches)
