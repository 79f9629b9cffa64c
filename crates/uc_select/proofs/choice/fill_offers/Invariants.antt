use Rattle.std.proofs.Common.{◌≡◌, take, length}
use Rattle.uc_select.specs.Offers.{AreOffers}
use Rattle.uc_select.proofs.choice.fill_offers.Given as goal

abbrev pub invariant-cores : goal.invariant-cores
invariant-cores l = record {
  so_far : AreOffers l.catalog.entries (take l.place l.cores) l.force l.offers.items;
  counts : length l.offers.items ≡ l.place;
}
