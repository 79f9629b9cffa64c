use Rattle.std.proofs.Common.{vec_len, true, false, refl, sym, subst, arith}
use Rattle.std.proofs.lemmas.List.{take_all}
use Rattle.amd_file.specs.declared.part.AmdPart.{AmdPart}
use Rattle.amd_file.specs.declared.listing.Listing.{Listing}
use Rattle.amd_file.specs.Listings.{IsAdded}
use Rattle.amd_file.proofs.Listings.{listed_container, listed_patch, listed_other}
use Rattle.amd_file.proofs.listing.Listing.add.Goals as goal

pub returns-in-Container-clause-ok : goal.returns-in-Container-clause-ok
returns-in-Container-clause-ok c = λ told at.
    let old = c.args.self.now in
    let head = c.in-Container.head in
    let after : Listing = record { patches = old.patches; head = head; fresh = true } in
    subst (λ (part : AmdPart). IsAdded told part after) (sym c.in-Container.is) (listed_container old told at head after refl refl refl)

pub returns-in_ok-push-in-Patch-clause-ok : goal.returns-in_ok-push-in-Patch-clause-ok
returns-in_ok-push-in-Patch-clause-ok c = λ told at.
    let old = c.args.self.now in
    let patch = c.in-Patch.patch in
    let after : Listing = record { patches = c.push.new.self; head = old.head; fresh = false } in
    subst (λ (part : AmdPart). IsAdded told part after) (sym c.in-Patch.is) (listed_patch old told at patch after c.in_ok-push-in-Patch.ensures.items refl refl)

pub returns-in_default : goal.returns-in_default
returns-in_default c = record {
  ok = λ told at. listed_other c.args.self.now told at c.args.part c.in_default.not-Container c.in_default.not-Patch;
  before = take_all (vec_len c.args.self.now.patches) c.args.self.now.patches.items (omega (arith, c.args.self.now.patches.ok.0));
}
