-- Entries as they are kept tell what the entries do.
use Rattle.std.proofs.Common.{◌≡◌, ℕ, zero, suc, Bool, true, List, [], ◌∷◌, get_or, map, refl, sym, ◌∙◌, ap, subst, arith}
use Rattle.std.specs.Prelude.{Option, Some, None, slice_get}
use Rattle.std.specs.Option.{option_map}
use Rattle.std.proofs.lemmas.Option.{slice_get-map}
use Rattle.uc_bytes.specs.declared.causes.Vendor.{Vendor}
use Rattle.uc_bytes.specs.declared.causes.Vendor.TheVariants.{Intel, Amd}
use Rattle.entry_model.specs.declared.facts.CoreFacts.{CoreFacts}
use Rattle.entry_model.specs.Entry.{Entry, patch_entry}
use Rattle.entry_model.specs.Selection.{IsServed, FitsOf, IsSafe, Admissible, IsBest, IsOffer}
use Rattle.uc_catalog.specs.Contents.{kept}

-- where bytes are kept, all is
pub kept_all : (entries : List Entry) → map (kept true) entries ≡ entries
kept_all [] = refl
kept_all (e ∷ es) = ap (λ (l : List Entry). e ∷ l) (kept_all es)

module _ (keeps : Bool) where
  served_from : (entry : Entry) (sig : ℕ) → IsServed (kept keeps entry) sig → IsServed entry sig
  served_from entry sig is =
      record { by_table = is.by_table; some_id = is.some_id; of_family = is.of_family; not_0f = is.not_0f; not_13 = is.not_13 }

  served_to : (entry : Entry) (sig : ℕ) → IsServed entry sig → IsServed (kept keeps entry) sig
  served_to entry sig is =
      record { by_table = is.by_table; some_id = is.some_id; of_family = is.of_family; not_0f = is.not_0f; not_13 = is.not_13 }

  fits_from : (vendor : Vendor) (entry : Entry) (core : CoreFacts) → FitsOf vendor (kept keeps entry) core → FitsOf vendor entry core
  fits_from Intel entry core is = is
  fits_from Amd entry core is = served_from entry core.sig is

  fits_to : (vendor : Vendor) (entry : Entry) (core : CoreFacts) → FitsOf vendor entry core → FitsOf vendor (kept keeps entry) core
  fits_to Intel entry core is = is
  fits_to Amd entry core is = served_to entry core.sig is

  safe_from : (entry : Entry) (rev : ℕ) → IsSafe (kept keeps entry) rev → IsSafe entry rev
  safe_from entry rev is = record { intel = is.intel; stated = is.stated; reached = is.reached }

  safe_to : (entry : Entry) (rev : ℕ) → IsSafe entry rev → IsSafe (kept keeps entry) rev
  safe_to entry rev is = record { intel = is.intel; stated = is.stated; reached = is.reached }

  admissible_from : (entry : Entry) (core : CoreFacts) (force : Bool) → Admissible (kept keeps entry) core force → Admissible entry core force
  admissible_from entry core force is = record {
    fits = (is.fits.0, fits_from core.vendor entry core is.fits.1);
    above = is.above;
    safe = λ forced. safe_from entry core.rev (is.safe forced);
  }

  admissible_to : (entry : Entry) (core : CoreFacts) (force : Bool) → Admissible entry core force → Admissible (kept keeps entry) core force
  admissible_to entry core force is = record {
    fits = (is.fits.0, fits_to core.vendor entry core is.fits.1);
    above = is.above;
    safe = λ forced. safe_to entry core.rev (is.safe forced);
  }

  -- the entry that a kept one is of
  found_in : (found : Option Entry) (is : Entry) → option_map (kept keeps) found ≡ Some is → (entry : Entry) × (found ≡ Some entry) × (kept keeps entry ≡ is)
  found_in None is there = grind arith
  found_in (Some entry) is there = (entry, refl, grind arith)

  kept_at : (entries : List Entry) (i : ℕ) (entry : Entry) → slice_get entries i ≡ Some entry → slice_get (map (kept keeps) entries) i ≡ Some (kept keeps entry)
  kept_at entries i entry there = slice_get-map (kept keeps) entries i ∙ ap (λ (o : Option Entry). option_map (kept keeps) o) there

  best_kept : (entries : List Entry) (core : CoreFacts) (force : Bool) (best : ℕ) → IsBest (map (kept keeps) entries) core force best → IsBest entries core force best
  best_kept entries core force best is =
      let found = found_in (slice_get entries best) is.entry (sym (slice_get-map (kept keeps) entries best) ∙ is.there) in
      let rev : found.0.facts.rev ≡ is.entry.facts.rev = ap (λ (e : Entry). e.facts.rev) found.2 in
      record {
        entry = found.0;
        there = found.1;
        admissible = admissible_from found.0 core force (subst (λ (e : Entry). Admissible e core force) (sym found.2) is.admissible);
        greatest = λ i other there fits. omega (arith, rev, is.greatest i (kept keeps other) (kept_at entries i other there) (admissible_to other core force fits));
        first = λ i other before there fits. omega (arith, rev, is.first i (kept keeps other) before (kept_at entries i other there) (admissible_to other core force fits));
      }

  -- so is the offer
  pub offer_kept : (entries : List Entry) (core : CoreFacts) (force : Bool) (offer : Option ℕ) → IsOffer (map (kept keeps) entries) core force offer → IsOffer entries core force offer
  offer_kept entries core force None is = λ i other there fits. is i (kept keeps other) (kept_at entries i other there) (admissible_to other core force fits)
  offer_kept entries core force (Some best) is = best_kept entries core force best is

  -- and the facts of each
  pub facts_kept : (entries : List Entry) (i : ℕ) → (get_or (map (kept keeps) entries) i (patch_entry 0 0 [] [])).facts ≡ (get_or entries i (patch_entry 0 0 [] [])).facts
  facts_kept [] i = refl
  facts_kept (e ∷ es) zero = refl
  facts_kept (e ∷ es) (suc i) = facts_kept es i
