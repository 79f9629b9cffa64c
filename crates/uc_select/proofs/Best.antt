-- The best of the entries up to a number.
use Rattle.std.proofs.Common.{◌≡◌, ℕ, zero, suc, ◌+◌, ◌<◌, ◌≤◌, inl, inr, Bool, List, [], ◌∷◌, ◌++◌, length, get_or, Option, Some, None, refl, sym, ◌∙◌, subst, arith}
use Rattle.std.specs.Prelude.{slice_get, map, All, IfSome}
use Rattle.std.specs.List.{range_with_len}
use Rattle.std.proofs.lemmas.List.FromFn.{length-map-range_with_len, get_or-map-range_with_len}
use Rattle.std.proofs.lemmas.Bool.{cases_lt}
use Rattle.std.proofs.lemmas.Option.{slice_get_within}
use Rattle.entry_model.specs.declared.facts.CoreFacts.{CoreFacts}
use Rattle.entry_model.specs.Entry.{Entry}
use Rattle.entry_model.specs.Selection.{Admissible, IsOffer}
use Rattle.uc_select.specs.Offers.{IsOfferAt, AreOffers}

-- an admissible entry of the greatest revision among those before a number, and the first of these
pub record IsBestBefore (entries : List Entry) (core : CoreFacts) (force : Bool) (end best rev : ℕ) : Type 0 where
  pub entry : Entry
  pub there : slice_get entries best ≡ Some entry
  pub before : best < end
  pub of_rev : rev ≡ entry.facts.rev
  pub admissible : Admissible entry core force
  pub greatest : (i : ℕ) (other : Entry) → i < end → slice_get entries i ≡ Some other → Admissible other core force → other.facts.rev ≤ rev
  pub first : (i : ℕ) (other : Entry) → i < best → slice_get entries i ≡ Some other → Admissible other core force → other.facts.rev < rev

-- the best of the entries before a number with its revision; or there is none, with the core's revision
abbrev pub IsBestUpTo : List Entry → CoreFacts → Bool → ℕ → Option ℕ → ℕ → Type 0
IsBestUpTo entries core force end (Some best) rev = IsBestBefore entries core force end best rev
IsBestUpTo entries core force end None rev =
    (rev ≡ core.rev) × ((i : ℕ) (other : Entry) → i < end → slice_get entries i ≡ Some other → Admissible other core force → ⊥)

-- a place has one entry
same_entry : (o : Option Entry) (e f : Entry) → o ≡ Some e → o ≡ Some f → e ≡ f
same_entry o e f is_e is_f = let both : Some e ≡ Some f = sym is_e ∙ is_f in (cc)

module _ (entries : List Entry) (core : CoreFacts) (force : Bool) (end : ℕ) (entry : Entry) (here : slice_get entries end ≡ Some entry) where
  -- among the entries up to this one
  up_to : (P : Entry → Type 0) → ((i : ℕ) (other : Entry) → i < end → slice_get entries i ≡ Some other → P other) → P entry → (i : ℕ) (other : Entry) → i < end + 1 → slice_get entries i ≡ Some other → P other
  up_to P below at i other within there = elim (cases_lt i end) [
    | inl before ↦ below i other before there
    | inr after ↦
        let same : i ≡ end = omega (arith, within, after) in
        subst P (same_entry (slice_get entries end) entry other here (subst (λ (n : ℕ). slice_get entries n ≡ Some other) same there)) at
  ]

  -- this one is better
  pub better : (best : Option ℕ) (rev : ℕ) → IsBestUpTo entries core force end best rev → rev < entry.facts.rev → Admissible entry core force → IsBestUpTo entries core force (end + 1) (Some end) entry.facts.rev
  better (Some best) rev is above admissible = record {
    entry = entry;
    there = here;
    before = omega arith;
    of_rev = refl;
    admissible = admissible;
    greatest = up_to (λ (e : Entry). Admissible e core force → e.facts.rev ≤ entry.facts.rev) (λ i other before there of. omega (arith, above, is.greatest i other before there of)) (λ of. omega arith);
    first = λ i other before there of. omega (arith, above, is.greatest i other before there of);
  }
  better None rev is above admissible = record {
    entry = entry;
    there = here;
    before = omega arith;
    of_rev = refl;
    admissible = admissible;
    greatest = up_to (λ (e : Entry). Admissible e core force → e.facts.rev ≤ entry.facts.rev) (λ i other before there of. absurd (is.1 i other before there of)) (λ of. omega arith);
    first = λ i other before there of. absurd (is.1 i other before there of);
  }

  -- this one is not
  pub no_better : (best : Option ℕ) (rev : ℕ) → IsBestUpTo entries core force end best rev → (rev < entry.facts.rev → Admissible entry core force → ⊥) → IsBestUpTo entries core force (end + 1) best rev
  no_better (Some best) rev is not_it = record {
    entry = is.entry;
    there = is.there;
    before = omega (arith, is.before);
    of_rev = is.of_rev;
    admissible = is.admissible;
    greatest =
        up_to (λ (e : Entry). Admissible e core force → e.facts.rev ≤ rev) (λ i other before there of. is.greatest i other before there of)
        (λ of. elim (cases_lt rev entry.facts.rev) [ inl above ↦ absurd (not_it above of) | inr below ↦ below ]);
    first = is.first;
  }
  no_better None rev is not_it = (
    is.0,
    up_to (λ (e : Entry). Admissible e core force → ⊥) (λ i other before there of. is.1 i other before there of) (λ of. not_it (omega (arith, is.0, of.above)) of),
  )

-- the best of all is the offer
pub best_of_all : (entries : List Entry) (core : CoreFacts) (force : Bool) (end : ℕ) (best : Option ℕ) (rev : ℕ) → length entries ≤ end → IsBestUpTo entries core force end best rev → IsOffer entries core force best
best_of_all entries core force end (Some best) rev all is = record {
  entry = is.entry;
  there = is.there;
  admissible = is.admissible;
  greatest = λ i other there of. omega (arith, is.of_rev, is.greatest i other (omega (arith, all, slice_get_within entries i other there)) there of);
  first = λ i other before there of. omega (arith, is.of_rev, is.first i other before there of);
}
best_of_all entries core force end None rev all is =
    λ i other there of. is.1 i other (omega (arith, all, slice_get_within entries i other there)) there of

-- one more core
pub offers_push : (entries : List Entry) (cores : List (Option CoreFacts)) (force : Bool) (offers : List (Option ℕ)) (core : Option CoreFacts) (offer : Option ℕ) → AreOffers entries cores force offers → IsOfferAt entries core force offer
    → AreOffers entries (cores ++ core ∷ []) force (offers ++ offer ∷ [])
offers_push entries [] force [] core offer are is = (is, tt)
offers_push entries [] force (o ∷ os) core offer are is = absurd are
offers_push entries (c ∷ cs) force [] core offer are is = absurd are
offers_push entries (c ∷ cs) force (o ∷ os) core offer are is = (are.0, offers_push entries cs force os core offer are.1 is)

-- there are as many offers as cores
pub offers_length : (entries : List Entry) (cores : List (Option CoreFacts)) (force : Bool) (offers : List (Option ℕ)) → AreOffers entries cores force offers → length offers ≡ length cores
offers_length entries [] force [] are = refl
offers_length entries [] force (o ∷ os) are = absurd are
offers_length entries (c ∷ cs) force [] are = absurd are
offers_length entries (c ∷ cs) force (o ∷ os) are = omega (arith, offers_length entries cs force os are.1)

-- and each is its core's
pub offers_at : (entries : List Entry) (cores : List (Option CoreFacts)) (force : Bool) (offers : List (Option ℕ)) (k : ℕ) (d : Option ℕ) → AreOffers entries cores force offers → k < length cores
    → IsOfferAt entries (get_or cores k None) force (get_or offers k d)
offers_at entries [] force offers k d are inside = absurd (omega arith)
offers_at entries (c ∷ cs) force [] k d are inside = absurd are
offers_at entries (c ∷ cs) force (o ∷ os) zero d are inside = are.0
offers_at entries (c ∷ cs) force (o ∷ os) (suc k) d are inside = offers_at entries cs force os k d are.1 (omega arith)

-- an offer is an entry
pub is_entry : (entries : List Entry) (core : Option CoreFacts) (force : Bool) (offer : Option ℕ) → IsOfferAt entries core force offer → IfSome offer (λ number. number < length entries)
is_entry entries core force None is = tt
is_entry entries None force (Some number) is = absurd cc
is_entry entries (Some core) force (Some number) is = slice_get_within entries number is.entry is.there

-- offers of cores that are numbered from 0 on
module _ (entries : List Entry) (core : ℕ → Option CoreFacts) (count : ℕ) (force : Bool) (offers : List (Option ℕ)) (are : AreOffers entries (map core (range_with_len 0 count)) force offers) where
  pub offers_count : length offers ≡ count
  offers_count = offers_length entries (map core (range_with_len 0 count)) force offers are ∙ length-map-range_with_len core 0 count

  pub offers_each : (k : ℕ) (d : Option ℕ) → k < count → IsOfferAt entries (core k) force (get_or offers k d)
  offers_each k d below =
      subst (λ (one : Option CoreFacts). IsOfferAt entries one force (get_or offers k d)) (get_or-map-range_with_len core 0 count k k None below (omega arith))
      (offers_at entries (map core (range_with_len 0 count)) force offers k d are (omega (arith, below, length-map-range_with_len core 0 count)))

  pub offers_within : All (λ offer. IfSome offer (λ number. number < length entries)) offers
  offers_within k d inside =
      is_entry entries (core k) force (get_or offers k d) (offers_each k d (omega (arith, inside, offers_count)))
