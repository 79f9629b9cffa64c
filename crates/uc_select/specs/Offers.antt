-- The offers of a list of cores.
use Rattle.std.specs.Prelude.{◌≡◌, ℕ, Bool, List, [], ◌∷◌, Option, Some, None}
use Rattle.entry_model.specs.declared.facts.CoreFacts.{CoreFacts}
use Rattle.entry_model.specs.Entry.{Entry}
use Rattle.entry_model.specs.Selection.{IsOffer}

-- what stands at the place of a core, or at one that has none
abbrev pub IsOfferAt : List Entry → Option CoreFacts → Bool → Option ℕ → Type 0
IsOfferAt entries (Some core) force offer = IsOffer entries core force offer
IsOfferAt entries None force offer = offer ≡ None

-- place by place
abbrev pub AreOffers : List Entry → List (Option CoreFacts) → Bool → List (Option ℕ) → Type 0
AreOffers entries [] force [] = Unit {0}
AreOffers entries (core ∷ cores) force (offer ∷ offers) =
    IsOfferAt entries core force offer × AreOffers entries cores force offers
AreOffers entries cores force offers = ⊥
