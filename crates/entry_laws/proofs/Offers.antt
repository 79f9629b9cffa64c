-- A core is offered the best of the entries that are admissible for it, or none, and just one.
use Rattle.std.proofs.Common.{◌≡◌, ◌⊎◌, inl, inr, ⊎_elim, ℕ, zero, suc, ◌<◌, ◌≤◌, Bool, true, false, List, [], ◌∷◌, length, Option, Some, None, sym, ap, subst, refl, arith, true≢false}
use Rattle.std.specs.Prelude.{IsTrue, slice_get}
use Rattle.std.proofs.lemmas.Bool.{cases_lt, cases_eq, cases_order}
use Rattle.std.proofs.lemmas.Option.{none-some, same_Some, slice_get_within}
use Rattle.uc_bytes.specs.declared.causes.Vendor.{Vendor}
use Rattle.uc_bytes.specs.declared.causes.Vendor.TheVariants.{Intel, Amd}
use Rattle.fault_rule.proofs.Decided.{Decided, decided_not_equal, decided_lt, decided_le, either, both, decided_by}
use Rattle.entry_model.specs.declared.facts.CoreFacts.{CoreFacts}
use Rattle.entry_model.specs.Entry.{Entry}
use Rattle.entry_model.specs.Selection.{FlagsMeet, HasPair, IsServed, FitsOf, Fits, IsSafe, Admissible, IsBest, IsOffer}

-- two vendors are one or are not
same_vendor : (v w : Vendor) → Decided (v ≡ w)
same_vendor Intel Intel = inl refl
same_vendor Intel Amd = inr (λ same. cc)
same_vendor Amd Intel = inr (λ same. cc)
same_vendor Amd Amd = inl refl

-- an element of a list is its first, or stands in the rest
first_or_behind : {X : Type 0} → (x : X) (xs : List X) (i : ℕ) (y : X) → slice_get (x ∷ xs) i ≡ Some y → (x ≡ y) ⊎ ((k : ℕ) × (i ≡ suc k) × (slice_get xs k ≡ Some y))
first_or_behind x xs zero y there = inl (same_Some x y there)
first_or_behind x xs (suc k) y there = inr (k, refl, there)

-- processor flags meet or do not
flags_meet_or_not : (flags others : ℕ) → Decided (FlagsMeet flags others)
flags_meet_or_not flags others = either (both (cases_eq _ _) (cases_eq _ _)) (decided_not_equal _ _)

-- the first of the pairs is for a signature and processor flags, or one of the rest is
pair_first_or_behind : (pair : ℕ × ℕ) (pairs : List (ℕ × ℕ)) (sig flags : ℕ) → HasPair (pair ∷ pairs) sig flags → ((pair.0 ≡ sig) × FlagsMeet pair.1 flags) ⊎ HasPair pairs sig flags
pair_first_or_behind pair pairs sig flags has = elim (first_or_behind pair pairs has.place has.pair has.there) [
  | inl same ↦ inl (subst (λ (p : ℕ × ℕ). (p.0 ≡ sig) × FlagsMeet p.1 flags) (sym same) (has.of_sig, has.of_flags))
  | inr (k, _, there) ↦ inr (record { place = k; pair = has.pair; there = there; of_sig = has.of_sig; of_flags = has.of_flags })
]

-- one of the pairs is for a signature and processor flags, or none is
has_pair_or_not : (pairs : List (ℕ × ℕ)) (sig flags : ℕ) → Decided (HasPair pairs sig flags)
has_pair_or_not [] sig flags = inr (λ has. none-some has.pair has.there)
has_pair_or_not (pair ∷ pairs) sig flags =
    decided_by
    (⊎_elim
    (λ first. record { place = 0; pair = pair; there = refl; of_sig = first.0; of_flags = first.1 })
    (λ has. record { place = suc has.place; pair = has.pair; there = has.there; of_sig = has.of_sig; of_flags = has.of_flags }))
    (pair_first_or_behind pair pairs sig flags)
    (either (both (cases_eq _ _) (flags_meet_or_not _ _)) (has_pair_or_not pairs sig flags))

-- a patch is for a signature or is not
is_served_or_not : (entry : Entry) (sig : ℕ) → Decided (IsServed entry sig)
is_served_or_not entry sig =
    decided_by
    (λ parts. record { by_table = parts.0; some_id = parts.1.0; of_family = parts.1.1.0; not_0f = parts.1.1.1.0; not_13 = parts.1.1.1.1 })
    (λ is. (is.by_table, (is.some_id, (is.of_family, (is.not_0f, is.not_13)))))
    (both (cases_eq _ _) (both (decided_not_equal _ _) (both (cases_eq _ _) (both (decided_not_equal _ _) (decided_not_equal _ _)))))

-- an entry of a vendor's fits a core of that vendor's or does not
fits_of_or_not : (vendor : Vendor) (entry : Entry) (core : CoreFacts) → Decided (FitsOf vendor entry core)
fits_of_or_not Intel entry core = has_pair_or_not entry.pairs core.sig core.flags
fits_of_or_not Amd entry core = is_served_or_not entry core.sig

-- an entry fits a core or does not
fits_or_not : (entry : Entry) (core : CoreFacts) → Decided (Fits entry core)
fits_or_not entry core = both (same_vendor _ _) (fits_of_or_not core.vendor entry core)

-- a load of an entry at a revision is safe or is not
safe_or_not : (entry : Entry) (rev : ℕ) → Decided (IsSafe entry rev)
safe_or_not entry rev =
    decided_by
    (λ parts. record { intel = parts.0; stated = parts.1.0; reached = parts.1.1 })
    (λ is. (is.intel, (is.stated, is.reached)))
    (both (same_vendor _ _) (both (decided_not_equal _ _) (decided_le _ _)))

-- what is asked for where a test passes holds, or does not
asked_or_not : {P : Type 0} (test : Bool) → Decided P → Decided (IsTrue test → P)
asked_or_not true decided = decided_by (λ holds is. holds) (λ asked. asked refl) decided
asked_or_not false decided = inl (λ is. absurd (true≢false (sym is)))

-- an entry is admissible for a core or is not
pub admissible_or_not : (entry : Entry) (core : CoreFacts) (force : Bool) → Decided (Admissible entry core force)
admissible_or_not entry core force =
    decided_by
    (λ parts. record { fits = parts.0; above = parts.1.0; safe = parts.1.1 })
    (λ is. (is.fits, (is.above, is.safe)))
    (both (fits_or_not entry core) (both (decided_lt _ _) (asked_or_not force (safe_or_not entry core.rev))))

-- what a core is offered of entries, where its offer of all but the first is known
module _ (core : CoreFacts) (force : Bool) (entry : Entry) (entries : List Entry) where
  -- the first entry, where no admissible one behind it has a greater revision
  first_is_best : Admissible entry core force → ((i : ℕ) (other : Entry) → slice_get entries i ≡ Some other → Admissible other core force → other.facts.rev ≤ entry.facts.rev)
      → IsBest (entry ∷ entries) core force 0
  first_is_best admissible greatest = record {
    entry = entry;
    there = refl;
    admissible = admissible;
    greatest = λ i other there is. elim (first_or_behind entry entries i other there) [
      | inl same ↦ omega (arith, ap (λ (e : Entry). e.facts.rev) same)
      | inr (k, _, behind) ↦ greatest k other behind is
    ];
    first = λ i other less there is. absurd (omega arith);
  }

  -- what is the first, and is admissible, is below what the first is below where it is admissible
  lesser_there : (other : Entry) (rev : ℕ) → entry ≡ other → (Admissible entry core force → entry.facts.rev < rev) → Admissible other core force → other.facts.rev < rev
  lesser_there other rev same lesser = subst (λ (e : Entry). Admissible e core force → e.facts.rev < rev) same lesser

  -- the best of those behind it, where the first is not admissible or is of a lesser revision
  best_is_behind : (best : ℕ) → (is : IsBest entries core force best) → (Admissible entry core force → entry.facts.rev < is.entry.facts.rev) → IsBest (entry ∷ entries) core force (suc best)
  best_is_behind best is lesser = record {
    entry = is.entry;
    there = is.there;
    admissible = is.admissible;
    greatest = λ i other there ok. elim (first_or_behind entry entries i other there) [
      | inl same ↦ omega (arith, lesser_there other is.entry.facts.rev same lesser ok)
      | inr (k, _, behind) ↦ is.greatest k other behind ok
    ];
    first = λ i other before there ok. elim (first_or_behind entry entries i other there) [
      | inl same ↦ lesser_there other is.entry.facts.rev same lesser ok
      | inr (k, place, behind) ↦ is.first k other (omega arith) behind ok
    ];
  }

  -- none, where neither the first nor one behind it is admissible
  none_is_offered : (Admissible entry core force → ⊥) → IsOffer entries core force None → IsOffer (entry ∷ entries) core force None
  none_is_offered not none = λ i other there ok. elim (first_or_behind entry entries i other there) [
    | inl same ↦ not (subst (λ (e : Entry). Admissible e core force) (sym same) ok)
    | inr (k, _, behind) ↦ none k other behind ok
  ]

  -- so one entry more leaves one offer
  with_first : Decided (Admissible entry core force) → (offer : Option ℕ) → IsOffer entries core force offer → (next : Option ℕ) × IsOffer (entry ∷ entries) core force next
  with_first (inl ok) None none = (Some 0, first_is_best ok (λ i other there is. absurd (none i other there is)))
  with_first (inl ok) (Some best) is = elim (cases_lt entry.facts.rev is.entry.facts.rev) [
    | inl lesser ↦ (Some (suc best), best_is_behind best is (λ _. lesser))
    | inr greatest ↦ (Some 0, first_is_best ok (λ i other there other_ok. omega (arith, is.greatest i other there other_ok)))
  ]
  with_first (inr not) None none = (None, none_is_offered not none)
  with_first (inr not) (Some best) is = (Some (suc best), best_is_behind best is (λ ok. absurd (not ok)))

-- for every list of entries a core is offered one of them or none
pub some_offer : (entries : List Entry) (core : CoreFacts) (force : Bool) → (offer : Option ℕ) × IsOffer entries core force offer
some_offer [] core force = (None, λ i other there ok. none-some other there)
some_offer (entry ∷ entries) core force =
    let behind = some_offer entries core force in
    with_first core force entry entries (admissible_or_not entry core force) behind.0 behind.1

-- a best entry does not stand before another best one
not_before : (entries : List Entry) (core : CoreFacts) (force : Bool) (a b : ℕ) → IsBest entries core force a → IsBest entries core force b → a < b → ⊥
not_before entries core force a b first second before =
    omega (arith, second.first a first.entry before first.there first.admissible, first.greatest b second.entry second.there second.admissible)

-- two offers are one
pub one_offer : (entries : List Entry) (core : CoreFacts) (force : Bool) (m n : Option ℕ) → IsOffer entries core force m → IsOffer entries core force n → m ≡ n
one_offer entries core force None None first second = refl
one_offer entries core force None (Some b) first second = absurd (first b second.entry second.there second.admissible)
one_offer entries core force (Some a) None first second = absurd (second a first.entry first.there first.admissible)
one_offer entries core force (Some a) (Some b) first second = elim (cases_order a b) [
  | inl same ↦ ap Some same
  | inr (inl less) ↦ absurd (not_before entries core force a b first second less)
  | inr (inr more) ↦ absurd (not_before entries core force b a second first more)
]

-- the entry that is offered is one of the entries
pub within : (entries : List Entry) (core : CoreFacts) (force : Bool) (i : ℕ) → IsOffer entries core force (Some i) → i < length entries
within entries core force i is = slice_get_within entries i is.entry is.there
