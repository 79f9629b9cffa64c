-- Who takes part in a load, and what is offered them.
use Rattle.std.proofs.Common.{◌≡◌, ℕ, zero, suc, ◌+◌, ◌<◌, ◌≤◌, Bool, true, false, not, nat_eq, List, [], ◌∷◌, length, filter, Option, Some, None, refl, sym, ap, ◌∙◌, subst, inl, inr, arith}
use Rattle.std.specs.List.{list_all, range_with_len}
use Rattle.std.proofs.lemmas.Bool.{false≢true, cases_Bool, cases_eq, cases_lt, eq-eqb}
use Rattle.std.proofs.lemmas.Grind.{common_steps}
use Rattle.std.proofs.lemmas.List.{get_or_past}
use Rattle.report_text.specs.Offers.{AreOffers}
use Rattle.entry_model.specs.declared.facts.CoreFacts.{CoreFacts}
use Rattle.entry_model.specs.Entry.{Entry}
use Rattle.entry_model.specs.Selection.{IsOffer}
use Rattle.machine_steps.specs.declared.states.ThreadState.TheVariants.{Cold}
use Rattle.machine_steps.specs.Hardware.{Setting, Hardware, is_on, is_cold, all_cold}
use Rattle.session_steps.specs.State as session
use Rattle.session_steps.specs.State.{State, machine_of, takes_part}
use Rattle.session_steps.specs.Offers.{offer_of, entry_at, facts_now, IsOfferWhere, AreLoadOffers, SomethingOffered}
use Rattle.session_laws.specs.Standing.{Standing}
use Rattle.session_laws.proofs.Entries.{HasRevision, HaveRevisions, offered_has}

-- ---- groups

all_pass : (test : ℕ → Bool) (ts : List ℕ) → ((t : ℕ) → test t ≡ true) → list_all test ts ≡ true
all_pass test [] each = refl
all_pass test (t ∷ ts) each = rw (each t, all_pass test ts each) refl

-- one of a group's threads in a row fails
one_fails : (test : ℕ → Bool) (group : ℕ → ℕ) (g low n t : ℕ) → low ≤ t → t < low + n → group t ≡ g → test t ≡ false →
    list_all test (filter (λ t. nat_eq (group t) g) (range_with_len low n)) ≡ false
one_fails test group g low zero t above below same fails = absurd (omega arith)
one_fails test group g low (suc n) t above below same fails =
    elim (cases_eq low t) [
      | inl here ↦ rw (here, eq-eqb (group t) g same, fails) refl
      | inr later ↦
          let rest = one_fails test group g (low + 1) n t (omega arith) (omega arith) same fails in
          grind (arith, common_steps, rest)
    ]

all_cold_where : (setting : Setting) (hardware : Hardware) (g : ℕ) → ((t : ℕ) → hardware.thread t ≡ Cold) →
    all_cold setting hardware g ≡ true
unfolding all_cold
all_cold_where setting hardware g cold = all_pass (λ t. is_cold (hardware.thread t)) _ (λ t. ap is_cold (cold t))

not_all_cold : (setting : Setting) (hardware : Hardware) (g t : ℕ) → t < setting.threads → setting.group t ≡ g →
    is_cold (hardware.thread t) ≡ false → all_cold setting hardware g ≡ false
unfolding all_cold
not_all_cold setting hardware g t below same warm =
    one_fails (λ t. is_cold (hardware.thread t)) setting.group g 0 setting.threads t (omega arith)
    (omega arith) same warm

-- a group with a thread that is not cold takes part
pub warm_takes_part : (setting : session.Setting) (state : State) (t : ℕ) → t < (machine_of setting).threads →
    is_cold (state.hardware.thread t) ≡ false → takes_part setting state ((machine_of setting).group t) ≡ true
warm_takes_part setting state t below warm =
    ap not (not_all_cold (machine_of setting) state.hardware ((machine_of setting).group t) t below refl warm)

-- where a group takes part, power is on
pub on_where_part : (setting : session.Setting) (state : State) (g : ℕ) → Standing setting state →
    takes_part setting state g ≡ true → is_on state.hardware.power ≡ true
on_where_part setting state g stands part = elim (cases_Bool (is_on state.hardware.power)) [
  | inl on ↦ on
  | inr off ↦ absurd (false≢true (sym
      (ap not (all_cold_where (machine_of setting) state.hardware g (stands.threads.all_are_cold off))) ∙ part))
]

-- ---- offers

-- only one of the groups is offered anything
pub offered_within : (offers : List (Option ℕ)) (g entry : ℕ) → offer_of offers g ≡ Some entry → g < length offers
offered_within offers g entry is = elim (cases_lt g (length offers)) [
  | inl below ↦ below
  | inr past ↦ let wrong : None ≡ Some entry = sym (get_or_past offers g None past) ∙ is in absurd cc
]

pub offered_where : (part : Bool) (entries : List Entry) (core : CoreFacts) (force : Bool) (offer : Option ℕ)
    (entry : ℕ) → IsOfferWhere part entries core force offer → offer ≡ Some entry
    → (part ≡ true) × IsOffer entries core force (Some entry)
offered_where true entries core force offer entry is some = (refl, subst (IsOffer entries core force) some is)
offered_where false entries core force offer entry is some = let wrong : None ≡ Some entry = sym is ∙ some in absurd cc

-- An entry that a group is offered has its revision at byte 4.
pub record IsOffered (groups : ℕ) (entries : List Entry) (offers : List (Option ℕ)) (entry : ℕ) : Type 0 where
  pub group : ℕ
  pub below : group < groups
  pub is : offer_of offers group ≡ Some entry
  pub has : HasRevision (entry_at entries entry)

pub at_boot : (setting : session.Setting) (entries : List Entry) (offers : List (Option ℕ)) → HaveRevisions entries →
    AreOffers setting.machine entries offers → (g entry : ℕ) → offer_of offers g ≡ Some entry
    → IsOffered (machine_of setting).groups entries offers entry
at_boot setting entries offers have are g entry is =
    let below : g < (machine_of setting).groups =
    subst (λ (n : ℕ). g < n) are.count (offered_within offers g entry is) in
    record {
      group = g;
      below = below;
      is = is;
      has = offered_has entries _ false entry have (subst (IsOffer entries _ false) is (are.each g below));
    }

-- what a load offers a group, which then takes part
pub record LoadOffers (setting : session.Setting) (state : State) (force : Bool) (entries : List Entry)
    (g entry : ℕ) : Type 0 where
  pub below : g < (machine_of setting).groups
  pub part : takes_part setting state g ≡ true
  pub is_offer : IsOffer entries (facts_now setting state g) force (Some entry)

pub load_offers : (setting : session.Setting) (state : State) (force : Bool) (entries : List Entry)
    (offers : List (Option ℕ)) → AreLoadOffers setting state force entries offers → (g entry : ℕ) →
    offer_of offers g ≡ Some entry
    → LoadOffers setting state force entries g entry
load_offers setting state force entries offers are g entry is =
    let below : g < (machine_of setting).groups =
    subst (λ (n : ℕ). g < n) are.count (offered_within offers g entry is) in
    let both = offered_where (takes_part setting state g) entries (facts_now setting state g) force
    (offer_of offers g) entry (are.each g below) is in
    record { below = below; part = both.0; is_offer = both.1 }

pub at_load : (setting : session.Setting) (state : State) (force : Bool) (entries : List Entry)
    (offers : List (Option ℕ)) → HaveRevisions entries → AreLoadOffers setting state force entries offers →
    (g entry : ℕ) → offer_of offers g ≡ Some entry
    → IsOffered (machine_of setting).groups entries offers entry
at_load setting state force entries offers have are g entry is =
    let its = load_offers setting state force entries offers are g entry is in
    record {
      group = g;
      below = its.below;
      is = is;
      has =
          offered_has entries (facts_now setting state g) force entry have its.is_offer;
    }

-- so a load that offers something finds power on
pub something_is_on : (setting : session.Setting) (state : State) (force : Bool) (entries : List Entry)
    (offers : List (Option ℕ)) → Standing setting state → AreLoadOffers setting state force entries offers →
    SomethingOffered offers → is_on state.hardware.power ≡ true
something_is_on setting state force entries offers stands are some =
    on_where_part setting state some.group stands
    (load_offers setting state force entries offers are some.group some.entry some.is_offered).part
