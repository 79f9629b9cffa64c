-- What stands in the region while the patches of a command are put: each patch that stood, and those of the entries that are
-- offered, each with its own bytes.
use Rattle.std.proofs.Common.{◌≡◌, ◌≢◌, ◌⊎◌, ℕ, suc, ◌<◌, ◌≤◌, List, [], ◌∷◌, length, get_or, Option, Some, None, Result, Ok, Err, refl, sym, ap, ◌∙◌, subst, inl, inr, arith}
use Rattle.std.proofs.lemmas.Bool.{cases_eq, eq-eqb, ne_eqb}
use Rattle.region_steps.specs.Region.{Patches, width, blocks_of, lowest_run}
use Rattle.region_steps.proofs.Changed.{put_here, put_other}
use Rattle.region_steps.proofs.Covered.{begins_no_patch}
use Rattle.region_steps.proofs.Longest.{lowest_is_free}
use Rattle.machine_steps.specs.Hardware.{put}
use Rattle.machine_steps.specs.Puts.{Puts, no_puts, with_patch, put_in_run, put_unless_there, put_offer, put_offers}

-- at the begin of a free run no patch with a byte begins
none_begins : (patches : Patches) (blocks first : ℕ) (bytes : List ℕ) → 0 < length bytes →
    ((patch : List ℕ) → patches first ≡ Some patch → 0 < length patch)
    → lowest_run patches blocks (blocks_of bytes) ≡ Some first → patches first ≡ None
none_begins patches blocks first bytes some each lowest =
    let few : 0 < blocks_of bytes = omega arith in
    let none = begins_no_patch patches (blocks_of bytes) first
    (lowest_is_free patches blocks (blocks_of bytes) first lowest).free few in
    elim (patches first) as (λ patch. patches first ≡ patch → patches first ≡ None) [
      | None ↦ λ e. e
      | Some there ↦ λ e. absurd (let wide : blocks_of there ≡ 0 = ap width (sym e) ∙ none in let has =
          each there e in omega (arith, wide, has))
    ] refl

put_same : (first : ℕ → Option ℕ) (entry : ℕ) (place : Option ℕ) → put first entry place entry ≡ place
put_same first entry place = rw (eq-eqb entry entry refl) refl

put_far : (first : ℕ → Option ℕ) (entry other : ℕ) (place : Option ℕ) → other ≢ entry →
    put first entry place other ≡ first other
put_far first entry other place far = rw (ne_eqb other entry far) refl

-- a patch of an entry that is offered, which begins at the block
pub record IsPut (Offered : ℕ → Type 0) (puts : Puts) (block : ℕ) : Type 0 where
  pub entry : ℕ
  pub place : puts.first entry ≡ Some block
  pub offered : Offered entry

module _ (blocks : ℕ) (bytes : ℕ → List ℕ) (Offered : ℕ → Type 0)
    (long : (entry : ℕ) → Offered entry → 8 ≤ length (bytes entry)) (start : Patches) where
  pub record PutsStand (puts : Puts) : Type 0 where
    pub whole : (block : ℕ) (patch : List ℕ) → puts.patches block ≡ Some patch → 8 ≤ length patch
    pub there : (entry block : ℕ) → puts.first entry ≡ Some block → puts.patches block ≡ Some (bytes entry)
    pub kept : (block : ℕ) → start block ≢ None → puts.patches block ≢ None
    pub only : (block : ℕ) → puts.patches block ≢ None → (start block ≢ None) ⊎ IsPut Offered puts block

  pub none_put_stand : ((block : ℕ) (patch : List ℕ) → start block ≡ Some patch → 8 ≤ length patch) →
      PutsStand (no_puts start)
  none_put_stand whole = record {
    whole = whole;
    there = λ entry block is. absurd cc;
    kept = λ block some. some;
    only = λ block some. inl some;
  }

  abbrev ResultStands : Result Puts ℕ → Type 0
  ResultStands (Ok puts) = PutsStand puts
  ResultStands (Err needed) = Unit {0}

  module _ (puts : Puts) (entry first : ℕ) (stands : PutsStand puts) (offered : Offered entry)
      (fresh : puts.first entry ≡ None) (lowest : lowest_run puts.patches blocks (blocks_of (bytes entry))
      ≡ Some first) where
    abbrev after : Puts
    after = with_patch puts entry first (bytes entry)

    was_none : puts.patches first ≡ None
    was_none = none_begins puts.patches blocks first (bytes entry) (omega (arith, long entry offered))
        (λ patch e. omega (arith, stands.whole first patch e)) lowest

    here : after.patches first ≡ Some (bytes entry)
    here = put_here puts.patches first (bytes entry)

    elsewhere : (block : ℕ) → block ≢ first → after.patches block ≡ puts.patches block
    elsewhere block other = put_other puts.patches first (bytes entry) block other

    -- no other entry's patch begins there
    apart : (other block : ℕ) → puts.first other ≡ Some block → block ≢ first
    apart other block is same =
        let there : puts.patches first ≡ Some (bytes other) = ap puts.patches (sym same)
        ∙ stands.there other block is in
        let wrong : None ≡ Some (bytes other) = sym was_none ∙ there in absurd cc

    one_put_stands : PutsStand after
    one_put_stands = record {
      whole = λ block patch is. elim (cases_eq block first) [
        | inl same ↦
            let its : Some (bytes entry) ≡ Some patch = sym here ∙ ap after.patches (sym same) ∙ is in
            let one : bytes entry ≡ patch = cc in subst (λ (l : List ℕ). 8 ≤ length l) one (long entry offered)
        | inr other ↦ stands.whole block patch (sym (elsewhere block other) ∙ is)
      ];
      there = λ other block is. elim (cases_eq other entry) [
        | inl same ↦
            let place : Some first ≡ Some block = sym (put_same puts.first entry (Some first))
            ∙ ap after.first (sym same) ∙ is in
            let one : first ≡ block = cc in
            ap after.patches (sym one) ∙ here ∙ ap (λ (e : ℕ). Some (bytes e)) (sym same)
        | inr far ↦
            let old : puts.first other ≡ Some block = sym (put_far puts.first entry other (Some first) far) ∙ is in
            elsewhere block (apart other block old) ∙ stands.there other block old
      ];
      kept = λ block some. elim (cases_eq block first) [
        | inl same ↦ λ none. let wrong : Some (bytes entry) ≡ None = sym here ∙ ap after.patches (sym same) ∙ none in
            absurd cc
        | inr other ↦ λ none. stands.kept block some (sym (elsewhere block other) ∙ none)
      ];
      only = λ block some. elim (cases_eq block first) [
        | inl same ↦ inr (record {
          entry = entry;
          place = put_same puts.first entry (Some first) ∙ ap Some (sym same);
          offered = offered;
        })
        | inr other ↦ elim (stands.only block (λ none. some (elsewhere block other ∙ none))) [
          | inl stood ↦ inl stood
          | inr is ↦ inr (record {
            entry = is.entry;
            place = put_far puts.first entry is.entry (Some first)
                (λ same. let wrong : None ≡ Some block = sym fresh ∙ ap puts.first (sym same) ∙ is.place in absurd cc)
                ∙ is.place;
            offered = is.offered;
          })
        ]
      ];
    }

  at_run : (puts : Puts) (entry : ℕ) → PutsStand puts → Offered entry → puts.first entry ≡ None → (run : Option ℕ) →
      lowest_run puts.patches blocks (blocks_of (bytes entry)) ≡ run →
      ResultStands (put_in_run puts entry (bytes entry) run)
  at_run puts entry stands offered fresh (Some first) lowest =
      one_put_stands puts entry first stands offered fresh lowest
  at_run puts entry stands offered fresh None lowest = tt

  unless_there : (puts : Puts) (entry : ℕ) → PutsStand puts → Offered entry → (place : Option ℕ) →
      puts.first entry ≡ place → ResultStands (put_unless_there blocks puts entry (bytes entry) place)
  unless_there puts entry stands offered (Some there) is = stands
  unless_there puts entry stands offered None is =
      at_run puts entry stands offered is (lowest_run puts.patches blocks (blocks_of (bytes entry))) refl

  offer_stands : (puts : Puts) (offer : Option ℕ) → PutsStand puts →
      ((entry : ℕ) → offer ≡ Some entry → Offered entry) → ResultStands (put_offer blocks bytes puts offer)
  offer_stands puts None stands offered = stands
  offer_stands puts (Some entry) stands offered =
      unless_there puts entry stands (offered entry refl) (puts.first entry) refl

  offers_stand : (row : Result Puts ℕ) (offers : List (Option ℕ)) → ResultStands row →
      ((g entry : ℕ) → get_or offers g None ≡ Some entry → Offered entry) →
      ResultStands (put_offers blocks bytes row offers)
  offers_stand row [] stands offered = stands
  offers_stand (Err needed) (offer ∷ offers) stands offered = tt
  offers_stand (Ok puts) (offer ∷ offers) stands offered =
      offers_stand (put_offer blocks bytes puts offer) offers (offer_stands puts offer stands (offered 0))
      (λ g entry is. offered (suc g) entry is)

  -- all offers were put
  pub all_put_stand : (offers : List (Option ℕ)) (puts : Puts) →
      ((block : ℕ) (patch : List ℕ) → start block ≡ Some patch → 8 ≤ length patch) →
      ((g entry : ℕ) → get_or offers g None ≡ Some entry → Offered entry)
      → put_offers blocks bytes (Ok (no_puts start)) offers ≡ Ok puts → PutsStand puts
  all_put_stand offers puts whole offered is =
      subst ResultStands is (offers_stand (Ok (no_puts start)) offers (none_put_stand whole) offered)
