-- What a load leaves of a group: it runs its offer and caches that, or runs what it ran and caches what it cached.
use Rattle.std.proofs.Common.{◌≡◌, ◌≢◌, ◌⊎◌, ℕ, zero, suc, ◌+◌, ◌<◌, ◌≤◌, Bool, true, false, if◌then◌else◌, List, [], ◌∷◌, length, get_or, Option, Some, None, option_map, Result, Ok, Err, slice_get, refl, sym, ap, ◌∙◌, subst, inl, inr, arith}
use Rattle.std.specs.List.{slice_index}
use Rattle.std.proofs.lemmas.Bool.{false≢true, cases_lt, cases_eq, eq-eqb, ne_eqb}
use Rattle.std.proofs.lemmas.List.{get_or_default}
use Rattle.std.proofs.lemmas.List.FromFn.{get_or-map-range_with_len}
use Rattle.std.proofs.lemmas.Option.{get_or_from_slice_get, none-some}
use Rattle.uc_bytes.specs.Words.{word}
use Rattle.entry_model.specs.Entry.{Entry, patch_entry}
use Rattle.rendezvous_steps.specs.declared.ends.Beat.{Beat}
use Rattle.rendezvous_steps.specs.Plan.{Plan, Sound}
use Rattle.rendezvous_steps.specs.Padded.{Padded}
use Rattle.rendezvous_model.specs.Round as round
use Rattle.rendezvous_model.specs.Safe.{Safe}
use Rattle.rendezvous_model.specs.Outcome.{Outcome}
use Rattle.rendezvous_rule.specs.Shown.{shown_by}
use Rattle.rendezvous_rule.specs.Ran.{Ran, Listed, Unlisted, events_of, revision_after_go}
use Rattle.rule_laws.proofs.Safety.{ruled_is_safe}
use Rattle.play_laws.specs.Lawful.{Lawful, EventLaw, OpeningIsLawful}
use Rattle.rendezvous_steps.specs.ItemText.{item_line}
use Rattle.region_steps.specs.Region.{Patches, width, blocks_of, lowest_run}
use Rattle.region_steps.proofs.Changed.{put_other}
use Rattle.region_steps.proofs.Covered.{begins_no_patch}
use Rattle.region_steps.proofs.Longest.{lowest_is_free}
use Rattle.machine_steps.specs.Hardware.{Hardware}
use Rattle.machine_steps.specs.BringUps.{revision}
use Rattle.machine_steps.specs.Puts.{Puts, no_puts, put_in_run, put_unless_there, put_offer, put_offers, first_of, patch_at, swept}
use Rattle.session_text.specs.declared.answers.CommandAnswer.{CommandAnswer}
use Rattle.session_steps.specs.State.{Setting, State, machine_of, cached_patches, takes_part}
use Rattle.session_steps.specs.Offers.{entry_at, bytes_at, offer_of, put_revision, plan_of}
use Rattle.session_steps.specs.Did.{Did, kept_where, cached_after, revision_after, loaded}
use Rattle.session_steps.specs.Step.{Meets, met}
use Rattle.session_laws.specs.Standing.{Standing}
use Rattle.session_laws.specs.Lent.{LoadsLend}
use Rattle.session_laws.proofs.Parts.{load_offers}
use Rattle.session_laws.proofs.Plans.{offer_in, rev0_in}
use Rattle.session_laws.proofs.Stands.{cached_is, swept_stays}
use Rattle.command_laws.proofs.Outcomes.{ran_leaves}

-- ---- the patches that stood before it

-- at the begin of a free run no patch with a byte begins
none_begins : (patches : Patches) (blocks first : ℕ) (bytes patch : List ℕ) → 0 < length bytes → 0 < length patch →
    lowest_run patches blocks (blocks_of bytes) ≡ Some first → patches first ≢ Some patch
none_begins patches blocks first bytes patch some has lowest is =
    let few : 0 < blocks_of bytes = omega arith in
    let none = begins_no_patch patches (blocks_of bytes) first
    (lowest_is_free patches blocks (blocks_of bytes) first lowest).free few in
    let wide : blocks_of patch ≡ 0 = ap width (sym is) ∙ none in omega (arith, wide, has)

module _ (blocks : ℕ) (bytes : ℕ → List ℕ) (start : Patches)
    (whole : (block : ℕ) (patch : List ℕ) → start block ≡ Some patch → 0 < length patch) where
  -- each of them is where it was
  abbrev Kept : Puts → Type 0
  Kept puts = (block : ℕ) (patch : List ℕ) → start block ≡ Some patch → puts.patches block ≡ Some patch

  abbrev KeptBy : Result Puts ℕ → Type 0
  KeptBy (Ok puts) = Kept puts
  KeptBy (Err needed) = Unit {0}

  run_keeps : (puts : Puts) (entry : ℕ) (run : Option ℕ) → Kept puts → 0 < length (bytes entry) →
      lowest_run puts.patches blocks (blocks_of (bytes entry)) ≡ run →
      KeptBy (put_in_run puts entry (bytes entry) run)
  run_keeps puts entry None kept some lowest = tt
  run_keeps puts entry (Some first) kept some lowest = λ block patch is. elim (cases_eq block first) [
    | inl same ↦
        absurd (none_begins puts.patches blocks first (bytes entry) patch some (whole block patch is) lowest
        (ap puts.patches (sym same) ∙ kept block patch is))
    | inr other ↦ put_other puts.patches first (bytes entry) block other ∙ kept block patch is
  ]

  unless_keeps : (puts : Puts) (entry : ℕ) (place : Option ℕ) → Kept puts → 0 < length (bytes entry) →
      KeptBy (put_unless_there blocks puts entry (bytes entry) place)
  unless_keeps puts entry (Some there) kept some = kept
  unless_keeps puts entry None kept some =
      run_keeps puts entry (lowest_run puts.patches blocks (blocks_of (bytes entry))) kept some refl

  offer_keeps : (puts : Puts) (offer : Option ℕ) → Kept puts →
      ((entry : ℕ) → offer ≡ Some entry → 0 < length (bytes entry)) → KeptBy (put_offer blocks bytes puts offer)
  offer_keeps puts None kept some = kept
  offer_keeps puts (Some entry) kept some = unless_keeps puts entry (puts.first entry) kept (some entry refl)

  offers_keep : (row : Result Puts ℕ) (offers : List (Option ℕ)) → KeptBy row →
      ((g entry : ℕ) → get_or offers g None ≡ Some entry → 0 < length (bytes entry)) →
      KeptBy (put_offers blocks bytes row offers)
  offers_keep row [] kept some = kept
  offers_keep (Err needed) (offer ∷ offers) kept some = tt
  offers_keep (Ok puts) (offer ∷ offers) kept some =
      offers_keep (put_offer blocks bytes puts offer) offers (offer_keeps puts offer kept (some 0))
      (λ g entry is. some (suc g) entry is)

  all_kept : (offers : List (Option ℕ)) (puts : Puts) →
      ((g entry : ℕ) → get_or offers g None ≡ Some entry → 0 < length (bytes entry)) →
      put_offers blocks bytes (Ok (no_puts start)) offers ≡ Ok puts → Kept puts
  all_kept offers puts some is =
      subst KeptBy is (offers_keep (Ok (no_puts start)) offers (λ block patch there. there) some)

-- bytes with a revision are not empty
none_is_zero : revision [] ≡ 0
unfolding word
none_is_zero = refl

some_bytes : (bytes : List ℕ) → 0 < revision bytes → 0 < length bytes
some_bytes [] more = absurd (omega (arith, more, none_is_zero))
some_bytes (b ∷ bs) more = omega arith

-- ---- the revision that a run comes to

-- the first revision, or the offer
abbrev Either : ℕ → Option ℕ → ℕ → Type 0
Either first offer rev = (rev ≡ first) ⊎ (offer ≡ Some rev)

after_go : (offer : Option ℕ) (refuses : Bool) (first rev : ℕ) → rev ≡ revision_after_go offer refuses first →
    Either first offer rev
after_go None refuses first rev is = inl is
after_go (Some offer) true first rev is = inl is
after_go (Some offer) false first rev is = inr (ap Some (sym is))

unlisted_comes : (plan : Plan) (text : List ℕ) (outcome : Outcome) (late : Bool) (g : ℕ) → g < plan.groups →
    Unlisted plan text outcome late → Either (plan.rev0 g) (plan.offer g) (slice_index outcome.revs g)
unlisted_comes plan text outcome late g below ran = elim (cases_lt outcome.decide 2) [
  | inl less ↦
      let some = ran.decided in
      after_go (plan.offer g) (plan.refuse g) (plan.rev0 g) (slice_index outcome.revs g)
      ((ran.after_go (omega arith)).revisions g below)
  | inr more ↦ inl ((ran.after_drop more).revisions g below)
]

there : {X : Type 0} (xs : List X) (k : ℕ) → k < length xs → (x : X) × (slice_get xs k ≡ Some x)
there [] k below = absurd (omega (arith, below))
there (x ∷ xs) zero below = (x, refl)
there (x ∷ xs) (suc k) below = there xs k (omega (arith, below))

module _ (plan : Plan) (beats : List Beat) (text : List ℕ) (outcome : Outcome) (law : EventLaw)
    (opens : OpeningIsLawful) (sound : Sound plan) (padded : Padded plan)
    (ran : Listed item_line plan beats text outcome) where
  lawful : (k : ℕ) → k ≤ length ran.items → Lawful plan (ran.moments k)
  lawful zero within = subst (Lawful plan) (sym ran.played.opens) (opens plan sound padded)
  lawful (suc k) within =
      let more = ran.answers.no_more in
      let event = there (events_of plan beats) k (omega (arith, within, more)) in
      let item = there ran.items k (omega (arith, within)) in
      let led = law plan event.0 (ran.moments k) sound padded (lawful k (omega (arith, within))) in
      let next : k + 1 ≡ suc k = omega arith in
      subst (λ (n : ℕ). Lawful plan (ran.moments n)) next
      (subst (Lawful plan) (ap (λ after. after.0) (ran.played.happens k event.0 item.0 event.1 item.1)) led.lawful)

  abbrev last : round.State
  last = shown_by plan (ran.moments (length ran.items))

  safe : Safe plan last
  safe = ruled_is_safe plan (ran.moments (length ran.items)) sound padded
      (lawful (length ran.items) (omega arith)).ruled

  listed_comes : (g : ℕ) → g < plan.groups → Either (plan.rev0 g) (plan.offer g) (slice_index outcome.revs g)
  listed_comes g below =
      let is : slice_index outcome.revs g ≡ last.revision g =
      ap (λ (xs : List ℕ). slice_index xs g) ran.comes_out.revs
      ∙ get_or-map-range_with_len last.revision 0 plan.groups g g 0 below (omega arith) in
      subst (Either (plan.rev0 g) (plan.offer g)) (sym is) (safe.first_or_offer g)

run_comes : EventLaw → OpeningIsLawful → (lists : Bool) (plan : Plan) (beats : List Beat) (text : List ℕ)
    (outcome : Outcome) (late : Bool) → Sound plan → Padded plan → Ran item_line lists plan beats text outcome late →
    (g : ℕ) → g < plan.groups → Either (plan.rev0 g) (plan.offer g) (slice_index outcome.revs g)
run_comes law opens true plan beats text outcome late sound padded ran g below =
    listed_comes plan beats text outcome law opens sound padded ran g below
run_comes law opens false plan beats text outcome late sound padded ran g below =
    unlisted_comes plan text outcome late g below ran

-- ---- what is left

patch_stays : (groups : ℕ) (cached : ℕ → Option ℕ) (patches : Patches) (g : ℕ) (place : Option ℕ) → g < groups →
    cached g ≡ place → patch_at (swept groups cached patches) place ≡ patch_at patches place
patch_stays groups cached patches g None below is = refl
patch_stays groups cached patches g (Some block) below is =
    swept_stays groups cached patches block (cached_is groups cached block g below is)

kept_new : (offer : Option ℕ) (rev : ℕ) (new old : Option ℕ) → offer ≡ Some rev → kept_where offer rev new old ≡ new
kept_new offer rev new old is =
    ap (λ (offer : Option ℕ). kept_where offer rev new old) is
    ∙ ap (λ (same : Bool). if same then new else old) (eq-eqb rev rev refl)

kept_old : (offer : Option ℕ) (rev : ℕ) (new old : Option ℕ) → offer ≢ Some rev → kept_where offer rev new old ≡ old
kept_old None rev new old far = refl
kept_old (Some offer) rev new old far =
    ap (λ (same : Bool). if same then new else old) (ne_eqb offer rev (λ same. far (ap Some same)))

is_or_not : (offer : Option ℕ) (rev : ℕ) → (offer ≡ Some rev) ⊎ (offer ≢ Some rev)
is_or_not None rev = inr (λ is. absurd cc)
is_or_not (Some offer) rev = elim (cases_eq offer rev) [
  | inl same ↦ inl (ap Some same)
  | inr far ↦ inr (λ is. far cc)
]

-- the patch of a group that keeps its place stands as it was
same_patch : (old new : Patches) (place : Option ℕ) → ((block : ℕ) → place ≡ Some block → old block ≢ None) →
    ((block : ℕ) (patch : List ℕ) → old block ≡ Some patch → new block ≡ Some patch) →
    patch_at new place ≡ patch_at old place
same_patch old new None stood kept = refl
same_patch old new (Some block) stood kept = by (old block) refl
  where
    by : (patch : Option (List ℕ)) → old block ≡ patch → new block ≡ old block
    by None is = absurd (stood block refl is)
    by (Some patch) is = kept block patch is ∙ sym is

-- the group runs its offer, and caches a patch of that revision
pub record RunsOffer (plan : Plan) (after : State) (g : ℕ) : Type 0 where
  pub runs : plan.offer g ≡ Some (after.hardware.rev g)
  pub caches : option_map revision (cached_patches after g) ≡ Some (after.hardware.rev g)

-- it runs what it ran, and caches what it cached
pub record IsAsBefore (before after : State) (g : ℕ) : Type 0 where
  pub runs : after.hardware.rev g ≡ before.hardware.rev g
  pub caches : cached_patches after g ≡ cached_patches before g

-- a machine that differs from another in revisions alone
pub record SameButRevisions (old new : Hardware) : Type 0 where
  pub power : new.power ≡ old.power
  pub thread : new.thread ≡ old.thread
  pub remembered : new.remembered ≡ old.remembered

module _ (law : EventLaw) (opens : OpeningIsLawful) (lends : LoadsLend) (lists : Bool) (setting : Setting)
    (state : State) (force : Bool) (names : List (List ℕ)) (beats : List Beat) (did : Did) (answer : CommandAnswer)
    (stands : Standing setting state) (meets : Meets lists setting state force names beats did answer) where
  abbrev plan : Plan
  plan = plan_of setting state meets.puts meets.offers

  abbrev groups : ℕ
  groups = (machine_of setting).groups

  abbrev left : State
  left = loaded setting state meets.puts meets.offers plan meets.outcome

  abbrev rev_after : ℕ → ℕ
  rev_after g = revision_after state meets.outcome g

  -- each entry that a group is offered has bytes
  offered_bytes : (g number : ℕ) → offer_of meets.offers g ≡ Some number → 0 < length (bytes_at meets.entries number)
  offered_bytes g number is =
      let its = load_offers setting state force meets.entries meets.offers meets.are_offers g number is in
      let offer = its.is_offer in
      let over : 0 < (entry_at meets.entries number).facts.rev =
      subst (λ (entry : Entry). 0 < entry.facts.rev)
      (sym (get_or_from_slice_get meets.entries number offer.entry (patch_entry 0 0 [] []) offer.there))
      (let more = offer.admissible.above in omega (arith, more)) in
      let lent = lends setting state force names did.reads meets.entries meets.offers meets.puts g number stands
      meets.read meets.are_offers meets.put is in
      some_bytes (bytes_at meets.entries number) (subst (λ (n : ℕ). 0 < n) (sym lent.stated) over)

  kept : (block : ℕ) (patch : List ℕ) → state.patches block ≡ Some patch → meets.puts.patches block ≡ Some patch
  kept =
      all_kept setting.blocks (bytes_at meets.entries) state.patches
      (λ block patch is. omega (arith, stands.patches.whole block patch is)) meets.offers meets.puts
      offered_bytes meets.put

  comes : (g : ℕ) → g < groups → Either (state.hardware.rev g) (plan.offer g) (rev_after g)
  unfolding plan_of
  comes g below =
      let count : length meets.outcome.revs ≡ groups =
      (ran_leaves law opens item_line lists plan beats meets.items meets.outcome meets.late meets.sound meets.padded
      meets.ran).a_revision_each in
      let is : rev_after g ≡ slice_index meets.outcome.revs g =
      get_or_default meets.outcome.revs g (state.hardware.rev g) 0 (subst (λ (n : ℕ). g < n) (sym count) below) in
      subst (Either (state.hardware.rev g) (plan.offer g)) (sym is)
      (subst (λ (first : ℕ). Either first (plan.offer g) (slice_index meets.outcome.revs g))
      (rev0_in setting state meets.puts meets.offers g below)
      (run_comes law opens lists plan beats meets.items meets.outcome meets.late meets.sound meets.padded meets.ran g
      below))

  runs_offer : (g : ℕ) → g < groups → plan.offer g ≡ Some (rev_after g) → RunsOffer plan left g
  unfolding loaded
  runs_offer g below is =
      let cached : ℕ → Option ℕ = cached_after state meets.puts meets.offers plan meets.outcome in
      let place : Option ℕ = first_of meets.puts (offer_of meets.offers g) in
      let here : cached g ≡ place = kept_new (plan.offer g) (rev_after g) place (state.cached g) is in
      record {
        runs = is;
        caches =
            ap (λ (place : Option ℕ). option_map revision (patch_at (swept groups cached meets.puts.patches) place))
            here
            ∙ ap (option_map revision) (patch_stays groups cached meets.puts.patches g place below here)
            ∙ sym (offer_in setting state meets.puts meets.offers g below)
            ∙ is;
      }

  is_as_before : (g : ℕ) → g < groups → plan.offer g ≢ Some (rev_after g) → IsAsBefore state left g
  unfolding loaded
  is_as_before g below far =
      let cached : ℕ → Option ℕ = cached_after state meets.puts meets.offers plan meets.outcome in
      let here : cached g ≡ state.cached g =
      kept_old (plan.offer g) (rev_after g) (first_of meets.puts (offer_of meets.offers g)) (state.cached g) far in
      record {
        runs = elim (comes g below) [
          | inl first ↦ first
          | inr is ↦ absurd (far is)
        ];
        caches =
            ap (patch_at (swept groups cached meets.puts.patches)) here
            ∙ patch_stays groups cached meets.puts.patches g (state.cached g) below here
            ∙ same_patch state.patches meets.puts.patches (state.cached g)
            (λ block is. stands.patches.stand g block below is) kept;
      }

  after_is : did.after ≡ left
  unfolding met
  after_is = ap (λ (d : Did). d.after) meets.does

  pub load_leaves : (g : ℕ) → g < groups → RunsOffer plan did.after g ⊎ IsAsBefore state did.after g
  load_leaves g below = elim (is_or_not (plan.offer g) (rev_after g)) [
    | inl is ↦ inl (subst (λ (s : State). RunsOffer plan s g) (sym after_is) (runs_offer g below is))
    | inr far ↦ inr (subst (λ (s : State). IsAsBefore state s g) (sym after_is) (is_as_before g below far))
  ]

  -- no thread does anything but meet
  pub machine_stays : SameButRevisions state.hardware did.after.hardware
  unfolding loaded
  machine_stays =
      subst (λ (s : State). SameButRevisions state.hardware s.hardware) (sym after_is)
      record { power = refl; thread = refl; remembered = refl }

  -- a group that does not take part has no offer
  pub no_offer : (g rev : ℕ) → g < groups → takes_part setting state g ≡ false → plan.offer g ≢ Some rev
  no_offer g rev below none is = by (offer_of meets.offers g) refl
    where
      by : (offer : Option ℕ) → offer_of meets.offers g ≡ offer → ⊥
      by None offered =
          let wrong : None ≡ Some rev =
          sym (ap (put_revision meets.puts) offered)
          ∙ sym (offer_in setting state meets.puts meets.offers g below)
          ∙ is in
          none-some rev wrong
      by (Some entry) offered =
          false≢true (sym none
          ∙ (load_offers setting state force meets.entries meets.offers meets.are_offers g entry offered).part)
