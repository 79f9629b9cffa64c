-- Offers are put one after the other.
use Rattle.std.proofs.Common.{◌≡◌, ◌≢◌, ℕ, suc, ◌+◌, ◌<◌, ◌≤◌, true, false, List, [], ◌∷◌, ◌++◌, length, drop, get_or, if◌then◌else◌, Option, Some, None, Result, Ok, Err, refl, sym, ap, ◌∙◌, subst, inl, inr, below_more, arith}
use Rattle.std.proofs.Math.Seq.{drop-cons}
use Rattle.std.proofs.Math.Path.{fun_ext}
use Rattle.std.proofs.lemmas.Bool.{cases_Bool, cases_eq, cases_lt, false≢true, eq-eqb, ne_eqb}
use Rattle.std.proofs.lemmas.List.{get_or_push, get_or_append_left, get_or_past, drop_all, length-append}
use Rattle.region_steps.specs.Region.{Patches, width, blocks_of, lowest_run, put_at, Stands}
use Rattle.region_steps.proofs.Changed.{put_here, put_other}
use Rattle.region_steps.proofs.Covered.{begins_no_patch}
use Rattle.region_steps.proofs.Longest.{lowest_is_free}
use Rattle.patch_pool.specs.declared.pool.PatchId.{PatchId}
use Rattle.machine_steps.specs.Hardware.{put}
use Rattle.machine_steps.specs.Puts.{Puts, no_puts, with_patch, put_in_run, put_unless_there, put_offer, put_offers, first_of, is_at, is_cached}
use Rattle.uc_catalog.specs.Contents.{Contents}
use Rattle.early_load.specs.Caches.{first_block, place_at, HoldsPatch}
use Rattle.early_load.specs.Puts.{bytes_at, offer_of, puts_of, ArePut, IsElsewhere, without}
use Rattle.early_load.proofs.Kept.{at_itself, at_means, cached_is, cached_is_not, cached_more}
use Rattle.early_load.proofs.Freeing.{neither}

-- ---- one place more

old_place : (places : List (Option PatchId)) (place : Option PatchId) (h : ℕ) → h < length places → place_at (places ++ place ∷ []) h ≡ place_at places h
old_place places place h below = ap first_block (get_or_append_left places (place ∷ []) None h below)

new_place : (places : List (Option PatchId)) (place : Option PatchId) (g : ℕ) → length places ≡ g → place_at (places ++ place ∷ []) g ≡ first_block place
new_place places place g size = ap first_block (get_or_push places place None g size)

alike : (n : ℕ) (one other : ℕ → Option ℕ) (block : ℕ) → ((h : ℕ) → h < n → one h ≡ other h) → is_cached n one block ≡ false → is_cached n other block ≡ false
alike n one other block same not =
    cached_is_not n other block
    (λ h below. elim (cases_Bool (is_at block (other h))) [
      | inl at ↦ absurd (false≢true (sym not ∙ cached_is n one block h below (ap (is_at block) (same h below) ∙ at)))
      | inr off ↦ off
    ])

-- a block at which neither the patches so far begin nor the next one
not_yet : (places : List (Option PatchId)) (place : Option PatchId) (g block : ℕ) → length places ≡ g → is_cached (g + 1) (place_at (places ++ place ∷ [])) block ≡ false
    → (is_cached g (place_at places) block ≡ false) × (is_at block (first_block place) ≡ false)
not_yet places place g block size not =
    let parts = neither _ _ (sym (cached_more g (place_at (places ++ place ∷ [])) block) ∙ not) in (
      alike g (place_at (places ++ place ∷ [])) (place_at places) block (λ h below. old_place places place h (omega (arith, below, size))) parts.0,
      ap (is_at block) (sym (new_place places place g size)) ∙ parts.1,
    )

-- ---- offers so far

-- The offers of the first g groups were put. What is left to put is the other offers.
pub record PutSoFar (blocks : ℕ) (contents : Contents) (offers : List (Option ℕ)) (start now : Patches) (places : List (Option PatchId)) (g : ℕ) : Type 0 where
  pub puts : Puts
  pub left : puts_of blocks contents offers start ≡ put_offers blocks (bytes_at contents) (Ok puts) (drop g offers)
  pub patches : now ≡ puts.patches
  pub size : length places ≡ g
  pub place : (h : ℕ) → h < g → place_at places h ≡ first_of puts (offer_of offers h)
  pub offered : (entry first : ℕ) → puts.first entry ≡ Some first → (h : ℕ) × (h < g) × (offer_of offers h ≡ Some entry)
  pub there : (h : ℕ) → h < g → (entry : ℕ) → offer_of offers h ≡ Some entry → puts.first entry ≡ None → ⊥
  pub held : (h : ℕ) → h < g → (first : ℕ) → place_at places h ≡ Some first → HoldsPatch (now first)
  pub was_free : (h : ℕ) → h < g → (first : ℕ) → place_at places h ≡ Some first → start first ≡ None
  pub others : (block : ℕ) → is_cached g (place_at places) block ≡ false → now block ≡ start block

pub none_put : (blocks : ℕ) (contents : Contents) (offers : List (Option ℕ)) (start : Patches) → PutSoFar blocks contents offers start start [] 0
none_put blocks contents offers start = record {
  puts = no_puts start;
  left = refl;
  patches = refl;
  size = refl;
  place = λ h below. absurd (omega (arith, below));
  offered = λ entry first is. absurd cc;
  there = λ h below entry is none. absurd (omega (arith, below));
  held = λ h below first is. absurd (omega (arith, below));
  was_free = λ h below first is. absurd (omega (arith, below));
  others = λ block not. refl;
}

-- what is left after one offer more
next_left : (blocks : ℕ) (contents : Contents) (offers : List (Option ℕ)) (puts : Puts) (g : ℕ) → g < length offers
    → put_offers blocks (bytes_at contents) (Ok puts) (drop g offers) ≡ put_offers blocks (bytes_at contents) (put_offer blocks (bytes_at contents) puts (offer_of offers g)) (drop (g + 1) offers)
next_left blocks contents offers puts g below =
    let next : suc g ≡ g + 1 = omega arith in
    ap (put_offers blocks (bytes_at contents) (Ok puts)) (drop-cons offers g None below ∙ ap (λ (n : ℕ). offer_of offers g ∷ drop n offers) next)

-- an offer for which nothing new is put
same_puts : (blocks : ℕ) (contents : Contents) (offers : List (Option ℕ)) (start now : Patches) (places : List (Option PatchId)) (g : ℕ) (place : Option PatchId)
    → (so_far : PutSoFar blocks contents offers start now places g) → g < length offers
    → put_offer blocks (bytes_at contents) so_far.puts (offer_of offers g) ≡ Ok so_far.puts
    → first_block place ≡ first_of so_far.puts (offer_of offers g)
    → ((entry : ℕ) → offer_of offers g ≡ Some entry → so_far.puts.first entry ≡ None → ⊥)
    → ((first : ℕ) → first_block place ≡ Some first → HoldsPatch (now first) × (start first ≡ None))
    → PutSoFar blocks contents offers start now (places ++ place ∷ []) (g + 1)
same_puts blocks contents offers start now places g place so_far below puts is there stands =
    let old = λ (h : ℕ) (lt : h < g). old_place places place h (omega (arith, lt, so_far.size)) in
    let new = new_place places place g so_far.size in
    record {
      puts = so_far.puts;
      left = so_far.left ∙ next_left blocks contents offers so_far.puts g below ∙ ap (λ (r : Result Puts ℕ). put_offers blocks (bytes_at contents) r (drop (g + 1) offers)) puts;
      patches = so_far.patches;
      size = omega (arith, so_far.size, length-append places (place ∷ []));
      place = below_more _ _ (λ h lt. old h lt ∙ so_far.place h lt) (new ∙ is);
      offered = λ entry first e. let found = so_far.offered entry first e in (found.0, omega (arith, found.1), found.2);
      there = below_more _ _ so_far.there there;
      held = below_more _ _ (λ h lt first e. so_far.held h lt first (sym (old h lt) ∙ e)) (λ first e. (stands first (sym new ∙ e)).0);
      was_free = below_more _ _ (λ h lt first e. so_far.was_free h lt first (sym (old h lt) ∙ e)) (λ first e. (stands first (sym new ∙ e)).1);
      others = λ block not. so_far.others block (not_yet places place g block so_far.size not).0;
    }

-- a group that is offered nothing
pub nothing_offered : (blocks : ℕ) (contents : Contents) (offers : List (Option ℕ)) (start now : Patches) (places more : List (Option PatchId)) (g : ℕ)
    → PutSoFar blocks contents offers start now places g → g < length offers → offer_of offers g ≡ None → more ≡ places ++ None ∷ [] → PutSoFar blocks contents offers start now more (g + 1)
nothing_offered blocks contents offers start now places more g so_far below none pushed =
    subst (λ (l : List (Option PatchId)). PutSoFar blocks contents offers start now l (g + 1)) (sym pushed)
    (same_puts blocks contents offers start now places g None so_far below
    (ap (put_offer blocks (bytes_at contents) so_far.puts) none)
    (ap (first_of so_far.puts) (sym none))
    (λ entry is. absurd cc)
    (λ first is. absurd cc))

-- the entry of an earlier group stands already
stands_already : (blocks : ℕ) (bytes : ℕ → List ℕ) (puts : Puts) (entry : ℕ) → (puts.first entry ≡ None → ⊥) → put_offer blocks bytes puts (Some entry) ≡ Ok puts
stands_already blocks bytes puts entry some =
    elim (puts.first entry) as (λ place. puts.first entry ≡ place → put_unless_there blocks puts entry (bytes entry) place ≡ Ok puts) [
      | None ↦ λ e. absurd (some e)
      | Some there ↦ λ e. refl
    ] refl

pub offered_again : (blocks : ℕ) (contents : Contents) (offers : List (Option ℕ)) (start now : Patches) (places more : List (Option PatchId)) (g h entry : ℕ)
    → PutSoFar blocks contents offers start now places g → g < length offers → offer_of offers g ≡ Some entry → h < g → offer_of offers h ≡ Some entry
    → more ≡ places ++ get_or places h None ∷ [] → PutSoFar blocks contents offers start now more (g + 1)
offered_again blocks contents offers start now places more g h entry so_far below is earlier same pushed =
    subst (λ (l : List (Option PatchId)). PutSoFar blocks contents offers start now l (g + 1)) (sym pushed)
    (same_puts blocks contents offers start now places g (get_or places h None) so_far below
    (ap (put_offer blocks (bytes_at contents) so_far.puts) is ∙ stands_already blocks (bytes_at contents) so_far.puts entry (so_far.there h earlier entry same))
    (so_far.place h earlier ∙ ap (first_of so_far.puts) (same ∙ sym is))
    (λ other e. let one : entry ≡ other = cc in so_far.there h earlier other (same ∙ ap Some one))
    (λ first e. (so_far.held h earlier first e, so_far.was_free h earlier first e)))

-- ---- an entry that is put

put_same : (first : ℕ → Option ℕ) (entry : ℕ) (place : Option ℕ) → put first entry place entry ≡ place
put_same first entry place = rw (eq-eqb entry entry refl) refl

put_far : (first : ℕ → Option ℕ) (entry other : ℕ) (place : Option ℕ) → other ≢ entry → put first entry place other ≡ first other
put_far first entry other place far = rw (ne_eqb other entry far) refl

first_kept : (puts : Puts) (entry at : ℕ) (bytes : List ℕ) (offer : Option ℕ) → (offer ≡ Some entry → ⊥) → first_of (with_patch puts entry at bytes) offer ≡ first_of puts offer
first_kept puts entry at bytes None far = refl
first_kept puts entry at bytes (Some other) far = put_far puts.first entry other (Some at) (λ same. far (ap Some same))

-- the entry was not put before, and is put at a run
put_here_now : (blocks : ℕ) (bytes : ℕ → List ℕ) (puts : Puts) (now : Patches) (entry : ℕ) (offer run : Option ℕ) → offer ≡ Some entry → puts.first entry ≡ None → now ≡ puts.patches
    → lowest_run now blocks (blocks_of (bytes entry)) ≡ run → put_offer blocks bytes puts offer ≡ put_in_run puts entry (bytes entry) run
put_here_now blocks bytes puts now entry offer run is none same lowest =
    ap (put_offer blocks bytes puts) is ∙ ap (put_unless_there blocks puts entry (bytes entry)) none
    ∙ ap (put_in_run puts entry (bytes entry)) (ap (λ (patches : Patches). lowest_run patches blocks (blocks_of (bytes entry))) (sym same) ∙ lowest)

-- at the begin of a free run no patch begins
none_begins_there : (now : Patches) (blocks first : ℕ) (bytes : List ℕ) → Stands now blocks → 0 < length bytes → lowest_run now blocks (blocks_of bytes) ≡ Some first → now first ≡ None
none_begins_there now blocks first bytes stands some lowest =
    let few : 0 < blocks_of bytes = omega arith in
    let none = begins_no_patch now (blocks_of bytes) first (lowest_is_free now blocks (blocks_of bytes) first lowest).free few in
    elim (now first) as (λ patch. now first ≡ patch → now first ≡ None) [
      | None ↦ λ e. e
      | Some there ↦ λ e. absurd (let wide : blocks_of there ≡ 0 = ap width (sym e) ∙ none in omega (arith, wide, stands.has_bytes first there e))
    ] refl

-- The offer of the next group is an entry that no group before was offered.
pub record IsNew (blocks : ℕ) (contents : Contents) (offers : List (Option ℕ)) (now : Patches) (g entry : ℕ) : Type 0 where
  pub below : g < length offers
  pub is : offer_of offers g ≡ Some entry
  pub fresh : (h : ℕ) → h < g → offer_of offers h ≡ Some entry → ⊥
  pub header : 48 ≤ length (bytes_at contents entry)
  pub stands : Stands now blocks

module _ (blocks : ℕ) (contents : Contents) (offers : List (Option ℕ)) (start now : Patches) (places : List (Option PatchId)) (g entry : ℕ)
    (so_far : PutSoFar blocks contents offers start now places g) (new : IsNew blocks contents offers now g entry) where
  not_put : so_far.puts.first entry ≡ None
  not_put =
      elim (so_far.puts.first entry) as (λ place. so_far.puts.first entry ≡ place → so_far.puts.first entry ≡ None) [
        | None ↦ λ e. e
        | Some first ↦ λ e. let found = so_far.offered entry first e in absurd (new.fresh found.0 found.1 found.2)
      ] refl

  errs : (needed : ℕ) (rest : List (Option ℕ)) → put_offers blocks (bytes_at contents) (Err needed) rest ≡ Err needed
  errs needed [] = refl
  errs needed (offer ∷ rest) = refl

  -- no run is long enough
  pub found_no_room : lowest_run now blocks (blocks_of (bytes_at contents entry)) ≡ None → puts_of blocks contents offers start ≡ Err (blocks_of (bytes_at contents entry))
  found_no_room none =
      so_far.left ∙ next_left blocks contents offers so_far.puts g new.below
      ∙ ap (λ (r : Result Puts ℕ). put_offers blocks (bytes_at contents) r (drop (g + 1) offers)) (put_here_now blocks (bytes_at contents) so_far.puts now entry (offer_of offers g) None new.is not_put so_far.patches none)
      ∙ errs (blocks_of (bytes_at contents entry)) (drop (g + 1) offers)

  module _ (id : PatchId) (after : Patches) (lowest : lowest_run now blocks (blocks_of (bytes_at contents entry)) ≡ Some id.0) (put_there : after ≡ put_at now id.0 (bytes_at contents entry)) where
    was_none : now id.0 ≡ None
    was_none = none_begins_there now blocks id.0 (bytes_at contents entry) new.stands (omega (arith, new.header)) lowest

    -- no patch so far begins there
    apart : (h : ℕ) → h < g → place_at places h ≡ Some id.0 → ⊥
    apart h lt e = subst HoldsPatch was_none (so_far.held h lt id.0 e)

    start_none : start id.0 ≡ None
    start_none =
        let not : is_cached g (place_at places) id.0 ≡ false = cached_is_not g (place_at places) id.0
        (λ h lt. elim (cases_Bool (is_at id.0 (place_at places h))) [
          | inl at ↦ absurd (apart h lt (at_means id.0 (place_at places h) at))
          | inr off ↦ off
        ])
        in
        sym (so_far.others id.0 not) ∙ was_none

    stays : (block : ℕ) → block ≢ id.0 → after block ≡ now block
    stays block other = ap (λ (patches : Patches). patches block) put_there ∙ put_other now id.0 (bytes_at contents entry) block other

    stands_there : after id.0 ≡ Some (bytes_at contents entry)
    stands_there = ap (λ (patches : Patches). patches id.0) put_there ∙ put_here now id.0 (bytes_at contents entry)

    -- the offers of one group more were put
    pub next_put : (more : List (Option PatchId)) → more ≡ places ++ Some id ∷ [] → PutSoFar blocks contents offers start after more (g + 1)
    next_put more pushed =
        let old = λ (h : ℕ) (lt : h < g). old_place places (Some id) h (omega (arith, lt, so_far.size)) in
        let there = new_place places (Some id) g so_far.size in
        let here : (first : ℕ) → place_at (places ++ Some id ∷ []) g ≡ Some first → first ≡ id.0 = λ first e. let same : Some id.0 ≡ Some first = sym there ∙ e in cc in
        let elsewhere : (h : ℕ) → h < g → (first : ℕ) → place_at places h ≡ Some first → first ≢ id.0 = λ h lt first e same. apart h lt (e ∙ ap Some same) in
        let then_put : Puts = with_patch so_far.puts entry id.0 (bytes_at contents entry) in
        subst (λ (l : List (Option PatchId)). PutSoFar blocks contents offers start after l (g + 1)) (sym pushed)
        record {
          puts = then_put;
          left = so_far.left ∙ next_left blocks contents offers so_far.puts g new.below
              ∙ ap (λ (r : Result Puts ℕ). put_offers blocks (bytes_at contents) r (drop (g + 1) offers)) (put_here_now blocks (bytes_at contents) so_far.puts now entry (offer_of offers g) (Some id.0) new.is not_put so_far.patches lowest);
          patches = put_there ∙ ap (λ (patches : Patches). put_at patches id.0 (bytes_at contents entry)) so_far.patches;
          size = omega (arith, so_far.size, length-append places (Some id ∷ []));
          place = below_more _ _
              (λ h lt. old h lt ∙ so_far.place h lt ∙ sym (first_kept so_far.puts entry id.0 (bytes_at contents entry) (offer_of offers h) (new.fresh h lt)))
              (there ∙ sym (ap (first_of then_put) new.is ∙ put_same so_far.puts.first entry (Some id.0)));
          offered = λ other first e.
              elim (cases_eq other entry) [
                | inl same ↦ (g, omega arith, new.is ∙ ap Some (sym same))
                | inr far ↦
                    let found = so_far.offered other first (sym (put_far so_far.puts.first entry other (Some id.0) far) ∙ e) in (found.0, omega (arith, found.1), found.2)
              ];
          there = below_more _ _
              (λ h lt other is none.
              let far : other ≢ entry = λ same. new.fresh h lt (is ∙ ap Some same) in
              so_far.there h lt other is (sym (put_far so_far.puts.first entry other (Some id.0) far) ∙ none))
              (λ other is none.
              let same : other ≡ entry = let both : Some other ≡ Some entry = sym is ∙ new.is in cc in
              let put_it : put so_far.puts.first entry (Some id.0) other ≡ Some id.0 = ap (put so_far.puts.first entry (Some id.0)) same ∙ put_same so_far.puts.first entry (Some id.0) in
              let wrong : None ≡ Some id.0 = sym none ∙ put_it in absurd cc);
          held = below_more _ _
              (λ h lt first e. let at = sym (old h lt) ∙ e in subst HoldsPatch (sym (stays first (elsewhere h lt first at))) (so_far.held h lt first at))
              (λ first e.
              let stands : after first ≡ Some (bytes_at contents entry) = ap after (here first e) ∙ stands_there in
              let eight : HoldsPatch (Some (bytes_at contents entry)) = omega (arith, new.header) in subst HoldsPatch (sym stands) eight);
          was_free = below_more _ _ (λ h lt first e. so_far.was_free h lt first (sym (old h lt) ∙ e)) (λ first e. ap start (here first e) ∙ start_none);
          others = λ block not.
              let parts = not_yet places (Some id) g block so_far.size not in
              let other : block ≢ id.0 = λ same. false≢true (sym parts.1 ∙ at_itself block (Some id.0) (ap Some (sym same))) in
              stays block other ∙ so_far.others block parts.0;
        }

-- ---- all offers

module _ (blocks : ℕ) (contents : Contents) (offers : List (Option ℕ)) (start now : Patches) (places : List (Option PatchId)) (g : ℕ) (so_far : PutSoFar blocks contents offers start now places g) where
  none_after : (h : ℕ) → g ≤ h → place_at places h ≡ None
  none_after h past = ap first_block (get_or_past places h None (omega (arith, past, so_far.size)))

  pub all_put : length offers ≡ g → ArePut (puts_of blocks contents offers start) offers now places
  all_put all = record {
    puts = so_far.puts;
    put = so_far.left ∙ ap (put_offers blocks (bytes_at contents) (Ok so_far.puts)) (drop_all g offers (omega (arith, all)));
    patches = so_far.patches;
    groups = omega (arith, all, so_far.size);
    place = λ h. elim (cases_lt h g) [
      | inl below ↦ so_far.place h below
      | inr past ↦ none_after h past ∙ sym (ap (first_of so_far.puts) (get_or_past offers h None (omega (arith, all, past))))
    ];
  }

  pub all_held : (h first : ℕ) → place_at places h ≡ Some first → HoldsPatch (now first)
  all_held h first e =
      elim (cases_lt h g) [
        | inl below ↦ so_far.held h below first e
        | inr past ↦ let wrong : None ≡ Some first = sym (none_after h past) ∙ e in absurd cc
      ]

  pub others_stand : (block : ℕ) → IsElsewhere places block → now block ≡ start block
  others_stand block elsewhere =
      so_far.others block
      (cached_is_not g (place_at places) block
      (λ h below. elim (cases_Bool (is_at block (place_at places h))) [
        | inl at ↦ absurd (elsewhere h (at_means block (place_at places h) at))
        | inr off ↦ off
      ]))

  was_free_there : (block : ℕ) → is_cached g (place_at places) block ≡ true → start block ≡ None
  was_free_there block is =
      elim (start block) as (λ patch. start block ≡ patch → start block ≡ None) [
        | None ↦ λ e. e
        | Some bytes ↦ λ e.
            let not : is_cached g (place_at places) block ≡ false = cached_is_not g (place_at places) block
            (λ h below. elim (cases_Bool (is_at block (place_at places h))) [
              | inl at ↦ let wrong : None ≡ Some bytes = sym (so_far.was_free h below block (at_means block (place_at places h) at)) ∙ e in absurd cc
              | inr off ↦ off
            ])
            in
            absurd (false≢true (sym not ∙ is))
      ] refl

  -- what was put is taken back
  pub taken_back : without places now ≡ start
  unfolding without
  taken_back =
      fun_ext (λ block.
      ap (λ (n : ℕ). if is_cached n (place_at places) block then None else now block) so_far.size
      ∙ elim (cases_Bool (is_cached g (place_at places) block)) [
        | inl is ↦ rw is (sym (was_free_there block is))
        | inr not ↦ rw not (so_far.others block not)
      ])
