-- What a load leaves.
use Rattle.std.proofs.Common.{◌≡◌, ℕ, ◌<◌, ◌≤◌, true, false, if◌then◌else◌, List, length, Option, Some, None, option_map, refl, sym, ap, ◌∙◌, inl, inr, subst, arith}
use Rattle.std.specs.Prelude.{◌==◌, slice_index}
use Rattle.std.proofs.Math.Path.{fun_ext}
use Rattle.std.proofs.lemmas.Bool.{cases_lt}
use Rattle.std.proofs.lemmas.List.{get_or_default, get_or_past}
use Rattle.rendezvous_steps.specs.Plan.{Plan}
use Rattle.rendezvous_model.specs.Outcome.{Outcome}
use Rattle.patch_pool.specs.declared.pool.PatchId.{PatchId}
use Rattle.machine_steps.specs.BringUps.{revision}
use Rattle.machine_steps.specs.Puts.{first_of, patch_at, swept}
use Rattle.early_load.specs.Caches.{place_at}
use Rattle.entry_model.specs.Entry.{Entry}
use Rattle.session_steps.specs.State.{Setting, State, machine_of}
use Rattle.session_steps.specs.Offers.{offer_of, put_revision, plan_of}
use Rattle.session_steps.specs.Did.{kept_where, cached_after, revision_after, loaded}
use Rattle.session_parts.specs.Loads.{IsPut, mixed, with_revisions, written_place, new_or_old, kept_by_plan}
use Rattle.session_parts.proofs.Tables.{table_in, table_past, mixed_in, mixed_past}

-- ---- what a group caches

-- where an offer has a place, the group caches the new patch or the old one
kept_is : (offer place old : Option ℕ) (rev : ℕ) → (place ≡ None → offer ≡ None) →
    new_or_old (written_place offer rev place) old ≡ kept_where offer rev place old
kept_is None place old rev none = refl
kept_is (Some offer) None old rev none = let wrong : Some offer ≡ None = none refl in absurd cc
kept_is (Some offer) (Some place) old rev none =
    elim (offer == rev) as (λ same. new_or_old (if same then Some place else None) old
    ≡ (if same then Some place else old)) [
      | true ↦ refl
      | false ↦ refl
    ]

module _ (setting : Setting) (entries : List Entry) (offers : List (Option ℕ)) (before old : State)
    (places : List (Option PatchId)) (put : IsPut setting entries offers before old places) where
  abbrev groups : ℕ
  groups = (machine_of setting).groups

  abbrev plan : Plan
  plan = plan_of setting before put.puts offers

  offer_in : (g : ℕ) → g < groups → plan.offer g ≡ put_revision put.puts (offer_of offers g)
  unfolding plan_of
  offer_in g below = table_in groups (λ g. put_revision put.puts (offer_of offers g)) None g below

  offer_past : (g : ℕ) → groups ≤ g → plan.offer g ≡ None
  unfolding plan_of
  offer_past g past = table_past groups (λ g. put_revision put.puts (offer_of offers g)) None g past

  -- an offer that was put nowhere is none
  no_place : (g : ℕ) → g < groups → place_at places g ≡ None → plan.offer g ≡ None
  no_place g below none =
      offer_in g below ∙ ap (λ (place : Option ℕ). option_map revision (patch_at put.puts.patches place))
      (sym (put.places_are.place g) ∙ none)

  module _ (outcome : Outcome) (counts : length outcome.revs ≡ groups) where
    revision_in : (g : ℕ) → g < groups → slice_index outcome.revs g ≡ revision_after before outcome g
    revision_in g below = get_or_default outcome.revs g 0 (before.hardware.rev g) (omega (arith, below, counts))

    revision_at : (g : ℕ) → mixed (slice_index outcome.revs) old.hardware.rev (length outcome.revs) g
        ≡ revision_after before outcome g
    revision_at g = elim (cases_lt g groups) [
      | inl below ↦ mixed_in (slice_index outcome.revs) old.hardware.rev (length outcome.revs) g
          (omega (arith, below, counts)) ∙ revision_in g below
      | inr past ↦
          mixed_past (slice_index outcome.revs) old.hardware.rev (length outcome.revs) g (omega (arith, past, counts))
          ∙ ap (λ (s : State). s.hardware.rev g) put.after
          ∙ sym (get_or_past outcome.revs g (before.hardware.rev g) (omega (arith, past, counts)))
    ]

    hardware_is : with_revisions old.hardware outcome.revs (length outcome.revs)
        ≡ record before.hardware { rev = revision_after before outcome }
    hardware_is =
        ap (λ (rev : ℕ → ℕ). record old.hardware { rev = rev }) (fun_ext revision_at)
        ∙ ap (λ (s : State). record s.hardware { rev = revision_after before outcome }) put.after

    abbrev new : ℕ → Option ℕ
    new g = new_or_old (written_place (plan.offer g) (slice_index outcome.revs g) (place_at places g)) (old.cached g)

    cached_at : (g : ℕ) → kept_by_plan plan places outcome.revs old.cached groups g
        ≡ cached_after before put.puts offers plan outcome g
    cached_at g = elim (cases_lt g groups) [
      | inl below ↦
          mixed_in new old.cached groups g below
          ∙ kept_is (plan.offer g) (place_at places g) (old.cached g) (slice_index outcome.revs g) (no_place g below)
          ∙ ap (λ (rev : ℕ). kept_where (plan.offer g) rev (place_at places g) (old.cached g)) (revision_in g below)
          ∙ ap (λ (place : Option ℕ). kept_where (plan.offer g) (revision_after before outcome g) place (old.cached g))
          (put.places_are.place g)
          ∙ ap (λ (s : State). kept_where (plan.offer g) (revision_after before outcome g)
          (first_of put.puts (offer_of offers g)) (s.cached g)) put.after
      | inr past ↦
          mixed_past new old.cached groups g past ∙ ap (λ (s : State). s.cached g) put.after
          ∙ sym (ap (λ (offer : Option ℕ). kept_where offer (revision_after before outcome g)
          (first_of put.puts (offer_of offers g)) (before.cached g)) (offer_past g past))
    ]

    cached_is : kept_by_plan plan places outcome.revs old.cached groups
        ≡ cached_after before put.puts offers plan outcome
    cached_is = fun_ext cached_at

    patches_are : swept groups (kept_by_plan plan places outcome.revs old.cached groups) old.patches
        ≡ swept groups (cached_after before put.puts offers plan outcome) put.puts.patches
    patches_are =
        ap (λ (cached : ℕ → Option ℕ). swept groups cached old.patches) cached_is
        ∙ ap (λ (s : State). swept groups (cached_after before put.puts offers plan outcome) s.patches) put.after

    finished_at : (after : State) → after.hardware ≡ with_revisions old.hardware outcome.revs (length outcome.revs) →
        after.cached ≡ kept_by_plan plan places outcome.revs old.cached groups
        → after.patches ≡ swept groups after.cached old.patches →
        after ≡ loaded setting before put.puts offers plan outcome
    unfolding loaded
    finished_at after hardware cached patches =
        let hardware_then = hardware ∙ hardware_is in
        let patches_then = patches ∙ ap (λ (c : ℕ → Option ℕ). swept groups c old.patches) cached ∙ patches_are in
        let cached_then = cached ∙ cached_is in
        λ i. record { hardware = hardware_then i; patches = patches_then i; cached = cached_then i }

-- the state is what the definition makes of the outcome
pub finished : (setting : Setting) (entries : List Entry) (offers : List (Option ℕ)) (before old : State)
    (places : List (Option PatchId)) (put : IsPut setting entries offers before old places) (plan : Plan)
    (outcome : Outcome) (revs : List ℕ) (after : State)
    → plan ≡ plan_of setting before put.puts offers → outcome.revs ≡ revs → length revs ≡ (machine_of setting).groups →
    after.hardware ≡ with_revisions old.hardware revs (length revs)
    → after.cached ≡ kept_by_plan plan places revs old.cached (machine_of setting).groups →
    after.patches ≡ swept (machine_of setting).groups after.cached old.patches
    → after ≡ loaded setting before put.puts offers plan outcome
finished setting entries offers before old places put plan outcome revs after is_plan is_revs counts hardware cached
    patches =
    subst (λ (p : Plan). after ≡ loaded setting before put.puts offers p outcome) (sym is_plan)
    (finished_at setting entries offers before old places put outcome (ap length is_revs ∙ counts) after
    (hardware ∙ ap (λ (l : List ℕ). with_revisions old.hardware l (length l)) (sym is_revs))
    (cached ∙ ap (λ (p : Plan). kept_by_plan p places revs old.cached (machine_of setting).groups) is_plan
    ∙ ap (λ (l : List ℕ). kept_by_plan (plan_of setting before put.puts offers) places l old.cached
    (machine_of setting).groups) (sym is_revs))
    patches)
