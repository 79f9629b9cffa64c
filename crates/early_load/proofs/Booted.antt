-- A boot, put together from what it did.
use Rattle.std.proofs.Common.{◌≡◌, ℕ, true, List, length, filter, Option, Some, None, Result, sym, ap, ◌∙◌, inl, inr, arith}
use Rattle.std.proofs.Math.Path.{fun_ext}
use Rattle.std.proofs.lemmas.Bool.{cases_Bool, cases_lt, false≢true}
use Rattle.std.proofs.lemmas.List.{get_or_past}
use Rattle.region_steps.specs.Region.{Patches, no_patches}
use Rattle.patch_pool.specs.declared.pool.PatchId.{PatchId}
use Rattle.machine_steps.specs.declared.bring_ups.BringUp.{BringUp}
use Rattle.machine_steps.specs.declared.states.Power.TheVariants.{On}
use Rattle.machine_steps.specs.Hardware.{Setting, Hardware, is_off, with_power, threads_of}
use Rattle.machine_steps.specs.BringUps.{bring_up_each}
use Rattle.machine_steps.specs.Puts.{Puts, is_cached}
use Rattle.early_load.specs.Caches.{first_block, place_at, cached_patches, HoldsPatch, HoldsJustCached}
use Rattle.early_load.specs.Puts.{ArePut, IsElsewhere}
use Rattle.early_load.specs.Boots.{State, IsBooted, offered}
use Rattle.early_load.proofs.Kept.{cached_is, at_itself}
use Rattle.early_load.proofs.Rising.{every_thread}

pub is_booted : (setting : Setting) (row : Result Puts ℕ) (offers : List (Option ℕ)) (old : State) (on now : Hardware) (after : Patches) (places : List (Option PatchId)) (cached : ℕ → Option ℕ) (ups : List BringUp)
    → is_off old.hardware.power ≡ true → ArePut row offers after places → on ≡ with_power old.hardware On → cached ≡ place_at places
    → record { ups = ups; after = now } ≡ bring_up_each setting (cached_patches after cached) on (filter (λ t. true) (threads_of setting))
    → IsBooted setting row offers old (record { hardware = now; patches = after; cached = cached }) ups
is_booted setting row offers old on now after places cached ups off are powered keeps brought =
    let caches : cached ≡ offered are.puts offers = keeps ∙ fun_ext are.place in
    record {
      was_off = off;
      puts = are.puts;
      put = are.put;
      brought = brought
          ∙ ap (bring_up_each setting (cached_patches after cached) on) (every_thread setting)
          ∙ ap (λ (h : Hardware). bring_up_each setting (cached_patches after cached) h (threads_of setting)) powered
          ∙ ap (λ (c : ℕ → Option ℕ). bring_up_each setting (cached_patches after c) (with_power old.hardware On) (threads_of setting)) caches
          ∙ ap (λ (p : Patches). bring_up_each setting (cached_patches p (offered are.puts offers)) (with_power old.hardware On) (threads_of setting)) are.patches;
      patches = are.patches;
      cached = caches;
    }

pub just_cached_then : (groups : ℕ) (start after : Patches) (places : List (Option PatchId)) (cached : ℕ → Option ℕ) → length places ≡ groups → cached ≡ place_at places → start ≡ no_patches
    → ((g first : ℕ) → place_at places g ≡ Some first → HoldsPatch (after first)) → ((block : ℕ) → IsElsewhere places block → after block ≡ start block) → HoldsJustCached groups after cached
just_cached_then groups start after places cached size keeps empty held others = record {
  each = λ g first below is. held g first (ap (λ (c : ℕ → Option ℕ). c g) (sym keeps) ∙ is);
  only = λ block some.
      elim (cases_Bool (is_cached groups cached block)) [
        | inl is ↦ is
        | inr not ↦
            let elsewhere : IsElsewhere places block = λ g e.
            elim (cases_lt g groups) [
              | inl below ↦
                  let at : cached g ≡ Some block = ap (λ (c : ℕ → Option ℕ). c g) keeps ∙ e in
                  false≢true (sym not ∙ cached_is groups cached block g below (at_itself block (cached g) at))
              | inr past ↦
                  let wrong : None ≡ Some block = sym (ap first_block (get_or_past places g None (omega (arith, past, size)))) ∙ e in absurd cc
            ]
            in
            absurd (some (others block elsewhere ∙ ap (λ (p : Patches). p block) empty))
      ];
}
