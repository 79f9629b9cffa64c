-- A boot in the words of a session.
use Rattle.std.proofs.Common.{◌≡◌, ℕ, ◌<◌, true, List, Option, None, Some, Result, Ok, Err, MatchResult, refl, ap, ◌∙◌, subst, inl, inr}
use Rattle.std.proofs.lemmas.Bool.{cases_lt}
use Rattle.std.proofs.lemmas.List.{get_or_past}
use Rattle.machine_steps.specs.declared.bring_ups.BringUp.{BringUp}
use Rattle.machine_steps.specs.Hardware.{Setting, is_off}
use Rattle.machine_steps.specs.Puts.{Puts}
use Rattle.hw_machine.specs.Machine.{hardware_of}
use Rattle.early_load.specs.declared.answers.BootAnswer.{BootAnswer}
use Rattle.early_load.specs.declared.answers.BootAnswer.TheVariants as boot
use Rattle.early_load.specs.Caches.{groups_of, cached_of, nothing_cached, first_block}
use Rattle.early_load.specs.Puts as puts
use Rattle.early_load.specs.Boots as early
use Rattle.uc_catalog.specs.Contents.{Contents}
use Rattle.session_steps.specs.State as session
use Rattle.session_steps.specs.State.{State, machine_of}
use Rattle.session_laws.specs.Standing.{Standing}
use Rattle.session_parts.specs.declared.parts.Parts.{Parts}
use Rattle.session_parts.specs.Parts.{setting_of, state_of}
use Rattle.session_parts.specs.Boots.{IsBooted, IsRefused}

-- ---- where the machine is off, nothing is cached

module _ (parts : Parts) (standing : Standing (setting_of parts) (state_of parts))
    (off : is_off (hardware_of parts.machine).power ≡ true) where
  groups_are : groups_of parts.cache ≡ (machine_of (setting_of parts)).groups
  groups_are = parts.groups ∙ ap (λ (s : Setting). s.groups) parts.states

  none_below : (g : ℕ) → g < groups_of parts.cache → (cached : Option ℕ) → cached_of parts.cache g ≡ cached → cached ≡ None
  none_below g below None is = refl
  none_below g below (Some block) is =
      absurd (standing.patches.stand g block (subst (λ (n : ℕ). g < n) groups_are below) is (standing.off_is_empty off block))

  none_at : (g : ℕ) → cached_of parts.cache g ≡ None
  none_at g = elim (cases_lt g (groups_of parts.cache)) [
    | inl below ↦ none_below g below (cached_of parts.cache g) refl
    | inr past ↦ ap first_block (get_or_past parts.cache.patches.items g None past)
  ]

  pub none_cached : cached_of parts.cache ≡ nothing_cached
  none_cached = λ i g. none_at g i

-- ---- the answer

abbrev early_state : State → early.State
early_state state = record { hardware = state.hardware; patches = state.patches; cached = state.cached }

abbrev session_state : early.State → State
session_state state = record { hardware = state.hardware; patches = state.patches; cached = state.cached }

module _ (setting : session.Setting) (machine : Setting) (is_stated : machine ≡ machine_of setting)
    (contents : Contents) (offers : List (Option ℕ)) (old new : State) where
  abbrev row : Result Puts ℕ
  row = puts.puts_of setting.blocks contents offers old.patches

  booted : (ups : List BringUp) → early.IsBooted machine row offers (early_state old) (early_state new) ups →
      IsBooted setting contents.entries offers old new ups
  booted ups is = record {
    was_off = is.was_off;
    puts = is.puts;
    put = is.put;
    brought =
        subst (λ (s : Setting). record { ups = ups; after = new.hardware } ≡ early.brought_up s old.hardware is.puts offers)
        is_stated is.brought;
    patches = is.patches;
    cached = is.cached;
  }

  refused : (answer : BootAnswer) → early.IsRefused row old.hardware answer →
      IsRefused setting contents.entries offers old answer
  refused boot.Booted is = is
  refused (boot.PoolFull needed) is = is

  pub answered : {A : Type 0} (items : A → List BringUp) (result : Result A BootAnswer) →
      MatchResult result (λ ups. early.IsBooted machine row offers (early_state old) (early_state new) (items ups))
      (λ answer. early.IsRefused row old.hardware answer × (early_state new ≡ early_state old)) →
      MatchResult result (λ ups. IsBooted setting contents.entries offers old new (items ups))
      (λ answer. IsRefused setting contents.entries offers old answer × (new ≡ old))
  answered items (Ok ups) is = booted (items ups) is
  answered items (Err answer) is = (refused answer is.0, ap session_state is.1)
