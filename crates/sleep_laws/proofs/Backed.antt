-- No group runs more than it comes to at a power-up.
use Rattle.std.proofs.Common.{◌≡◌, ℕ, ◌<◌, ◌≤◌, Bool, true, false, not, ◌==◌, List, [], ◌∷◌, Option, Some, None, Result, Ok, Err, refl, sym, subst, inl, inr}
use Rattle.std.specs.List.{All}
use Rattle.std.proofs.Math.Nat.{le_trans}
use Rattle.std.proofs.lemmas.List.Elements.{All-head, All-tail}
use Rattle.uc_topology.specs.Stated.{IsPartition}
use Rattle.read_model.specs.Reads.{Read}
use Rattle.rendezvous_steps.specs.declared.ends.Beat.{Beat}
use Rattle.play_laws.specs.Lawful.{EventLaw, OpeningIsLawful}
use Rattle.region_steps.specs.Region.{Patches}
use Rattle.machine_steps.specs.declared.states.Power.TheVariants as power
use Rattle.machine_steps.specs.declared.states.ThreadState.TheVariants.{Offline}
use Rattle.machine_steps.specs.declared.answers.HotAnswer.{HotAnswer}
use Rattle.machine_steps.specs.declared.answers.HotAnswer.TheVariants as hot
use Rattle.machine_steps.specs.Hardware.{Hardware, is_off, is_on, is_asleep, is_up, with_power, with_thread, suspended, threads_of}
use Rattle.machine_steps.specs.Calls as calls
use Rattle.machine_steps.specs.BringUps.{AllBrought, bring_up_each, remembered_threads, resume_from}
use Rattle.machine_steps.specs.Puts.{patch_at}
use Rattle.script_text.specs.declared.command.Command.{Command}
use Rattle.script_text.specs.declared.command.Command.TheVariants as command
use Rattle.session_text.specs.declared.answers.CommandAnswer.{CommandAnswer}
use Rattle.session_text.specs.declared.answers.CommandAnswer.TheVariants.{Done, Hot, Load}
use Rattle.session_text.specs.declared.answers.LoadAnswer.TheVariants as load
use Rattle.session_steps.specs.State.{Setting, State, machine_of, cached_patches, opening_state}
use Rattle.session_steps.specs.Did.{Did, only, by_row, by_bring_ups}
use Rattle.session_steps.specs.Step.{BootRow, Boots, LoadRow, Meets, booted, booted_patches, brought_at_boot, online_from, set_refusal, SessionStep}
use Rattle.session_laws.specs.Standing.{Standing, InRange, OpeningStands, StepsStand}
use Rattle.session_laws.specs.Lent.{LoadsLend}
use Rattle.cut_laws.specs.SoFar.{StepsTo}
use Rattle.sleep_laws.specs.PowerUp.{at_power_up, IsBacked, StatesAreBacked}
use Rattle.sleep_laws.proofs.Coming.{come_to, at_least, of_revision, within}
use Rattle.sleep_laws.proofs.Loaded.{load_leaves}

-- ---- one command

-- of an empty region no patch is cached
none_at : (patches : Patches) (place : Option ℕ) → ((block : ℕ) → patches block ≡ None) → patch_at patches place ≡ None
none_at patches None empty = refl
none_at patches (Some block) empty = empty block

module _ (setting : Setting) (g : ℕ) (within_groups : g < (machine_of setting).groups) where
  abbrev bios : ℕ
  bios = (machine_of setting).bios g

  abbrev Backed : State → Type 0
  Backed state = state.hardware.rev g ≤ at_power_up setting state g

  as_other : (did other : Did) → did ≡ other → Backed other.after → Backed did.after
  as_other did other same backed = subst (λ (d : Did). Backed d.after) (sym same) backed

  only_backed : (state : State) (did : Did) (reads : List Read) (answer : CommandAnswer) →
      did ≡ only state reads answer → Backed state → Backed did.after
  only_backed state did reads answer same backed = as_other did (only state reads answer) same backed

  -- ---- rows of the machine

  module _ (state : State) (backed : Backed state) where
    abbrev Low : Hardware → Type 0
    Low new = new.rev g ≤ at_power_up setting state g

    abbrev Each : Result Hardware HotAnswer → Type 0
    Each (Ok new) = Low new
    Each (Err answer) = Unit {0}

    abbrev EachRise : Result AllBrought HotAnswer → Type 0
    EachRise (Ok brought) = Low brought.after
    EachRise (Err answer) = Unit {0}

    unless : (test : Bool) (answer : HotAnswer) (row : Result Hardware HotAnswer) → Each row →
        Each (calls.refuse_where test answer row)
    unless true answer row low = tt
    unless false answer row low = low

    row_backed : (row : Result Hardware HotAnswer) → Each row → Backed (by_row state row).after
    row_backed (Ok new) low = low
    row_backed (Err answer) low = backed

    rise_backed : (row : Result AllBrought HotAnswer) → EachRise row → Backed (by_bring_ups state row).after
    rise_backed (Ok brought) low = low
    rise_backed (Err answer) low = backed

    offline_low : (t : ℕ) → Each (calls.soft_offline state.hardware t)
    offline_low t =
        unless (not (is_on state.hardware.power)) hot.PoweredDown _
        (unless (t == 0) hot.BootThread _
        (unless (not (is_up (state.hardware.thread t))) (hot.NotUp t) (Ok (with_thread state.hardware t Offline))
        backed))

    suspend_low : Each (calls.suspend (machine_of setting) state.hardware)
    suspend_low =
        unless (not (is_on state.hardware.power)) hot.PoweredDown (Ok (suspended (machine_of setting) state.hardware))
        (at_least bios (cached_patches state g))

    may_rise_low : (t : ℕ) → Each (calls.may_come_up state.hardware t)
    may_rise_low t =
        unless (not (is_on state.hardware.power)) hot.PoweredDown _
        (unless (is_up (state.hardware.thread t)) (hot.IsUp t) (Ok state.hardware) backed)

    wake_low : Each (calls.wake state.hardware)
    wake_low =
        unless (not (is_asleep state.hardware.power)) hot.NotAsleep (Ok (with_power state.hardware power.On)) backed

    rise_low : (new : Hardware) (ts : List ℕ) → Low new →
        Low (bring_up_each (machine_of setting) (cached_patches state) new ts).after
    rise_low new ts low = within (machine_of setting) (cached_patches state) bios new g ts low

    online_low : (t : ℕ) (row : Result Hardware HotAnswer) → Each row → EachRise (online_from setting state t row)
    online_low t (Err answer) low = tt
    online_low t (Ok new) low = rise_low new (t ∷ []) low

    resume_low : (row : Result Hardware HotAnswer) → Each row →
        EachRise (resume_from (machine_of setting) (cached_patches state) state.hardware row)
    resume_low (Err answer) low = tt
    resume_low (Ok new) low = rise_low new (remembered_threads (machine_of setting) state.hardware) low

    -- ---- a boot

    -- before it no group runs more than its firmware's revision
    at_firmware : Standing setting state → is_off state.hardware.power ≡ true → state.hardware.rev g ≤ bios
    at_firmware stands off =
        subst (λ (patch : Option (List ℕ)). state.hardware.rev g ≤ come_to bios patch)
        (none_at state.patches (state.cached g) (stands.off_is_empty off)) backed

    boots_backed : (names : List (List ℕ)) (did : Did) → Standing setting state →
        is_off state.hardware.power ≡ true → Boots setting state names did → Backed did.after
    unfolding booted
    boots_backed names did stands off boots =
        let patches = booted_patches boots.puts boots.offers in
        as_other did
        (booted setting state did.reads boots.puts boots.offers (brought_at_boot setting state boots.puts boots.offers))
        boots.does
        (within (machine_of setting) patches bios (with_power state.hardware power.On) g
        (threads_of (machine_of setting)) (le_trans (at_firmware stands off) (at_least bios (patches g))))

    boot_backed : (names : List (List ℕ)) (did : Did) (answer : CommandAnswer) → Standing setting state →
        BootRow setting state names did answer → Backed did.after
    boot_backed names did Done stands row = boots_backed names did stands row.0 row.1
    boot_backed names did (Hot hot.Booted) stands row = only_backed state did _ _ row.1 backed
    boot_backed names did (Hot (hot.NotUp t)) stands row = absurd row.1
    boot_backed names did (Hot (hot.IsUp t)) stands row = absurd row.1
    boot_backed names did (Hot hot.BootThread) stands row = absurd row.1
    boot_backed names did (Hot hot.PoweredDown) stands row = absurd row.1
    boot_backed names did (Hot hot.NotAsleep) stands row = absurd row.1
    boot_backed names did (Load (load.ReadFault file)) stands row = only_backed state did _ _ row.1.did_only backed
    boot_backed names did (Load (load.BadFile file fault)) stands row = only_backed state did _ _ row.1.did_only backed
    boot_backed names did (Load (load.PoolFull needed)) stands row = only_backed state did _ _ row.1.did_only backed
    boot_backed names did (Load answer) stands row = absurd row.1

    -- ---- a load

    module _ (law : EventLaw) (opens : OpeningIsLawful) (lends : LoadsLend) (lists force : Bool)
        (names : List (List ℕ)) (beats : List Beat) (did : Did) (stands : Standing setting state) where
      meets_backed : (answer : CommandAnswer) → Meets lists setting state force names beats did answer →
          Backed did.after
      meets_backed answer meets =
          elim (load_leaves law opens lends lists setting state force names beats did answer stands meets g
          within_groups) [
            | inl new ↦ of_revision bios (did.after.hardware.rev g) (cached_patches did.after g) new.caches
            | inr old ↦
                subst (λ (patch : Option (List ℕ)). did.after.hardware.rev g ≤ come_to bios patch) (sym old.caches)
                (subst (λ (rev : ℕ). rev ≤ at_power_up setting state g) (sym old.runs) backed)
          ]

      load_backed : (answer : CommandAnswer) → LoadRow lists setting state force names beats did answer →
          Backed did.after
      load_backed (Hot answer) row = absurd row.1
      load_backed (Load (load.Busy t)) row = only_backed state did _ _ row.1 backed
      load_backed (Load (load.ReadFault file)) row = only_backed state did _ _ row.1.did_only backed
      load_backed (Load (load.BadFile file fault)) row = only_backed state did _ _ row.1.did_only backed
      load_backed (Load load.NotFound) row = only_backed state did _ _ row.1.did_only backed
      load_backed (Load (load.PoolFull needed)) row = only_backed state did _ _ row.1.did_only backed
      load_backed answer row = meets_backed answer row.1

  step_backed : EventLaw → OpeningIsLawful → LoadsLend → (lists : Bool) (state : State) (one : Command) (did : Did) →
      Standing setting state → Backed state → SessionStep lists setting state one did → Backed did.after
  step_backed law opens lends lists state (command.Boot names) did stands backed step =
      boot_backed state backed names did did.answer stands step
  step_backed law opens lends lists state (command.Load force names beats) did stands backed step =
      load_backed state backed law opens lends lists force names beats did stands did.answer step
  step_backed law opens lends lists state (command.Online t) did stands backed step =
      let row : Result Hardware HotAnswer = calls.may_come_up state.hardware t in
      as_other did (by_bring_ups state (online_from setting state t row)) step
      (rise_backed state backed (online_from setting state t row)
      (online_low state backed t row (may_rise_low state backed t)))
  step_backed law opens lends lists state command.Resume did stands backed step =
      let row : Result Hardware HotAnswer = calls.wake state.hardware in
      let all : Result AllBrought HotAnswer =
      resume_from (machine_of setting) (cached_patches state) state.hardware row in
      as_other did (by_bring_ups state all) step
      (rise_backed state backed all (resume_low state backed row (wake_low state backed)))
  step_backed law opens lends lists state (command.Offline t) did stands backed step =
      let row : Result Hardware HotAnswer = calls.soft_offline state.hardware t in
      as_other did (by_row state row) step (row_backed state backed row (offline_low state backed t))
  step_backed law opens lends lists state command.Suspend did stands backed step =
      let row : Result Hardware HotAnswer = calls.suspend (machine_of setting) state.hardware in
      as_other did (by_row state row) step (row_backed state backed row (suspend_low state backed))
  step_backed law opens lends lists state (command.Refuse core) did stands backed step =
      as_other did (set_refusal setting state core true) step backed
  step_backed law opens lends lists state (command.Accept core) did stands backed step =
      as_other did (set_refusal setting state core false) step backed

-- ---- a session

-- where commands lead that begin in a state which stands
pub stands_to : StepsStand → (lists : Bool) (setting : Setting) → IsPartition setting.machine.stated → (state : State)
    (commands : List Command) (dids : List Did) (after : State) → Standing setting state →
    All (λ one. InRange setting one) commands → StepsTo lists setting state commands dids after →
    Standing setting after
stands_to stay lists setting partition state [] [] after stands in_range steps =
    subst (Standing setting) (sym steps) stands
stands_to stay lists setting partition state (one ∷ commands) (did ∷ dids) after stands in_range steps =
    stands_to stay lists setting partition did.after commands dids after
    (stay lists setting state one did partition stands (All-head (λ one. InRange setting one) one commands in_range)
    steps.0)
    (All-tail (λ one. InRange setting one) one commands in_range) steps.2
stands_to stay lists setting partition state [] (did ∷ dids) after stands in_range steps = absurd steps
stands_to stay lists setting partition state (one ∷ commands) [] after stands in_range steps = absurd steps

module _ (law : EventLaw) (opens : OpeningIsLawful) (lends : LoadsLend) (opening : OpeningStands) (stay : StepsStand)
    (lists : Bool) (setting : Setting) (partition : IsPartition setting.machine.stated) where
  backed_to : (state : State) (commands : List Command) (dids : List Did) (after : State) → Standing setting state →
      IsBacked setting state → All (λ one. InRange setting one) commands →
      StepsTo lists setting state commands dids after → IsBacked setting after
  backed_to state [] [] after stands backed in_range steps = subst (IsBacked setting) (sym steps) backed
  backed_to state (one ∷ commands) (did ∷ dids) after stands backed in_range steps =
      backed_to did.after commands dids after
      (stay lists setting state one did partition stands (All-head (λ one. InRange setting one) one commands in_range)
      steps.0)
      (λ g below. step_backed setting g below law opens lends lists state one did stands (backed g below) steps.0)
      (All-tail (λ one. InRange setting one) one commands in_range) steps.2
  backed_to state [] (did ∷ dids) after stands backed in_range steps = absurd steps
  backed_to state (one ∷ commands) [] after stands backed in_range steps = absurd steps

  pub state_is_backed : (commands : List Command) (dids : List Did) (state : State) →
      All (λ one. InRange setting one) commands →
      StepsTo lists setting (opening_state setting) commands dids state → IsBacked setting state
  state_is_backed commands dids state in_range steps =
      backed_to (opening_state setting) commands dids state (opening setting)
      (λ g below. at_least ((machine_of setting).bios g) None) in_range steps

pub states_are_backed : EventLaw → OpeningIsLawful → LoadsLend → OpeningStands → StepsStand → StatesAreBacked
states_are_backed law opens lends opening stay lists setting commands dids state partition in_range steps =
    state_is_backed law opens lends opening stay lists setting partition commands dids state in_range steps
