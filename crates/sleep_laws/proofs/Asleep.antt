-- A machine that sleeps, and what a resume brings back.
use Rattle.std.proofs.Common.{◌≡◌, ◌≢◌, ℕ, ◌<◌, ◌≤◌, Bool, true, false, not, ◌&&◌, List, [], ◌∷◌, get_or, Option, Some, None, refl, sym, ap, ◌∙◌, subst, inl, inr, arith}
use Rattle.std.specs.List.{All}
use Rattle.std.specs.Option.{unwrap_or, is_some}
use Rattle.std.proofs.lemmas.Bool.{true≢false, false≢true, cases_Bool, cases_lt}
use Rattle.std.proofs.lemmas.List.{get_or-map}
use Rattle.std.proofs.lemmas.List.Elements.{All-head, All-tail}
use Rattle.uc_topology.specs.Stated.{IsPartition, no_core, core_at, group_of, group_count}
use Rattle.rendezvous_steps.specs.declared.ends.Beat.{Beat}
use Rattle.play_laws.specs.Lawful.{EventLaw, OpeningIsLawful}
use Rattle.machine_steps.specs.declared.states.Power.TheVariants as power
use Rattle.machine_steps.specs.declared.states.ThreadState.{ThreadState}
use Rattle.machine_steps.specs.declared.states.ThreadState.TheVariants.{Cold, Up, Offline}
use Rattle.machine_steps.specs.declared.answers.HotAnswer.TheVariants as hot
use Rattle.machine_steps.specs.Hardware.{Hardware, is_on, is_up, with_power, suspended}
use Rattle.machine_steps.specs.Calls as calls
use Rattle.machine_steps.specs.BringUps.{CachedPatches, above, bring_up_each, remembered_threads}
use Rattle.script_text.specs.declared.command.Command.{Command}
use Rattle.script_text.specs.declared.command.Command.TheVariants as command
use Rattle.session_text.specs.declared.answers.CommandAnswer.{CommandAnswer}
use Rattle.session_text.specs.declared.answers.CommandAnswer.TheVariants.{Done, Hot, Load}
use Rattle.session_text.specs.declared.answers.LoadAnswer.TheVariants as load
use Rattle.session_steps.specs.State.{Setting, State, machine_of, cached_patches, opening_state}
use Rattle.session_steps.specs.Did.{Did, by_row, with_hardware}
use Rattle.session_steps.specs.Step.{BootRow, LoadRow, Meets, SessionStep}
use Rattle.session_steps.specs.Session.{is_done}
use Rattle.session_laws.specs.Standing.{Standing, InRange, OpeningStands, StepsStand}
use Rattle.session_laws.specs.Lent.{LoadsLend}
use Rattle.session_laws.proofs.Parts.{something_is_on}
use Rattle.cut_laws.specs.SoFar.{StepsTo}
use Rattle.sleep_laws.specs.PowerUp.{at_power_up, IsBacked}
use Rattle.sleep_laws.specs.Sleep.{asleep_since, SleepsSince, SuspendsSleep, SleepGoesOn, Resumes, refuses_patch, BroughtBack, ResumesBringBack}
use Rattle.sleep_laws.proofs.Coming.{IsIn, is_in, cold_where, stay, refusing_stays, comes, comes_up}
use Rattle.sleep_laws.proofs.Backed.{stands_to, state_is_backed}

-- ---- a suspend

module _ (setting : Setting) (before : State) where
  by_test : (test : Bool) (did : Did) →
      did ≡ by_row before
      (calls.refuse_where test hot.PoweredDown (calls.unless [] (suspended (machine_of setting) before.hardware))) →
      did.answer ≡ Done → SleepsSince setting before did.after
  by_test true did is done =
      absurd (false≢true (ap is_done (sym (ap (λ (d : Did). d.answer) is) ∙ done)))
  by_test false did is done = subst (λ (d : Did). SleepsSince setting before d.after) (sym is) refl

  -- ---- a command while it sleeps

  module _ (refuses : ℕ → Bool) where
    abbrev sleeps : State
    sleeps = asleep_since setting before refuses

    as_it_slept : (did : Did) → did.after ≡ sleeps → SleepsSince setting before did.after
    as_it_slept did same = subst (SleepsSince setting before) (sym same) refl

    boot_asleep : (names : List (List ℕ)) (did : Did) (answer : CommandAnswer) →
        BootRow setting sleeps names did answer → SleepsSince setting before did.after
    boot_asleep names did (Hot hot.Booted) row = as_it_slept did (ap (λ (d : Did). d.after) row.1)
    boot_asleep names did (Hot (hot.NotUp t)) row = absurd row.1
    boot_asleep names did (Hot (hot.IsUp t)) row = absurd row.1
    boot_asleep names did (Hot hot.BootThread) row = absurd row.1
    boot_asleep names did (Hot hot.PoweredDown) row = absurd row.1
    boot_asleep names did (Hot hot.NotAsleep) row = absurd row.1
    boot_asleep names did Done row = absurd (false≢true row.0)
    boot_asleep names did (Load answer) row = absurd (false≢true row.0)

    -- nobody takes part in a load
    meets_asleep : (lists force : Bool) (names : List (List ℕ)) (beats : List Beat) (did : Did)
        (answer : CommandAnswer) → Standing setting sleeps → Meets lists setting sleeps force names beats did answer → ⊥
    meets_asleep lists force names beats did answer stands meets =
        false≢true (something_is_on setting sleeps force meets.entries meets.offers stands meets.are_offers
        meets.something)

    load_asleep : (lists force : Bool) (names : List (List ℕ)) (beats : List Beat) (did : Did)
        (answer : CommandAnswer) → Standing setting sleeps →
        LoadRow lists setting sleeps force names beats did answer → SleepsSince setting before did.after
    load_asleep lists force names beats did (Hot answer) stands row = absurd row.1
    load_asleep lists force names beats did (Load (load.Busy t)) stands row =
        as_it_slept did (ap (λ (d : Did). d.after) row.1)
    load_asleep lists force names beats did (Load (load.ReadFault file)) stands row =
        as_it_slept did (ap (λ (d : Did). d.after) row.1.did_only)
    load_asleep lists force names beats did (Load (load.BadFile file fault)) stands row =
        as_it_slept did (ap (λ (d : Did). d.after) row.1.did_only)
    load_asleep lists force names beats did (Load load.NotFound) stands row =
        as_it_slept did (ap (λ (d : Did). d.after) row.1.did_only)
    load_asleep lists force names beats did (Load (load.PoolFull needed)) stands row =
        as_it_slept did (ap (λ (d : Did). d.after) row.1.did_only)
    load_asleep lists force names beats did answer stands row =
        absurd (meets_asleep lists force names beats did answer stands row.1)

    step_asleep : (lists : Bool) (one : Command) (did : Did) → Standing setting sleeps → one ≢ command.Resume →
        SessionStep lists setting sleeps one did → SleepsSince setting before did.after
    step_asleep lists (command.Boot names) did stands far step = boot_asleep names did did.answer step
    step_asleep lists (command.Load force names beats) did stands far step =
        load_asleep lists force names beats did did.answer stands step
    step_asleep lists (command.Online t) did stands far step = as_it_slept did (ap (λ (d : Did). d.after) step)
    step_asleep lists (command.Offline t) did stands far step = as_it_slept did (ap (λ (d : Did). d.after) step)
    step_asleep lists command.Suspend did stands far step = as_it_slept did (ap (λ (d : Did). d.after) step)
    step_asleep lists command.Resume did stands far step = absurd (far refl)
    step_asleep lists (command.Refuse core) did stands far step =
        subst (λ (d : Did). SleepsSince setting before d.after) (sym step) refl
    step_asleep lists (command.Accept core) did stands far step =
        subst (λ (d : Did). SleepsSince setting before d.after) (sym step) refl

pub suspends_sleep : SuspendsSleep
suspends_sleep lists setting before did step done =
    by_test setting before (not (is_on before.hardware.power)) did step done

pub sleep_goes_on : SleepGoesOn
sleep_goes_on lists setting before now one did stands sleeps far step =
    step_asleep setting before now.hardware.refuses lists one did (subst (Standing setting) sleeps stands) far
    (subst (λ (s : State). SessionStep lists setting s one did) sleeps step)

-- the state after some commands, none of them a resume
pub record Slept (setting : Setting) (before asleep : State) : Type 0 where
  pub stands : Standing setting asleep
  pub sleeps : SleepsSince setting before asleep

slept_to : StepsStand → (lists : Bool) (setting : Setting) → IsPartition setting.machine.stated →
    (before state : State) (commands : List Command) (dids : List Did) (after : State) → Slept setting before state →
    All (λ one. InRange setting one) commands → All (λ one. one ≢ command.Resume) commands →
    StepsTo lists setting state commands dids after → Slept setting before after
slept_to stay lists setting partition before state [] [] after slept in_range none steps =
    subst (Slept setting before) (sym steps) slept
slept_to stay lists setting partition before state (one ∷ commands) (did ∷ dids) after slept in_range none steps =
    slept_to stay lists setting partition before did.after commands dids after
    record {
      stands =
          stay lists setting state one did partition slept.stands
          (All-head (λ one. InRange setting one) one commands in_range) steps.0;
      sleeps =
          sleep_goes_on lists setting before state one did slept.stands slept.sleeps
          (All-head (λ one. one ≢ command.Resume) one commands none) steps.0;
    }
    (All-tail (λ one. InRange setting one) one commands in_range)
    (All-tail (λ one. one ≢ command.Resume) one commands none) steps.2
slept_to stay lists setting partition before state [] (did ∷ dids) after slept in_range none steps = absurd steps
slept_to stay lists setting partition before state (one ∷ commands) [] after slept in_range none steps = absurd steps

-- ---- a resume

pub up_is : (state : ThreadState) → is_up state ≡ true → state ≡ Up
up_is Up is = refl
up_is Cold is = absurd (false≢true is)
up_is Offline is = absurd (false≢true is)

cold_is_not_up : (state : ThreadState) → state ≡ Cold → state ≡ Up → ⊥
cold_is_not_up state cold up = false≢true (ap is_up (sym cold ∙ up))

none_of : (patch : Option ℕ) → is_some patch ≡ false → patch ≡ None
none_of None is = refl
none_of (Some patch) is = absurd (true≢false is)

-- the group of a thread is one of the machine's
group_below : (setting : Setting) → IsPartition setting.machine.stated → (t : ℕ) → t < (machine_of setting).threads →
    (machine_of setting).group t < (machine_of setting).groups
group_below setting partition t below =
    let core : ℕ = get_or setting.machine.stated.threads t 0 in
    let at : (machine_of setting).group t ≡ group_of (core_at setting.machine.stated.cores core) =
    get_or-map (λ core. group_of (core_at setting.machine.stated.cores core)) setting.machine.stated.threads t 0 0
    below in
    subst (λ (g : ℕ). g < group_count setting.machine.stated.cores) (sym at)
    (partition.groups.in_groups core no_core (partition.groups.on_cores t 0 below))

module _ (setting : Setting) (before : State) (refuses : ℕ → Bool) where
  abbrev pub asleep : State
  asleep = asleep_since setting before refuses

  -- the machine that wakes, and the threads that come up
  abbrev pub woken : Hardware
  woken = with_power asleep.hardware power.On

  abbrev pub their : List ℕ
  their = remembered_threads (machine_of setting) asleep.hardware

  abbrev pub patches : CachedPatches
  patches = cached_patches asleep

  abbrev pub resumed : Hardware
  resumed = (bring_up_each (machine_of setting) patches woken their).after

  module _ (t : ℕ) (below : t < (machine_of setting).threads) (up : before.hardware.thread t ≡ Up) where
    abbrev g : ℕ
    g = (machine_of setting).group t

    abbrev bios : ℕ
    bios = (machine_of setting).bios g

    is_theirs : IsIn t their
    is_theirs =
        is_in (λ u. is_up (before.hardware.thread u)) 0 (machine_of setting).threads t (omega arith)
        (omega (arith, below)) (ap is_up up)

    came_to : refuses_patch setting asleep g ≡ false → resumed.rev g ≡ at_power_up setting before g
    came_to none = elim (cases_Bool (refuses g)) [
      | inl refusing ↦
          let nothing : above bios (cached_patches before g) ≡ None =
          none_of (above bios (cached_patches before g))
          (sym (ap (λ (b : Bool). b && is_some (above bios (cached_patches before g))) refusing) ∙ none) in
          stay (machine_of setting) patches woken g their nothing
          ∙ sym (ap (λ (new : Option ℕ). unwrap_or new bios) nothing)
      | inr willing ↦
          comes (machine_of setting) patches woken t bios their is_theirs willing
          (cold_where (machine_of setting) woken g (λ u. refl)) refl
    ]

    stayed : refuses_patch setting asleep g ≡ true → resumed.rev g ≡ bios
    stayed some = elim (cases_Bool (refuses g)) [
      | inl refusing ↦ refusing_stays (machine_of setting) patches woken g their refusing
      | inr willing ↦
          absurd (false≢true (sym (ap (λ (b : Bool). b && is_some (above bios (cached_patches before g))) willing) ∙ some))
    ]

    back : IsPartition setting.machine.stated → IsBacked setting before →
        BroughtBack setting before asleep (with_hardware asleep resumed) t
    back partition backed = record {
      is_up = comes_up (machine_of setting) patches woken t their is_theirs;
      came_to = came_to;
      stayed = stayed;
      no_lower =
          λ none. subst (λ (rev : ℕ). before.hardware.rev g ≤ rev) (sym (came_to none))
          (backed g (group_below setting partition t below));
    }

  module _ (lists : Bool) (did : Did) (step : SessionStep lists setting asleep command.Resume did) where
    pub resumed_is : did.after ≡ with_hardware asleep resumed
    resumed_is = ap (λ (d : Did). d.after) step

    resumed_done : did.answer ≡ Done
    resumed_done = ap (λ (d : Did). d.answer) step

    brought_back : IsPartition setting.machine.stated → Standing setting before → IsBacked setting before → (t : ℕ) →
        before.hardware.thread t ≡ Up → BroughtBack setting before asleep did.after t
    brought_back partition stands backed t up = elim (cases_lt t (machine_of setting).threads) [
      | inl below ↦
          subst (λ (after : State). BroughtBack setting before asleep after t) (sym resumed_is)
          (back t below up partition backed)
      | inr past ↦ absurd (cold_is_not_up (before.hardware.thread t) (stands.threads.past t past) up)
    ]

module _ (law : EventLaw) (opens : OpeningIsLawful) (lends : LoadsLend) (opening : OpeningStands) (stay : StepsStand)
    (lists : Bool) (setting : Setting) (before asleep : State) (did : Did)
    (partition : IsPartition setting.machine.stated) (resumes : Resumes lists setting before asleep did) where
  pub before_stands : Standing setting before
  before_stands =
      stands_to stay lists setting partition (opening_state setting) resumes.earlier resumes.earlier_dids before
      (opening setting) resumes.earlier_in_range resumes.came

  pub slept : Slept setting before asleep
  slept =
      slept_to stay lists setting partition before resumes.suspending.after resumes.between resumes.between_dids asleep
      record {
        stands =
            stay lists setting before command.Suspend resumes.suspending partition before_stands tt resumes.suspend;
        sleeps = suspends_sleep lists setting before resumes.suspending resumes.suspend resumes.is_done;
      }
      resumes.between_in_range resumes.none_resumes resumes.slept

  -- the resume, by the state that it was done in
  pub resume_of : SessionStep lists setting (asleep_since setting before asleep.hardware.refuses) command.Resume did
  resume_of = subst (λ (s : State). SessionStep lists setting s command.Resume did) slept.sleeps resumes.resume

  brings_back : (did.answer ≡ Done)
      × ((t : ℕ) → before.hardware.thread t ≡ Up → BroughtBack setting before asleep did.after t)
  brings_back =
      let refuses : ℕ → Bool = asleep.hardware.refuses in
      let backed : IsBacked setting before =
      state_is_backed law opens lends opening stay lists setting partition resumes.earlier resumes.earlier_dids before
      resumes.earlier_in_range resumes.came in (
        resumed_done setting before refuses lists did resume_of,
        λ t up. subst (λ (s : State). BroughtBack setting before s did.after t) (sym slept.sleeps)
            (brought_back setting before refuses lists did resume_of partition before_stands backed t up),
      )

pub resumes_bring_back : EventLaw → OpeningIsLawful → LoadsLend → OpeningStands → StepsStand → ResumesBringBack
resumes_bring_back law opens lends opening stay lists setting before asleep did partition resumes =
    brings_back law opens lends opening stay lists setting before asleep did partition resumes
