-- The groups none of whose threads was up at a suspend.
use Rattle.std.proofs.Common.{◌≡◌, ◌≢◌, ℕ, ◌<◌, Bool, true, false, not, ◌==◌, List, [], ◌∷◌, refl, sym, ap, ◌∙◌, subst, inl, inr, arith}
use Rattle.std.specs.List.{All}
use Rattle.std.proofs.lemmas.Bool.{true≢false, false≢true, cases_Bool, cases_eq, not-false}
use Rattle.std.proofs.lemmas.List.Elements.{All-head, All-tail}
use Rattle.uc_topology.specs.Stated.{IsPartition}
use Rattle.read_model.specs.Reads.{Read}
use Rattle.rendezvous_steps.specs.declared.ends.Beat.{Beat}
use Rattle.play_laws.specs.Lawful.{EventLaw, OpeningIsLawful}
use Rattle.machine_steps.specs.declared.states.Power.{Power}
use Rattle.machine_steps.specs.declared.states.Power.TheVariants as power
use Rattle.machine_steps.specs.declared.states.ThreadState.{ThreadState}
use Rattle.machine_steps.specs.declared.states.ThreadState.TheVariants.{Cold, Up, Offline}
use Rattle.machine_steps.specs.declared.answers.HotAnswer.TheVariants as hot
use Rattle.machine_steps.specs.Hardware.{Hardware, is_off, is_on, is_asleep, is_cold, is_up, all_cold, with_power, with_thread, with_refusal, suspended}
use Rattle.machine_steps.specs.Calls as calls
use Rattle.machine_steps.specs.BringUps.{bring_up_each, remembered_threads, resume_from}
use Rattle.script_text.specs.declared.command.Command.{Command}
use Rattle.script_text.specs.declared.command.Command.TheVariants as command
use Rattle.session_text.specs.declared.answers.CommandAnswer.{CommandAnswer}
use Rattle.session_text.specs.declared.answers.CommandAnswer.TheVariants.{Done, Hot, Load}
use Rattle.session_text.specs.declared.answers.LoadAnswer.TheVariants as load
use Rattle.session_steps.specs.State.{Setting, State, machine_of, cached_patches, takes_part}
use Rattle.session_steps.specs.Offers.{group_of_core}
use Rattle.session_steps.specs.Did.{Did, only, by_row, by_bring_ups, with_hardware}
use Rattle.session_steps.specs.Step.{BootRow, LoadRow, Meets, SessionStep, online_from, set_refusal}
use Rattle.session_steps.specs.Session.{is_done}
use Rattle.session_laws.specs.Standing.{Standing, InRange, OpeningStands, StepsStand}
use Rattle.session_laws.specs.Lent.{LoadsLend}
use Rattle.session_laws.proofs.Parts.{warm_takes_part}
use Rattle.cut_laws.specs.SoFar.{StepsTo}
use Rattle.sleep_laws.specs.PowerUp.{at_power_up}
use Rattle.sleep_laws.specs.Cold.{NoneUp, IsCold, Warms, NoneWarms, ColdGroupsCatchUp}
use Rattle.sleep_laws.proofs.Coming.{come_to, AreOthers, are_others, cold_where, cold_by, cold_far, comes, refusing_stays, others_leave, power_stays}
use Rattle.sleep_laws.proofs.Loaded.{IsAsBefore, SameButRevisions, load_leaves, machine_stays, no_offer}
use Rattle.sleep_laws.proofs.Asleep.{up_is, asleep, woken, their, patches, resumed, resumed_is, slept, resume_of}

-- power that is on is neither off nor asleep
on_is_not_asleep : (power : Power) → is_on power ≡ true → is_asleep power ≡ false
on_is_not_asleep power.Off on = refl
on_is_not_asleep power.On on = refl
on_is_not_asleep power.Asleep on = absurd (false≢true on)

on_is_not_off : (power : Power) → is_on power ≡ true → is_off power ≡ false
on_is_not_off power.Off on = absurd (false≢true on)
on_is_not_off power.On on = refl
on_is_not_off power.Asleep on = absurd (false≢true on)

cold_is_down : (state : ThreadState) → is_cold state ≡ true → is_up state ≡ false
cold_is_down Cold is = refl
cold_is_down Up is = absurd (false≢true is)
cold_is_down Offline is = refl

module _ (setting : Setting) (before : State) (g : ℕ) (in_groups : g < (machine_of setting).groups) where
  -- The group is cold in a machine that was booted, and no resume brings up one of its threads.
  record Lies (now : State) : Type 0 where
    group : IsCold setting before now g
    not_off : is_off now.hardware.power ≡ false
    forgotten :
        is_asleep now.hardware.power ≡ true → (t : ℕ) → t < (machine_of setting).threads →
        (machine_of setting).group t ≡ g → now.hardware.remembered t ≡ false

  as_other : (did other : Did) → did ≡ other → Lies other.after → Lies did.after
  as_other did other same lies = subst (λ (d : Did). Lies d.after) (sym same) lies

  module _ (now : State) (lies : Lies now) where
    thread_is_cold : (t : ℕ) → t < (machine_of setting).threads → (machine_of setting).group t ≡ g →
        is_cold (now.hardware.thread t) ≡ true
    thread_is_cold t below own = elim (cases_Bool (is_cold (now.hardware.thread t))) [
      | inl cold ↦ cold
      | inr warm ↦
          let part : takes_part setting now g ≡ true =
          subst (λ (h : ℕ). takes_part setting now h ≡ true) own (warm_takes_part setting now t below warm) in
          absurd (false≢true (sym (ap not lies.group.cold) ∙ part))
    ]

    thread_is_down : (t : ℕ) → t < (machine_of setting).threads → (machine_of setting).group t ≡ g →
        is_up (now.hardware.thread t) ≡ false
    thread_is_down t below own = cold_is_down (now.hardware.thread t) (thread_is_cold t below own)

    only_lies : (did : Did) (reads : List Read) (answer : CommandAnswer) → did ≡ only now reads answer → Lies did.after
    only_lies did reads answer same = as_other did (only now reads answer) same lies

    -- threads of other groups come up, in a machine that is on
    others_rise : (on : Hardware) (ts : List ℕ) → is_on on.power ≡ true → on.thread ≡ now.hardware.thread →
        on.rev ≡ now.hardware.rev → AreOthers (machine_of setting) g ts →
        Lies (with_hardware now (bring_up_each (machine_of setting) (cached_patches now) on ts).after)
    others_rise on ts is_on_now same_threads same_revs are =
        let left = others_leave (machine_of setting) (cached_patches now) on g ts are in
        let same : (bring_up_each (machine_of setting) (cached_patches now) on ts).after.power ≡ on.power =
        power_stays (machine_of setting) (cached_patches now) on ts in
        record {
          group = record {
            cold = left.1 ∙ cold_by (machine_of setting) now.hardware on g same_threads ∙ lies.group.cold;
            rev = left.0 ∙ ap (λ (rev : ℕ → ℕ). rev g) same_revs ∙ lies.group.rev;
            caches = lies.group.caches;
          };
          not_off = ap is_off same ∙ on_is_not_off on.power is_on_now;
          forgotten =
              λ sleeps. absurd (true≢false (sym sleeps ∙ ap is_asleep same ∙ on_is_not_asleep on.power is_on_now));
        }

    -- ---- online

    abbrev may_rise : Bool → Bool → ℕ → calls.Row
    may_rise off up t = calls.refuse_where off hot.PoweredDown (calls.unless ((up, hot.IsUp t) ∷ []) now.hardware)

    online_lies : (t : ℕ) (did : Did) (off up : Bool) → not (is_on now.hardware.power) ≡ off →
        did ≡ by_bring_ups now (online_from setting now t (may_rise off up t)) →
        (Warms setting g (command.Online t) did → ⊥) → Lies did.after
    online_lies t did true up was is cold = only_lies did [] (Hot hot.PoweredDown) is
    online_lies t did false true was is cold = only_lies did [] (Hot (hot.IsUp t)) is
    online_lies t did false false was is cold = elim (cases_eq ((machine_of setting).group t) g) [
      | inl own ↦ absurd (cold (own, ap (λ (d : Did). d.answer) is))
      | inr far ↦
          subst Lies (sym (ap (λ (d : Did). d.after) is))
          (others_rise now.hardware (t ∷ []) (not-false (is_on now.hardware.power) was) refl refl (far, tt))
    ]

    -- ---- offline

    abbrev goes_down : Bool → Bool → Bool → ℕ → calls.Row
    goes_down off first down t =
        calls.refuse_where off hot.PoweredDown
        (calls.refuse_where first hot.BootThread
        (calls.unless ((down, hot.NotUp t) ∷ []) (with_thread now.hardware t Offline)))

    offline_lies : (t : ℕ) → t < (machine_of setting).threads → (did : Did) (off first down : Bool) →
        not (is_up (now.hardware.thread t)) ≡ down → did ≡ by_row now (goes_down off first down t) → Lies did.after
    offline_lies t below did true first down was is = only_lies did [] (Hot hot.PoweredDown) is
    offline_lies t below did false true down was is = only_lies did [] (Hot hot.BootThread) is
    offline_lies t below did false false true was is = only_lies did [] (Hot (hot.NotUp t)) is
    offline_lies t below did false false false was is = elim (cases_eq ((machine_of setting).group t) g) [
      | inl own ↦
          absurd (true≢false (sym (not-false (is_up (now.hardware.thread t)) was) ∙ thread_is_down t below own))
      | inr far ↦
          subst Lies (sym (ap (λ (d : Did). d.after) is))
          record {
            group = record {
              cold = cold_far (machine_of setting) now.hardware t Offline g far ∙ lies.group.cold;
              rev = lies.group.rev;
              caches = lies.group.caches;
            };
            not_off = lies.not_off;
            forgotten = lies.forgotten;
          }
    ]

    -- ---- suspend and resume

    suspend_lies : (did : Did) (off : Bool) →
        did ≡ by_row now
        (calls.refuse_where off hot.PoweredDown (calls.unless [] (suspended (machine_of setting) now.hardware))) →
        Lies did.after
    suspend_lies did true is = only_lies did [] (Hot hot.PoweredDown) is
    suspend_lies did false is =
        subst Lies (sym (ap (λ (d : Did). d.after) is))
        record {
          group = record {
            cold = cold_where (machine_of setting) (suspended (machine_of setting) now.hardware) g (λ t. refl);
            rev = refl;
            caches = lies.group.caches;
          };
          not_off = refl;
          forgotten = λ sleeps t below own. thread_is_down t below own;
        }

    their_others : is_asleep now.hardware.power ≡ true →
        AreOthers (machine_of setting) g (remembered_threads (machine_of setting) now.hardware)
    their_others sleeps =
        are_others (machine_of setting) now.hardware.remembered g 0 (machine_of setting).threads
        (λ t below up own. true≢false (sym up ∙ lies.forgotten sleeps t (omega (arith, below)) own))

    resume_lies : (did : Did) (awake : Bool) → not (is_asleep now.hardware.power) ≡ awake →
        did ≡ by_bring_ups now
        (resume_from (machine_of setting) (cached_patches now) now.hardware
        (calls.refuse_where awake hot.NotAsleep (calls.unless [] (with_power now.hardware power.On)))) →
        Lies did.after
    resume_lies did true was is = only_lies did [] (Hot hot.NotAsleep) is
    resume_lies did false was is =
        subst Lies (sym (ap (λ (d : Did). d.after) is))
        (others_rise (with_power now.hardware power.On) (remembered_threads (machine_of setting) now.hardware) refl refl
        refl (their_others (not-false (is_asleep now.hardware.power) was)))

    refusal_lies : (core : ℕ) (refuses : Bool) (did : Did) → did ≡ set_refusal setting now core refuses → Lies did.after
    refusal_lies core refuses did is =
        subst Lies (sym (ap (λ (d : Did). d.after) is))
        record {
          group = record {
            cold =
                cold_by (machine_of setting) now.hardware
                (with_refusal now.hardware (group_of_core setting core) refuses) g refl
                ∙ lies.group.cold;
            rev = lies.group.rev;
            caches = lies.group.caches;
          };
          not_off = lies.not_off;
          forgotten = lies.forgotten;
        }

    -- ---- boot and load

    boot_lies : (names : List (List ℕ)) (did : Did) (answer : CommandAnswer) → BootRow setting now names did answer →
        Lies did.after
    boot_lies names did (Hot hot.Booted) row = only_lies did _ _ row.1
    boot_lies names did (Hot (hot.NotUp t)) row = absurd row.1
    boot_lies names did (Hot (hot.IsUp t)) row = absurd row.1
    boot_lies names did (Hot hot.BootThread) row = absurd row.1
    boot_lies names did (Hot hot.PoweredDown) row = absurd row.1
    boot_lies names did (Hot hot.NotAsleep) row = absurd row.1
    boot_lies names did Done row = absurd (false≢true (sym lies.not_off ∙ row.0))
    boot_lies names did (Load answer) row = absurd (false≢true (sym lies.not_off ∙ row.0))

    as_before : (after : State) → SameButRevisions now.hardware after.hardware → IsAsBefore now after g → Lies after
    as_before after same left = record {
      group = record {
        cold = cold_by (machine_of setting) now.hardware after.hardware g same.thread ∙ lies.group.cold;
        rev = left.runs ∙ lies.group.rev;
        caches = left.caches ∙ lies.group.caches;
      };
      not_off = ap is_off same.power ∙ lies.not_off;
      forgotten =
          λ sleeps t below own. ap (λ (remembered : ℕ → Bool). remembered t) same.remembered
          ∙ lies.forgotten (ap is_asleep (sym same.power) ∙ sleeps) t below own;
    }

    module _ (law : EventLaw) (opens : OpeningIsLawful) (lends : LoadsLend) (lists force : Bool)
        (names : List (List ℕ)) (beats : List Beat) (did : Did) (stands : Standing setting now) where
      -- the group takes no part
      meets_lies : (answer : CommandAnswer) → Meets lists setting now force names beats did answer → Lies did.after
      meets_lies answer meets =
          elim (load_leaves law opens lends lists setting now force names beats did answer stands meets g in_groups) [
            | inl new ↦
                absurd (no_offer law opens lends lists setting now force names beats did answer stands meets g
                (did.after.hardware.rev g) in_groups (ap not lies.group.cold) new.runs)
            | inr old ↦
                as_before did.after
                (machine_stays law opens lends lists setting now force names beats did answer stands meets) old
          ]

      load_lies : (answer : CommandAnswer) → LoadRow lists setting now force names beats did answer → Lies did.after
      load_lies (Hot answer) row = absurd row.1
      load_lies (Load (load.Busy t)) row = only_lies did _ _ row.1
      load_lies (Load (load.ReadFault file)) row = only_lies did _ _ row.1.did_only
      load_lies (Load (load.BadFile file fault)) row = only_lies did _ _ row.1.did_only
      load_lies (Load load.NotFound) row = only_lies did _ _ row.1.did_only
      load_lies (Load (load.PoolFull needed)) row = only_lies did _ _ row.1.did_only
      load_lies answer row = meets_lies answer row.1

  -- ---- any command

  step_lies : EventLaw → OpeningIsLawful → LoadsLend → (lists : Bool) (now : State) (one : Command) (did : Did) →
      Standing setting now → InRange setting one → Lies now → SessionStep lists setting now one did →
      (Warms setting g one did → ⊥) → Lies did.after
  step_lies law opens lends lists now (command.Boot names) did stands in_range lies step cold =
      boot_lies now lies names did did.answer step
  step_lies law opens lends lists now (command.Load force names beats) did stands in_range lies step cold =
      load_lies now lies law opens lends lists force names beats did stands did.answer step
  step_lies law opens lends lists now (command.Online t) did stands in_range lies step cold =
      online_lies now lies t did (not (is_on now.hardware.power)) (is_up (now.hardware.thread t)) refl step cold
  step_lies law opens lends lists now (command.Offline t) did stands in_range lies step cold =
      offline_lies now lies t in_range did (not (is_on now.hardware.power)) (t == 0)
      (not (is_up (now.hardware.thread t))) refl step
  step_lies law opens lends lists now command.Suspend did stands in_range lies step cold =
      suspend_lies now lies did (not (is_on now.hardware.power)) step
  step_lies law opens lends lists now command.Resume did stands in_range lies step cold =
      resume_lies now lies did (not (is_asleep now.hardware.power)) refl step
  step_lies law opens lends lists now (command.Refuse core) did stands in_range lies step cold =
      refusal_lies now lies core true did step
  step_lies law opens lends lists now (command.Accept core) did stands in_range lies step cold =
      refusal_lies now lies core false did step

  lies_to : EventLaw → OpeningIsLawful → LoadsLend → StepsStand → IsPartition setting.machine.stated → (lists : Bool)
      (state : State) (commands : List Command) (dids : List Did) (after : State) → Standing setting state →
      Lies state → All (λ one. InRange setting one) commands → StepsTo lists setting state commands dids after →
      NoneWarms setting g commands dids → Lies after
  lies_to law opens lends stay partition lists state [] [] after stands lies in_range steps none =
      subst Lies (sym steps) lies
  lies_to law opens lends stay partition lists state (one ∷ commands) (did ∷ dids) after stands lies in_range steps
      none =
      let here : InRange setting one = All-head (λ one. InRange setting one) one commands in_range in
      lies_to law opens lends stay partition lists did.after commands dids after
      (stay lists setting state one did partition stands here steps.0)
      (step_lies law opens lends lists state one did stands here lies steps.0 none.0)
      (All-tail (λ one. InRange setting one) one commands in_range) steps.2 none.1
  lies_to law opens lends stay partition lists state [] (did ∷ dids) after stands lies in_range steps none =
      absurd steps
  lies_to law opens lends stay partition lists state (one ∷ commands) [] after stands lies in_range steps none =
      absurd steps

  -- ---- the first of its threads that is brought online

  warmed_by : (now : State) → Lies now → (t : ℕ) (did : Did) (off up : Bool) →
      did ≡ by_bring_ups now (online_from setting now t
      (calls.refuse_where off hot.PoweredDown (calls.unless ((up, hot.IsUp t) ∷ []) now.hardware))) →
      did.answer ≡ Done → (machine_of setting).group t ≡ g → now.hardware.refuses g ≡ false →
      did.after.hardware.rev g ≡ at_power_up setting before g
  warmed_by now lies t did true up is done own willing =
      absurd (false≢true (ap is_done (sym (ap (λ (d : Did). d.answer) is) ∙ done)))
  warmed_by now lies t did false true is done own willing =
      absurd (false≢true (ap is_done (sym (ap (λ (d : Did). d.answer) is) ∙ done)))
  warmed_by now lies t did false false is done own willing =
      let comes_to : (bring_up_each (machine_of setting) (cached_patches now) now.hardware (t ∷ [])).after.rev g
      ≡ come_to ((machine_of setting).bios g) (cached_patches now g) =
      subst (λ (h : ℕ). now.hardware.refuses h ≡ false → all_cold (machine_of setting) now.hardware h ≡ true →
      now.hardware.rev h ≡ (machine_of setting).bios g →
      (bring_up_each (machine_of setting) (cached_patches now) now.hardware (t ∷ [])).after.rev h
      ≡ come_to ((machine_of setting).bios g) (cached_patches now h)) own
      (comes (machine_of setting) (cached_patches now) now.hardware t ((machine_of setting).bios g) (t ∷ []) (inl refl))
      willing lies.group.cold lies.group.rev in
      ap (λ (d : Did). d.after.hardware.rev g) is
      ∙ comes_to
      ∙ ap (come_to ((machine_of setting).bios g)) lies.group.caches

  warmed_stays : (now : State) → Lies now → (t : ℕ) (did : Did) (off up : Bool) →
      did ≡ by_bring_ups now (online_from setting now t
      (calls.refuse_where off hot.PoweredDown (calls.unless ((up, hot.IsUp t) ∷ []) now.hardware))) →
      did.answer ≡ Done → now.hardware.refuses g ≡ true → did.after.hardware.rev g ≡ (machine_of setting).bios g
  warmed_stays now lies t did true up is done refusing =
      absurd (false≢true (ap is_done (sym (ap (λ (d : Did). d.answer) is) ∙ done)))
  warmed_stays now lies t did false true is done refusing =
      absurd (false≢true (ap is_done (sym (ap (λ (d : Did). d.answer) is) ∙ done)))
  warmed_stays now lies t did false false is done refusing =
      ap (λ (d : Did). d.after.hardware.rev g) is
      ∙ refusing_stays (machine_of setting) (cached_patches now) now.hardware g (t ∷ []) refusing
      ∙ lies.group.rev

  -- ---- after a resume

  lies_resumed : (refuses : ℕ → Bool) → NoneUp setting before g →
      Lies (with_hardware (asleep setting before refuses) (resumed setting before refuses))
  lies_resumed refuses none =
      let on : Hardware = woken setting before refuses in
      let ts : List ℕ = their setting before refuses in
      let left =
      others_leave (machine_of setting) (patches setting before refuses) on g ts
      (are_others (machine_of setting) (λ t. is_up (before.hardware.thread t)) g 0 (machine_of setting).threads
      (λ t below up. none t (up_is (before.hardware.thread t) up))) in
      let same = power_stays (machine_of setting) (patches setting before refuses) on ts in
      record {
        group = record {
          cold = left.1 ∙ cold_where (machine_of setting) on g (λ t. refl);
          rev = left.0;
          caches = refl;
        };
        not_off = ap is_off same;
        forgotten = λ sleeps. absurd (true≢false (sym sleeps ∙ ap is_asleep same));
      }

pub cold_groups_catch_up : EventLaw → OpeningIsLawful → LoadsLend → OpeningStands → StepsStand → ColdGroupsCatchUp
cold_groups_catch_up law opens lends opening stay lists setting before was_asleep did g later later_dids now partition
    resumes in_groups none in_range steps none_warms =
    let refuses : ℕ → Bool = was_asleep.hardware.refuses in
    let resume = resume_of law opens lends opening stay lists setting before was_asleep did partition resumes in
    let sleeps = slept law opens lends opening stay lists setting before was_asleep did partition resumes in
    let stands : Standing setting did.after =
    stay lists setting was_asleep command.Resume did partition sleeps.stands tt resumes.resume in
    let at_first : Lies setting before g in_groups did.after =
    subst (Lies setting before g in_groups) (sym (resumed_is setting before refuses lists did resume))
    (lies_resumed setting before g in_groups refuses none) in
    let lies : Lies setting before g in_groups now =
    lies_to setting before g in_groups law opens lends stay partition lists did.after later later_dids now stands
    at_first in_range steps none_warms in (
      lies.group,
      λ t warmed step warms. record {
        came_to =
            λ willing. warmed_by setting before g in_groups now lies t warmed (not (is_on now.hardware.power))
            (is_up (now.hardware.thread t)) step warms.1 warms.0 willing;
        stayed =
            λ refusing. warmed_stays setting before g in_groups now lies t warmed (not (is_on now.hardware.power))
            (is_up (now.hardware.thread t)) step warms.1 refusing;
      },
    )
