-- What holds of every command of a session, and so of each text.
use Rattle.std.proofs.Common.{◌≡◌, ◌⊎◌, ℕ, Bool, true, false, List, [], ◌∷◌, Option, Some, None, Result, Ok, Err, refl, sym, ap, ◌∙◌, subst, inl, inr}
use Rattle.std.specs.List.{All}
use Rattle.std.proofs.lemmas.List.Elements.{All-head, All-tail}
use Rattle.uc_topology.specs.Stated.{IsPartition}
use Rattle.read_model.specs.Reads.{Read}
use Rattle.tool_text.specs.rendezvous_steps.declared.ends.Beat.{Beat}
use Rattle.tool_text.specs.rendezvous_rule.Runs.{RunOf, RanGrows}
use Rattle.play_laws.specs.Runs.{RunsHold, MomentsAreLawful}
use Rattle.play_laws.specs.Outcomes.{EndedLaw}
use Rattle.tool_text.specs.rendezvous_steps.ItemText.{item_line}
use Rattle.tool_text.specs.machine_steps.declared.answers.HotAnswer.{HotAnswer}
use Rattle.tool_text.specs.machine_steps.declared.answers.HotAnswer.TheVariants as hot
use Rattle.tool_text.specs.machine_steps.Hardware.{Hardware}
use Rattle.tool_text.specs.machine_steps.Calls as calls
use Rattle.tool_text.specs.machine_steps.BringUps.{AllBrought, resume}
use Rattle.tool_text.specs.machine_steps.Puts.{Puts}
use Rattle.script_text.specs.declared.command.Command.{Command}
use Rattle.script_text.specs.declared.command.Command.TheVariants as command
use Rattle.tool_text.specs.session_text.declared.answers.CommandAnswer.{CommandAnswer}
use Rattle.tool_text.specs.session_text.declared.answers.CommandAnswer.TheVariants.{Done, Hot, Load}
use Rattle.tool_text.specs.session_text.declared.answers.LoadAnswer.TheVariants as load
use Rattle.tool_text.specs.session_steps.State.{Setting, State, machine_of, cached_patches, opening_state}
use Rattle.tool_text.specs.session_steps.Did.{Did, only, by_row, by_bring_ups}
use Rattle.tool_text.specs.session_steps.Step.{SessionStep, BootRow, LoadRow, Meets, booted, brought_at_boot, met, online, set_refusal}
use Rattle.tool_text.specs.session_steps.Session.{StepsFrom, Steps, ends_session, left_to_run}
use Rattle.session_laws.specs.Laws as session
use Rattle.session_laws.specs.Lent.{BootsLend, LoadsLend}
use Rattle.session_laws.specs.Standing.{Standing, InRange, OpeningStands, StepsStand}
use Rattle.command_laws.specs.Left.{LoadsLeave}
use Rattle.tool_text.specs.Headline.{BootHolds, LoadHolds, OffersHold, CommandHolds, SessionHolds}
use Rattle.tool_laws.proofs.Loads.{boot_holds, load_holds}

-- ---- commands in which no threads met

-- no threads met, and no offers and no items are shown
pub record IsQuiet (did : Did) : Type 0 where
  pub none_ran : did.ran ≡ None
  pub none_shown : did.shown ≡ []

pub as_other : (did other : Did) → did ≡ other → IsQuiet other → IsQuiet did
as_other did other same quiet = subst IsQuiet (sym same) quiet

only_quiet : (state : State) (did : Did) (reads : List Read) (answer : CommandAnswer) → did ≡ only state reads answer →
    IsQuiet did
only_quiet state did reads answer same =
    as_other did (only state reads answer) same (record { none_ran = refl; none_shown = refl })

pub row_quiet : (state : State) (row : Result Hardware HotAnswer) → IsQuiet (by_row state row)
row_quiet state (Ok new) = record { none_ran = refl; none_shown = refl }
row_quiet state (Err answer) = record { none_ran = refl; none_shown = refl }

pub rise_quiet : (state : State) (row : Result AllBrought HotAnswer) → IsQuiet (by_bring_ups state row)
rise_quiet state (Ok brought) = record { none_ran = refl; none_shown = refl }
rise_quiet state (Err answer) = record { none_ran = refl; none_shown = refl }

booted_quiet : (setting : Setting) (state : State) (reads : List Read) (puts : Puts) (offers : List (Option ℕ)) →
    IsQuiet (booted setting state reads puts offers (brought_at_boot setting state puts offers))
unfolding booted
booted_quiet setting state reads puts offers = record { none_ran = refl; none_shown = refl }

pub boot_quiet : (setting : Setting) (state : State) (names : List (List ℕ)) (did : Did) (answer : CommandAnswer) →
    BootRow setting state names did answer → IsQuiet did
boot_quiet setting state names did Done row =
    as_other did _ row.1.does (booted_quiet setting state did.reads row.1.puts row.1.offers)
boot_quiet setting state names did (Hot hot.Booted) row = only_quiet state did _ _ row.1
boot_quiet setting state names did (Hot (hot.NotUp t)) row = absurd row.1
boot_quiet setting state names did (Hot (hot.IsUp t)) row = absurd row.1
boot_quiet setting state names did (Hot hot.BootThread) row = absurd row.1
boot_quiet setting state names did (Hot hot.PoweredDown) row = absurd row.1
boot_quiet setting state names did (Hot hot.NotAsleep) row = absurd row.1
boot_quiet setting state names did (Load (load.ReadFault file)) row = only_quiet state did _ _ row.1.did_only
boot_quiet setting state names did (Load (load.BadFile file fault)) row = only_quiet state did _ _ row.1.did_only
boot_quiet setting state names did (Load (load.PoolFull needed)) row = only_quiet state did _ _ row.1.did_only
boot_quiet setting state names did (Load answer) row = absurd row.1

-- a load was refused before the threads met, or they met
pub quiet_or_met : (lists : Bool) (setting : Setting) (state : State) (force : Bool) (names : List (List ℕ)) (beats : List Beat)
    (did : Did) (answer : CommandAnswer) → LoadRow lists setting state force names beats did answer →
    IsQuiet did ⊎ Meets lists setting state force names beats did answer
quiet_or_met lists setting state force names beats did (Hot answer) row = absurd row.1
quiet_or_met lists setting state force names beats did (Load (load.Busy t)) row = inl (only_quiet state did _ _ row.1)
quiet_or_met lists setting state force names beats did (Load (load.ReadFault file)) row =
    inl (only_quiet state did _ _ row.1.did_only)
quiet_or_met lists setting state force names beats did (Load (load.BadFile file fault)) row =
    inl (only_quiet state did _ _ row.1.did_only)
quiet_or_met lists setting state force names beats did (Load load.NotFound) row =
    inl (only_quiet state did _ _ row.1.did_only)
quiet_or_met lists setting state force names beats did (Load (load.PoolFull needed)) row =
    inl (only_quiet state did _ _ row.1.did_only)
quiet_or_met lists setting state force names beats did answer row = inr row.1

pub none_some : {A : Type 0} (ran : Option RunOf) (run : RunOf) → ran ≡ None → ran ≡ Some run → A
none_some ran run none some = let wrong : None ≡ Some run = sym none ∙ some in absurd cc

-- ---- each command

-- the laws that stand below
pub record Laws : Type 0 where
  pub runs : RunsHold
  pub moments : MomentsAreLawful
  pub ended : EndedLaw
  pub grows : (lists : Bool) → RanGrows item_line lists
  pub falls : session.NeverFalls
  pub leave : LoadsLeave
  pub opening : OpeningStands
  pub stand : StepsStand
  pub boots_lend : BootsLend
  pub loads_lend : LoadsLend

module _ (laws : Laws) (lists : Bool) (setting : Setting) (is_partition : IsPartition setting.machine.stated) where
  boot_offers : (state : State) (names : List (List ℕ)) (did : Did) (answer : CommandAnswer) → Standing setting state →
      BootRow setting state names did answer → answer ≡ Done → BootHolds setting did
  boot_offers state names did answer stands row done =
      let boots = (subst (BootRow setting state names did) done row).1 in
      boot_holds setting state names did is_partition stands laws.boots_lend boots

  load_offers_hold : (state : State) (force : Bool) (names : List (List ℕ)) (beats : List Beat) (did : Did) →
      Standing setting state → SessionStep lists setting state (command.Load force names beats) did →
      IsQuiet did ⊎ Meets lists setting state force names beats did did.answer →
      (ran : RunOf) → did.ran ≡ Some ran → LoadHolds lists setting state force beats did ran
  load_offers_hold state force names beats did stands step (inl quiet) ran is = none_some did.ran ran quiet.none_ran is
  load_offers_hold state force names beats did stands step (inr meets) ran is =
      load_holds lists setting state force names beats did did.answer is_partition stands laws.loads_lend meets laws.runs laws.moments laws.ended
      (λ its is_its. laws.leave lists setting state (command.Load force names beats) did its step is_its) ran is

  offers_hold : (state : State) (one : Command) (did : Did) → Standing setting state →
      SessionStep lists setting state one did → OffersHold lists setting state one did
  offers_hold state (command.Load force names beats) did stands step =
      load_offers_hold state force names beats did stands step
      (quiet_or_met lists setting state force names beats did did.answer step)
  offers_hold state (command.Boot names) did stands step = (
    (boot_quiet setting state names did did.answer step).none_ran,
    boot_offers state names did did.answer stands step,
  )
  offers_hold state (command.Online t) did stands step =
      (as_other did _ step (rise_quiet state (online setting state t))).none_ran
  offers_hold state command.Resume did stands step =
      (as_other did _ step (rise_quiet state (resume (machine_of setting) (cached_patches state) state.hardware))).none_ran
  offers_hold state (command.Offline t) did stands step =
      (as_other did _ step (row_quiet state (calls.soft_offline state.hardware t))).none_ran
  offers_hold state command.Suspend did stands step =
      (as_other did _ step (row_quiet state (calls.suspend (machine_of setting) state.hardware))).none_ran
  offers_hold state (command.Refuse core) did stands step =
      (as_other did (set_refusal setting state core true) step (record { none_ran = refl; none_shown = refl })).none_ran
  offers_hold state (command.Accept core) did stands step =
      (as_other did (set_refusal setting state core false) step (record { none_ran = refl; none_shown = refl })).none_ran

  load_is_quiet : (state : State) (force : Bool) (names : List (List ℕ)) (beats : List Beat) (did : Did) →
      IsQuiet did ⊎ Meets lists setting state force names beats did did.answer → did.ran ≡ None → did.shown ≡ []
  unfolding met
  load_is_quiet state force names beats did (inl quiet) none = quiet.none_shown
  load_is_quiet state force names beats did (inr meets) none =
      none_some did.ran _ none (ap (λ (d : Did). d.ran) meets.does)

  quiet : (state : State) (one : Command) (did : Did) → SessionStep lists setting state one did → did.ran ≡ None →
      did.shown ≡ []
  quiet state (command.Load force names beats) did step none =
      load_is_quiet state force names beats did (quiet_or_met lists setting state force names beats did did.answer step) none
  quiet state (command.Boot names) did step none = (boot_quiet setting state names did did.answer step).none_shown
  quiet state (command.Online t) did step none =
      (as_other did _ step (rise_quiet state (online setting state t))).none_shown
  quiet state command.Resume did step none =
      (as_other did _ step (rise_quiet state (resume (machine_of setting) (cached_patches state) state.hardware))).none_shown
  quiet state (command.Offline t) did step none =
      (as_other did _ step (row_quiet state (calls.soft_offline state.hardware t))).none_shown
  quiet state command.Suspend did step none =
      (as_other did _ step (row_quiet state (calls.suspend (machine_of setting) state.hardware))).none_shown
  quiet state (command.Refuse core) did step none =
      (as_other did (set_refusal setting state core true) step (record { none_ran = refl; none_shown = refl })).none_shown
  quiet state (command.Accept core) did step none =
      (as_other did (set_refusal setting state core false) step (record { none_ran = refl; none_shown = refl })).none_shown

  command_holds : (state : State) (one : Command) (did : Did) → Standing setting state →
      SessionStep lists setting state one did → CommandHolds lists setting state one did
  command_holds state one did stands step = record {
    offers = offers_hold state one did stands step;
    quiet = quiet state one did step;
    rises = λ other g. laws.falls lists setting state one did g (laws.grows lists) other step;
  }

  -- ---- each session

  none_left : (state : State) (commands : List Command) → SessionHolds lists setting state commands []
  none_left state [] = tt
  none_left state (one ∷ commands) = tt

  -- after a command that ends the session there is no other
  later : (ends : Bool) (state : State) (commands : List Command) (dids : List Did) →
      StepsFrom lists setting state (left_to_run ends commands) dids →
      (StepsFrom lists setting state commands dids → SessionHolds lists setting state commands dids) →
      SessionHolds lists setting state commands dids
  later true state commands [] steps rest = none_left state commands
  later true state commands (did ∷ dids) steps rest = absurd steps
  later false state commands dids steps rest = rest steps

  all_hold : (dids : List Did) (state : State) (commands : List Command) → Standing setting state →
      All (λ one. InRange setting one) commands → StepsFrom lists setting state commands dids →
      SessionHolds lists setting state commands dids
  all_hold [] state commands stands within steps = none_left state commands
  all_hold (did ∷ dids) state [] stands within steps = absurd steps
  all_hold (did ∷ dids) state (one ∷ commands) stands within steps =
      let here : Standing setting did.after =
      laws.stand lists setting state one did is_partition stands (All-head (λ one. InRange setting one) one commands within)
      steps.0 in (
        command_holds state one did stands steps.0,
        later (ends_session did.answer) did.after commands dids steps.1
            (all_hold dids did.after commands here (All-tail (λ one. InRange setting one) one commands within)),
      )

  pub session_holds : (commands : List Command) (dids : List Did) → All (λ one. InRange setting one) commands →
      Steps lists setting commands dids → SessionHolds lists setting (opening_state setting) commands dids
  session_holds commands dids within steps =
      all_hold dids (opening_state setting) commands (laws.opening setting) within steps
