-- A load that set out: its plan, what the rendezvous comes to, and what the call came to.
use Rattle.std.proofs.Common.{◌≡◌, ℕ, ◌+◌, ◌<◌, ◌≤◌, Bool, true, List, ◌++◌, length, nat_lt, Option, Result, Ok, Err, refl, sym, ap, ◌∙◌, subst, arith}
use Rattle.std.specs.List.{slice_index}
use Rattle.std.proofs.lemmas.Bool.Decides.{nat_tests}
use Rattle.uc_io.specs.Writing.{Writes}
use Rattle.patch_pool.specs.declared.pool.PatchId.{PatchId}
use Rattle.session_steps.specs.entry_model.Entry.{Entry}
use Rattle.session_steps.specs.read_model.Reads.{Read}
use Rattle.session_steps.specs.rendezvous_steps.declared.ends.Beat.{Beat}
use Rattle.session_steps.specs.rendezvous_steps.Plan.{Plan, Sound}
use Rattle.session_steps.specs.rendezvous_steps.Padded.{Padded}
use Rattle.rendezvous_model.specs.Verdict.{Verdict, LoadVerdict}
use Rattle.session_steps.specs.rendezvous_rule.Runs.{RunOf, RanGrows}
use Rattle.round_laws.specs.Laws.{VerdictHolds}
use Rattle.play_laws.specs.Lawful.{EventLaw, OpeningIsLawful}
use Rattle.session_steps.specs.rendezvous_steps.ItemText.{item_line}
use Rattle.session_steps.specs.machine_steps.Hardware.{Hardware, is_on}
use Rattle.session_steps.specs.machine_steps.Puts.{Puts}
use Rattle.session_steps.specs.script_text.declared.command.Command.TheVariants.{Load}
use Rattle.session_steps.specs.session_text.Lines.{answer_line}
use Rattle.session_steps.specs.session_text.declared.answers.Played.{Played}
use Rattle.session_steps.specs.State.{Setting, State, machine_of}
use Rattle.session_steps.specs.Offers.{AreLoadOffers, SomethingOffered, load_offers_text, plan_of as load_plan}
use Rattle.session_steps.specs.Did.{results_text, loaded}
use Rattle.session_steps.specs.Step.{AllPresent, ReadAll, answer_of}
use Rattle.session_steps.specs.Calls.{Outside, Situation}
use Rattle.session_laws.specs.Standing.{Standing}
use Rattle.session_laws.proofs.Parts.{something_is_on}
use Rattle.command_laws.proofs.Outcomes.{RanLeaves, ran_leaves}
use Rattle.session_parts.specs.Loads.{IsPut}
use Rattle.ctl_words.specs.declared.plans.Plan.{Plan as Tables}
use Rattle.ctl_words.specs.Plans.{plan_of, IsSound}
use Rattle.uc_rendezvous.specs.declared.outcomes.Outcome.{Outcome as OutcomeTables}
use Rattle.uc_rendezvous.specs.declared.runs.RunAnswer.{RunAnswer}
use Rattle.uc_rendezvous.specs.Outcomes.{outcome_of}
use Rattle.uc_session.specs.Acts.{Stage}
use Rattle.uc_session.specs.Loads.{Ready, SetsOut}
use Rattle.uc_rendezvous.specs.Runs.{RunOutside, RunTraces}
use Rattle.uc_session.specs.Meeting.{CameTo, Meets, cut_short}
use Rattle.uc_session.specs.Playing.{Does}
use Rattle.uc_session.proofs.Behind.{come}
use Rattle.uc_session.proofs.Meeting.{run_outside, traces_of, is_stopped, is_met}

module _ (held : List Read → Type 0) (setting : Setting) (force : Bool) (names : List (List ℕ)) (before now : Stage)
    (ready : Ready) (sets : SetsOut held setting force names before now ready) where
  abbrev tables : Tables
  tables = ready.plan

  abbrev old : State
  old = before.state

  abbrev new : State
  new = now.state

  abbrev entries : List Entry
  entries = ready.catalog.entries

  abbrev offers : List (Option ℕ)
  offers = ready.offers

  abbrev puts : Puts
  puts = sets.from.put.puts

  abbrev plan : Plan
  plan = load_plan setting old puts offers

  is_plan : plan_of tables ≡ plan
  is_plan = sets.from.plan_is

  is_sound : IsSound tables
  is_sound = sets.sound

  pub threads_are : tables.threads ≡ (machine_of setting).threads
  unfolding load_plan
  threads_are = ap (λ (p : Plan). p.threads) is_plan

  groups_are : length tables.primary.items ≡ (machine_of setting).groups
  unfolding load_plan
  groups_are = ap (λ (p : Plan). p.groups) is_plan

  revision_is : (g : ℕ) → g < (machine_of setting).groups → (plan_of tables).rev0 g ≡ old.hardware.rev g
  unfolding load_plan
  revision_is g below =
      let within : nat_lt g (machine_of setting).groups ≡ true = grind (arith, nat_tests, below) in
      ap (λ (p : Plan). p.rev0 g) is_plan ∙ rw within refl

  hardware_stays : new.hardware ≡ old.hardware
  hardware_stays = ap (λ (s : State). s.hardware) sets.from.put.after

  -- a load that offers something finds power on
  pub power_is_on : is_on new.hardware.power ≡ true
  power_is_on =
      ap (λ (h : Hardware). is_on h.power) hardware_stays
      ∙ something_is_on setting old force entries offers sets.standing sets.from.are_offers sets.from.something

  padded : Padded (plan_of tables)
  padded = sets.padded

  -- the rendezvous, and what the call finds
  module _ {D : Type 0} (meanings : RunOutside D) (beats : List Beat) (traces : RunTraces D) where
    abbrev outside : Outside D
    outside = record { stands = meanings.stands; faults = meanings.faults; lists = meanings.lists; held = held }

    abbrev found : Situation D
    found = record { state = old; files = before.files; runs = traces.runs; sink = traces.sink }

    -- what it leaves
    abbrev left : State → List RunOf → D → Situation D
    left after runs end = record { state = after; files = now.files; runs = runs; sink = end }

    abbrev MeetsFor : List RunOf → D → Result OutcomeTables RunAnswer → Type 0
    MeetsFor runs last result =
        (s : Setting) (state : State) (p : Puts) → s.machine ≡ setting.machine → plan_of tables ≡ load_plan s state p offers →
        Meets (run_outside outside) (plan_of tables) beats (load_offers_text s state entries offers) (traces_of found) (record { runs = runs; sink = last }) result

    abbrev DoesSo : Situation D → Played → Type 0
    DoesSo end come = Does outside setting (Load force names beats) found end come

    -- no outcome came of it, and the state is as it was
    pub stopped : (runs : List RunOf) (last : D) → VerdictHolds → (answer : RunAnswer) → MeetsFor runs last (Err answer) →
        (after : State) → after ≡ old → DoesSo (left after runs last) (cut_short answer)
    stopped runs last verdicts answer meets after same =
        is_stopped outside setting found force names beats sets.reads entries offers puts sets.present sets.read sets.from.are_offers
        sets.from.something sets.from.put.put (subst Sound is_plan is_sound.sound) (subst Padded is_plan padded) sets.is_held
        verdicts (left after runs last) sets.still same answer
        (subst (λ (p : Plan). Meets (run_outside outside) p beats (load_offers_text setting old entries offers) (traces_of found) (record { runs = runs; sink = last }) (Err answer))
        is_plan (meets setting old puts refl is_plan))

    module _ (runs : List RunOf) (last : D) (law : EventLaw) (opens : OpeningIsLawful) (outcome : OutcomeTables)
        (meets : MeetsFor runs last (Ok outcome)) where
      came : CameTo (run_outside outside) (plan_of tables) beats (load_offers_text setting old entries offers) (traces_of found) (record { runs = runs; sink = last }) (outcome_of outcome)
      came = meets setting old puts refl is_plan

      leaves : RanLeaves (plan_of tables) (outcome_of outcome)
      leaves =
          ran_leaves law opens item_line meanings.lists (plan_of tables) beats came.items (outcome_of outcome) came.late is_sound.sound
          padded came.ran

      pub ends_count : length outcome.ends.items ≡ tables.threads
      ends_count = leaves.an_end_each

      pub decided : outcome.decide < 3 + tables.threads
      decided = leaves.decided

      pub revs_count : length outcome.revs.items ≡ (machine_of setting).groups
      revs_count = leaves.a_revision_each ∙ groups_are

      pub no_lower : RanGrows item_line meanings.lists → (g : ℕ) → g < (machine_of setting).groups →
          new.hardware.rev g ≤ slice_index outcome.revs.items g
      no_lower grows g below =
          subst (λ (n : ℕ). n ≤ slice_index outcome.revs.items g)
          (revision_is g below ∙ ap (λ (h : Hardware). h.rev g) (sym hardware_stays))
          (grows (plan_of tables) beats came.items (outcome_of outcome) came.late is_sound.sound padded came.ran g
          (subst (λ (n : ℕ). g < n) (sym groups_are) below))

      -- the threads met, and the state is what they leave
      pub finished : {E : Type 0} (verdict : Verdict) (end : D) (r : Result (Unit {0}) E) (after : State) →
          LoadVerdict (plan_of tables) (outcome_of outcome) verdict →
          after ≡ loaded setting old puts offers (plan_of tables) (outcome_of outcome) →
          Writes meanings.stands meanings.faults last end (results_text setting old (plan_of tables) (outcome_of outcome) ++ answer_line names (answer_of verdict)) r →
          DoesSo (left after runs end) (come (answer_of verdict) r)
      finished {E = E} verdict end r after holds_of is wrote =
          is_met outside setting found force names beats sets.reads entries offers puts sets.present sets.read sets.from.are_offers
          sets.from.something sets.from.put.put (subst Sound is_plan is_sound.sound) (subst Padded is_plan padded) sets.is_held
          {E = E} last (left after runs end) sets.still (outcome_of outcome) verdict r
          (subst (λ (p : Plan). CameTo (run_outside outside) p beats (load_offers_text setting old entries offers) (traces_of found) (record { runs = runs; sink = last }) (outcome_of outcome)) is_plan came)
          (subst (λ (p : Plan). LoadVerdict p (outcome_of outcome) verdict) is_plan holds_of)
          (is ∙ ap (λ (p : Plan). loaded setting old puts offers p (outcome_of outcome)) is_plan)
          (subst (λ (p : Plan). Writes meanings.stands meanings.faults last end (results_text setting old p (outcome_of outcome) ++ answer_line names (answer_of verdict)) r) is_plan wrote)
