-- What a load did in which the threads met, and what a boot did.
use Rattle.std.proofs.Common.{◌≡◌, ℕ, ◌<◌, Bool, true, false, if◌then◌else◌, List, ◌++◌, length, Option, Some, None, option_map, refl, sym, ap, ◌∙◌, subst, inl, inr}
use Rattle.std.specs.List.{slice_index}
use Rattle.std.proofs.lemmas.Bool.{cases_lt, eq-eqb}
use Rattle.std.proofs.lemmas.List.{get_or_default}
use Rattle.std.proofs.lemmas.List.FromFn.{length-map-range_with_len}
use Rattle.uc_topology.specs.Stated.{IsPartition}
use Rattle.tool_text.specs.entry_model.Entry.{Entry}
use Rattle.tool_text.specs.entry_model.Selection.{IsBest}
use Rattle.tool_text.specs.rendezvous_steps.declared.ends.Beat.{Beat}
use Rattle.tool_text.specs.rendezvous_steps.Plan.{Plan, Sound}
use Rattle.tool_text.specs.rendezvous_steps.Padded.{Padded}
use Rattle.tool_text.specs.rendezvous_model.Outcome.{Outcome}
use Rattle.tool_text.specs.rendezvous_model.Verdict.{Verdict, LoadVerdict}
use Rattle.tool_text.specs.rendezvous_model.Verdict as verdict
use Rattle.tool_text.specs.rendezvous_rule.Runs.{RunOf}
use Rattle.tool_text.specs.rendezvous_steps.ItemText.{item_line}
use Rattle.play_laws.specs.Lawful.{Lawful}
use Rattle.play_laws.specs.Runs.{RunsHold, MomentsAreLawful}
use Rattle.play_laws.specs.Outcomes.{EndedLaw}
use Rattle.tool_text.specs.rendezvous_steps.Events.{opening_running}
use Rattle.tool_text.specs.rendezvous_rule.Ran.{Ran, events_of}
use Rattle.play_steps.specs.Play.{last_moment}
use Rattle.play_steps.proofs.Play.{last_moment_is}
use Rattle.region_steps.specs.Region.{Patches}
use Rattle.tool_text.specs.machine_steps.BringUps.{revision}
use Rattle.tool_text.specs.machine_steps.Puts.{Puts, first_of, patch_at, swept}
use Rattle.tool_text.specs.session_text.declared.answers.CommandAnswer.{CommandAnswer}
use Rattle.tool_text.specs.session_text.declared.answers.CommandAnswer.TheVariants.{Done}
use Rattle.tool_text.specs.session_steps.State.{Setting, State, machine_of, cached_patches}
use Rattle.tool_text.specs.session_steps.Offers.{entry_at, bytes_at, offer_of, group_of_core, load_offers_text, put_revision, plan_of}
use Rattle.tool_text.specs.session_steps.Did.{Did, kept_where, cached_after, revision_after, loaded}
use Rattle.tool_text.specs.session_steps.Step.{Boots, Meets, answer_of, booted, brought_at_boot, met, run_of}
use Rattle.session_laws.specs.Standing.{Standing}
use Rattle.session_laws.specs.Lent.{IsLent, BootsLend, LoadsLend}
use Rattle.session_laws.proofs.Parts.{load_offers}
use Rattle.session_laws.proofs.Plans.{offer_in}
use Rattle.session_laws.proofs.Stands.{cached_is, swept_stays}
use Rattle.command_laws.specs.Left.{Leaves}
use Rattle.tool_text.specs.Headline.{ShowsRun, LoadHolds, BootHolds, core_facts, first_revision}
use Rattle.tool_laws.proofs.Done.{holds_offer, unlisted_holds}
use Rattle.tool_laws.proofs.Listings.{safe_items, shows_last}
use Rattle.tool_laws.proofs.Offering.{best_at_boot, best_at_load}

-- ---- a boot

module _ (setting : Setting) (state : State) (names : List (List ℕ)) (did : Did) (partition : IsPartition setting.machine.stated)
    (stands : Standing setting state) (lends : BootsLend) (boots : Boots setting state names did) where
  lent_at_boot : (g number : ℕ) → offer_of boots.offers g ≡ Some number →
      IsLent boots.entries boots.offers boots.puts g number
  lent_at_boot g number is =
      lends setting state names did.reads boots.entries boots.offers boots.puts g number stands boots.read boots.are_offers
      boots.put is

  pub boot_holds : BootHolds setting did
  unfolding booted
  boot_holds =
      let after : did.after ≡ (booted setting state did.reads boots.puts boots.offers
      (brought_at_boot setting state boots.puts boots.offers)).after = ap (λ (d : Did). d.after) boots.does in
      record {
        offers = boots.offers;
        offered = record {
          readings = boots.read.readings;
          accepted = boots.read.come.1;
          best = λ core number below is.
              subst (λ (entries : List Entry). IsBest entries (core_facts setting.machine core
              (first_revision setting.machine core)) false number) boots.read.all
              (best_at_boot setting.machine partition core below boots.entries boots.offers number boots.are_offers is);
        };
        cached = λ g number is.
            ap (λ (s : State). cached_patches s g) after ∙ (lent_at_boot g number is).patch
            ∙ ap (λ (entries : List Entry). Some (bytes_at entries number)) boots.read.all;
        none_cached = λ g none.
            ap (λ (s : State). cached_patches s g) after
            ∙ ap (λ (offer : Option ℕ). patch_at boots.puts.patches (first_of boots.puts offer)) none;
      }

-- ---- a load

-- a sweep leaves the patch that a group caches
patch_stays : (groups : ℕ) (cached : ℕ → Option ℕ) (patches : Patches) (g : ℕ) (place : Option ℕ) → g < groups →
    cached g ≡ place → patch_at (swept groups cached patches) place ≡ patch_at patches place
patch_stays groups cached patches g None below is = refl
patch_stays groups cached patches g (Some block) below is =
    swept_stays groups cached patches block (cached_is groups cached block g below is)

-- a group at its offer's revision caches that
kept_new : (offer : Option ℕ) (rev : ℕ) (new old : Option ℕ) → offer ≡ Some rev → kept_where offer rev new old ≡ new
kept_new offer rev new old is =
    ap (λ (offer : Option ℕ). kept_where offer rev new old) is
    ∙ ap (λ (same : Bool). if same then new else old) (eq-eqb rev rev refl)

-- only one verdict is answered by Done
is_done_verdict : (v : Verdict) → answer_of v ≡ Done → v ≡ verdict.Done
is_done_verdict verdict.Done is = refl
is_done_verdict (verdict.Panicked t) is = absurd cc
is_done_verdict (verdict.Unfinished t) is = absurd cc
is_done_verdict (verdict.OfflineSilent kicks) is = absurd cc
is_done_verdict (verdict.TimedOut t) is = absurd cc
is_done_verdict (verdict.Failed t) is = absurd cc
is_done_verdict (verdict.Incomplete t) is = absurd cc

-- what is shown of a run: its items are safe, or its outcome is one that a run may come to
shows_run : RunsHold → (lists : Bool) (plan : Plan) (beats : List Beat) (text : List ℕ) (outcome : Outcome) (late : Bool) →
    Sound plan → Padded plan → Ran item_line lists plan beats text outcome late →
    ShowsRun lists (run_of plan outcome late) beats text
shows_run runs true plan beats text outcome late sound padded ran = safe_items runs plan beats text outcome sound padded ran
shows_run runs false plan beats text outcome late sound padded ran = ran

-- a run comes to a revision for each group
revisions_count : (lists : Bool) (plan : Plan) (beats : List Beat) (text : List ℕ) (outcome : Outcome) (late : Bool) →
    Ran item_line lists plan beats text outcome late → length outcome.revs ≡ plan.groups
revisions_count true plan beats text outcome late ran =
    ap length (shows_last item_line plan beats text outcome ran).revs ∙ length-map-range_with_len _ 0 plan.groups
revisions_count false plan beats text outcome late ran = ran.a_revision_each

-- where the verdict is Done, each group with an offer has come to it
run_holds : MomentsAreLawful → EndedLaw → (lists : Bool) (plan : Plan) (beats : List Beat) (text : List ℕ)
    (outcome : Outcome) (late : Bool) → Sound plan → Padded plan → Ran item_line lists plan beats text outcome late →
    LoadVerdict plan outcome verdict.Done → (g rev : ℕ) → plan.offer g ≡ Some rev → slice_index outcome.revs g ≡ rev
run_holds moments ended true plan beats text outcome late sound padded ran done =
    let events = events_of plan beats in
    let last = last_moment plan (opening_running plan) events in
    let lawful : Lawful plan last =
    subst (Lawful plan) (sym (last_moment_is plan (opening_running plan) events)) (moments plan events _ sound padded) in
    holds_offer ended plan last outcome sound padded lawful.ruled (shows_last item_line plan beats text outcome ran) done
run_holds moments ended false plan beats text outcome late sound padded ran done =
    unlisted_holds plan text outcome late sound padded ran done

module _ (lists : Bool) (setting : Setting) (state : State) (force : Bool) (names : List (List ℕ)) (beats : List Beat) (did : Did)
    (answer : CommandAnswer) (partition : IsPartition setting.machine.stated) (stands : Standing setting state)
    (lends : LoadsLend) (meets : Meets lists setting state force names beats did answer) where
  abbrev entries : List Entry
  entries = meets.entries

  abbrev offers : List (Option ℕ)
  offers = meets.offers

  abbrev puts : Puts
  puts = meets.puts

  abbrev plan : Plan
  plan = plan_of setting state meets.puts meets.offers

  abbrev run : RunOf
  run = run_of (plan_of setting state meets.puts meets.offers) meets.outcome meets.late

  abbrev after : State
  after = loaded setting state meets.puts meets.offers (plan_of setting state meets.puts meets.offers) meets.outcome

  below : (g number : ℕ) → offer_of meets.offers g ≡ Some number → g < (machine_of setting).groups
  below g number is = (load_offers setting state force meets.entries meets.offers meets.are_offers g number is).below

  lent_at_load : (g number : ℕ) → offer_of meets.offers g ≡ Some number →
      IsLent meets.entries meets.offers meets.puts g number
  lent_at_load g number is =
      lends setting state force names did.reads meets.entries meets.offers meets.puts g number stands meets.read
      meets.are_offers meets.put is

  -- a group is to come to its entry's revision, where it is offered one
  abbrev revision_of : ℕ → ℕ
  revision_of number = (entry_at meets.entries number).facts.rev

  none_to_come : (g : ℕ) → offer_of meets.offers g ≡ None → (plan_of setting state meets.puts meets.offers).offer g ≡ None
  unfolding plan_of
  none_to_come g none = elim (cases_lt g (machine_of setting).groups) [
    | inl within ↦
        offer_in setting state meets.puts meets.offers g within ∙ ap (put_revision meets.puts) none
    | inr past ↦ meets.padded.no_offer g past
  ]

  to_come_by : (g : ℕ) (offer : Option ℕ) → offer_of meets.offers g ≡ offer →
      (plan_of setting state meets.puts meets.offers).offer g ≡ option_map revision_of offer
  to_come_by g None is = none_to_come g is
  to_come_by g (Some number) is =
      offer_in setting state meets.puts meets.offers g (below g number is)
      ∙ ap (option_map revision) (lent_at_load g number is).patch
      ∙ ap Some (lent_at_load g number is).stated

  cached : (g number : ℕ) → offer_of meets.offers g ≡ Some number →
      (plan_of setting state meets.puts meets.offers).offer g ≡ Some (after.hardware.rev g) →
      cached_patches after g ≡ Some (bytes_at meets.entries number)
  unfolding loaded
  cached g number is runs =
      let kept : ℕ → Option ℕ = cached_after state meets.puts meets.offers (plan_of setting state meets.puts meets.offers)
      meets.outcome in
      let place : Option ℕ = first_of meets.puts (offer_of meets.offers g) in
      let here : kept g ≡ place =
      kept_new ((plan_of setting state meets.puts meets.offers).offer g) (revision_after state meets.outcome g) place
      (state.cached g) runs in
      ap (λ (at : Option ℕ). patch_at (swept (machine_of setting).groups kept meets.puts.patches) at) here
      ∙ patch_stays (machine_of setting).groups kept meets.puts.patches g place (below g number is) here
      ∙ (lent_at_load g number is).patch

  module _ (runs : RunsHold) (moments : MomentsAreLawful) (ended : EndedLaw) where
    -- where the verdict is Done, each group with an offer holds it
    done : answer ≡ Done → (g rev : ℕ) → (plan_of setting state meets.puts meets.offers).offer g ≡ Some rev →
        after.hardware.rev g ≡ rev
    unfolding loaded
    done is_done g rev offer =
        let p : Plan = plan_of setting state meets.puts meets.offers in
        let v : LoadVerdict p meets.outcome verdict.Done =
        subst (LoadVerdict p meets.outcome) (is_done_verdict meets.verdict (sym meets.is_answer ∙ is_done))
        meets.is_verdict in
        let count : length meets.outcome.revs ≡ p.groups =
        revisions_count lists p beats meets.items meets.outcome meets.late meets.ran in
        elim (cases_lt g p.groups) [
          | inl within ↦
              get_or_default meets.outcome.revs g (state.hardware.rev g) 0 (subst (λ (n : ℕ). g < n) (sym count) within)
              ∙ run_holds moments ended lists p beats meets.items meets.outcome meets.late meets.sound meets.padded meets.ran v
              g rev offer
          | inr past ↦ let wrong : None ≡ Some rev = sym (meets.padded.no_offer g past) ∙ offer in absurd cc
        ]

    load_holds_met : Leaves setting state after run →
        LoadHolds lists setting state force beats
        (met setting state did.reads meets.entries meets.puts meets.offers (plan_of setting state meets.puts meets.offers)
        meets.items run answer) run
    unfolding met
    load_holds_met leaves =
        record {
          offers = meets.offers;
          offered = record {
            readings = meets.read.readings;
            accepted = meets.read.come.1;
            best = λ core number within is.
                subst (λ (es : List Entry). IsBest es (core_facts setting.machine core
                (state.hardware.rev (group_of_core setting core))) force number) meets.read.all
                (best_at_load setting state force meets.entries meets.offers partition meets.are_offers core number within is);
          };
          to_come = λ g.
              to_come_by g (offer_of meets.offers g) refl
              ∙ ap (λ (es : List Entry). option_map (λ number. (entry_at es number).facts.rev) (offer_of meets.offers g))
              meets.read.all;
          cached = λ g number is runs_it.
              cached g number is runs_it ∙ ap (λ (es : List Entry). Some (bytes_at es number)) meets.read.all;
          lines = meets.items;
          shown = ap (λ (es : List Entry). load_offers_text setting state es meets.offers ++ meets.items) meets.read.all;
          items =
              shows_run runs lists (plan_of setting state meets.puts meets.offers) beats meets.items meets.outcome meets.late
              meets.sound meets.padded meets.ran;
          dropped = leaves.dropped;
          told = refl;
          succeeded = leaves.succeeded;
          done = done;
        }

    pub load_holds : ((ran : RunOf) → did.ran ≡ Some ran → Leaves setting state did.after ran) →
        (ran : RunOf) → did.ran ≡ Some ran → LoadHolds lists setting state force beats did ran
    unfolding met
    load_holds left ran is =
        let its : did.ran ≡ Some run = ap (λ (d : Did). d.ran) meets.does in
        let same : run ≡ ran = let both : Some run ≡ Some ran = sym its ∙ is in cc in
        let leaves : Leaves setting state after run =
        subst (λ (s : State). Leaves setting state s run) (ap (λ (d : Did). d.after) meets.does) (left run its) in
        subst (LoadHolds lists setting state force beats did) same
        (subst (λ (d : Did). LoadHolds lists setting state force beats d run) (sym meets.does) (load_holds_met leaves))
