-- What a load leaves.
use Rattle.std.proofs.Common.{◌≡◌, ℕ, ◌<◌, ◌≤◌, Bool, true, false, if◌then◌else◌, List, Option, Some, None, option_map, Result, Ok, Err, refl, sym, ap, ◌∙◌, subst, inl, inr}
use Rattle.std.specs.List.{slice_index}
use Rattle.std.proofs.lemmas.Bool.{cases_lt, eq-eqb}
use Rattle.std.proofs.lemmas.List.{get_or_past, get_or_default}
use Rattle.read_model.specs.Reads.{Read}
use Rattle.rendezvous_steps.specs.declared.ends.Beat.{Beat}
use Rattle.rendezvous_steps.specs.Plan.{Plan}
use Rattle.rendezvous_model.specs.Outcome.{Outcome}
use Rattle.rendezvous_model.specs.Verdict.{end_at}
use Rattle.rendezvous_rule.specs.Runs.{RunOf}
use Rattle.play_laws.specs.Lawful.{EventLaw, OpeningIsLawful}
use Rattle.rendezvous_steps.specs.ItemText.{item_line}
use Rattle.region_steps.specs.Region.{Patches}
use Rattle.machine_steps.specs.declared.answers.HotAnswer.{HotAnswer}
use Rattle.machine_steps.specs.declared.answers.HotAnswer.TheVariants as hot
use Rattle.machine_steps.specs.Hardware.{Hardware}
use Rattle.machine_steps.specs.Calls as calls
use Rattle.machine_steps.specs.BringUps.{AllBrought, revision, resume}
use Rattle.machine_steps.specs.Puts.{Puts, first_of, patch_at, swept}
use Rattle.script_text.specs.declared.command.Command.TheVariants as command
use Rattle.session_text.specs.declared.answers.CommandAnswer.{CommandAnswer}
use Rattle.session_text.specs.declared.answers.CommandAnswer.TheVariants.{Done, Hot, Load}
use Rattle.session_text.specs.declared.answers.LoadAnswer.TheVariants as load
use Rattle.session_steps.specs.State.{Setting, State, machine_of, cached_patches}
use Rattle.session_steps.specs.Offers.{offer_of, plan_of}
use Rattle.session_steps.specs.Did.{Did, only, by_row, by_bring_ups, kept_where, cached_after, revision_after, loaded}
use Rattle.session_steps.specs.Step.{BootRow, LoadRow, Meets, booted, brought_at_boot, met, run_of, online, set_refusal}
use Rattle.session_laws.proofs.Plans.{group_in, rev0_in, offer_in}
use Rattle.session_laws.proofs.Stands.{cached_is, swept_stays}
use Rattle.command_laws.specs.Left.{has_succeeded, HoldsOffer, Leaves, LoadsLeave}
use Rattle.command_laws.proofs.Outcomes.{RanLeaves, ran_leaves}

-- ---- commands in which no rendezvous runs

-- what a command leaves, where a rendezvous ran in it
abbrev Left : Setting → State → Did → Type 0
Left setting state did = (run : RunOf) → did.ran ≡ Some run → Leaves setting state did.after run

none_ran : {A : Type 0} (ran : Option RunOf) (run : RunOf) → ran ≡ None → ran ≡ Some run → A
none_ran ran run none some = let wrong : None ≡ Some run = sym none ∙ some in absurd cc

as_other : (setting : Setting) (state : State) (did other : Did) → did ≡ other → Left setting state other →
    Left setting state did
as_other setting state did other same left = subst (Left setting state) (sym same) left

only_left : (setting : Setting) (state : State) (did : Did) (reads : List Read) (answer : CommandAnswer) →
    did ≡ only state reads answer → Left setting state did
only_left setting state did reads answer same =
    as_other setting state did (only state reads answer) same (λ run some. none_ran None run refl some)

row_left : (setting : Setting) (state : State) (row : Result Hardware HotAnswer) → Left setting state (by_row state row)
row_left setting state (Ok new) run some = none_ran None run refl some
row_left setting state (Err answer) run some = none_ran None run refl some

rise_left : (setting : Setting) (state : State) (row : Result AllBrought HotAnswer) →
    Left setting state (by_bring_ups state row)
rise_left setting state (Ok brought) run some = none_ran None run refl some
rise_left setting state (Err answer) run some = none_ran None run refl some

boots_left : (setting : Setting) (state : State) (reads : List Read) (puts : Puts) (offers : List (Option ℕ)) →
    Left setting state (booted setting state reads puts offers (brought_at_boot setting state puts offers))
unfolding booted
boots_left setting state reads puts offers run some = none_ran None run refl some

boot_left : (setting : Setting) (state : State) (names : List (List ℕ)) (did : Did) (answer : CommandAnswer) →
    BootRow setting state names did answer → Left setting state did
boot_left setting state names did Done row =
    as_other setting state did _ row.1.does (boots_left setting state did.reads row.1.puts row.1.offers)
boot_left setting state names did (Hot hot.Booted) row = only_left setting state did _ _ row.1
boot_left setting state names did (Hot (hot.NotUp t)) row = absurd row.1
boot_left setting state names did (Hot (hot.IsUp t)) row = absurd row.1
boot_left setting state names did (Hot hot.BootThread) row = absurd row.1
boot_left setting state names did (Hot hot.PoweredDown) row = absurd row.1
boot_left setting state names did (Hot hot.NotAsleep) row = absurd row.1
boot_left setting state names did (Load (load.ReadFault file)) row = only_left setting state did _ _ row.1.did_only
boot_left setting state names did (Load (load.BadFile file fault)) row = only_left setting state did _ _ row.1.did_only
boot_left setting state names did (Load (load.PoolFull needed)) row = only_left setting state did _ _ row.1.did_only
boot_left setting state names did (Load answer) row = absurd row.1

-- ---- a load whose threads met

-- a sweep leaves the patch that a group caches
patch_stays : (groups : ℕ) (cached : ℕ → Option ℕ) (patches : Patches) (g : ℕ) (place : Option ℕ) → g < groups →
    cached g ≡ place → patch_at (swept groups cached patches) place ≡ patch_at patches place
patch_stays groups cached patches g None below is = refl
patch_stays groups cached patches g (Some block) below is =
    swept_stays groups cached patches block (cached_is groups cached block g below is)

-- a group at its offer's revision caches that
kept_new : (offer : Option ℕ) (rev : ℕ) (new old : Option ℕ) → offer ≡ Some rev → kept_where offer rev new old ≡ new
kept_new offer rev new old is =
    ap (λ (offer : Option ℕ). kept_where offer rev new old) is
    ∙ ap (λ (same : Bool). if same then new else old) (eq-eqb rev rev refl)

module _ (setting : Setting) (state : State) (puts : Puts) (offers : List (Option ℕ)) (outcome : Outcome)
    (leaves : RanLeaves (plan_of setting state puts offers) outcome) where
  abbrev plan : Plan
  plan = plan_of setting state puts offers

  abbrev groups : ℕ
  groups = (machine_of setting).groups

  revision_in : (g : ℕ) → g < groups → revision_after state outcome g ≡ slice_index outcome.revs g
  unfolding plan_of
  revision_in g below = get_or_default outcome.revs g (state.hardware.rev g) 0 (subst (λ (n : ℕ). g < n)
      (sym leaves.a_revision_each) below)

  revision_past : (g : ℕ) → groups ≤ g → revision_after state outcome g ≡ state.hardware.rev g
  unfolding plan_of
  revision_past g past = get_or_past outcome.revs g (state.hardware.rev g) (subst (λ (n : ℕ). n ≤ g)
      (sym leaves.a_revision_each) past)

  dropped_changes_none : 2 ≤ outcome.decide → (g : ℕ) → revision_after state outcome g ≡ state.hardware.rev g
  unfolding plan_of
  dropped_changes_none two g = elim (cases_lt g groups) [
    | inl below ↦ revision_in g below ∙ leaves.dropped two g below ∙ rev0_in setting state puts offers g below
    | inr past ↦ revision_past g past
  ]

  -- a group that runs its offer caches the offer's patch
  offer_is_cached : (g : ℕ) → g < groups → plan.offer g ≡ Some (revision_after state outcome g) →
      option_map revision (cached_patches (loaded setting state puts offers plan outcome) g) ≡ Some
      (revision_after state outcome g)
  unfolding loaded
  offer_is_cached g below is =
      let cached : ℕ → Option ℕ = cached_after state puts offers plan outcome in
      let place : Option ℕ = first_of puts (offer_of offers g) in
      let here : cached g ≡ place = kept_new (plan.offer g) (revision_after state outcome g) place
      (state.cached g) is in
      ap (λ (place : Option ℕ). option_map revision (patch_at (swept groups cached puts.patches) place)) here
      ∙ ap (option_map revision) (patch_stays groups cached puts.patches g place below here)
      ∙ sym (offer_in setting state puts offers g below)
      ∙ is

  success_holds : (t : ℕ) → has_succeeded (end_at outcome t) ≡ true →
      ((t : ℕ) → t < plan.threads → plan.group t < plan.groups) →
      HoldsOffer plan (loaded setting state puts offers plan outcome) ((machine_of setting).group t)
  unfolding plan_of loaded
  success_holds t success in_range =
      let within : t < (machine_of setting).threads = leaves.within t success in
      let own : plan.group t ≡ (machine_of setting).group t = group_in setting state puts offers t within in
      let g : ℕ = (machine_of setting).group t in
      let below : g < groups = subst (λ (h : ℕ). h < groups) own (in_range t within) in
      let offer : plan.offer g ≡ Some (slice_index outcome.revs g) =
      subst (λ (h : ℕ). plan.offer h ≡ Some (slice_index outcome.revs h)) own (leaves.succeeded t within success) in
      let runs : plan.offer g ≡ Some (revision_after state outcome g) = offer ∙ ap Some (sym (revision_in g below)) in
      record { runs = runs; caches = offer_is_cached g below runs }

load_leaves : (setting : Setting) (state : State) (puts : Puts) (offers : List (Option ℕ)) (outcome : Outcome)
    (late : Bool) → RanLeaves (plan_of setting state puts offers) outcome
    → ((t : ℕ) → t < (plan_of setting state puts offers).threads →
    (plan_of setting state puts offers).group t < (plan_of setting state puts offers).groups)
    → Leaves setting state (loaded setting state puts offers (plan_of setting state puts offers) outcome)
    (run_of (plan_of setting state puts offers) outcome late)
unfolding loaded
load_leaves setting state puts offers outcome late leaves in_range = record {
  dropped = dropped_changes_none setting state puts offers outcome leaves;
  succeeded = λ t success. success_holds setting state puts offers outcome leaves t success in_range;
}

meets_left : EventLaw → OpeningIsLawful → (lists : Bool) (setting : Setting) (state : State) (force : Bool)
    (names : List (List ℕ)) (beats : List Beat) (did : Did) (answer : CommandAnswer) →
    Meets lists setting state force names beats did answer → Left setting state did
unfolding met
meets_left law opens lists setting state force names beats did answer meets =
    let plan : Plan = plan_of setting state meets.puts meets.offers in
    let its : RunOf = run_of plan meets.outcome meets.late in
    let leaves = ran_leaves law opens item_line lists plan beats meets.items meets.outcome meets.late meets.sound meets.padded meets.ran in
    let after : State = loaded setting state meets.puts meets.offers plan meets.outcome in
    as_other setting state did
    (met setting state did.reads meets.entries meets.puts meets.offers plan meets.items its answer) meets.does
    (λ run some.
    let same : its ≡ run = cc in
    subst (Leaves setting state after) same
    (load_leaves setting state meets.puts meets.offers meets.outcome meets.late leaves meets.sound.groups_in_range))

load_left : EventLaw → OpeningIsLawful → (lists : Bool) (setting : Setting) (state : State) (force : Bool)
    (names : List (List ℕ)) (beats : List Beat) (did : Did) (answer : CommandAnswer) →
    LoadRow lists setting state force names beats did answer → Left setting state did
load_left law opens lists setting state force names beats did (Hot answer) row = absurd row.1
load_left law opens lists setting state force names beats did (Load (load.Busy t)) row =
    only_left setting state did _ _ row.1
load_left law opens lists setting state force names beats did (Load (load.ReadFault file)) row =
    only_left setting state did _ _ row.1.did_only
load_left law opens lists setting state force names beats did (Load (load.BadFile file fault)) row =
    only_left setting state did _ _ row.1.did_only
load_left law opens lists setting state force names beats did (Load load.NotFound) row =
    only_left setting state did _ _ row.1.did_only
load_left law opens lists setting state force names beats did (Load (load.PoolFull needed)) row =
    only_left setting state did _ _ row.1.did_only
load_left law opens lists setting state force names beats did answer row =
    meets_left law opens lists setting state force names beats did answer row.1

pub loads_leave : EventLaw → OpeningIsLawful → LoadsLeave
loads_leave law opens lists setting state (command.Boot names) did run step =
    boot_left setting state names did did.answer step run
loads_leave law opens lists setting state (command.Load force names beats) did run step =
    load_left law opens lists setting state force names beats did did.answer step run
loads_leave law opens lists setting state (command.Online t) did run step =
    as_other setting state did _ step (rise_left setting state (online setting state t)) run
loads_leave law opens lists setting state command.Resume did run step =
    as_other setting state did _ step (rise_left setting state
    (resume (machine_of setting) (cached_patches state) state.hardware)) run
loads_leave law opens lists setting state (command.Offline t) did run step =
    as_other setting state did _ step (row_left setting state (calls.soft_offline state.hardware t)) run
loads_leave law opens lists setting state command.Suspend did run step =
    as_other setting state did _ step (row_left setting state (calls.suspend (machine_of setting) state.hardware)) run
loads_leave law opens lists setting state (command.Refuse core) did run step =
    as_other setting state did (set_refusal setting state core true) step (λ run some. none_ran None run refl some) run
loads_leave law opens lists setting state (command.Accept core) did run step =
    as_other setting state did (set_refusal setting state core false) step (λ run some. none_ran None run refl some) run
