-- Which commands let a revision fall.
use Rattle.std.proofs.Common.{◌≡◌, ℕ, ◌<◌, ◌≤◌, Bool, true, false, not, ◌==◌, if◌then◌else◌, Option, List, [], ◌∷◌, length, slice_index, slice_index_or, Result, Ok, Err, refl, sym, ap, ◌∙◌, ◌⊎◌, inl, inr, subst}
use Rattle.std.proofs.Math.Nat.{le_refl, le_trans}
use Rattle.std.proofs.lemmas.Bool.{cases_lt, lt-ltb}
use Rattle.std.proofs.lemmas.List.{get_or_past, get_or_default}
use Rattle.std.proofs.lemmas.List.FromFn.{length-map-range_with_len}
use Rattle.read_model.specs.Reads.{Read}
use Rattle.rendezvous_steps.specs.declared.ends.Beat.{Beat}
use Rattle.rendezvous_steps.specs.Plan.{Plan}
use Rattle.rendezvous_model.specs.Outcome.{Outcome}
use Rattle.rendezvous_rule.specs.Ran.{Ran}
use Rattle.rendezvous_rule.specs.Runs.{RanGrows}
use Rattle.rendezvous_steps.specs.ItemText.{item_line}
use Rattle.machine_steps.specs.declared.answers.HotAnswer.{HotAnswer}
use Rattle.machine_steps.specs.declared.answers.HotAnswer.TheVariants as hot
use Rattle.machine_steps.specs.declared.states.Power.TheVariants.{On}
use Rattle.machine_steps.specs.Hardware.{Hardware, Setting as MachineSetting, is_on, is_asleep, is_up, with_power, with_thread, threads_of}
use Rattle.machine_steps.specs.declared.states.ThreadState.TheVariants.{Offline}
use Rattle.machine_steps.specs.Calls as calls
use Rattle.machine_steps.specs.BringUps.{AllBrought, CachedPatches, remembered_threads, resume_from}
use Rattle.machine_steps.specs.Puts.{Puts}
use Rattle.machine_steps.specs.Laws as machine
use Rattle.script_text.specs.declared.command.Command.TheVariants as command
use Rattle.session_text.specs.declared.answers.CommandAnswer.{CommandAnswer}
use Rattle.session_text.specs.declared.answers.CommandAnswer.TheVariants.{Done, Hot, Load}
use Rattle.session_text.specs.declared.answers.LoadAnswer.TheVariants as load
use Rattle.session_steps.specs.State.{Setting, State, machine_of, cached_patches}
use Rattle.session_steps.specs.Offers.{plan_of}
use Rattle.session_steps.specs.Did.{Did, only, by_row, by_bring_ups, loaded}
use Rattle.session_steps.specs.Step.{BootRow, LoadRow, Meets, booted, booted_patches, brought_at_boot, met, online_from, set_refusal}
use Rattle.session_laws.specs.Laws.{NeverFalls}

-- an outcome has one revision for each group
a_revision_each : (lists : Bool) (plan : Plan) (beats : List Beat) (text : List ℕ) (outcome : Outcome) (late : Bool) → Ran item_line lists plan beats text outcome late → length outcome.revs ≡ plan.groups
a_revision_each true plan beats text outcome late ran = ap length ran.comes_out.revs ∙ length-map-range_with_len _ 0 plan.groups
a_revision_each false plan beats text outcome late ran = ran.a_revision_each

-- a revision after a load is no lower, whatever a table of revisions past its end says
kept_where : (revs : List ℕ) (groups g old : ℕ) → length revs ≡ groups → (g < groups → old ≤ slice_index revs g)
    → (g < groups) ⊎ (groups ≤ g) → old ≤ slice_index_or revs g old
kept_where revs groups g old count each (inl within) =
    subst (λ rev. old ≤ rev) (sym (get_or_default revs g old 0 (subst (λ n. g < n) (sym count) within))) (each within)
kept_where revs groups g old count each (inr past) =
    subst (λ rev. old ≤ rev) (sym (get_or_past revs g old (subst (λ n. n ≤ g) (sym count) past))) (le_refl old)

revision_kept : (revs : List ℕ) (groups g old : ℕ) → length revs ≡ groups → (g < groups → old ≤ slice_index revs g) → old ≤ slice_index_or revs g old
revision_kept revs groups g old count each = kept_where revs groups g old count each (cases_lt g groups)

-- the state that a command leaves has no lower revision of the group
abbrev Grows : State → ℕ → Did → Type 0
Grows state g did = state.hardware.rev g ≤ did.after.hardware.rev g

grows_as : (state : State) (g : ℕ) (did other : Did) → did ≡ other → Grows state g other → Grows state g did
grows_as state g did other same grows = subst (Grows state g) (sym same) grows

-- a command that leaves the state as it was, or the machine as a row of it says
only_grows : (state : State) (g : ℕ) (did : Did) (reads : List Read) (answer : CommandAnswer) → did ≡ only state reads answer → Grows state g did
only_grows state g did reads answer same = grows_as state g did _ same (le_refl (state.hardware.rev g))

-- a row of the machine that lets no revision fall, where it does anything
abbrev Good : Hardware → Result Hardware HotAnswer → Type 0
Good old (Ok new) = machine.NeverLower old new
Good old (Err answer) = Unit {0}

abbrev GoodForAll : Hardware → Result AllBrought HotAnswer → Type 0
GoodForAll old (Ok brought) = machine.NeverLower old brought.after
GoodForAll old (Err answer) = Unit {0}

refused_good : (old : Hardware) (refuses : Bool) (answer : HotAnswer) (row : Result Hardware HotAnswer) → Good old row → Good old (calls.refuse_where refuses answer row)
refused_good old true answer row good = tt
refused_good old false answer row good = good

may_come_up_good : (old : Hardware) (t : ℕ) → Good old (calls.may_come_up old t)
may_come_up_good old t =
    refused_good old (not (is_on old.power)) hot.PoweredDown _ (refused_good old (is_up (old.thread t)) (hot.IsUp t) (Ok old) (λ g. le_refl (old.rev g)))

soft_offline_good : (old : Hardware) (t : ℕ) → Good old (calls.soft_offline old t)
soft_offline_good old t =
    refused_good old (not (is_on old.power)) hot.PoweredDown _
    (refused_good old (t == 0) hot.BootThread _
    (refused_good old (not (is_up (old.thread t))) (hot.NotUp t) (Ok (with_thread old t Offline)) (λ g. le_refl (old.rev g))))

wake_good : (old : Hardware) → Good old (calls.wake old)
wake_good old = refused_good old (not (is_asleep old.power)) hot.NotAsleep (Ok (with_power old On)) (λ g. le_refl (old.rev g))

row_grows : (state : State) (g : ℕ) (row : Result Hardware HotAnswer) → Good state.hardware row → Grows state g (by_row state row)
row_grows state g (Ok hardware) good = good g
row_grows state g (Err answer) good = le_refl _

bring_ups_grow : (state : State) (g : ℕ) (row : Result AllBrought HotAnswer) → GoodForAll state.hardware row → Grows state g (by_bring_ups state row)
bring_ups_grow state g (Ok brought) good = good g
bring_ups_grow state g (Err answer) good = le_refl _

resumed_good : machine.BringUpsNeverLower → (setting : MachineSetting) (patches : CachedPatches) (old : Hardware) (row : Result Hardware HotAnswer) → Good old row → GoodForAll old (resume_from setting patches old row)
resumed_good law setting patches old (Err answer) good = tt
resumed_good law setting patches old (Ok awake) good = λ g. le_trans (good g) (law setting patches awake (remembered_threads setting old) g)

online_good : machine.BringUpsNeverLower → (setting : Setting) (state : State) (t : ℕ) (row : Result Hardware HotAnswer) → Good state.hardware row → GoodForAll state.hardware (online_from setting state t row)
online_good law setting state t (Err answer) good = tt
online_good law setting state t (Ok may) good = λ g. le_trans (good g) (law (machine_of setting) (cached_patches state) may (t ∷ []) g)

-- Boot and load.

booted_grows : machine.BringUpsNeverLower → (setting : Setting) (state : State) (g : ℕ) (reads : List Read) (puts : Puts) (offers : List (Option ℕ)) → Grows state g (booted setting state reads puts offers (brought_at_boot setting state puts offers))
unfolding booted
booted_grows law setting state g reads puts offers = law (machine_of setting) (booted_patches puts offers) (with_power state.hardware On) (threads_of (machine_of setting)) g

boot_grows : machine.BringUpsNeverLower → (setting : Setting) (state : State) (g : ℕ) (names : List (List ℕ)) (did : Did) (answer : CommandAnswer) → BootRow setting state names did answer → Grows state g did
boot_grows law setting state g names did Done row = grows_as state g did _ row.1.does (booted_grows law setting state g did.reads row.1.puts row.1.offers)
boot_grows law setting state g names did (Hot hot.Booted) row = only_grows state g did _ _ row.1
boot_grows law setting state g names did (Hot (hot.NotUp t)) row = absurd row.1
boot_grows law setting state g names did (Hot (hot.IsUp t)) row = absurd row.1
boot_grows law setting state g names did (Hot hot.BootThread) row = absurd row.1
boot_grows law setting state g names did (Hot hot.PoweredDown) row = absurd row.1
boot_grows law setting state g names did (Hot hot.NotAsleep) row = absurd row.1
boot_grows law setting state g names did (Load (load.ReadFault file)) row = only_grows state g did _ _ row.1.did_only
boot_grows law setting state g names did (Load (load.BadFile file fault)) row = only_grows state g did _ _ row.1.did_only
boot_grows law setting state g names did (Load (load.PoolFull needed)) row = only_grows state g did _ _ row.1.did_only
boot_grows law setting state g names did (Load answer) row = absurd row.1

planned_rev0 : (setting : Setting) (state : State) (puts : Puts) (offers : List (Option ℕ)) (g : ℕ) → g < (machine_of setting).groups → (plan_of setting state puts offers).rev0 g ≡ state.hardware.rev g
unfolding plan_of
planned_rev0 setting state puts offers g within = ap (λ (b : Bool). if b then state.hardware.rev g else 0) (lt-ltb g (machine_of setting).groups within)

met_grows : (lists : Bool) (setting : Setting) (state : State) (g : ℕ) (force : Bool) (names : List (List ℕ)) (beats : List Beat) (did : Did) (answer : CommandAnswer)
    → RanGrows item_line lists → Meets lists setting state force names beats did answer → Grows state g did
unfolding met loaded plan_of
met_grows lists setting state g force names beats did answer grows meets =
    let plan : Plan = plan_of setting state meets.puts meets.offers in
    grows_as state g did _ meets.does
    (revision_kept meets.outcome.revs (machine_of setting).groups g (state.hardware.rev g)
    (a_revision_each lists plan beats meets.items meets.outcome meets.late meets.ran)
    (λ within. subst (λ rev. rev ≤ slice_index meets.outcome.revs g) (planned_rev0 setting state meets.puts meets.offers g within)
    (grows plan beats meets.items meets.outcome meets.late meets.sound meets.padded meets.ran g within)))

load_grows : (lists : Bool) (setting : Setting) (state : State) (g : ℕ) (force : Bool) (names : List (List ℕ)) (beats : List Beat) (did : Did) (answer : CommandAnswer)
    → RanGrows item_line lists → LoadRow lists setting state force names beats did answer → Grows state g did
load_grows lists setting state g force names beats did (Hot answer) grows row = absurd row.1
load_grows lists setting state g force names beats did (Load (load.Busy t)) grows row = only_grows state g did _ _ row.1
load_grows lists setting state g force names beats did (Load (load.ReadFault file)) grows row = only_grows state g did _ _ row.1.did_only
load_grows lists setting state g force names beats did (Load (load.BadFile file fault)) grows row = only_grows state g did _ _ row.1.did_only
load_grows lists setting state g force names beats did (Load load.NotFound) grows row = only_grows state g did _ _ row.1.did_only
load_grows lists setting state g force names beats did (Load (load.PoolFull needed)) grows row = only_grows state g did _ _ row.1.did_only
load_grows lists setting state g force names beats did answer grows row = met_grows lists setting state g force names beats did answer grows row.1

pub never_falls : machine.BringUpsNeverLower → NeverFalls
never_falls law lists setting state (command.Boot names) did g grows other step = boot_grows law setting state g names did did.answer step
never_falls law lists setting state (command.Load force names beats) did g grows other step = load_grows lists setting state g force names beats did did.answer grows step
never_falls law lists setting state (command.Online t) did g grows other step =
    let row : Result Hardware HotAnswer = calls.may_come_up state.hardware t in
    grows_as state g did _ step (bring_ups_grow state g (online_from setting state t row) (online_good law setting state t row (may_come_up_good state.hardware t)))
never_falls law lists setting state command.Resume did g grows other step =
    let row : Result Hardware HotAnswer = calls.wake state.hardware in
    grows_as state g did _ step
    (bring_ups_grow state g (resume_from (machine_of setting) (cached_patches state) state.hardware row)
    (resumed_good law (machine_of setting) (cached_patches state) state.hardware row (wake_good state.hardware)))
never_falls law lists setting state (command.Offline t) did g grows other step =
    grows_as state g did _ step (row_grows state g (calls.soft_offline state.hardware t) (soft_offline_good state.hardware t))
never_falls law lists setting state command.Suspend did g grows other step = absurd (other refl)
never_falls law lists setting state (command.Refuse core) did g grows other step = grows_as state g did (set_refusal setting state core true) step (le_refl _)
never_falls law lists setting state (command.Accept core) did g grows other step = grows_as state g did (set_refusal setting state core false) step (le_refl _)
