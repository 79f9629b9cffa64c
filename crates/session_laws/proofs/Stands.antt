-- Each command leads from a state that stands to one that does.
use Rattle.std.proofs.Common.{◌≡◌, ◌≢◌, ℕ, ◌<◌, ◌≤◌, Bool, true, false, not, ◌==◌, if◌then◌else◌, List, [], ◌∷◌, length, Option, Some, None, Result, Ok, Err, refl, sym, ap, ◌∙◌, ◌⊎◌, inl, inr, subst, arith}
use Rattle.std.proofs.lemmas.Bool.{true≢false, false≢true, cases_Bool, eq-eqb, eqb-false, not-false}
use Rattle.entry_model.specs.Entry.{Entry}
use Rattle.read_model.specs.Reads.{Read}
use Rattle.rendezvous_steps.specs.declared.ends.Beat.{Beat}
use Rattle.rendezvous_steps.specs.Plan.{Plan}
use Rattle.rendezvous_model.specs.Outcome.{Outcome}
use Rattle.region_steps.specs.Region.{Patches}
use Rattle.region_steps.proofs.Rows.{any_passes}
use Rattle.machine_steps.specs.declared.states.Power.TheVariants as power
use Rattle.machine_steps.specs.declared.states.ThreadState.TheVariants.{Offline}
use Rattle.machine_steps.specs.declared.answers.HotAnswer.{HotAnswer}
use Rattle.machine_steps.specs.declared.answers.HotAnswer.TheVariants as hot
use Rattle.machine_steps.specs.Hardware.{Hardware, is_off, is_on, is_asleep, is_up, with_power, with_thread, suspended, threads_of}
use Rattle.machine_steps.specs.Calls as calls
use Rattle.machine_steps.specs.BringUps.{AllBrought, bring_up_each, remembered_threads, resume_from}
use Rattle.machine_steps.specs.Puts.{Puts, first_of, is_at, is_cached, swept}
use Rattle.script_text.specs.declared.command.Command.TheVariants as command
use Rattle.session_text.specs.declared.answers.CommandAnswer.{CommandAnswer}
use Rattle.session_text.specs.declared.answers.CommandAnswer.TheVariants.{Done, Hot, Load}
use Rattle.session_text.specs.declared.answers.LoadAnswer.TheVariants as load
use Rattle.session_steps.specs.State.{Setting, State, machine_of, cached_patches}
use Rattle.session_steps.specs.Offers.{bytes_at, offer_of, plan_of}
use Rattle.session_steps.specs.Did.{Did, only, by_row, by_bring_ups, kept_where, cached_after, revision_after, loaded}
use Rattle.session_steps.specs.Step.{BootRow, LoadRow, Boots, Meets, booted, booted_patches, brought_at_boot, met, run_of, online_from, set_refusal}
use Rattle.session_laws.specs.Standing.{PatchesStand, Standing, OpeningStands, StepsStand}
use Rattle.session_laws.proofs.Threads.{Stand, off_is_not_on, all_stand, remembered_stand, power_stays, one_more_stands, one_down_stands, suspended_stands, switched_off_stands}
use Rattle.session_laws.proofs.Entries.{entries_have}
use Rattle.session_laws.proofs.Parts.{IsOffered, at_boot, at_load, something_is_on}
use Rattle.session_laws.proofs.Putting.{PutsStand, all_put_stand}

-- ---- commands that leave the region as it is

-- what is left stands
abbrev Stands : Setting → Did → Type 0
Stands setting did = Standing setting did.after

as_other : (setting : Setting) (did other : Did) → did ≡ other → Stands setting other → Stands setting did
as_other setting did other same stands = subst (Stands setting) (sym same) stands

only_stands : (setting : Setting) (state : State) (did : Did) (reads : List Read) (answer : CommandAnswer) →
    did ≡ only state reads answer → Standing setting state → Stands setting did
only_stands setting state did reads answer same stands = as_other setting did (only state reads answer) same stands

-- a machine that a command makes of one that stands, which is off only where that was
record Good (setting : Setting) (state : State) (new : Hardware) : Type 0 where
  threads : Stand (machine_of setting) new
  off : is_off new.power ≡ true → is_off state.hardware.power ≡ true

-- what holds of what comes of a row, where anything does
abbrev Each : (Hardware → Type 0) → Result Hardware HotAnswer → Type 0
Each P (Ok new) = P new
Each P (Err answer) = Unit {0}

abbrev GoodRise : Setting → State → Result AllBrought HotAnswer → Type 0
GoodRise setting state (Ok brought) = Good setting state brought.after
GoodRise setting state (Err answer) = Unit {0}

with_machine : (setting : Setting) (state : State) (new : Hardware) → Standing setting state →
    Good setting state new → Standing setting (record state { hardware = new })
with_machine setting state new stands good =
    record {
      threads = good.threads;
      patches = stands.patches;
      off_is_empty =
          λ off. stands.off_is_empty (good.off off);
    }

row_stands : (setting : Setting) (state : State) (row : Result Hardware HotAnswer) → Standing setting state →
    Each (Good setting state) row → Stands setting (by_row state row)
row_stands setting state (Ok new) stands good = with_machine setting state new stands good
row_stands setting state (Err answer) stands good = stands

rise_stands : (setting : Setting) (state : State) (row : Result AllBrought HotAnswer) → Standing setting state →
    GoodRise setting state row → Stands setting (by_bring_ups state row)
rise_stands setting state (Ok brought) stands good = with_machine setting state brought.after stands good
rise_stands setting state (Err answer) stands good = stands

-- a refusal, or what comes of a row where its test does not hold
unless_refused : (P : Hardware → Type 0) (test : Bool) (answer : HotAnswer) (row : Result Hardware HotAnswer) →
    (test ≡ false → Each P row) → Each P (calls.refuse_where test answer row)
unless_refused P true answer row holds = tt
unless_refused P false answer row holds = holds refl

never_off : (hardware : Hardware) → is_on hardware.power ≡ true → is_off hardware.power ≡ true → ⊥
never_off hardware on off = true≢false (sym on ∙ off_is_not_on hardware.power off)

offline_good : (setting : Setting) (state : State) (t : ℕ) → Standing setting state →
    Each (Good setting state) (calls.soft_offline state.hardware t)
offline_good setting state t stands =
    let old : Hardware = state.hardware in
    unless_refused (Good setting state) (not (is_on old.power)) hot.PoweredDown _
    (λ off. unless_refused (Good setting state) (t == 0) hot.BootThread _
    (λ other. unless_refused (Good setting state) (not (is_up (old.thread t))) (hot.NotUp t)
    (Ok (with_thread old t Offline))
    (λ down. record {
      threads = one_down_stands (machine_of setting) old t (not-false (is_on old.power) off) (eqb-false t 0 other)
          (not-false (is_up (old.thread t)) down) stands.threads;
      off = λ is. is;
    })))

suspend_good : (setting : Setting) (state : State) → Standing setting state →
    Each (Good setting state) (calls.suspend (machine_of setting) state.hardware)
suspend_good setting state stands =
    unless_refused (Good setting state) (not (is_on state.hardware.power)) hot.PoweredDown
    (Ok (suspended (machine_of setting) state.hardware))
    (λ off. record {
      threads = suspended_stands (machine_of setting) state.hardware
          (not-false (is_on state.hardware.power) off) stands.threads;
      off = λ is. absurd (false≢true is);
    })

-- a machine that may bring up a thread is as it was, and on; one that wakes slept
abbrev MayRise : Hardware → Hardware → Type 0
MayRise old new = (new ≡ old) × (is_on old.power ≡ true)

abbrev Wakes : Hardware → Hardware → Type 0
Wakes old new = (new ≡ with_power old power.On) × (is_asleep old.power ≡ true)

may_rise : (old : Hardware) (t : ℕ) → Each (MayRise old) (calls.may_come_up old t)
may_rise old t =
    unless_refused (MayRise old) (not (is_on old.power)) hot.PoweredDown _
    (λ off. unless_refused (MayRise old) (is_up (old.thread t)) (hot.IsUp t) (Ok old)
    (λ down. (refl, not-false (is_on old.power) off)))

wakes : (old : Hardware) → Each (Wakes old) (calls.wake old)
wakes old = unless_refused (Wakes old) (not (is_asleep old.power)) hot.NotAsleep (Ok (with_power old power.On))
    (λ awake. (refl, not-false (is_asleep old.power) awake))

online_good : (setting : Setting) (state : State) (t : ℕ) (row : Result Hardware HotAnswer) →
    t < (machine_of setting).threads → Standing setting state → Each (MayRise state.hardware) row →
    GoodRise setting state (online_from setting state t row)
online_good setting state t (Err answer) below stands may = tt
online_good setting state t (Ok new) below stands may =
    subst (λ (hardware : Hardware). Good setting state
    (bring_up_each (machine_of setting) (cached_patches state) hardware (t ∷ [])).after) (sym may.0)
    record {
      threads = one_more_stands (machine_of setting) (cached_patches state) state.hardware t below may.1 stands.threads;
      off = λ is. ap is_off (sym (power_stays (machine_of setting) (cached_patches state) state.hardware (t ∷ [])))
          ∙ is;
    }

resume_good : (setting : Setting) (state : State) (row : Result Hardware HotAnswer) →
    0 < (machine_of setting).threads → Standing setting state → Each (Wakes state.hardware) row
    → GoodRise setting state (resume_from (machine_of setting) (cached_patches state) state.hardware row)
resume_good setting state (Err answer) some stands woke = tt
resume_good setting state (Ok new) some stands woke =
    let ts : List ℕ = remembered_threads (machine_of setting) state.hardware in
    subst (λ (hardware : Hardware). Good setting state
    (bring_up_each (machine_of setting) (cached_patches state) hardware ts).after) (sym woke.0)
    record {
      threads = remembered_stand (machine_of setting) (cached_patches state) state.hardware some stands.threads woke.1;
      off = λ is. absurd (false≢true (ap is_off
          (sym (power_stays (machine_of setting) (cached_patches state) (with_power state.hardware power.On) ts))
          ∙ is));
    }

refusal_stands : (setting : Setting) (state : State) (core : ℕ) (on : Bool) → Standing setting state →
    Stands setting (set_refusal setting state core on)
refusal_stands setting state core on stands =
    record { threads = stands.threads; patches = stands.patches; off_is_empty = stands.off_is_empty }

-- ---- the region

pub cached_is : (groups : ℕ) (cached : ℕ → Option ℕ) (block g : ℕ) → g < groups → cached g ≡ Some block →
    is_cached groups cached block ≡ true
unfolding is_cached
cached_is groups cached block g below is =
    any_passes (λ g. is_at block (cached g)) 0 groups g (omega arith) (omega arith)
    (ap (is_at block) is ∙ eq-eqb block block refl)

not_none : (patch : Option (List ℕ)) (bytes : List ℕ) → patch ≡ Some bytes → patch ≢ None
not_none patch bytes is none = let wrong : Some bytes ≡ None = sym is ∙ none in absurd cc

-- a group caches its offer or what it cached before
by_test : (same : Bool) (new old : Option ℕ) (block : ℕ) → (if same then new else old) ≡ Some block →
    (new ≡ Some block) ⊎ (old ≡ Some block)
by_test true new old block is = inl is
by_test false new old block is = inr is

either : (offer new old : Option ℕ) (rev block : ℕ) → kept_where offer rev new old ≡ Some block → (new ≡ Some block)
    ⊎ (old ≡ Some block)
either None new old rev block is = inr is
either (Some offer) new old rev block is = by_test (offer == rev) new old block is

-- a sweep leaves what is cached, and nothing else
pub swept_stays : (groups : ℕ) (cached : ℕ → Option ℕ) (patches : Patches) (block : ℕ) →
    is_cached groups cached block ≡ true → swept groups cached patches block ≡ patches block
unfolding swept
swept_stays groups cached patches block is = rw is refl

swept_goes : (groups : ℕ) (cached : ℕ → Option ℕ) (patches : Patches) (block : ℕ) →
    is_cached groups cached block ≡ false → swept groups cached patches block ≡ None
unfolding swept
swept_goes groups cached patches block is = rw is refl

swept_stand : (groups : ℕ) (cached : ℕ → Option ℕ) (patches : Patches) →
    ((block : ℕ) (bytes : List ℕ) → patches block ≡ Some bytes → 8 ≤ length bytes) →
    ((g block : ℕ) → g < groups → cached g ≡ Some block → patches block ≢ None)
    → PatchesStand groups (swept groups cached patches) cached
swept_stand groups cached patches whole stand = record {
  whole = λ block bytes is. elim (cases_Bool (is_cached groups cached block)) [
    | inl stays ↦ whole block bytes (sym (swept_stays groups cached patches block stays) ∙ is)
    | inr goes ↦ let wrong : None ≡ Some bytes = sym (swept_goes groups cached patches block goes) ∙ is in absurd cc
  ];
  stand = λ g block below is none. stand g block below is
      (sym (swept_stays groups cached patches block (cached_is groups cached block g below is)) ∙ none);
  only = λ block some. elim (cases_Bool (is_cached groups cached block)) [
    | inl stays ↦ stays
    | inr goes ↦ absurd (some (swept_goes groups cached patches block goes))
  ];
}

module _ (setting : Setting) (state : State) (entries : List Entry) (offers : List (Option ℕ)) (puts : Puts)
    (stood : PatchesStand (machine_of setting).groups state.patches state.cached)
    (now : PutsStand setting.blocks (bytes_at entries) (IsOffered (machine_of setting).groups entries offers)
    (λ entry offered. offered.has.long) state.patches puts)
  where
    -- where the patch of an offer begins, one stands
    offer_stands : (offer : Option ℕ) (block : ℕ) → first_of puts offer ≡ Some block → puts.patches block ≢ None
    offer_stands None block is = absurd cc
    offer_stands (Some entry) block is = not_none (puts.patches block) (bytes_at entries entry)
        (now.there entry block is)

    -- each group caches its offer
    boot_patches_stand : ((block : ℕ) → state.patches block ≡ None) →
        PatchesStand (machine_of setting).groups puts.patches (λ g. first_of puts (offer_of offers g))
    boot_patches_stand empty = record {
      whole = now.whole;
      stand = λ g block below is. offer_stands (offer_of offers g) block is;
      only = λ block some. elim (now.only block some) [
        | inl before ↦ absurd (before (empty block))
        | inr put ↦ cached_is (machine_of setting).groups
            (λ g. first_of puts (offer_of offers g)) block put.offered.group put.offered.below
            (ap (first_of puts) put.offered.is ∙ put.place)
      ];
    }

    load_patches_stand : (plan : Plan) (outcome : Outcome) →
        PatchesStand (machine_of setting).groups (swept (machine_of setting).groups
        (cached_after state puts offers plan outcome) puts.patches) (cached_after state puts offers plan outcome)
    load_patches_stand plan outcome =
        swept_stand (machine_of setting).groups (cached_after state puts offers plan outcome) puts.patches now.whole
        (λ g block below is. elim (either (plan.offer g) (first_of puts (offer_of offers g)) (state.cached g)
        (revision_after state outcome g) block is) [
          | inl new ↦ offer_stands (offer_of offers g) block new
          | inr old ↦ now.kept block (stood.stand g block below old)
        ])

-- ---- boot and load

boots_stand : (setting : Setting) (state : State) (names : List (List ℕ)) (did : Did) →
    0 < (machine_of setting).threads → Standing setting state → is_off state.hardware.power ≡ true →
    Boots setting state names did → Stands setting did
unfolding booted
boots_stand setting state names did some stands off boots =
    let entries : List Entry = boots.entries in
    let offers : List (Option ℕ) = boots.offers in
    let have = entries_have names did.reads entries boots.read in
    let patches = booted_patches boots.puts offers in
    let now = all_put_stand setting.blocks (bytes_at entries) (IsOffered (machine_of setting).groups entries offers)
    (λ entry offered. offered.has.long) state.patches offers boots.puts stands.patches.whole
    (at_boot setting entries offers have boots.are_offers) boots.put in
    as_other setting did (booted setting state did.reads boots.puts offers
    (brought_at_boot setting state boots.puts offers)) boots.does
    record {
      threads = all_stand (machine_of setting) patches state.hardware some stands.threads
          (off_is_not_on state.hardware.power off);
      patches = boot_patches_stand setting state entries offers boots.puts stands.patches now (stands.off_is_empty off);
      off_is_empty = λ is. absurd (false≢true
          (ap is_off (sym (power_stays (machine_of setting) patches (with_power state.hardware power.On)
          (threads_of (machine_of setting)))) ∙ is));
    }

boot_stands : (setting : Setting) (state : State) (names : List (List ℕ)) (did : Did) (answer : CommandAnswer) →
    0 < (machine_of setting).threads → Standing setting state → BootRow setting state names did answer →
    Stands setting did
boot_stands setting state names did Done some stands row = boots_stand setting state names did some stands row.0 row.1
boot_stands setting state names did (Hot hot.Booted) some stands row = only_stands setting state did _ _ row.1 stands
boot_stands setting state names did (Hot (hot.NotUp t)) some stands row = absurd row.1
boot_stands setting state names did (Hot (hot.IsUp t)) some stands row = absurd row.1
boot_stands setting state names did (Hot hot.BootThread) some stands row = absurd row.1
boot_stands setting state names did (Hot hot.PoweredDown) some stands row = absurd row.1
boot_stands setting state names did (Hot hot.NotAsleep) some stands row = absurd row.1
boot_stands setting state names did (Load (load.ReadFault file)) some stands row =
    only_stands setting state did _ _ row.1.did_only stands
boot_stands setting state names did (Load (load.BadFile file fault)) some stands row =
    only_stands setting state did _ _ row.1.did_only stands
boot_stands setting state names did (Load (load.PoolFull needed)) some stands row =
    only_stands setting state did _ _ row.1.did_only stands
boot_stands setting state names did (Load answer) some stands row = absurd row.1

meets_stand : (lists : Bool) (setting : Setting) (state : State) (force : Bool) (names : List (List ℕ))
    (beats : List Beat) (did : Did) (answer : CommandAnswer) → Standing setting state
    → Meets lists setting state force names beats did answer → Stands setting did
unfolding met loaded
meets_stand lists setting state force names beats did answer stands meets =
    let entries : List Entry = meets.entries in
    let offers : List (Option ℕ) = meets.offers in
    let plan : Plan = plan_of setting state meets.puts offers in
    let have = entries_have names did.reads entries meets.read in
    let now = all_put_stand setting.blocks (bytes_at entries) (IsOffered (machine_of setting).groups entries offers)
    (λ entry offered. offered.has.long) state.patches offers meets.puts stands.patches.whole
    (at_load setting state force entries offers have meets.are_offers) meets.put in
    as_other setting did (met setting state did.reads entries meets.puts offers plan meets.items
    (run_of plan meets.outcome meets.late) answer) meets.does
    record {
      threads = stands.threads;
      patches = load_patches_stand setting state entries offers meets.puts stands.patches now plan meets.outcome;
      off_is_empty = λ off. absurd (never_off state.hardware
          (something_is_on setting state force entries offers stands meets.are_offers meets.something) off);
    }

load_stands : (lists : Bool) (setting : Setting) (state : State) (force : Bool) (names : List (List ℕ))
    (beats : List Beat) (did : Did) (answer : CommandAnswer) → Standing setting state
    → LoadRow lists setting state force names beats did answer → Stands setting did
load_stands lists setting state force names beats did (Hot answer) stands row = absurd row.1
load_stands lists setting state force names beats did (Load (load.Busy t)) stands row =
    only_stands setting state did _ _ row.1 stands
load_stands lists setting state force names beats did (Load (load.ReadFault file)) stands row =
    only_stands setting state did _ _ row.1.did_only stands
load_stands lists setting state force names beats did (Load (load.BadFile file fault)) stands row =
    only_stands setting state did _ _ row.1.did_only stands
load_stands lists setting state force names beats did (Load load.NotFound) stands row =
    only_stands setting state did _ _ row.1.did_only stands
load_stands lists setting state force names beats did (Load (load.PoolFull needed)) stands row =
    only_stands setting state did _ _ row.1.did_only stands
load_stands lists setting state force names beats did answer stands row =
    meets_stand lists setting state force names beats did answer stands row.1

pub steps_stand : StepsStand
steps_stand lists setting state (command.Boot names) did partition stands within step =
    boot_stands setting state names did did.answer partition.some_thread stands step
steps_stand lists setting state (command.Load force names beats) did partition stands within step =
    load_stands lists setting state force names beats did did.answer stands step
steps_stand lists setting state (command.Online t) did partition stands within step =
    let row : Result Hardware HotAnswer = calls.may_come_up state.hardware t in
    as_other setting did (by_bring_ups state (online_from setting state t row)) step
    (rise_stands setting state (online_from setting state t row) stands
    (online_good setting state t row within stands (may_rise state.hardware t)))
steps_stand lists setting state command.Resume did partition stands within step =
    let row : Result Hardware HotAnswer = calls.wake state.hardware in
    let all : Result AllBrought HotAnswer = resume_from (machine_of setting)
    (cached_patches state) state.hardware row in
    as_other setting did (by_bring_ups state all) step
    (rise_stands setting state all stands (resume_good setting state row partition.some_thread stands
    (wakes state.hardware)))
steps_stand lists setting state (command.Offline t) did partition stands within step =
    let row : Result Hardware HotAnswer = calls.soft_offline state.hardware t in
    as_other setting did (by_row state row) step
    (row_stands setting state row stands (offline_good setting state t stands))
steps_stand lists setting state command.Suspend did partition stands within step =
    let row : Result Hardware HotAnswer = calls.suspend (machine_of setting) state.hardware in
    as_other setting did (by_row state row) step
    (row_stands setting state row stands (suspend_good setting state stands))
steps_stand lists setting state (command.Refuse core) did partition stands within step =
    as_other setting did (set_refusal setting state core true) step (refusal_stands setting state core true stands)
steps_stand lists setting state (command.Accept core) did partition stands within step =
    as_other setting did (set_refusal setting state core false) step (refusal_stands setting state core false stands)

pub opening_stands : OpeningStands
opening_stands setting = record {
  threads = switched_off_stands (machine_of setting);
  patches = record {
    whole = λ block bytes is. absurd cc;
    stand = λ g block below is. absurd cc;
    only = λ block some. absurd (some refl);
  };
  off_is_empty = λ off block. refl;
}
