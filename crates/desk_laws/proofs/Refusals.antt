-- Which groups refuse a write, over the calls of a desk.
use Rattle.std.proofs.Common.{◌≡◌, ◌==◌, not, ℕ, Bool, true, false, List, [], ◌∷◌, Option, Some, None, Result, Ok, Err, refl, sym, ap, ◌∙◌}
use Rattle.session_steps.specs.rendezvous_steps.declared.ends.Beat.{Beat}
use Rattle.session_steps.specs.read_model.Reads.{Read}
use Rattle.session_steps.specs.machine_steps.declared.answers.HotAnswer.{HotAnswer}
use Rattle.session_steps.specs.machine_steps.declared.answers.HotAnswer.TheVariants as hot
use Rattle.session_steps.specs.machine_steps.declared.states.Power.TheVariants.{On}
use Rattle.session_steps.specs.machine_steps.declared.states.ThreadState.TheVariants.{Up}
use Rattle.session_steps.specs.machine_steps.declared.states.ThreadState.TheVariants.{Offline as Down}
use Rattle.session_steps.specs.machine_steps.Hardware as hardware
use Rattle.session_steps.specs.machine_steps.Hardware.{Hardware, is_on, is_up, threads_of, with_power, with_thread}
use Rattle.session_steps.specs.machine_steps.Calls.{refuse_where, unless, soft_offline, may_come_up}
use Rattle.session_steps.specs.machine_steps.BringUps.{AllBrought, CachedPatches, brought, bring_up, bring_up_each, to_write}
use Rattle.session_steps.specs.script_text.declared.command.Command.TheVariants as command
use Rattle.session_steps.specs.session_text.declared.answers.CommandAnswer.{CommandAnswer}
use Rattle.session_steps.specs.session_text.declared.answers.CommandAnswer.TheVariants.{Done, Hot, Load}
use Rattle.session_steps.specs.session_text.declared.answers.LoadAnswer.TheVariants as load
use Rattle.session_steps.specs.State.{Setting, State, machine_of, opening_state, cached_patches}
use Rattle.session_steps.specs.Did.{Did, only, by_row, by_bring_ups, loaded}
use Rattle.session_steps.specs.Step.{BootRow, Boots, LoadRow, Meets, online_from, booted, booted_patches, met}
use Rattle.desk_steps.specs.declared.calls.DeskCall.{DeskCall}
use Rattle.desk_steps.specs.declared.calls.DeskCall.TheVariants.{Reload, Online, Offline, Version}
use Rattle.desk_steps.specs.declared.calls.DeskReply.{DeskReply}
use Rattle.desk_steps.specs.declared.calls.DeskEntry.{DeskEntry}
use Rattle.desk_steps.specs.Run.{CallLeads, EntriesLead}
use Rattle.desk_laws.specs.Laws.{NoneRefuses}

-- the groups that refuse are those that did
abbrev Same : Hardware → Hardware → Type 0
Same old new = new.refuses ≡ old.refuses

abbrev Keeps : State → Did → Type 0
Keeps state did = Same state.hardware did.after.hardware

-- what a command did is something that keeps them
keeps_as : (state : State) (did other : Did) → did ≡ other → Keeps state other → Keeps state did
keeps_as state did other same keeps = ap (λ (d : Did). d.after.hardware.refuses) same ∙ keeps

keeps_only : (state : State) (did : Did) (reads : List Read) (answer : CommandAnswer) → did ≡ only state reads answer →
    Keeps state did
keeps_only state did reads answer same = ap (λ (d : Did). d.after.hardware.refuses) same

-- ---- threads that come up

brought_keeps : (old : Hardware) (t g : ℕ) (new : Option ℕ) (refuses : Bool) → Same old (brought old t g new refuses).after
brought_keeps old t g None refuses = refl
brought_keeps old t g (Some new) true = refl
brought_keeps old t g (Some new) false = refl

each_keeps : (setting : hardware.Setting) (patches : CachedPatches) (old : Hardware) (ts : List ℕ) →
    Same old (bring_up_each setting patches old ts).after
each_keeps setting patches old [] = refl
each_keeps setting patches old (t ∷ ts) =
    each_keeps setting patches (bring_up setting patches old t).after ts
    ∙ brought_keeps (with_thread old t Up) t (setting.group t)
    (to_write setting patches old (setting.group t)) (old.refuses (setting.group t))

-- ---- the commands

-- what a row makes of a machine keeps them, where it makes one
abbrev RowKeeps : Hardware → Result Hardware HotAnswer → Type 0
RowKeeps old (Ok new) = Same old new
RowKeeps old (Err answer) = Unit {0}

row_keeps : (state : State) (row : Result Hardware HotAnswer) → RowKeeps state.hardware row → Keeps state (by_row state row)
row_keeps state (Ok new) keeps = keeps
row_keeps state (Err answer) keeps = refl

refused_keeps : (old : Hardware) (test : Bool) (answer : HotAnswer) (row : Result Hardware HotAnswer) → RowKeeps old row →
    RowKeeps old (refuse_where test answer row)
refused_keeps old true answer row keeps = tt
refused_keeps old false answer row keeps = keeps

unless_keeps : (old : Hardware) (refusals : List (Bool × HotAnswer)) (new : Hardware) → Same old new →
    RowKeeps old (unless refusals new)
unless_keeps old [] new keeps = keeps
unless_keeps old (refusal ∷ refusals) new keeps =
    refused_keeps old refusal.0 refusal.1 (unless refusals new) (unless_keeps old refusals new keeps)

offline_keeps : (old : Hardware) (t : ℕ) → RowKeeps old (soft_offline old t)
offline_keeps old t =
    unless_keeps old
    ((not (is_on old.power), hot.PoweredDown) ∷ (t == 0, hot.BootThread) ∷ (not (is_up (old.thread t)), hot.NotUp t) ∷ [])
    (with_thread old t Down) refl

may_keeps : (old : Hardware) (t : ℕ) → RowKeeps old (may_come_up old t)
may_keeps old t =
    unless_keeps old ((not (is_on old.power), hot.PoweredDown) ∷ (is_up (old.thread t), hot.IsUp t) ∷ []) old refl

online_keeps : (setting : Setting) (state : State) (t : ℕ) (row : Result Hardware HotAnswer) →
    RowKeeps state.hardware row → Keeps state (by_bring_ups state (online_from setting state t row))
online_keeps setting state t (Ok new) keeps =
    each_keeps (machine_of setting) (cached_patches state) new (t ∷ []) ∙ keeps
online_keeps setting state t (Err answer) keeps = refl

boots_keep : (setting : Setting) (state : State) (names : List (List ℕ)) (did : Did) → Boots setting state names did →
    Keeps state did
unfolding booted
boots_keep setting state names did boots =
    keeps_as state did _ boots.does
    (each_keeps (machine_of setting) (booted_patches boots.puts boots.offers) (with_power state.hardware On)
    (threads_of (machine_of setting)))

meets_keep : (lists : Bool) (setting : Setting) (state : State) (force : Bool) (names : List (List ℕ))
    (beats : List Beat) (did : Did) (answer : CommandAnswer) →
    Meets lists setting state force names beats did answer → Keeps state did
unfolding met loaded
meets_keep lists setting state force names beats did answer meets = keeps_as state did _ meets.does refl

boot_keeps : (setting : Setting) (state : State) (names : List (List ℕ)) (did : Did) (answer : CommandAnswer) →
    BootRow setting state names did answer → Keeps state did
boot_keeps setting state names did Done row = boots_keep setting state names did row.1
boot_keeps setting state names did (Hot hot.Booted) row = keeps_only state did _ _ row.1
boot_keeps setting state names did (Hot (hot.NotUp t)) row = absurd row.1
boot_keeps setting state names did (Hot (hot.IsUp t)) row = absurd row.1
boot_keeps setting state names did (Hot hot.BootThread) row = absurd row.1
boot_keeps setting state names did (Hot hot.PoweredDown) row = absurd row.1
boot_keeps setting state names did (Hot hot.NotAsleep) row = absurd row.1
boot_keeps setting state names did (Load (load.ReadFault file)) row = keeps_only state did _ _ row.1.did_only
boot_keeps setting state names did (Load (load.BadFile file fault)) row = keeps_only state did _ _ row.1.did_only
boot_keeps setting state names did (Load (load.PoolFull needed)) row = keeps_only state did _ _ row.1.did_only
boot_keeps setting state names did (Load load.NotFound) row = absurd row.1
boot_keeps setting state names did (Load (load.Busy t)) row = absurd row.1
boot_keeps setting state names did (Load answer) row = absurd row.1

load_keeps : (lists : Bool) (setting : Setting) (state : State) (force : Bool) (names : List (List ℕ))
    (beats : List Beat) (did : Did) (answer : CommandAnswer) →
    LoadRow lists setting state force names beats did answer → Keeps state did
load_keeps lists setting state force names beats did (Hot answer) row = absurd row.1
load_keeps lists setting state force names beats did (Load (load.Busy t)) row = keeps_only state did _ _ row.1
load_keeps lists setting state force names beats did (Load (load.ReadFault file)) row =
    keeps_only state did _ _ row.1.did_only
load_keeps lists setting state force names beats did (Load (load.BadFile file fault)) row =
    keeps_only state did _ _ row.1.did_only
load_keeps lists setting state force names beats did (Load load.NotFound) row = keeps_only state did _ _ row.1.did_only
load_keeps lists setting state force names beats did (Load (load.PoolFull needed)) row =
    keeps_only state did _ _ row.1.did_only
load_keeps lists setting state force names beats did Done row =
    meets_keep lists setting state force names beats did Done row.1
load_keeps lists setting state force names beats did (Load answer) row =
    meets_keep lists setting state force names beats did (Load answer) row.1

-- ---- the calls

call_keeps : (setting : Setting) (file : List ℕ) (old : State) (call : DeskCall) (reply : DeskReply) (new : State) →
    CallLeads setting file old call reply new → Same old.hardware new.hardware
call_keeps setting file old Reload reply new leads =
    ap (λ (s : State). s.hardware.refuses) leads.leaves
    ∙ load_keeps true setting old false _ _ leads.did leads.did.answer leads.step
call_keeps setting file old (Online t) reply new leads =
    ap (λ (s : State). s.hardware.refuses) leads.leaves
    ∙ keeps_as old leads.did _ leads.step
    (online_keeps setting old t (may_come_up old.hardware t) (may_keeps old.hardware t))
call_keeps setting file old (Offline t) reply new leads =
    ap (λ (s : State). s.hardware.refuses) leads.leaves
    ∙ keeps_as old leads.did _ leads.step
    (row_keeps old (soft_offline old.hardware t) (offline_keeps old.hardware t))
call_keeps setting file old (Version g) reply new leads = ap (λ (s : State). s.hardware.refuses) leads.1

entries_keep : (setting : Setting) (file : List ℕ) (old : State) (entries : List DeskEntry) (new : State) →
    EntriesLead setting file old entries new → Same old.hardware new.hardware
entries_keep setting file old [] new led = ap (λ (s : State). s.hardware.refuses) led
entries_keep setting file old (entry ∷ entries) new led =
    entries_keep setting file led.0 entries new led.2
    ∙ call_keeps setting file old entry.call entry.reply led.0 led.1.call_leads

pub none_refuses : NoneRefuses
none_refuses setting file entries state run g =
    ap (λ (refuses : ℕ → Bool). refuses g)
    (entries_keep setting file run.boot.after entries state run.led
    ∙ boot_keeps setting (opening_state setting) [] run.boot run.boot.answer run.booted)
