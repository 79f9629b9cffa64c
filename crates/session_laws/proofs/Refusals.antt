-- What a refusal leaves.
use Rattle.std.proofs.Common.{◌≡◌, ℕ, Bool, true, false, List, Result, Ok, Err, refl, sym, ap, subst, true≢false}
use Rattle.rendezvous_steps.specs.declared.ends.Beat.{Beat}
use Rattle.read_model.specs.Reads.{Read}
use Rattle.machine_steps.specs.declared.answers.HotAnswer.{HotAnswer}
use Rattle.machine_steps.specs.declared.answers.HotAnswer.TheVariants as hot
use Rattle.machine_steps.specs.Hardware.{Hardware}
use Rattle.machine_steps.specs.BringUps.{AllBrought}
use Rattle.script_text.specs.declared.command.Command.TheVariants as command
use Rattle.session_text.specs.declared.answers.CommandAnswer.{CommandAnswer}
use Rattle.session_text.specs.declared.answers.CommandAnswer.TheVariants.{Done, Hot, Load}
use Rattle.session_text.specs.declared.answers.LoadAnswer.TheVariants as load
use Rattle.session_steps.specs.State.{Setting, State}
use Rattle.session_steps.specs.Did.{Did, only, by_row, by_bring_ups}
use Rattle.session_steps.specs.Step.{BootRow, LoadRow, set_refusal}
use Rattle.session_laws.specs.Laws.{is_refusal, RefusalsKeep}

-- what a command did that leaves the state where it is refused
abbrev Keeps : State → Did → Type 0
Keeps state did = is_refusal did.answer ≡ true → did.after ≡ state

row_keeps : (state : State) (row : Result Hardware HotAnswer) → Keeps state (by_row state row)
row_keeps state (Ok hardware) refused = absurd (true≢false (sym refused))
row_keeps state (Err answer) refused = refl

bring_ups_keep : (state : State) (row : Result AllBrought HotAnswer) → Keeps state (by_bring_ups state row)
bring_ups_keep state (Ok brought) refused = absurd (true≢false (sym refused))
bring_ups_keep state (Err answer) refused = refl

keeps_as : (state : State) (did other : Did) → did ≡ other → Keeps state other → Keeps state did
keeps_as state did other same keeps = subst (Keeps state) (sym same) keeps

-- the answer and the state afterwards of what a command did, where it did only answer
after_only : (state : State) (did : Did) (reads : List Read) (answer : CommandAnswer) → did ≡ only state reads answer → did.after ≡ state
after_only state did reads answer same = ap (λ (d : Did). d.after) same

boot_keeps : (setting : Setting) (state : State) (names : List (List ℕ)) (did : Did) (answer : CommandAnswer) → BootRow setting state names did answer → is_refusal answer ≡ true → did.after ≡ state
boot_keeps setting state names did Done row refused = absurd (true≢false (sym refused))
boot_keeps setting state names did (Hot hot.Booted) row refused = after_only state did _ _ row.1
boot_keeps setting state names did (Hot (hot.NotUp t)) row refused = absurd row.1
boot_keeps setting state names did (Hot (hot.IsUp t)) row refused = absurd row.1
boot_keeps setting state names did (Hot hot.BootThread) row refused = absurd row.1
boot_keeps setting state names did (Hot hot.PoweredDown) row refused = absurd row.1
boot_keeps setting state names did (Hot hot.NotAsleep) row refused = absurd row.1
boot_keeps setting state names did (Load (load.ReadFault file)) row refused = after_only state did _ _ row.1.did_only
boot_keeps setting state names did (Load (load.BadFile file fault)) row refused = after_only state did _ _ row.1.did_only
boot_keeps setting state names did (Load (load.PoolFull needed)) row refused = after_only state did _ _ row.1.did_only
boot_keeps setting state names did (Load load.NotFound) row refused = absurd row.1
boot_keeps setting state names did (Load (load.Busy t)) row refused = absurd row.1
boot_keeps setting state names did (Load answer) row refused = absurd row.1

load_keeps : (lists : Bool) (setting : Setting) (state : State) (force : Bool) (names : List (List ℕ)) (beats : List Beat) (did : Did) (answer : CommandAnswer)
    → LoadRow lists setting state force names beats did answer → is_refusal answer ≡ true → did.after ≡ state
load_keeps lists setting state force names beats did (Hot answer) row refused = absurd row.1
load_keeps lists setting state force names beats did (Load (load.Busy t)) row refused = after_only state did _ _ row.1
load_keeps lists setting state force names beats did (Load (load.ReadFault file)) row refused = after_only state did _ _ row.1.did_only
load_keeps lists setting state force names beats did (Load (load.BadFile file fault)) row refused = after_only state did _ _ row.1.did_only
load_keeps lists setting state force names beats did (Load load.NotFound) row refused = after_only state did _ _ row.1.did_only
load_keeps lists setting state force names beats did (Load (load.PoolFull needed)) row refused = after_only state did _ _ row.1.did_only
load_keeps lists setting state force names beats did answer row refused = absurd (true≢false (sym refused))

pub refusals_keep : RefusalsKeep
refusals_keep lists setting state (command.Boot names) did step refused = boot_keeps setting state names did did.answer step refused
refusals_keep lists setting state (command.Load force names beats) did step refused = load_keeps lists setting state force names beats did did.answer step refused
refusals_keep lists setting state (command.Online t) did step refused = keeps_as state did _ step (bring_ups_keep state _) refused
refusals_keep lists setting state command.Resume did step refused = keeps_as state did _ step (bring_ups_keep state _) refused
refusals_keep lists setting state (command.Offline t) did step refused = keeps_as state did _ step (row_keeps state _) refused
refusals_keep lists setting state command.Suspend did step refused = keeps_as state did _ step (row_keeps state _) refused
refusals_keep lists setting state (command.Refuse core) did step refused = keeps_as state did (set_refusal setting state core true) step (λ set. absurd (true≢false (sym set))) refused
refusals_keep lists setting state (command.Accept core) did step refused = keeps_as state did (set_refusal setting state core false) step (λ set. absurd (true≢false (sym set))) refused
