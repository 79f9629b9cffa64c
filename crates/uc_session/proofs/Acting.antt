-- What a command did in which no rendezvous ran, as a step of a session.
use Rattle.std.proofs.Common.{◌≡◌, ℕ, Bool, true, false, List, [], Option, refl, sym, ap, ◌∙◌, subst}
use Rattle.std.proofs.lemmas.List.Elements.{All-nil}
use Rattle.uc_io.specs.Faults.{Rose}
use Rattle.uc_bytes.specs.declared.causes.FileFault.{FileFault}
use Rattle.session_steps.specs.read_model.Reads.{Read}
use Rattle.session_steps.specs.script_text.declared.command.Command.{Command}
use Rattle.session_steps.specs.script_text.declared.command.Command.TheVariants as command
use Rattle.session_steps.specs.machine_steps.declared.answers.HotAnswer.TheVariants.{Booted}
use Rattle.session_steps.specs.machine_steps.declared.bring_ups.BringUp.{BringUp}
use Rattle.session_steps.specs.machine_steps.Hardware.{is_off}
use Rattle.session_steps.specs.machine_steps.BringUps.{AllBrought}
use Rattle.session_steps.specs.machine_steps.Puts.{Puts}
use Rattle.session_steps.specs.region_steps.Region.{Patches}
use Rattle.session_steps.specs.session_text.declared.answers.CommandAnswer.{CommandAnswer}
use Rattle.session_steps.specs.session_text.declared.answers.CommandAnswer.TheVariants.{Done, Hot, Load}
use Rattle.session_steps.specs.session_text.declared.answers.LoadAnswer.TheVariants as load
use Rattle.session_steps.specs.State.{Setting, State}
use Rattle.session_steps.specs.Did.{Did, only, ups_text}
use Rattle.session_steps.specs.Step.{SessionStep, ReadAll, booted, brought_at_boot}
use Rattle.session_steps.specs.Calls.{HeldWhere}
use Rattle.session_steps.specs.Played.{FileCause, is_read_fault}
use Rattle.update_reads.specs.Reading.{IsOfFiles, UnreadAt, RefusedAt}
use Rattle.update_reads.proofs.Files.{all_entries}
use Rattle.uc_catalog.specs.Contents.{Contents}
use Rattle.uc_session.specs.declared.acted.Acted.{Acted}
use Rattle.uc_session.specs.Acts.{Stage, Acts, did_by}
use Rattle.uc_session.specs.Boots.{BootsTo}

-- ---- what was done, as a record of it

-- an answer alone
is_only : (reads : List Read) (acted : Acted) (old new : State) (answer : CommandAnswer) →
    acted.ups.items ≡ [] → acted.answer ≡ answer → new ≡ old → only old reads answer ≡ did_by reads acted new
is_only reads acted old new answer none is same =
    ap (λ (after : State). only after reads answer) (sym same)
    ∙ ap (λ (a : CommandAnswer). only new reads a) (sym is)
    ∙ ap (λ (ups : List BringUp). record (only new reads acted.answer) { told = ups_text ups }) (sym none)

-- ---- commands that read files

module _ (held : List Read → Type 0) (setting : Setting) (one : Command) (before now : Stage) (acted : Acted) where
  -- what was done is a step
  by_step : (reads : List Read) (did : Did) → did ≡ did_by reads acted now.state → held reads →
      ((lists : Bool) → SessionStep lists setting before.state one did) →
      FileCause (is_read_fault did.answer) before.files now.files → Acts held setting one before now acted
  by_step reads did same is_held step cause = record {
    reads = reads;
    is_held = is_held;
    step = λ lists. subst (SessionStep lists setting before.state one) same (step lists);
    cause = subst (λ (done : Did). FileCause (is_read_fault done.answer) before.files now.files) same cause;
  }

  -- an answer is a step
  pub by_answer : (reads : List Read) (answer : CommandAnswer) → acted.ups.items ≡ [] → acted.answer ≡ answer →
      now.state ≡ before.state → held reads →
      ((lists : Bool) → SessionStep lists setting before.state one (only before.state reads answer)) →
      FileCause (is_read_fault answer) before.files now.files → Acts held setting one before now acted
  by_answer reads answer none is same is_held step cause =
      by_step reads (only before.state reads answer)
      (is_only reads acted before.state now.state answer none is same) is_held step cause

module _ (tells : Type 0) (holds : List ℕ → List ℕ) (setting : Setting) (names : List (List ℕ)) (before now : Stage) (acted : Acted) where
  pub boot_was_booted : is_off before.state.hardware.power ≡ false → now.files ≡ before.files → acted.ups.items ≡ [] →
      acted.answer ≡ Hot Booted → now.state ≡ before.state →
      Acts (HeldWhere tells holds) setting (command.Boot names) before now acted
  boot_was_booted on still none is same =
      by_answer (HeldWhere tells holds) setting (command.Boot names) before now acted [] (Hot Booted) none is same
      (λ told. All-nil (λ (read : Read). read.bytes ≡ holds read.name)) (λ lists. (on, refl)) still

  pub boot_unread : (file : ℕ) → is_off before.state.hardware.power ≡ true → Rose before.files now.files →
      UnreadAt tells names holds file → acted.ups.items ≡ [] → acted.answer ≡ Load (load.ReadFault file) →
      now.state ≡ before.state → Acts (HeldWhere tells holds) setting (command.Boot names) before now acted
  boot_unread file off rose unread none is same =
      by_answer (HeldWhere tells holds) setting (command.Boot names) before now acted unread.reads
      (Load (load.ReadFault file)) none is same unread.held
      (λ lists. (off, record { name = unread.name; come = unread.come; place = unread.place; did_only = refl }))
      rose

  pub boot_bad : (file : ℕ) (fault : FileFault) → is_off before.state.hardware.power ≡ true → now.files ≡ before.files →
      RefusedAt tells names holds file fault → acted.ups.items ≡ [] → acted.answer ≡ Load (load.BadFile file fault) →
      now.state ≡ before.state → Acts (HeldWhere tells holds) setting (command.Boot names) before now acted
  boot_bad file fault off still bad none is same =
      by_answer (HeldWhere tells holds) setting (command.Boot names) before now acted bad.reads
      (Load (load.BadFile file fault)) none is same bad.held
      (λ lists. (off, record { name = bad.name; come = bad.come; place = bad.place; did_only = refl }))
      still

  module _ (contents : Contents) (off : is_off before.state.hardware.power ≡ true) (still : now.files ≡ before.files) (read : IsOfFiles tells names holds contents) (keep : contents.keeps ≡ true) where
    all_read : ReadAll names read.reads contents.entries
    all_read = record { readings = read.readings; come = (read.in_order, read.accepted); all = all_entries tells names holds contents read keep }

    full : (needed : ℕ) → BootsTo setting contents.entries before.state now.state acted (Load (load.PoolFull needed)) →
        acted.answer ≡ Load (load.PoolFull needed) → Acts (HeldWhere tells holds) setting (command.Boot names) before now acted
    full needed is answer =
        by_answer (HeldWhere tells holds) setting (command.Boot names) before now acted read.reads (Load (load.PoolFull needed)) is.none_up answer
        is.same read.held
        (λ lists. (
          off,
          record {
            entries = contents.entries;
            read = all_read;
            offers = is.offers;
            are_offers = is.are_offers;
            full = is.full;
            did_only = refl;
          },
        ))
        still

    -- what a boot that was done leaves
    is_booted : (reads : List Read) (puts : Puts) (offers : List (Option ℕ)) (brought : AllBrought) →
        record { ups = acted.ups.items; after = now.state.hardware } ≡ brought → now.state.patches ≡ puts.patches →
        now.state.cached ≡ (booted setting before.state reads puts offers brought).after.cached → acted.answer ≡ Done →
        booted setting before.state reads puts offers brought ≡ did_by reads acted now.state
    unfolding booted
    is_booted reads puts offers brought same patches cached done =
        ap (λ (all : AllBrought). booted setting before.state reads puts offers all) (sym same)
        ∙ ap (λ (p : Patches). record (did_by reads acted now.state) { answer = Done; after = record now.state { patches = p; cached = (booted setting before.state reads puts offers brought).after.cached } }) (sym patches)
        ∙ ap (λ (c : ℕ → Option ℕ). record (did_by reads acted now.state) { answer = Done; after = record now.state { cached = c } }) (sym cached)
        ∙ ap (λ (a : CommandAnswer). record (did_by reads acted now.state) { answer = a }) (sym done)

    done : BootsTo setting contents.entries before.state now.state acted Done → acted.answer ≡ Done →
        Acts (HeldWhere tells holds) setting (command.Boot names) before now acted
    unfolding booted
    done is answer =
        by_step (HeldWhere tells holds) setting (command.Boot names) before now acted read.reads
        (booted setting before.state read.reads is.booted.puts is.offers (brought_at_boot setting before.state is.booted.puts is.offers))
        (is_booted read.reads is.booted.puts is.offers (brought_at_boot setting before.state is.booted.puts is.offers) is.booted.brought is.booted.patches (is.booted.cached ∙ refl) answer)
        read.held
        (λ lists. (
          off,
          record {
            entries = contents.entries;
            read = all_read;
            offers = is.offers;
            are_offers = is.are_offers;
            puts = is.booted.puts;
            put = is.booted.put;
            does = refl;
          },
        ))
        still

    pub boot_read : (answer : CommandAnswer) → acted.answer ≡ answer → BootsTo setting contents.entries before.state now.state acted answer →
        Acts (HeldWhere tells holds) setting (command.Boot names) before now acted
    boot_read Done same is = done is same
    boot_read (Hot answer) same is = absurd is
    boot_read (Load (load.PoolFull needed)) same is = full needed is same
    boot_read (Load load.Done) same is = absurd is
    boot_read (Load (load.Busy t)) same is = absurd is
    boot_read (Load (load.ReadFault file)) same is = absurd is
    boot_read (Load (load.BadFile file fault)) same is = absurd is
    boot_read (Load load.NotFound) same is = absurd is
    boot_read (Load (load.Panicked t)) same is = absurd is
    boot_read (Load (load.Unfinished t)) same is = absurd is
    boot_read (Load (load.OfflineSilent kicks)) same is = absurd is
    boot_read (Load (load.TimedOut t)) same is = absurd is
    boot_read (Load (load.Failed t)) same is = absurd is
    boot_read (Load (load.Incomplete t)) same is = absurd is
