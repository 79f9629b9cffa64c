-- Every command does something in every state that stands.
use Rattle.std.proofs.Common.{◌≡◌, ◌&&◌, ◌⊎◌, ℕ, zero, suc, ◌<◌, Bool, true, false, List, [], ◌∷◌, length, map, Option, Some, None, Result, Ok, Err, refl, sym, ap, ◌∙◌, subst, inl, inr, arith, length-append}
use Rattle.std.specs.List.{All, range_with_len}
use Rattle.std.proofs.lemmas.Bool.{cases_Bool}
use Rattle.std.proofs.lemmas.List.Elements.{All-head, All-tail}
use Rattle.std.proofs.lemmas.List.FromFn.{get_or-map-range_with_len, length-map-range_with_len}
use Rattle.uc_bytes.specs.declared.causes.FileCause.{FileCause}
use Rattle.uc_topology.specs.Stated.{IsPartition, group_count}
use Rattle.entry_model.specs.declared.facts.CoreFacts.{CoreFacts}
use Rattle.entry_model.specs.Entry.{Entry, entries_from}
use Rattle.entry_model.specs.Selection.{IsOffer}
use Rattle.entry_laws.proofs.Offers.{some_offer}
use Rattle.read_model.specs.Reads.{Read, AreHeld, Outcome, AllRead, NotRead, Refused, Reads, count_of}
use Rattle.read_model.proofs.Outcomes.{some_outcome, held_nil, held_append}
use Rattle.report_text.specs.Offers.{AreOffers, facts_of_group}
use Rattle.rendezvous_steps.specs.declared.ends.Beat.{Beat}
use Rattle.rendezvous_steps.specs.Plan.{Plan, Sound}
use Rattle.rendezvous_steps.specs.Padded.{Padded}
use Rattle.rendezvous_model.specs.Verdict.{Verdict, load_verdict}
use Rattle.rendezvous_model.specs.Verdict as verdict
use Rattle.rendezvous_rule.specs.Runs.{AlwaysRuns, SomeRun}
use Rattle.round_laws.specs.Laws.{VerdictHolds}
use Rattle.rendezvous_steps.specs.ItemText.{item_line}
use Rattle.machine_steps.specs.declared.answers.HotAnswer.{HotAnswer}
use Rattle.machine_steps.specs.declared.answers.HotAnswer.TheVariants as hot
use Rattle.machine_steps.specs.Hardware.{Hardware, is_off}
use Rattle.machine_steps.specs.Calls as calls
use Rattle.machine_steps.specs.BringUps.{AllBrought, resume}
use Rattle.machine_steps.specs.Puts.{Puts, no_puts, put_offers}
use Rattle.script_text.specs.declared.command.Command.{Command}
use Rattle.script_text.specs.declared.command.Command.TheVariants as command
use Rattle.session_text.specs.declared.answers.CommandAnswer.{CommandAnswer}
use Rattle.session_text.specs.declared.answers.CommandAnswer.TheVariants.{Hot, Load}
use Rattle.session_text.specs.declared.answers.LoadAnswer.TheVariants as load
use Rattle.session_text.specs.declared.answers.SessionAnswer.{SessionAnswer}
use Rattle.session_steps.specs.State.{Setting, State, machine_of, cached_patches, takes_part, first_missing}
use Rattle.session_steps.specs.Offers.{bytes_at, offer_of, facts_now, IsOfferWhere, AreLoadOffers, NothingOffered, SomethingOffered, plan_of}
use Rattle.session_steps.specs.Did.{Did, only, by_row, by_bring_ups}
use Rattle.session_steps.specs.Step.{ReadAll, StopsRefused, BootRow, LoadRow, Meets, AllPresent, booted, brought_at_boot, met, run_of, answer_of, online, set_refusal}
use Rattle.session_steps.specs.Session.{StepsFrom, ends_session, left_to_run, all_reads, is_done, all_done, ended_by, or_else, first_end, answer_by}
use Rattle.session_steps.specs.Played.{is_read_fault}
use Rattle.session_steps.specs.Whole.{is_unread}
use Rattle.session_laws.specs.Standing.{Standing, InRange, StepsStand}
use Rattle.session_laws.specs.Plans.{PlansSound}
use Rattle.command_laws.specs.Steps.{SomeStep, StepsExist, SomeSteps, SessionsExist}

-- ---- offers for all groups

-- a list with an offer for each group, as each may have
record SomeList (count : ℕ) (Fits : ℕ → Option ℕ → Type 0) : Type 0 where
  offers : List (Option ℕ)
  count_is : length offers ≡ count
  each : (g : ℕ) → g < count → Fits g (offer_of offers g)

some_list : (count : ℕ) (Fits : ℕ → Option ℕ → Type 0) → ((g : ℕ) → (offer : Option ℕ) × Fits g offer) →
    SomeList count Fits
some_list count Fits some = record {
  offers = map (λ g. (some g).0) (range_with_len 0 count);
  count_is = length-map-range_with_len (λ g. (some g).0) 0 count;
  each = λ g below. subst (Fits g) (sym
      (get_or-map-range_with_len (λ g. (some g).0) 0 count g g None below (omega arith))) (some g).1;
}

some_where : (part : Bool) (entries : List Entry) (core : CoreFacts) (force : Bool) →
    (offer : Option ℕ) × IsOfferWhere part entries core force offer
some_where true entries core force = some_offer entries core force
some_where false entries core force = (None, refl)

later : (offers : List (Option ℕ)) → NothingOffered offers → NothingOffered (None ∷ offers)
later offers none zero below = refl
later offers none (suc g) below = none g (omega (arith, below))

something_or_nothing : (offers : List (Option ℕ)) → SomethingOffered offers ⊎ NothingOffered offers
something_or_nothing [] = inr (λ g below. absurd (omega (arith, below)))
something_or_nothing (Some entry ∷ offers) = inl (record { group = 0; entry = entry; is_offered = refl })
something_or_nothing (None ∷ offers) = elim (something_or_nothing offers) [
  | inl some ↦ inl (record { group = suc some.group; entry = some.entry; is_offered = some.is_offered })
  | inr none ↦ inr (later offers none)
]

-- ---- rows that read nothing

module _ (lists : Bool) (setting : Setting) (state : State) (holds : List ℕ → List ℕ) where
  by_row_held : (row : Result Hardware HotAnswer) →
      AreHeld holds (by_row state row).reads × (is_read_fault (by_row state row).answer ≡ false)
  by_row_held (Ok new) = (held_nil holds, refl)
  by_row_held (Err answer) = (held_nil holds, refl)

  by_bring_ups_held : (row : Result AllBrought HotAnswer) →
      AreHeld holds (by_bring_ups state row).reads × (is_read_fault (by_bring_ups state row).answer ≡ false)
  by_bring_ups_held (Ok brought) = (held_nil holds, refl)
  by_bring_ups_held (Err answer) = (held_nil holds, refl)

  -- what a boot or a load may do
  record SomeRow (Row : Did → CommandAnswer → Type 0) : Type 0 where
    did : Did
    row : Row did did.answer
    held : AreHeld holds did.reads
    all_read : is_read_fault did.answer ≡ false

  -- a file that is refused, where a command reads so far
  refused_at : (names : List (List ℕ)) (reads : List Read) (name : List ℕ) (offset : ℕ) (cause : FileCause) →
      (come : Reads names reads (Refused name offset cause))
      → StopsRefused state names (length come.before) (record { offset = offset; cause = cause })
      (only state reads (Load (load.BadFile (length come.before) (record { offset = offset; cause = cause }))))
  refused_at names reads name offset cause come = record {
    name = name;
    come = come;
    place = ap length come.last ∙ length-append come.before _ ∙ omega arith;
    did_only = refl;
  }

  -- ---- boot

  boot_at_puts : (names : List (List ℕ)) (reads : List Read) (entries : List Entry) (offers : List (Option ℕ))
      (row : Result Puts ℕ) → is_off state.hardware.power ≡ true → AreHeld holds reads → ReadAll names reads entries →
      AreOffers setting.machine entries offers
      → put_offers setting.blocks (bytes_at entries) (Ok (no_puts state.patches)) offers ≡ row →
      SomeRow (BootRow setting state names)
  unfolding booted
  boot_at_puts names reads entries offers (Ok puts) off held read are put = record {
    did = booted setting state reads puts offers (brought_at_boot setting state puts offers);
    row = (
      off,
      record {
        entries = entries;
        read = read;
        offers = offers;
        are_offers = are;
        puts = puts;
        put = put;
        does = refl;
      },
    );
    held = held;
    all_read = refl;
  }
  boot_at_puts names reads entries offers (Err needed) off held read are full = record {
    did = only state reads (Load (load.PoolFull needed));
    row = (
      off,
      record {
        entries = entries;
        read = read;
        offers = offers;
        are_offers = are;
        full = full;
        did_only =
            refl;
      },
    );
    held = held;
    all_read = refl;
  }

  boot_at_entries : (names : List (List ℕ)) (reads : List Read) (entries : List Entry) →
      is_off state.hardware.power ≡ true → AreHeld holds reads → ReadAll names reads entries →
      SomeRow (BootRow setting state names)
  boot_at_entries names reads entries off held read =
      let some = some_list (group_count setting.machine.stated.cores)
      (λ g offer. IsOffer entries (facts_of_group setting.machine g) false offer)
      (λ g. some_offer entries (facts_of_group setting.machine g) false) in
      boot_at_puts names reads entries some.offers
      (put_offers setting.blocks (bytes_at entries) (Ok (no_puts state.patches)) some.offers) off held read
      (record { count = some.count_is; each = some.each }) refl

  boot_at : (names : List (List ℕ)) (reads : List Read) (outcome : Outcome) → is_off state.hardware.power ≡ true →
      AreHeld holds reads → Reads names reads outcome → count_of outcome reads ≡ None →
      SomeRow (BootRow setting state names)
  boot_at names reads (AllRead readings) off held come all =
      boot_at_entries names reads (entries_from 0 readings) off held
      (record { readings = readings; come = come; all = refl })
  boot_at names reads (NotRead name) off held come all = absurd cc
  boot_at names reads (Refused name offset cause) off held come all = record {
    did = only state reads (Load (load.BadFile (length come.before) (record { offset = offset; cause = cause })));
    row = (off, refused_at names reads name offset cause come);
    held = held;
    all_read = refl;
  }

  some_boot : (names : List (List ℕ)) → SomeRow (BootRow setting state names)
  some_boot names = elim (cases_Bool (is_off state.hardware.power)) [
    | inl off ↦ let read = some_outcome names holds in
        boot_at names read.reads read.outcome off read.held read.come read.all_read
    | inr on ↦ record { did = only state [] (Hot hot.Booted); row = (on, refl); held = held_nil holds; all_read = refl }
  ]

  -- ---- load

  module _ (runs : AlwaysRuns item_line lists) (verdicts : VerdictHolds) (plans : PlansSound)
      (partition : IsPartition setting.machine.stated) (stands : Standing setting state)
      (force : Bool) (names : List (List ℕ)) (beats : List Beat) where
    abbrev Loads : Type 0
    Loads = SomeRow (LoadRow lists setting state force names beats)

    row_of : (did : Did) (found : Verdict) → AllPresent setting state →
        Meets lists setting state force names beats did (answer_of found) →
        LoadRow lists setting state force names beats did (answer_of found)
    row_of did verdict.Done present meets = (present, meets)
    row_of did (verdict.Panicked t) present meets = (present, meets)
    row_of did (verdict.Unfinished t) present meets = (present, meets)
    row_of did (verdict.OfflineSilent kicks) present meets = (present, meets)
    row_of did (verdict.TimedOut t) present meets = (present, meets)
    row_of did (verdict.Failed t) present meets = (present, meets)
    row_of did (verdict.Incomplete t) present meets = (present, meets)

    no_read_fault : (found : Verdict) → is_read_fault (answer_of found) ≡ false
    no_read_fault verdict.Done = refl
    no_read_fault (verdict.Panicked t) = refl
    no_read_fault (verdict.Unfinished t) = refl
    no_read_fault (verdict.OfflineSilent kicks) = refl
    no_read_fault (verdict.TimedOut t) = refl
    no_read_fault (verdict.Failed t) = refl
    no_read_fault (verdict.Incomplete t) = refl

    -- the threads meet
    load_meets : (reads : List Read) (entries : List Entry) (offers : List (Option ℕ)) (puts : Puts) →
        AllPresent setting state → AreHeld holds reads → ReadAll names reads entries →
        AreLoadOffers setting state force entries offers → SomethingOffered offers
        → put_offers setting.blocks (bytes_at entries) (Ok (no_puts state.patches)) offers ≡ Ok puts → Loads
    unfolding met
    load_meets reads entries offers puts present held read are something put =
        let plan : Plan = plan_of setting state puts offers in
        let fit : Sound plan × Padded plan =
        plans setting state force names reads entries offers puts partition stands
        (record { present = present; read = read; are_offers = are; something = something; put = put }) in
        let run : SomeRun item_line lists plan beats = runs plan beats fit.0 fit.1 in
        let found : Verdict = load_verdict plan run.outcome in
        let did : Did = met setting state reads entries puts offers plan run.text (run_of plan run.outcome run.late)
        (answer_of found) in
        record {
          did = did;
          row = row_of did found present (record {
            entries = entries;
            read = read;
            offers = offers;
            are_offers = are;
            something = something;
            puts = puts;
            put = put;
            sound = fit.0;
            padded = fit.1;
            items = run.text;
            outcome = run.outcome;
            late = run.late;
            ran = run.ran;
            verdict = found;
            is_verdict = verdicts plan run.outcome;
            is_answer = refl;
            does = refl;
          });
          held = held;
          all_read = no_read_fault found;
        }

    load_at_puts : (reads : List Read) (entries : List Entry) (offers : List (Option ℕ)) (row : Result Puts ℕ) →
        AllPresent setting state → AreHeld holds reads → ReadAll names reads entries →
        AreLoadOffers setting state force entries offers → SomethingOffered offers
        → put_offers setting.blocks (bytes_at entries) (Ok (no_puts state.patches)) offers ≡ row → Loads
    load_at_puts reads entries offers (Ok puts) present held read are something put =
        load_meets reads entries offers puts present held read are something put
    load_at_puts reads entries offers (Err needed) present held read are something full = record {
      did = only state reads (Load (load.PoolFull needed));
      row = (
        present,
        record {
          entries = entries;
          read = read;
          offers = offers;
          are_offers = are;
          something =
              something;
          full = full;
          did_only = refl;
        },
      );
      held = held;
      all_read = refl;
    }

    load_at_offers : (reads : List Read) (entries : List Entry) (offers : List (Option ℕ)) →
        AllPresent setting state → AreHeld holds reads → ReadAll names reads entries →
        AreLoadOffers setting state force entries offers → Loads
    load_at_offers reads entries offers present held read are = elim (something_or_nothing offers) [
      | inl some ↦ load_at_puts reads entries offers
          (put_offers setting.blocks (bytes_at entries)
          (Ok (no_puts state.patches)) offers) present held read are some refl
      | inr none ↦
          record {
            did = only state reads (Load load.NotFound);
            row = (
              present,
              record {
                entries = entries;
                read = read;
                offers = offers;
                are_offers = are;
                nothing =
                    none;
                did_only = refl;
              },
            );
            held = held;
            all_read = refl;
          }
    ]

    load_at_entries : (reads : List Read) (entries : List Entry) → AllPresent setting state → AreHeld holds reads →
        ReadAll names reads entries → Loads
    load_at_entries reads entries present held read =
        let some = some_list (group_count setting.machine.stated.cores)
        (λ g offer. IsOfferWhere (takes_part setting state g) entries (facts_now setting state g) force offer)
        (λ g. some_where (takes_part setting state g) entries (facts_now setting state g) force) in
        load_at_offers reads entries some.offers present held read (record { count = some.count_is; each = some.each })

    load_at : (reads : List Read) (outcome : Outcome) → AllPresent setting state → AreHeld holds reads →
        Reads names reads outcome → count_of outcome reads ≡ None → Loads
    load_at reads (AllRead readings) present held come all =
        load_at_entries reads (entries_from 0 readings) present held
        (record { readings = readings; come = come; all = refl })
    load_at reads (NotRead name) present held come all = absurd cc
    load_at reads (Refused name offset cause) present held come all = record {
      did = only state reads (Load (load.BadFile (length come.before) (record { offset = offset; cause = cause })));
      row = (present, refused_at names reads name offset cause come);
      held = held;
      all_read = refl;
    }

    load_where : (missing : Option ℕ) → first_missing setting state ≡ missing → Loads
    load_where (Some t) is = record {
      did = only state [] (Load (load.Busy t));
      row = (is, refl);
      held =
          held_nil holds;
      all_read = refl;
    }
    load_where None is = let read = some_outcome names holds in
        load_at read.reads read.outcome is read.held read.come read.all_read

pub steps_exist : VerdictHolds → PlansSound → StepsExist
steps_exist verdicts plans lists setting state (command.Boot names) holds runs partition stands =
    let some = some_boot lists setting state holds names in
    record { did = some.did; step = some.row; held = some.held; all_read = some.all_read }
steps_exist verdicts plans lists setting state (command.Load force names beats) holds runs partition stands =
    let some = load_where lists setting state holds runs verdicts plans partition stands force names beats
    (first_missing setting state) refl in
    record { did = some.did; step = some.row; held = some.held; all_read = some.all_read }
steps_exist verdicts plans lists setting state (command.Online t) holds runs partition stands =
    let held = by_bring_ups_held lists setting state holds (online setting state t) in
    record { did = by_bring_ups state (online setting state t); step = refl; held = held.0; all_read = held.1 }
steps_exist verdicts plans lists setting state command.Resume holds runs partition stands =
    let row : Result AllBrought HotAnswer = resume (machine_of setting) (cached_patches state) state.hardware in
    let held = by_bring_ups_held lists setting state holds row in
    record { did = by_bring_ups state row; step = refl; held = held.0; all_read = held.1 }
steps_exist verdicts plans lists setting state (command.Offline t) holds runs partition stands =
    let row : Result Hardware HotAnswer = calls.soft_offline state.hardware t in
    let held = by_row_held lists setting state holds row in
    record { did = by_row state row; step = refl; held = held.0; all_read = held.1 }
steps_exist verdicts plans lists setting state command.Suspend holds runs partition stands =
    let row : Result Hardware HotAnswer = calls.suspend (machine_of setting) state.hardware in
    let held = by_row_held lists setting state holds row in
    record { did = by_row state row; step = refl; held = held.0; all_read = held.1 }
steps_exist verdicts plans lists setting state (command.Refuse core) holds runs partition stands =
    record { did = set_refusal setting state core true; step = refl; held = held_nil holds; all_read = refl }
steps_exist verdicts plans lists setting state (command.Accept core) holds runs partition stands =
    record { did = set_refusal setting state core false; step = refl; held = held_nil holds; all_read = refl }

-- ---- commands one after another

-- whether a session says that a file was not read goes by what ended it
pub unread_by : (end : Option SessionAnswer) (done all : Bool) →
    is_unread (answer_by end done) ≡ is_unread (answer_by end all)
unread_by (Some answer) done all = refl
unread_by None false false = refl
unread_by None false true = refl
unread_by None true false = refl
unread_by None true true = refl

-- a command that read its files, and others behind it
read_then : (answer : CommandAnswer) (end : Option SessionAnswer) (all : Bool) → is_read_fault answer ≡ false →
    is_unread (answer_by end all) ≡ false →
    is_unread (answer_by (or_else (ended_by answer) end) (is_done answer && all)) ≡ false
read_then (Load (load.ReadFault file)) end all read rest = cc
read_then (Load (load.BadFile file fault)) end all read rest = refl
read_then (Load (load.Panicked t)) end all read rest = refl
read_then answer end all read rest = unread_by end (is_done answer && all) all ∙ rest

module _ (lists : Bool) (setting : Setting) (holds : List ℕ → List ℕ)
    (one_step : (state : State) (one : Command) → Standing setting state → SomeStep lists setting state one holds)
    (stays : StepsStand) (partition : IsPartition setting.machine.stated) where
  -- where a command ended the session, or else the commands behind it were run
  and_then : (state : State) (one : Command) (commands : List Command) (some : SomeStep lists setting state one holds)
      (ends : Bool) → ends_session some.did.answer ≡ ends →
      (ends ≡ false → SomeSteps lists setting some.did.after commands holds)
      → SomeSteps lists setting state (one ∷ commands) holds
  and_then state one commands some true ends rest = record {
    dids = some.did ∷ [];
    steps = (
      some.step,
      subst (λ (b : Bool). StepsFrom lists setting some.did.after (left_to_run b commands) [])
          (sym ends) tt,
    );
    held = held_append holds some.did.reads [] some.held (held_nil holds);
    all_read = read_then some.did.answer None true some.all_read refl;
  }
  and_then state one commands some false goes_on rest =
      let behind = rest refl in
      record {
        dids = some.did ∷ behind.dids;
        steps = (
          some.step,
          subst (λ (b : Bool). StepsFrom lists setting some.did.after
              (left_to_run b commands) behind.dids) (sym goes_on) behind.steps,
        );
        held = held_append holds some.did.reads (all_reads behind.dids) some.held behind.held;
        all_read =
            read_then some.did.answer (first_end behind.dids) (all_done behind.dids) some.all_read behind.all_read;
      }

  some_from : (state : State) (commands : List Command) → Standing setting state →
      All (λ one. InRange setting one) commands → SomeSteps lists setting state commands holds
  some_from state [] stands within = record {
    dids = [];
    steps = tt;
    held = held_nil holds;
    all_read = refl;
  }
  some_from state (one ∷ commands) stands within =
      let some : SomeStep lists setting state one holds = one_step state one stands in
      let next : Standing setting some.did.after =
      stays lists setting state one some.did partition stands
      (All-head (λ one. InRange setting one) one commands within) some.step in
      and_then state one commands some (ends_session some.did.answer) refl
      (λ goes_on. some_from some.did.after commands next
      (All-tail (λ one. InRange setting one) one commands within))

pub sessions_exist : StepsExist → StepsStand → SessionsExist
sessions_exist exist stays lists setting state commands holds runs partition stands within =
    some_from lists setting holds
    (λ before one stood. exist lists setting before one holds runs partition stood) stays partition
    state commands stands within
