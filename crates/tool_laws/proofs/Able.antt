-- A session that can be done is done, but where a file is not read.
use Rattle.std.proofs.Common.{◌≡◌, ℕ, suc, ◌+◌, ◌<◌, ◌≤◌, ◌==◌, Bool, true, false, not, ◌&&◌, if◌then◌else◌, List, [], ◌∷◌, ◌++◌, length, map, get_or, Option, Some, None, Result, Ok, Err, refl, sym, ap, ◌∙◌, subst, inl, inr, arith, true≢false, length-append}
use Rattle.std.proofs.lemmas.Bool.{cases_lt, lt-ltb}
use Rattle.std.proofs.lemmas.List.{get_or_append_left, get_or-append-add}
use Rattle.tool_text.specs.entry_model.declared.facts.CoreFacts.{CoreFacts}
use Rattle.tool_text.specs.entry_model.Reading.{Reading}
use Rattle.tool_text.specs.entry_model.Entry.{Entry}
use Rattle.entry_laws.proofs.Offers.{one_offer}
use Rattle.read_model.specs.Accepts.{AreAccepted}
use Rattle.read_model.specs.Reads.{Read, AreHeld, Outcome, AllRead, NotRead, Refused, Reads}
use Rattle.read_model.proofs.Outcomes.{all_or_not_read}
use Rattle.tool_text.specs.report_text.Offers.{AreOffers, facts_of_group}
use Rattle.tool_text.specs.rendezvous_steps.declared.ends.Beat.{Beat}
use Rattle.tool_text.specs.rendezvous_steps.Plan.{Plan}
use Rattle.tool_text.specs.rendezvous_steps.Padded.{Padded}
use Rattle.tool_text.specs.rendezvous_model.Verdict.{LoadVerdict}
use Rattle.tool_text.specs.rendezvous_model.Verdict as verdict
use Rattle.round_laws.specs.Laws.{VerdictIsOne}
use Rattle.play_laws.specs.Stuck.{IsEnough}
use Rattle.play_laws.specs.Patient.{NoneRefuses, PatientIsDone}
use Rattle.tool_text.specs.rendezvous_steps.ItemText.{item_line}
use Rattle.tool_text.specs.machine_steps.declared.answers.HotAnswer.{HotAnswer}
use Rattle.tool_text.specs.machine_steps.declared.answers.HotAnswer.TheVariants as hot
use Rattle.tool_text.specs.machine_steps.declared.states.Power.TheVariants.{On}
use Rattle.tool_text.specs.machine_steps.declared.states.ThreadState.TheVariants.{Offline}
use Rattle.tool_text.specs.machine_steps.Hardware as hardware
use Rattle.tool_text.specs.machine_steps.Hardware.{Hardware, is_on, is_asleep, is_up, with_power, with_thread, suspended}
use Rattle.tool_text.specs.machine_steps.Calls as calls
use Rattle.tool_text.specs.machine_steps.BringUps.{AllBrought, resume_from}
use Rattle.tool_text.specs.machine_steps.Puts.{Puts, no_puts, put_offers}
use Rattle.script_text.specs.declared.command.Command.{Command}
use Rattle.script_text.specs.declared.command.Command.TheVariants as command
use Rattle.tool_text.specs.session_text.declared.answers.CommandAnswer.{CommandAnswer}
use Rattle.tool_text.specs.session_text.declared.answers.CommandAnswer.TheVariants.{Done, Hot, Load}
use Rattle.tool_text.specs.session_text.declared.answers.LoadAnswer.TheVariants as load
use Rattle.tool_text.specs.session_text.declared.answers.SessionAnswer.{SessionAnswer}
use Rattle.tool_text.specs.session_text.declared.answers.SessionAnswer.TheVariants as session
use Rattle.tool_text.specs.session_steps.State.{Setting, State, machine_of, cached_patches, takes_part}
use Rattle.tool_text.specs.session_steps.Offers.{bytes_at, offer_of, facts_now, IsOfferWhere, AreLoadOffers, put_revision, plan_of}
use Rattle.tool_text.specs.session_steps.Did.{Did, by_row, by_bring_ups}
use Rattle.tool_text.specs.session_steps.Step.{SessionStep, ReadAll, BootRow, LoadRow, Meets, answer_of, online_from}
use Rattle.tool_text.specs.session_steps.Session.{StepsFrom, ends_session, left_to_run, is_done, all_done, all_reads, ended_by, or_else, first_end, answer_by, session_answer}
use Rattle.session_laws.proofs.Parts.{offered_within}
use Rattle.session_laws.proofs.Plans.{offer_in}
use Rattle.tool_text.specs.Commands.{entries_of_all}
use Rattle.tool_text.specs.Able.{CanBoot, CanLoad, CanDo, CanDoAll}
use Rattle.tool_laws.proofs.Listings.{shows_last}

-- all was done, or a file was not read
data IsDoneOrUnread (answer : CommandAnswer) : Type 0 where
  was_done : answer ≡ Done → IsDoneOrUnread answer
  was_unread : (file : ℕ) → answer ≡ Load (load.ReadFault file) → IsDoneOrUnread answer

-- ---- offers

same_lists : (xs ys : List (Option ℕ)) → length xs ≡ length ys →
    ((k : ℕ) → k < length xs → get_or xs k None ≡ get_or ys k None) → xs ≡ ys
same_lists [] [] count each = refl
same_lists [] (y ∷ ys) count each = absurd (omega (arith, count))
same_lists (x ∷ xs) [] count each = absurd (omega (arith, count))
same_lists (x ∷ xs) (y ∷ ys) count each =
    ap (λ (first : Option ℕ). first ∷ xs) (each 0 (omega arith))
    ∙ ap (λ (rest : List (Option ℕ)). y ∷ rest)
    (same_lists xs ys (omega (arith, count)) (λ k below. each (suc k) (omega (arith, below))))

boot_offers_are : (setting : Setting) (entries : List Entry) (offers others : List (Option ℕ)) →
    AreOffers setting.machine entries offers → AreOffers setting.machine entries others → offers ≡ others
boot_offers_are setting entries offers others are too =
    same_lists offers others (are.count ∙ sym too.count)
    (λ g below.
    let inside = subst (λ (n : ℕ). g < n) are.count below in
    one_offer entries (facts_of_group setting.machine g) false (get_or offers g None) (get_or others g None)
    (are.each g inside) (too.each g inside))

one_where : (part : Bool) (entries : List Entry) (core : CoreFacts) (force : Bool) (m n : Option ℕ) →
    IsOfferWhere part entries core force m → IsOfferWhere part entries core force n → m ≡ n
one_where true entries core force m n is too = one_offer entries core force m n is too
one_where false entries core force m n is too = is ∙ sym too

load_offers_are : (setting : Setting) (state : State) (force : Bool) (entries : List Entry)
    (offers others : List (Option ℕ)) → AreLoadOffers setting state force entries offers →
    AreLoadOffers setting state force entries others → offers ≡ others
load_offers_are setting state force entries offers others are too =
    same_lists offers others (are.count ∙ sym too.count)
    (λ g below.
    let inside = subst (λ (n : ℕ). g < n) are.count below in
    one_where (takes_part setting state g) entries (facts_now setting state g) force (get_or offers g None)
    (get_or others g None) (are.each g inside) (too.each g inside))

-- ---- files

module _ (names : List (List ℕ)) (holds : List ℕ → List ℕ) (readings : List Reading)
    (accepted : AreAccepted (map holds names) readings) (reads : List Read) (held : AreHeld holds reads) where
  -- none of accepted files is refused
  none_refused : {A : Type 0} (name : List ℕ) (outcome : Outcome) → Reads names reads outcome →
      ((rs : List Reading) → outcome ≡ AllRead rs → ⊥) → ((which : List ℕ) → outcome ≡ NotRead which → ⊥) → A
  none_refused name outcome come not_all not_unread =
      elim (all_or_not_read names holds readings reads outcome accepted held come) [
        | inl all ↦ absurd (not_all readings all)
        | inr unread ↦ absurd (not_unread unread.0 unread.1)
      ]

  -- the entries that were read are theirs
  entries_are : (entries : List Entry) → ReadAll names reads entries → entries ≡ entries_of_all readings
  entries_are entries read =
      elim (all_or_not_read names holds readings reads (AllRead read.readings) accepted held read.come) [
        | inl all ↦
            let same : read.readings ≡ readings = cc in
            read.all ∙ ap entries_of_all same
        | inr unread ↦ let wrong : AllRead read.readings ≡ NotRead unread.0 = unread.1 in absurd cc
      ]

-- ---- a boot, and a load

module _ (setting : Setting) (state : State) (names : List (List ℕ)) (holds : List ℕ → List ℕ) (did : Did)
    (held : AreHeld holds did.reads) where
  boot_answers : (answer : CommandAnswer) → CanBoot setting state names holds → BootRow setting state names did answer →
      IsDoneOrUnread answer
  boot_answers Done can row = was_done refl
  boot_answers (Hot hot.Booted) can row = absurd (true≢false (sym can.off ∙ row.0))
  boot_answers (Hot (hot.NotUp t)) can row = absurd row.1
  boot_answers (Hot (hot.IsUp t)) can row = absurd row.1
  boot_answers (Hot hot.BootThread) can row = absurd row.1
  boot_answers (Hot hot.PoweredDown) can row = absurd row.1
  boot_answers (Hot hot.NotAsleep) can row = absurd row.1
  boot_answers (Load (load.ReadFault file)) can row = was_unread file refl
  boot_answers (Load (load.BadFile file fault)) can row =
      none_refused names holds can.readings can.accepted did.reads held row.1.name
      (Refused row.1.name fault.offset fault.cause) row.1.come (λ rs is. cc) (λ which is. cc)
  boot_answers (Load (load.PoolFull needed)) can row =
      let full = row.1 in
      let same : full.entries ≡ entries_of_all can.readings =
      entries_are names holds can.readings can.accepted did.reads held full.entries full.read in
      let offers : full.offers ≡ can.offers =
      boot_offers_are setting (entries_of_all can.readings) full.offers can.offers
      (subst (λ (es : List Entry). AreOffers setting.machine es full.offers) same full.are_offers) can.are_offers in
      let wrong : Err needed ≡ Ok can.puts =
      sym full.full
      ∙ ap (λ (es : List Entry). put_offers setting.blocks (bytes_at es) (Ok (no_puts state.patches)) full.offers) same
      ∙ ap (put_offers setting.blocks (bytes_at (entries_of_all can.readings)) (Ok (no_puts state.patches))) offers
      ∙ can.fit in absurd cc
  boot_answers (Load answer) can row = absurd row.1

  module _ (force : Bool) (beats : List Beat) (patient : PatientIsDone) (one_verdict : VerdictIsOne)
      (can : CanLoad setting state force names beats holds) where
    load_entries : (entries : List Entry) → ReadAll names did.reads entries → entries ≡ entries_of_all can.readings
    load_entries entries read = entries_are names holds can.readings can.accepted did.reads held entries read

    load_offers_same : (entries : List Entry) (offers : List (Option ℕ)) → ReadAll names did.reads entries →
        AreLoadOffers setting state force entries offers → offers ≡ can.offers
    load_offers_same entries offers read are =
        load_offers_are setting state force (entries_of_all can.readings) offers can.offers
        (subst (λ (es : List Entry). AreLoadOffers setting state force es offers) (load_entries entries read) are)
        can.are_offers

    -- a group with an offer in the plan is offered an entry
    offered_by : (puts : Puts) (offer : Option ℕ) (rev : ℕ) → put_revision puts offer ≡ Some rev →
        (number : ℕ) × (offer ≡ Some number)
    offered_by puts None rev is = absurd cc
    offered_by puts (Some number) rev is = (number, refl)

    refuse_in : (puts : Puts) (offers : List (Option ℕ)) (g : ℕ) → g < (machine_of setting).groups →
        (plan_of setting state puts offers).refuse g ≡ state.hardware.refuses g
    unfolding plan_of
    refuse_in puts offers g below =
        ap (λ (b : Bool). if b then state.hardware.refuses g else false) (lt-ltb g (machine_of setting).groups below)

    none_refuse : (puts : Puts) (offers : List (Option ℕ)) → offers ≡ can.offers →
        ((g : ℕ) → (machine_of setting).groups ≤ g → (plan_of setting state puts offers).offer g ≡ None) →
        NoneRefuses (plan_of setting state puts offers)
    none_refuse puts offers same past g rev is = elim (cases_lt g (machine_of setting).groups) [
      | inl below ↦
          let some = offered_by puts (offer_of offers g) rev (sym (offer_in setting state puts offers g below) ∙ is) in
          refuse_in puts offers g below
          ∙ can.none_refuses g some.0 (sym (ap (λ (os : List (Option ℕ)). offer_of os g) same) ∙ some.1)
      | inr behind ↦ let wrong : None ≡ Some rev = sym (past g behind) ∙ is in absurd cc
    ]

    enough : (puts : Puts) (offers : List (Option ℕ)) → IsEnough (plan_of setting state puts offers) beats
    unfolding plan_of
    enough puts offers = can.enough

    no_offer_past : (puts : Puts) (offers : List (Option ℕ)) → Padded (plan_of setting state puts offers) →
        (g : ℕ) → (machine_of setting).groups ≤ g → (plan_of setting state puts offers).offer g ≡ None
    unfolding plan_of
    no_offer_past puts offers padded g behind = padded.no_offer g behind

    met_done : (answer : CommandAnswer) → Meets true setting state force names beats did answer → answer ≡ Done
    met_done answer meets =
        let plan : Plan = plan_of setting state meets.puts meets.offers in
        let offers : meets.offers ≡ can.offers =
        load_offers_same meets.entries meets.offers meets.read meets.are_offers in
        let none : NoneRefuses plan = none_refuse meets.puts meets.offers offers (no_offer_past meets.puts meets.offers meets.padded) in
        let its : LoadVerdict plan meets.outcome verdict.Done =
        patient plan beats meets.outcome meets.sound meets.padded none can.in_time (enough meets.puts meets.offers)
        (shows_last item_line plan beats meets.items meets.outcome meets.ran) in
        meets.is_answer
        ∙ ap answer_of (one_verdict plan meets.outcome meets.verdict meets.is_verdict
        ∙ sym (one_verdict plan meets.outcome verdict.Done its))

    load_answers : (answer : CommandAnswer) → LoadRow true setting state force names beats did answer → IsDoneOrUnread answer
    load_answers (Hot answer) row = absurd row.1
    load_answers (Load (load.Busy t)) row =
        let wrong : Some t ≡ None = sym row.0 ∙ can.present in absurd cc
    load_answers (Load (load.ReadFault file)) row = was_unread file refl
    load_answers (Load (load.BadFile file fault)) row =
        none_refused names holds can.readings can.accepted did.reads held row.1.name
        (Refused row.1.name fault.offset fault.cause) row.1.come (λ rs is. cc) (λ which is. cc)
    load_answers (Load load.NotFound) row =
        let finds = row.1 in
        let some = can.something in
        let offers : finds.offers ≡ can.offers = load_offers_same finds.entries finds.offers finds.read finds.are_offers in
        let there : offer_of finds.offers some.group ≡ Some some.entry =
        ap (λ (os : List (Option ℕ)). offer_of os some.group) offers ∙ some.is_offered in
        let wrong : None ≡ Some some.entry =
        sym (finds.nothing some.group (offered_within finds.offers some.group some.entry there)) ∙ there in absurd cc
    load_answers (Load (load.PoolFull needed)) row =
        let full = row.1 in
        let same : full.entries ≡ entries_of_all can.readings = load_entries full.entries full.read in
        let offers : full.offers ≡ can.offers = load_offers_same full.entries full.offers full.read full.are_offers in
        let wrong : Err needed ≡ Ok can.puts =
        sym full.full
        ∙ ap (λ (es : List Entry). put_offers setting.blocks (bytes_at es) (Ok (no_puts state.patches)) full.offers) same
        ∙ ap (put_offers setting.blocks (bytes_at (entries_of_all can.readings)) (Ok (no_puts state.patches))) offers
        ∙ can.fit in absurd cc
    load_answers answer row = was_done (met_done answer row.1)

-- ---- each command

row_done : (state : State) (row : calls.Row) (after : Hardware) → row ≡ Ok after → (by_row state row).answer ≡ Done
row_done state row after is = ap (λ (r : calls.Row). (by_row state r).answer) is

rise_done : (state : State) (row : Result AllBrought HotAnswer) (after : AllBrought) → row ≡ Ok after →
    (by_bring_ups state row).answer ≡ Done
rise_done state row after is = ap (λ (r : Result AllBrought HotAnswer). (by_bring_ups state r).answer) is

-- a refusal whose test fails is passed over
passes : (refuses : Bool) (answer : HotAnswer) (row other : calls.Row) → refuses ≡ false → row ≡ other →
    calls.refuse_where refuses answer row ≡ other
passes refuses answer row other not_so is = ap (λ (b : Bool). calls.refuse_where b answer row) not_so ∙ is

may_rise : (hardware : Hardware) (t : ℕ) → is_on hardware.power ≡ true → is_up (hardware.thread t) ≡ false →
    calls.may_come_up hardware t ≡ Ok hardware
may_rise hardware t on down =
    passes (not (is_on hardware.power)) hot.PoweredDown _ (Ok hardware) (ap not on)
    (passes (is_up (hardware.thread t)) (hot.IsUp t) (Ok hardware) (Ok hardware) down refl)

may_go_offline : (hardware : Hardware) (t : ℕ) → is_on hardware.power ≡ true → (t == 0) ≡ false →
    is_up (hardware.thread t) ≡ true → calls.soft_offline hardware t ≡ Ok (with_thread hardware t Offline)
may_go_offline hardware t on other up =
    passes (not (is_on hardware.power)) hot.PoweredDown _ _ (ap not on)
    (passes (t == 0) hot.BootThread _ _ other
    (passes (not (is_up (hardware.thread t))) (hot.NotUp t) (Ok (with_thread hardware t Offline)) _ (ap not up) refl))

may_suspend : (setting : hardware.Setting) (machine : Hardware) → is_on machine.power ≡ true →
    calls.suspend setting machine ≡ Ok (suspended setting machine)
may_suspend setting machine on =
    passes (not (is_on machine.power)) hot.PoweredDown (Ok (suspended setting machine)) _ (ap not on) refl

may_wake : (machine : Hardware) → is_asleep machine.power ≡ true → calls.wake machine ≡ Ok (with_power machine On)
may_wake machine asleep =
    passes (not (is_asleep machine.power)) hot.NotAsleep (Ok (with_power machine On)) _ (ap not asleep) refl

module _ (patient : PatientIsDone) (one_verdict : VerdictIsOne) (setting : Setting) (holds : List ℕ → List ℕ) where
  can_be_done : (state : State) (one : Command) (did : Did) → AreHeld holds did.reads → CanDo setting state one holds →
      SessionStep true setting state one did → IsDoneOrUnread did.answer
  can_be_done state (command.Boot names) did held can step =
      boot_answers setting state names holds did held did.answer can step
  can_be_done state (command.Load force names beats) did held can step =
      load_answers setting state names holds did held force beats patient one_verdict can did.answer step
  can_be_done state (command.Online t) did held can step =
      was_done (ap (λ (d : Did). d.answer) step
      ∙ rise_done state _ _ (ap (online_from setting state t) (may_rise state.hardware t can.0 can.1)))
  can_be_done state (command.Offline t) did held can step =
      was_done (ap (λ (d : Did). d.answer) step
      ∙ row_done state _ _ (may_go_offline state.hardware t can.0 can.1 can.2))
  can_be_done state command.Suspend did held can step =
      was_done (ap (λ (d : Did). d.answer) step ∙ row_done state _ _ (may_suspend (machine_of setting) state.hardware can))
  can_be_done state command.Resume did held can step =
      was_done (ap (λ (d : Did). d.answer) step
      ∙ rise_done state _ _
      (ap (resume_from (machine_of setting) (cached_patches state) state.hardware) (may_wake state.hardware can)))
  can_be_done state (command.Refuse core) did held can step = was_done (ap (λ (d : Did). d.answer) step)
  can_be_done state (command.Accept core) did held can step = was_done (ap (λ (d : Did). d.answer) step)

  -- ---- a session

  pub data IsEndedOrUnread (answer : SessionAnswer) : Type 0 where
    ended : answer ≡ session.Ended → IsEndedOrUnread answer
    left_unread : answer ≡ session.ReadFault → IsEndedOrUnread answer

  held_first : (reads more : List Read) → AreHeld holds (reads ++ more) → AreHeld holds reads
  held_first reads more held = λ k d below.
      let long = length-append reads more in
      subst (λ (read : Read). read.bytes ≡ holds read.name) (get_or_append_left reads more d k below) (held k d (omega arith))

  held_rest : (reads more : List Read) → AreHeld holds (reads ++ more) → AreHeld holds more
  held_rest reads more held = λ k d below.
      let long = length-append reads more in
      subst (λ (read : Read). read.bytes ≡ holds read.name) (get_or-append-add reads more k d)
      (held (length reads + k) d (omega arith))

  -- a first command that was done leaves the answer to the others
  behind_done : (did : Did) (dids : List Did) → did.answer ≡ Done → session_answer (did ∷ dids) ≡ session_answer dids
  behind_done did dids is =
      ap (λ (answer : CommandAnswer). answer_by (or_else (ended_by answer) (first_end dids)) (is_done answer && all_done dids))
      is

  unread_ends : (did : Did) (dids : List Did) (file : ℕ) → did.answer ≡ Load (load.ReadFault file) →
      session_answer (did ∷ dids) ≡ session.ReadFault
  unread_ends did dids file is =
      ap (λ (answer : CommandAnswer). answer_by (or_else (ended_by answer) (first_end dids)) (is_done answer && all_done dids))
      is

  first_is : (did : Did) (dids : List Did) → IsDoneOrUnread did.answer →
      (did.answer ≡ Done → IsEndedOrUnread (session_answer dids)) → IsEndedOrUnread (session_answer (did ∷ dids))
  first_is did dids (was_unread file is) rest = left_unread (unread_ends did dids file is)
  first_is did dids (was_done is) rest = subst IsEndedOrUnread (sym (behind_done did dids is)) (rest is)

  pub all_can_be_done : (dids : List Did) (state : State) (commands : List Command) → AreHeld holds (all_reads dids) →
      CanDoAll setting state commands holds → StepsFrom true setting state commands dids →
      IsEndedOrUnread (session_answer dids)
  all_can_be_done [] state [] held can steps = ended refl
  all_can_be_done [] state (one ∷ commands) held can steps = absurd steps
  all_can_be_done (did ∷ dids) state [] held can steps = absurd steps
  all_can_be_done (did ∷ dids) state (one ∷ commands) held can steps =
      let first : AreHeld holds did.reads = held_first did.reads (all_reads dids) held in
      first_is did dids (can_be_done state one did first can.0 steps.0)
      (λ is. all_can_be_done dids did.after commands (held_rest did.reads (all_reads dids) held)
      (can.1 did steps.0 first is)
      (subst (λ (ends : Bool). StepsFrom true setting did.after (left_to_run ends commands) dids)
      (ap ends_session is) steps.1))
