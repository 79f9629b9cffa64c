-- Where what a command line asks for can be done, a run that no failed read ends does it.
use Rattle.std.proofs.Common.{◌≡◌, ◌⊎◌, inl, inr, ℕ, ◌<◌, true, List, [], ◌∷◌, length, Option, Some, None, refl, ap, ◌∙◌, subst, arith}
use Rattle.uc_topology.specs.declared.fault.TopoCause.{TopoCause}
use Rattle.uc_topology.specs.Stated.{Machine}
use Rattle.uc_topology.specs.Texts as topology_texts
use Rattle.uc_topology.proofs.Laws.{one_machine, never_both as never_both_machine}
use Rattle.uc_gen.specs.Texts as generated
use Rattle.round_laws.specs.Laws.{VerdictIsOne}
use Rattle.play_laws.specs.Patient.{PatientIsDone}
use Rattle.script_text.specs.declared.command.Command.{Command}
use Rattle.script_text.specs.declared.fault.ScriptCause.{ScriptCause}
use Rattle.script_text.specs.declared.forms.Limits.{Limits}
use Rattle.script_text.specs.Stated.{Stated}
use Rattle.script_text.specs.Texts.{States}
use Rattle.script_text.proofs.OneReading.{one_script, never_both as never_both_script}
use Rattle.script_text.specs.Accepts.{IsScript, RefusesScript}
use Rattle.tool_text.specs.session_text.declared.answers.SessionAnswer.{SessionAnswer}
use Rattle.tool_text.specs.session_steps.State.{Setting, opening_state}
use Rattle.tool_text.specs.session_steps.Did.{Did}
use Rattle.tool_text.specs.session_steps.Session.{Steps, all_reads, session_answer}
use Rattle.tool_text.specs.entry_model.Reading.{Reading}
use Rattle.read_model.specs.Accepts.{IsMachine, RefusesTopology}
use Rattle.read_model.specs.Reads.{Read, AreHeld, Outcome, AllRead, NotRead}
use Rattle.read_model.proofs.Outcomes.{all_or_not_read, held_head, held_tail}
use Rattle.status_rule.specs.declared.status.Status.{Status}
use Rattle.status_rule.specs.declared.status.Status.TheVariants.{Done, BadInput, ReadFault}
use Rattle.tool_text.specs.Words.{Asked, Faulty, ListOf, ShowOf, SelectOf, PlayOf, GenOf}
use Rattle.tool_text.specs.Commands.{entries_of_all, StopsAt, Listed, Shown, Selected, FailsAt}
use Rattle.tool_text.specs.Plays.{limits_of, setting_of, status_of, ScriptFailsAt, PlaysScript, PlaysFor, GenText, bundle}
use Rattle.tool_text.specs.Able.{CanBePlayed}
use Rattle.tool_text.specs.Tool.{AskedText, CanBeDone}
use Rattle.tool_laws.proofs.Able.{IsEndedOrUnread, ended, left_unread, all_can_be_done}

-- all was done, or a file was not read
abbrev pub IsEnd : Status → Type 0
IsEnd status = (status ≡ Done) ⊎ (status ≡ ReadFault)

-- what reads come to where all files are accepted
abbrev IsFine : List Reading → Outcome → Type 0
IsFine rs outcome = (outcome ≡ AllRead rs) ⊎ ((name : List ℕ) × (outcome ≡ NotRead name))

-- then they stop only where one is not read
stops : (name text : List ℕ) (status : Status) → StopsAt (NotRead name) text status → status ≡ ReadFault
stops name text ReadFault is = refl
stops name text status is = absurd is

-- `list`
all_listed : (names : List (List ℕ)) (rs : List Reading) (text : List ℕ) (status : Status) → Listed names (AllRead rs) text status → status ≡ Done
all_listed names rs text Done is = refl
all_listed names rs text status is = absurd is

listed_ends : (names : List (List ℕ)) (rs : List Reading) (outcome : Outcome) (text : List ℕ) (status : Status) → IsFine rs outcome → Listed names outcome text status → IsEnd status
listed_ends names rs outcome text status (inl all) is =
    inl (all_listed names rs text status (subst (λ (o : Outcome). Listed names o text status) all is))
listed_ends names rs outcome text status (inr unread) is =
    inr (stops unread.0 text status (subst (λ (o : Outcome). Listed names o text status) unread.1 is))

-- `show`
all_shown : (number : ℕ) (rs : List Reading) (text : List ℕ) (status : Status) → number < length (entries_of_all rs) → Shown number (AllRead rs) text status → status ≡ Done
all_shown number rs text Done inside is = refl
all_shown number rs text BadInput inside is = absurd (omega (arith, inside, is.0))
all_shown number rs text status inside is = absurd is

shown_ends : (number : ℕ) (rs : List Reading) (outcome : Outcome) (text : List ℕ) (status : Status) → number < length (entries_of_all rs) → IsFine rs outcome → Shown number outcome text status → IsEnd status
shown_ends number rs outcome text status inside (inl all) is =
    inl (all_shown number rs text status inside (subst (λ (o : Outcome). Shown number o text status) all is))
shown_ends number rs outcome text status inside (inr unread) is =
    inr (stops unread.0 text status (subst (λ (o : Outcome). Shown number o text status) unread.1 is))

-- `select`
all_selected : (machine : Machine) (rs : List Reading) (text : List ℕ) (status : Status) → Selected machine (AllRead rs) text status → status ≡ Done
all_selected machine rs text Done is = refl
all_selected machine rs text status is = absurd is

selected_ends : (machine : Machine) (rs : List Reading) (outcome : Outcome) (text : List ℕ) (status : Status) → IsFine rs outcome → Selected machine outcome text status → IsEnd status
selected_ends machine rs outcome text status (inl all) is =
    inl (all_selected machine rs text status (subst (λ (o : Outcome). Selected machine o text status) all is))
selected_ends machine rs outcome text status (inr unread) is =
    inr (stops unread.0 text status (subst (λ (o : Outcome). Selected machine o text status) unread.1 is))

-- a topology that states a machine is not refused
machine_not_refused : (bytes : List ℕ) (machine : Machine) (line : ℕ) (cause : TopoCause) → IsMachine bytes machine → RefusesTopology bytes line cause → ⊥
machine_not_refused bytes machine line cause is (inl long) = omega (arith, long.0, is.within)
machine_not_refused bytes machine line cause is (inr fault) =
    never_both_machine bytes machine (record { line = line; cause = cause }) is.states fault.1

-- a script that states commands is not refused
script_not_refused : (limits : Limits) (bytes : List ℕ) (stated : Stated) (line : ℕ) (cause : ScriptCause) → IsScript limits bytes stated → RefusesScript limits bytes line cause → ⊥
script_not_refused limits bytes stated line cause is (inl long) = omega (arith, long.0, is.within)
script_not_refused limits bytes stated line cause is (inr fault) =
    never_both_script limits bytes stated (record { line = line; cause = cause }) is.states fault.1

module _ (patient : PatientIsDone) (one_verdict : VerdictIsOne) (holds : List ℕ → List ℕ) (reads : List Read) (held : AreHeld holds reads) where
  fails_ends : (topology : List ℕ) (files : Option ℕ) (text : List ℕ) (status : Status) (machine : Machine) → IsMachine (holds topology) machine → FailsAt topology reads files text status → IsEnd status
  fails_ends topology (Some k) text ReadFault machine is fails = inr refl
  fails_ends topology None text BadInput machine is fails =
      let read : Read = record { name = topology; bytes = fails.bytes } in
      let gave : fails.bytes ≡ holds topology = held_head holds read [] (subst (AreHeld holds) fails.only held) in
      absurd (machine_not_refused (holds topology) machine fails.line fails.cause is (subst (λ (bytes : List ℕ). RefusesTopology bytes fails.line fails.cause) gave fails.refuses))
  fails_ends topology files text status machine is fails = absurd fails

  behind_held : (topology bytes : List ℕ) (behind : List Read) → reads ≡ record { name = topology; bytes = bytes } ∷ behind → AreHeld holds behind
  behind_held topology bytes behind first =
      held_tail holds (record { name = topology; bytes = bytes }) behind (subst (AreHeld holds) first held)

  -- ---- a session

  ended_end : (setting : Setting) (commands : List Command) (dids : List Did) (answer : SessionAnswer)
      (status : Status) (holds_in : List ℕ → List ℕ) → CanBePlayed setting commands holds_in →
      AreHeld holds_in (all_reads dids) → Steps true setting commands dids → answer ≡ session_answer dids →
      status ≡ status_of answer → IsEnd status
  ended_end setting commands dids answer status holds_in can held_in steps is_answer is_status =
      by (all_can_be_done patient one_verdict setting holds_in dids (opening_state setting) commands held_in can steps)
    where
      by : IsEndedOrUnread patient one_verdict setting holds_in (session_answer dids) → IsEnd status
      by (ended is) = inl (is_status ∙ ap status_of (is_answer ∙ is))
      by (left_unread is) = inr (is_status ∙ ap status_of (is_answer ∙ is))

  -- the script that was read is the one that can be played
  script_ends : (script : List ℕ) (machine : Machine) (behind : List Read) (files : Option ℕ) (text : List ℕ)
      (status : Status) (stated : Stated) → AreHeld holds behind → IsScript (limits_of machine) (holds script) stated →
      CanBePlayed (setting_of machine stated) stated.commands holds →
      ScriptFailsAt script machine behind files text status ⊎ PlaysScript script machine behind files text status →
      IsEnd status
  script_ends script machine behind (Some k) text ReadFault stated held_in is can (inl fails) = inr refl
  script_ends script machine behind None text BadInput stated held_in is can (inl fails) =
      let read : Read = record { name = script; bytes = fails.bytes } in
      let gave : fails.bytes ≡ holds script = held_head holds read [] (subst (AreHeld holds) fails.only held_in) in
      absurd (script_not_refused (limits_of machine) (holds script) stated fails.line fails.cause is
      (subst (λ (bytes : List ℕ). RefusesScript (limits_of machine) bytes fails.line fails.cause) gave fails.refuses))
  script_ends script machine behind files text status stated held_in is can (inl fails) = absurd fails
  script_ends script machine behind files text status stated held_in is can (inr plays) =
      let read : Read = record { name = script; bytes = plays.bytes } in
      let all : AreHeld holds (read ∷ plays.behind) = subst (AreHeld holds) plays.first held_in in
      let gave : plays.bytes ≡ holds script = held_head holds read plays.behind all in
      let same : stated ≡ plays.stated =
      one_script (limits_of machine) (holds script) stated plays.stated is.states
      (subst (λ (bytes : List ℕ). States (limits_of machine) bytes plays.stated) gave plays.is_script.states) in
      ended_end (setting_of machine plays.stated) plays.stated.commands plays.plays.dids plays.answer status holds
      (subst (λ (s : Stated). CanBePlayed (setting_of machine s) s.commands holds) same can)
      (subst (AreHeld holds) plays.plays.all (held_tail holds read plays.behind all)) plays.plays.steps plays.plays.is_answer
      plays.is_status

  played_ends : (topology script : List ℕ) (files : Option ℕ) (text : List ℕ) (status : Status) →
      CanBeDone (PlayOf topology script) holds → PlaysFor topology script reads files text status → IsEnd status
  played_ends topology script files text status can plays =
      let read : Read = record { name = topology; bytes = plays.states.bytes } in
      let all : AreHeld holds (read ∷ plays.behind) = subst (AreHeld holds) plays.states.first held in
      let gave : plays.states.bytes ≡ holds topology = held_head holds read plays.behind all in
      let same : can.0 ≡ plays.machine =
      one_machine (holds topology) can.0 plays.machine can.1.states
      (subst (λ (bytes : List ℕ). topology_texts.States bytes plays.machine) gave plays.states.is_machine.states) in
      let stated : Stated = can.2.0 in
      script_ends script plays.machine plays.behind files text status stated (held_tail holds read plays.behind all)
      (subst (λ (machine : Machine). IsScript (limits_of machine) (holds script) stated) same can.2.1)
      (subst (λ (machine : Machine). CanBePlayed (setting_of machine stated) stated.commands holds) same can.2.2)
      plays.played

  generated_ends : (number : ℕ) (files : Option ℕ) (text : List ℕ) (status : Status) → CanBeDone (GenOf number) holds →
      GenText number reads files text status → IsEnd status
  generated_ends number files text status can gen =
      let its = gen.generated in
      let same : can.0 ≡ its.machine =
      one_machine (generated.topology_text number) can.0 its.machine can.1 its.is_machine in
      let stated : Stated = can.2.0 in
      let one : stated ≡ its.stated =
      one_script (limits_of its.machine) (generated.script_text number) stated its.stated
      (subst (λ (machine : Machine). States (limits_of machine) (generated.script_text number) stated) same can.2.1)
      its.is_script in
      ended_end (setting_of its.machine its.stated) its.stated.commands its.plays.dids gen.answer status
      (bundle number)
      (subst (λ (s : Stated). CanBePlayed (setting_of its.machine s) s.commands (bundle number)) one
      (subst (λ (machine : Machine). CanBePlayed (setting_of machine stated) stated.commands (bundle number)) same
      can.2.2))
      (subst (AreHeld (bundle number)) its.plays.all its.held) its.plays.steps its.plays.is_answer gen.is_status

  pub complete : (line : Asked) (files : Option ℕ) (text : List ℕ) (status : Status) → CanBeDone line holds → AskedText line reads files text status → IsEnd status
  complete (Faulty i) files text status can is = absurd can
  complete (ListOf names) files text status can is =
      listed_ends names can.0 is.outcome text status (all_or_not_read names holds can.0 reads is.outcome can.1 held is.come) is.listed
  complete (ShowOf name number) files text status can is =
      shown_ends number can.0 is.outcome text status can.2 (all_or_not_read (name ∷ []) holds can.0 reads is.outcome can.1 held is.come) is.shown
  complete (SelectOf topology names) files text status can (inl fails) =
      fails_ends topology files text status can.0 can.1 fails
  complete (SelectOf topology names) files text status can (inr is) =
      let behind = behind_held topology is.bytes is.behind is.first in
      selected_ends is.machine can.2.0 is.outcome text status (all_or_not_read names holds can.2.0 is.behind is.outcome can.2.1 behind is.come) is.selected
  complete (PlayOf topology script) files text status can (inl fails) =
      fails_ends topology files text status can.0 can.1 fails
  complete (PlayOf topology script) files text status can (inr plays) =
      played_ends topology script files text status can plays
  complete (GenOf number) files text status can is = generated_ends number files text status can is
