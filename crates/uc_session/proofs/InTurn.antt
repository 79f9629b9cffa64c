-- The commands of a script, run one after another from a list.
use Rattle.std.proofs.Common.{◌≡◌, ◌&&◌, ◌++◌, ℕ, suc, ◌+◌, ◌<◌, ◌≤◌, Bool, true, false, List, [], ◌∷◌, length, get_or, take, drop, sym, ap, ◌∙◌, subst, arith, add-one, length-take, take-append-drop}
use Rattle.std.proofs.Math.Seq.{take-suc, drop-cons}
use Rattle.std.proofs.lemmas.List.{take_all}
use Rattle.std.specs.List.{All}
use Rattle.uc_io.specs.Faults.{Rose}
use Rattle.uc_topology.specs.Stated.{Machine, IsPartition}
use Rattle.session_steps.specs.read_model.Reads.{Read, AreHeld}
use Rattle.session_steps.specs.rendezvous_rule.Runs.{AlwaysRuns}
use Rattle.session_steps.specs.rendezvous_steps.ItemText.{item_line}
use Rattle.session_steps.specs.script_text.declared.command.Command.{Command}
use Rattle.session_steps.specs.script_text.declared.command.Command.TheVariants as command
use Rattle.session_steps.specs.script_text.Within.{fits_command}
use Rattle.session_steps.specs.session_text.declared.answers.CommandAnswer.{CommandAnswer}
use Rattle.session_steps.specs.session_text.declared.answers.CommandAnswer.TheVariants.{Done, Hot, Load}
use Rattle.session_steps.specs.session_text.declared.answers.LoadAnswer.TheVariants as load
use Rattle.session_steps.specs.session_text.declared.answers.SessionAnswer.{SessionAnswer}
use Rattle.session_steps.specs.State.{Setting, State, machine_of, opening_state}
use Rattle.session_steps.specs.Session.{ends_session, is_done, ended_by, answer_by, short_unless}
use Rattle.session_steps.specs.Calls.{Outside, HeldWhere, Surroundings, Situation, around}
use Rattle.session_steps.specs.Played.{Answers, Starts}
use Rattle.session_steps.specs.Whole.{PlaysWhole, PlaysFront, IsPlayedThrough, SinkCauseAt}
use Rattle.session_laws.specs.Standing.{InRange}
use Rattle.cut_laws.specs.SoFar.{PlayedSoFar}
use Rattle.cut_laws.specs.Laws.{BegunGoesOn}
use Rattle.cut_laws.proofs.Within.{limits_of, beats_in_range}
use Rattle.cut_laws.proofs.Played.{with_files, all_played, one_more, last_played, cut_short}
use Rattle.uc_session.specs.Playing.{BeatsInRange}

-- a count that stood still until a command ended the session
pub still_at : (answer : CommandAnswer) (before now : ℕ) → now ≡ before →
    SinkCauseAt (answer_by (ended_by answer) false) before now
still_at Done before now still = still
still_at (Hot hot) before now still = still
still_at (Load load.Done) before now still = still
still_at (Load (load.Busy t)) before now still = still
still_at (Load (load.ReadFault file)) before now still = still
still_at (Load (load.BadFile file fault)) before now still = still
still_at (Load load.NotFound) before now still = still
still_at (Load (load.PoolFull blocks)) before now still = still
still_at (Load (load.Panicked t)) before now still = still
still_at (Load (load.Unfinished t)) before now still = still
still_at (Load (load.OfflineSilent kicks)) before now still = still
still_at (Load (load.TimedOut t)) before now still = still
still_at (Load (load.Failed t)) before now still = still
still_at (Load (load.Incomplete t)) before now still = still

-- ---- one command of a list

-- the setting that a session was made with is the one that its script states
pub setting_is : (setting : Setting) (machine : Machine) (blocks pool patience stated : ℕ) →
    setting ≡ record { machine = machine; blocks = blocks; patience = patience } → blocks ≡ pool → patience ≡ stated →
    setting ≡ record { machine = machine; blocks = pool; patience = stated }
setting_is setting machine blocks pool patience stated made pool_is patience_is =
    made
    ∙ ap (λ (b : ℕ). record { machine = machine; blocks = b; patience = patience }) pool_is
    ∙ ap (λ (p : ℕ). record { machine = machine; blocks = pool; patience = p }) patience_is

-- the state that it was made with is the opening one
pub opening_is : (setting stated : Setting) (state : State) → state ≡ opening_state setting → setting ≡ stated →
    state ≡ opening_state stated
opening_is setting stated state opens is = opens ∙ ap opening_state is

beats_fit : (setting : Setting) (one : Command) → fits_command (limits_of setting) one ≡ true →
    BeatsInRange (machine_of setting).threads one
beats_fit setting (command.Load force names beats) fits = beats_in_range (limits_of setting) force names beats fits
beats_fit setting other fits = tt

-- so much of a command's range at a setting that is the same
pub range_now : (setting setting_now : Setting) (one : Command) → setting_now ≡ setting → InRange setting one →
    InRange setting_now one
range_now setting setting_now one same within = subst (λ (s : Setting). InRange s one) (sym same) within

pub beats_now : (setting setting_now : Setting) (one : Command) → setting_now ≡ setting →
    fits_command (limits_of setting) one ≡ true → BeatsInRange (machine_of setting_now).threads one
beats_now setting setting_now one same fits =
    subst (λ (s : Setting). BeatsInRange (machine_of s).threads one) (sym same) (beats_fit setting one fits)

-- a count that rose in the second of two calls rose in the two
pub rose_late : (p q r : ℕ) → p ≤ q → q ≤ r → Rose q r → Rose p r
rose_late p q r first second rose = grind arith

-- a session that a command ended was neither cut short nor wanted memory
pub through : {D : Type 0} (outside : Outside D) (setting : Setting) (commands : List Command)
    (before now : Surroundings D) (answer : CommandAnswer) →
    PlaysWhole outside setting commands before now (answer_by (ended_by answer) false) →
    IsPlayedThrough outside setting commands before now (answer_by (ended_by answer) false)
through outside setting commands before now (Load (load.ReadFault file)) whole = whole
through outside setting commands before now (Load (load.BadFile file fault)) whole = whole
through outside setting commands before now (Load (load.Panicked t)) whole = whole
through outside setting commands before now other whole = whole

module _ (commands items : List Command) (same_items : items ≡ commands) (i : ℕ) (one : Command)
    (below_items : i < length items) (is_item : one ≡ get_or items i one) where
  below : i < length commands
  below = subst (λ (all : List Command). i < length all) same_items below_items

  is : one ≡ get_or commands i one
  is = is_item ∙ ap (λ (all : List Command). get_or all i one) same_items

  -- what holds of all commands holds of this one
  pub at_place : (P : Command → Type 0) → All P commands → P one
  at_place P all = subst P (sym is) (all i one below)

  split : take i commands ++ one ∷ drop (suc i) commands ≡ commands
  split =
      ap (λ (first : Command). take i commands ++ first ∷ drop (suc i) commands) is
      ∙ ap (λ (rest : List Command). take i commands ++ rest) (sym (drop-cons commands i one below))
      ∙ take-append-drop i commands

  more : take i commands ++ one ∷ [] ≡ take (i + 1) commands
  more =
      ap (λ (last : Command). take i commands ++ last ∷ []) is
      ∙ sym (take-suc commands i one below)
      ∙ ap (λ (n : ℕ). take n commands) (sym (add-one i))

  place : i + 1 ≡ 1 + length (take i commands)
  place = omega (arith, below, length-take i commands)

  module _ {D : Type 0} (outside : Outside D) (tells : Type 0) (holds : List ℕ → List ℕ)
      (setting setting_now : Setting) (same : setting_now ≡ setting) (done : Bool)
      (first : Surroundings D) (now : Situation D)
      (so_far : PlayedSoFar (with_files outside tells holds) setting (take i commands) done first now)
      (tells_now : Type 0) (holds_now : List ℕ → List ℕ) (still : tells → tells_now) (same_holds : holds_now ≡ holds)
    where
      abbrev whole : Outside D
      whole = with_files outside tells holds

      abbrev outside_now : Outside D
      outside_now = with_files outside tells_now holds_now

      held_then : (reads : List Read) → HeldWhere tells_now holds_now reads → HeldWhere tells holds reads
      held_then reads held told = subst (λ (h : List ℕ → List ℕ). AreHeld h reads) same_holds (held (still told))

      module _ (next : Situation D) (answer : CommandAnswer)
          (answered : Answers outside_now setting_now (i + 1) one now next answer)
        where
          answered_here : Answers outside_now setting (i + 1) one now next answer
          answered_here =
              subst (λ (s : Setting). Answers outside_now s (i + 1) one now next answer) same answered

          -- the command was answered, and the session goes on
          pub one_more_at : (all : Bool) → all ≡ (done && is_done answer) → ends_session answer ≡ false →
              PlayedSoFar whole setting (take (i + 1) commands) all first next
          one_more_at all is_all goes_on =
              subst (λ (b : Bool). PlayedSoFar whole setting (take (i + 1) commands) b first next) (sym is_all)
              (subst (λ (so_many : List Command).
              PlayedSoFar whole setting so_many (done && is_done answer) first next) more
              (one_more outside tells holds setting first (take i commands) done now so_far (i + 1) place one
              (HeldWhere tells_now holds_now) held_then next answer answered_here goes_on))

          -- the command was answered, and ended the session
          pub last_at : (end : SessionAnswer) → ends_session answer ≡ true → end ≡ answer_by (ended_by answer) false →
              IsPlayedThrough whole setting commands first (around next) end
          last_at end ends is_end =
              subst (IsPlayedThrough whole setting commands first (around next)) (sym is_end)
              (through whole setting commands first (around next) answer
              (subst (λ (all : List Command).
              PlaysWhole whole setting all first (around next) (answer_by (ended_by answer) false)) split
              (last_played outside tells holds setting first (take i commands) done now so_far (i + 1) place one
              (HeldWhere tells_now holds_now) held_then next answer answered_here ends (drop (suc i) commands))))

      -- the command was begun, and not answered
      pub cut_at : BegunGoesOn → AlwaysRuns item_line outside.lists → IsPartition setting.machine.stated →
          All (λ other. InRange setting other) commands → (next : Situation D) →
          Starts outside_now setting_now (i + 1) one now next →
          PlaysFront whole setting commands first (around next)
      cut_at law always partition within next starts =
          subst (λ (all : List Command). PlaysFront whole setting all first (around next)) split
          (cut_short outside tells holds setting first (take i commands) done now so_far (i + 1) place one
          (HeldWhere tells_now holds_now) held_then law always partition (drop (suc i) commands) next
          (subst (All (λ other. InRange setting other)) (sym split) within)
          (subst (λ (s : Setting). Starts outside_now s (i + 1) one now next) same starts))

-- all commands were answered
pub all_at : {D : Type 0} (outside : Outside D) (tells : Type 0) (holds : List ℕ → List ℕ) (setting : Setting)
    (commands items : List Command) → items ≡ commands → (i : ℕ) (done : Bool) (first : Surroundings D)
    (now : Situation D) (answer : SessionAnswer) → length items ≤ i →
    PlayedSoFar (with_files outside tells holds) setting (take i commands) done first now → short_unless done ≡ answer →
    PlaysWhole (with_files outside tells holds) setting commands first (around now) answer
all_at outside tells holds setting commands items same_items i done first now answer past so_far is =
    subst (PlaysWhole (with_files outside tells holds) setting commands first (around now)) is
    (subst (λ (all : List Command).
    PlaysWhole (with_files outside tells holds) setting all first (around now) (short_unless done))
    (take_all i commands (subst (λ (all : List Command). length all ≤ i) same_items past))
    (all_played outside tells holds setting first (take i commands) done now so_far))
