-- Commands of a script that were run one after another: one more of them, the last, and one that was cut short.
use Rattle.std.proofs.Common.{◌≡◌, ◌&&◌, ◌++◌, ℕ, ◌+◌, Bool, true, false, List, [], ◌∷◌, length, Option, Some, None, refl, sym, ap, ◌∙◌, subst, append_assoc, append-nil}
use Rattle.std.specs.List.{All}
use Rattle.std.proofs.Math.Bool.{and-true}
use Rattle.uc_io.specs.Faults.{Rose}
use Rattle.uc_io.specs.Writing.{Grew}
use Rattle.uc_topology.specs.Stated.{IsPartition}
use Rattle.read_model.specs.Reads.{Read, AreHeld}
use Rattle.read_model.proofs.Outcomes.{held_nil, held_append}
use Rattle.rendezvous_rule.specs.Runs.{RunOf, AlwaysRuns}
use Rattle.rendezvous_steps.specs.ItemText.{item_line}
use Rattle.script_text.specs.declared.command.Command.{Command}
use Rattle.session_text.specs.declared.answers.CommandAnswer.{CommandAnswer}
use Rattle.session_text.specs.declared.answers.SessionAnswer.{SessionAnswer}
use Rattle.session_steps.specs.State.{Setting, opening_state}
use Rattle.session_steps.specs.Did.{Did}
use Rattle.session_steps.specs.Session.{Steps, ends_session, text_of, texts_from, all_reads, with_run, all_runs, is_done, all_done, ended_by, answer_by, short_unless, session_answer}
use Rattle.session_steps.specs.Calls.{Outside, HeldWhere, Surroundings, Situation, around}
use Rattle.session_steps.specs.Played.{FileCause, ran_once, Answers, Starts}
use Rattle.session_steps.specs.Whole.{is_unread, PlaysWhole, PlaysFront}
use Rattle.session_laws.specs.Standing.{InRange, OpeningStands}
use Rattle.command_laws.specs.Steps.{SessionsExist}
use Rattle.cut_laws.specs.SoFar.{StepsTo, PlayedSoFar}
use Rattle.cut_laws.specs.Laws.{GoesOn, BegunGoesOn}
use Rattle.cut_laws.proofs.Answered.{goes_on_read, end_unread, all_done-append, answer_of_all, answer_of_end}
use Rattle.cut_laws.proofs.Going.{reads-append, runs-append, texts-behind, steps-behind, one_more_step, last_step}

-- one text written after another
grew_then : {D : Type 0} (stands : D → List ℕ → Type 0) (old mid new : D) (a b : List ℕ) →
    Grew stands old mid a → Grew stands mid new b → Grew stands old new (a ++ b)
grew_then stands old mid new a b first second = record {
  each =
      λ taken before. subst (stands new) (append_assoc taken a b) (second.each (taken ++ a) (first.each taken before));
}

ran_once-is : (ran : Option RunOf) → with_run ran [] ≡ ran_once ran
ran_once-is None = refl
ran_once-is (Some run) = refl

-- a count of faults that stood until a command, by what caused it to rise in that command
cause_since : (unread : Bool) (before now after : ℕ) → now ≡ before → FileCause unread now after →
    FileCause unread before after
cause_since true before now after stood cause = subst (λ (n : ℕ). Rose n after) stood cause
cause_since false before now after stood cause = cause ∙ stood

no_texts : (k : ℕ) (commands : List Command) → texts_from k commands [] ≡ []
no_texts k [] = refl
no_texts k (one ∷ commands) = refl

regroup : (a b c d : List ℕ) → a ++ ((b ++ c) ++ d) ≡ (a ++ b) ++ (c ++ d)
regroup a b c d = simp append_assoc

not_both : (b : Bool) → b ≡ true → b ≡ false → ⊥
not_both b is is_not = cc

-- an outside whose files hold this, where they tell
abbrev pub with_files : {D : Type 0} → Outside D → Type 0 → (List ℕ → List ℕ) → Outside D
with_files outside tells holds = record outside { held = HeldWhere tells holds }

module _ {D : Type 0} (outside : Outside D) (tells : Type 0) (holds : List ℕ → List ℕ) (setting : Setting)
    (first : Surroundings D) where
  abbrev pub whole : Outside D
  whole = with_files outside tells holds

  abbrev pub SoFar : List Command → Bool → Situation D → Type 0
  SoFar commands done now = PlayedSoFar whole setting commands done first now

  -- ---- before the first

  pub before_the_first :
      SoFar [] true (record { state = opening_state setting; files = first.files; runs = first.runs; sink = first.sink })
  before_the_first = record {
    dids = [];
    steps = refl;
    held = λ told. held_nil holds;
    is_done = refl;
    grew = record { each = λ taken before. subst (outside.stands first.sink) (sym (append-nil taken)) before };
    no_fault = refl;
    kept = λ unlisted. sym (append-nil first.runs);
  }

  module _ (commands : List Command) (done : Bool) (now : Situation D) (so_far : SoFar commands done now) where
    -- ---- all of them

    cause_of_all : (all : Bool) → FileCause (is_unread (short_unless all)) first.files now.files
    cause_of_all true = so_far.no_fault
    cause_of_all false = so_far.no_fault

    -- all commands were answered, and none ended the session
    pub all_played : PlaysWhole whole setting commands first (around now) (short_unless done)
    all_played =
        let steps : Steps outside.lists setting (commands ++ []) (so_far.dids ++ []) =
        steps-behind outside.lists setting (opening_state setting) commands so_far.dids now.state [] [] so_far.steps tt in
        record {
          dids = so_far.dids;
          may = record {
            steps =
                subst (λ (all : List Command). Steps outside.lists setting all so_far.dids) (append-nil commands)
                (subst (λ (all : List Did). Steps outside.lists setting (commands ++ []) all) (append-nil so_far.dids)
                steps);
            is_held = so_far.held;
          };
          is_answer =
              ap short_unless so_far.is_done
              ∙ sym (ap (λ (end : Option SessionAnswer). answer_by end (all_done so_far.dids))
              (answer_of_all outside.lists setting (opening_state setting) commands so_far.dids now.state
              so_far.steps));
          grew = so_far.grew;
          cause = cause_of_all done;
          kept = so_far.kept;
        }

    -- ---- one behind them

    module _ (k : ℕ) (place : k ≡ 1 + length commands) (one : Command) (held_now : List Read → Type 0)
        (same : (reads : List Read) → held_now reads → HeldWhere tells holds reads) where
      abbrev outside_now : Outside D
      outside_now = record outside { held = held_now }

      texts_with : (rest : List Command) (did : Did) (more : List Did) →
          texts_from 1 (commands ++ one ∷ rest) (so_far.dids ++ did ∷ more)
          ≡ texts_from 1 commands so_far.dids ++ (text_of k one did ++ texts_from (k + 1) rest more)
      texts_with rest did more =
          texts-behind outside.lists setting 1 (opening_state setting) commands so_far.dids now.state (one ∷ rest)
          (did ∷ more)
          so_far.steps
          ∙ ap (λ (n : ℕ). texts_from 1 commands so_far.dids ++ (text_of n one did ++ texts_from (n + 1) rest more))
          (sym place)

      reads_with : (did : Did) (more : List Did) → held_now did.reads → (tells → AreHeld holds (all_reads more)) →
          HeldWhere tells holds (all_reads (so_far.dids ++ did ∷ more))
      reads_with did more held behind told =
          subst (AreHeld holds) (sym (reads-append so_far.dids (did ∷ more)))
          (held_append holds (all_reads so_far.dids) (did.reads ++ all_reads more) (so_far.held told)
          (held_append holds did.reads (all_reads more) (same did.reads held told) (behind told)))

      -- a command that was answered
      module _ (next : Situation D) (answer : CommandAnswer) (is : Answers outside_now setting k one now next answer)
        where
          text_of_both : (rest : List Command) →
              Grew outside.stands first.sink next.sink
              (texts_from 1 (commands ++ one ∷ rest) (so_far.dids ++ is.did ∷ []))
          text_of_both rest =
              let one_text : text_of k one is.did ++ texts_from (k + 1) rest [] ≡ text_of k one is.did =
              ap (λ (text : List ℕ). text_of k one is.did ++ text) (no_texts (k + 1) rest)
              ∙ append-nil (text_of k one is.did) in
              subst (Grew outside.stands first.sink next.sink)
              (sym (texts_with rest is.did []
              ∙ ap (λ (text : List ℕ). texts_from 1 commands so_far.dids ++ text) one_text))
              (grew_then outside.stands first.sink now.sink next.sink (texts_from 1 commands so_far.dids)
              (text_of k one is.did) so_far.grew is.grew)

          runs_of_both : outside.lists ≡ false → next.runs ≡ first.runs ++ all_runs (so_far.dids ++ is.did ∷ [])
          runs_of_both unlisted =
              is.kept unlisted
              ∙ ap (λ (all : List RunOf). all ++ ran_once is.did.ran) (so_far.kept unlisted)
              ∙ append_assoc first.runs (all_runs so_far.dids) (ran_once is.did.ran)
              ∙ ap (λ (all : List RunOf). first.runs ++ all)
              (sym (runs-append so_far.dids (is.did ∷ [])
              ∙ ap (λ (all : List RunOf). all_runs so_far.dids ++ all) (ran_once-is is.did.ran)))

          -- it did not end the session
          pub one_more : ends_session answer ≡ false → SoFar (commands ++ one ∷ []) (done && is_done answer) next
          one_more goes_on = record {
            dids = so_far.dids ++ is.did ∷ [];
            steps =
                subst
                (StepsTo outside.lists setting (opening_state setting) (commands ++ one ∷ [])
                (so_far.dids ++ is.did ∷ []))
                (sym is.is_after)
                (one_more_step outside.lists setting (opening_state setting) commands so_far.dids now.state one is.did
                so_far.steps is.may.step (ap ends_session (sym is.is_answer) ∙ goes_on));
            held = reads_with is.did [] is.may.is_held (λ told. held_nil holds);
            is_done =
                ap (λ (b : Bool). b && is_done answer) so_far.is_done
                ∙ ap (λ (a : CommandAnswer). all_done so_far.dids && is_done a) is.is_answer
                ∙ ap (λ (b : Bool). all_done so_far.dids && b) (sym (and-true (is_done is.did.answer)))
                ∙ sym (all_done-append so_far.dids (is.did ∷ []));
            grew = text_of_both [];
            no_fault =
                cause_since false first.files now.files next.files so_far.no_fault
                (subst (λ (b : Bool). FileCause b now.files next.files) (goes_on_read answer goes_on) is.cause);
            kept = runs_of_both;
          }

          -- it ended the session
          pub last_played : ends_session answer ≡ true → (rest : List Command) →
              PlaysWhole whole setting (commands ++ one ∷ rest) first (around next) (answer_by (ended_by answer) false)
          last_played ends rest =
              let did_ends : ends_session is.did.answer ≡ true = ap ends_session (sym is.is_answer) ∙ ends in
              record {
                dids = so_far.dids ++ is.did ∷ [];
                may = record {
                  steps =
                      last_step outside.lists setting commands rest one so_far.dids now.state is.did so_far.steps
                      is.may.step did_ends;
                  is_held = reads_with is.did [] is.may.is_held (λ told. held_nil holds);
                };
                is_answer =
                    ap (λ (a : CommandAnswer). answer_by (ended_by a) false) is.is_answer
                    ∙ sym (answer_of_end outside.lists setting (opening_state setting) commands so_far.dids now.state
                    so_far.steps is.did did_ends);
                grew = text_of_both rest;
                cause =
                    cause_since (is_unread (answer_by (ended_by answer) false)) first.files now.files next.files
                    so_far.no_fault
                    (subst (λ (b : Bool). FileCause b now.files next.files) (sym (end_unread answer)) is.cause);
                kept = runs_of_both;
              }

      -- a command that was begun, and not answered
      pub cut_short : BegunGoesOn → AlwaysRuns item_line outside.lists → IsPartition setting.machine.stated →
          (rest : List Command) (next : Situation D) → All (λ other. InRange setting other) (commands ++ one ∷ rest) →
          Starts outside_now setting k one now next →
          PlaysFront whole setting (commands ++ one ∷ rest) first (around next)
      cut_short law always partition rest next within starts =
          let did : Did = starts.did in
          let goes : GoesOn outside.lists setting (commands ++ one ∷ rest) so_far.dids did holds =
          law outside.lists setting commands rest one so_far.dids now.state did holds always partition within
          so_far.steps starts.may.step in
          record {
            dids = so_far.dids ++ did ∷ goes.more;
            may = record {
              steps = goes.steps;
              is_held = reads_with did goes.more starts.may.is_held (λ told. goes.held);
            };
            front = texts_from 1 commands so_far.dids ++ starts.front;
            is_front = (
              starts.is_front.0 ++ texts_from (k + 1) rest goes.more,
              texts_with rest did goes.more
                  ∙ ap (λ (text : List ℕ).
                  texts_from 1 commands so_far.dids ++ (text ++ texts_from (k + 1) rest goes.more)) starts.is_front.1
                  ∙ regroup (texts_from 1 commands so_far.dids) starts.front starts.is_front.0
                  (texts_from (k + 1) rest goes.more),
            );
            grew =
                grew_then outside.stands first.sink now.sink next.sink (texts_from 1 commands so_far.dids) starts.front
                so_far.grew starts.grew;
            by_fault =
                λ unread. cause_since true first.files now.files next.files so_far.no_fault
                (starts.by_fault (sym goes.unread ∙ unread));
          }

  -- no command was begun
  pub nothing_played : SessionsExist → OpeningStands → AlwaysRuns item_line outside.lists →
      IsPartition setting.machine.stated → (commands : List Command) → All (λ other. InRange setting other) commands →
      PlaysFront whole setting commands first first
  nothing_played exist opens always partition commands within =
      let some = exist outside.lists setting (opening_state setting) commands holds always partition (opens setting)
      within in
      record {
        dids = some.dids;
        may = record { steps = some.steps; is_held = λ told. some.held };
        front = [];
        is_front = (texts_from 1 commands some.dids, refl);
        grew = record { each = λ taken before. subst (outside.stands first.sink) (sym (append-nil taken)) before };
        by_fault = λ unread. absurd (not_both (is_unread (session_answer some.dids)) unread some.all_read);
      }
