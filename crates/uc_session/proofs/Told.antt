-- What a call came to that does a command in which no rendezvous ran, or is cut short before anything was done.
use Rattle.std.proofs.Common.{◌≡◌, ℕ, Bool, List, [], ◌++◌, Ok, Err, refl, sym, ◌∙◌, subst, arith, append-nil}
use Rattle.uc_io.specs.Writing.{Writes}
use Rattle.session_steps.specs.read_model.Reads.{Read, AreHeld}
use Rattle.session_steps.specs.script_text.declared.command.Command.{Command}
use Rattle.session_steps.specs.session_text.Lines.{answer_line}
use Rattle.session_steps.specs.session_text.declared.answers.Played.{Played}
use Rattle.session_steps.specs.session_text.declared.answers.Played.TheVariants.{Answered, WriteFault, NoMemory}
use Rattle.session_steps.specs.State.{Setting}
use Rattle.session_steps.specs.Did.{ups_text}
use Rattle.session_steps.specs.session_text.Headings.{heading, names_in}
use Rattle.session_steps.specs.Calls.{Outside, Situation}
use Rattle.session_steps.specs.Played.{FileCause, IsPlayed}
use Rattle.command_laws.specs.Steps.{SomeStep}
use Rattle.uc_session.specs.declared.acted.Acted.{Acted}
use Rattle.uc_session.specs.Acts.{Stage, Acts, did_by}
use Rattle.uc_session.specs.Playing.{told_of, Tells, Follows, Does}
use Rattle.uc_session.proofs.Behind.{is_new, after_heading, no_heading}

-- what a call finds or leaves, without its sink
abbrev pub stage_of : {D : Type 0} → Situation D → Stage
stage_of now = record { state = now.state; files = now.files }

module _ {D : Type 0} (outside : Outside D) (setting : Setting) (one : Command) (before now : Situation D) where
  -- the threads that came up and the answer were written, or not all of it
  follows : (reads : List Read) (acted : Acted) (come : Played) →
      Tells outside.stands outside.faults before.sink now.sink (told_of one (did_by reads acted now.state)) acted.answer come →
      Follows outside one (did_by reads acted now.state) before now come
  follows reads acted (Answered answer) told = record {
    later = told.1.later;
    cause = told.1.still;
    follows = record { is_answer = told.0; is_after = refl; grew = told.1.outcome };
  }
  follows reads acted WriteFault told = record {
    later = told.later;
    cause = told.outcome.1;
    follows = (
      record { front = told.outcome.0.front; is_front = (told.outcome.0.rest, told.outcome.0.split); grew = told.outcome.0.grew },
      is_new [] told.outcome.0.front before.state now.state,
      told.outcome.1,
    );
  }
  follows reads acted NoMemory told = absurd told

  pub acted_does : (acted : Acted) (names : List (List ℕ)) (come : Played) →
      Acts outside.held setting one (stage_of before) (stage_of now) acted → names_in one ≡ names → now.runs ≡ before.runs →
      Tells outside.stands outside.faults before.sink now.sink (ups_text acted.ups.items ++ answer_line names acted.answer) acted.answer come →
      Does outside setting one before now come
  acted_does acted names come acts named no_run told = record {
    did = did_by acts.reads acted now.state;
    step = acts.step outside.lists;
    is_held = acts.is_held;
    cause = acts.cause;
    rest =
        follows acts.reads acted come
        (subst (λ (all : List (List ℕ)). Tells outside.stands outside.faults before.sink now.sink (ups_text acted.ups.items ++ answer_line all acted.answer) acted.answer come) (sym named) told);
    kept = λ answer is unlisted. no_run ∙ sym (append-nil before.runs);
  }

  -- memory ran out before anything was done
  pub begun : (holds : List ℕ → List ℕ) → ((reads : List Read) → AreHeld holds reads → outside.held reads) →
      SomeStep outside.lists setting before.state one holds → now.files ≡ before.files → now.state ≡ before.state →
      Does outside setting one before (record now { sink = before.sink }) NoMemory
  begun holds tell some still same = record {
    did = some.did;
    step = some.step;
    is_held = tell some.did.reads some.held;
    cause = subst (λ (unread : Bool). FileCause unread before.files now.files) (sym some.all_read) still;
    rest = record {
      later = omega arith;
      cause = refl;
      follows = (
        record {
          front = [];
          is_front = (some.did.shown ++ told_of one some.did, refl);
          grew = record { each = λ taken is. subst (λ text. outside.stands before.sink text) (sym (append-nil taken)) is };
        },
        same,
      );
    };
    kept = λ answer is. cc;
  }

  -- ---- with the heading

  pub does_play : {E : Type 0} (k : ℕ) (mid : D) (come : Played) →
      Writes {E = E} outside.stands outside.faults before.sink mid (heading k one) (Ok tt) →
      Does outside setting one (record before { sink = mid }) now come → IsPlayed outside setting k one before now come
  does_play {E = E} k mid come head does =
      after_heading outside setting k one before now does.did (record { step = does.step; is_held = does.is_held }) does.cause
      {E = E} mid come does.kept head does.rest

  -- not even the heading was written
  pub nothing_played : {E : Type 0} (e : E) (k : ℕ) (holds : List ℕ → List ℕ) →
      ((reads : List Read) → AreHeld holds reads → outside.held reads) →
      SomeStep outside.lists setting before.state one holds → now.files ≡ before.files → now.state ≡ before.state →
      Writes {E = E} outside.stands outside.faults before.sink now.sink (heading k one) (Err e) →
      IsPlayed outside setting k one before now WriteFault
  nothing_played {E = E} e k holds tell some still same head =
      no_heading outside setting k one before now some.did
      (record { step = some.step; is_held = tell some.did.reads some.held })
      (subst (λ (unread : Bool). FileCause unread before.files now.files) (sym some.all_read) still) {E = E} e head same
