-- What a call that runs one command came to, by what it wrote of the command's text.
use Rattle.std.proofs.Common.{◌≡◌, ℕ, ◌+◌, ◌≤◌, Bool, true, false, IsTrue, List, ◌++◌, length, Result, Ok, Err, refl, sym, ap, ◌∙◌, subst, inl, inr, arith, length-append, append_assoc}
use Rattle.std.proofs.lemmas.Bool.{false≢true}
use Rattle.uc_io.specs.Faults.{Rose}
use Rattle.uc_io.specs.Writing.{Grew, Writes}
use Rattle.uc_io.proofs.Writes.{Grew-then, Writes-then}
use Rattle.session_steps.specs.status_rule.Written.{IsFront}
use Rattle.session_steps.specs.script_text.declared.command.Command.{Command}
use Rattle.session_steps.specs.session_text.Lines.{answer_line}
use Rattle.session_steps.specs.session_text.declared.answers.CommandAnswer.{CommandAnswer}
use Rattle.session_steps.specs.session_text.declared.answers.Played.{Played}
use Rattle.session_steps.specs.session_text.declared.answers.Played.TheVariants.{Answered, WriteFault, NoMemory}
use Rattle.session_steps.specs.State.{Setting, State}
use Rattle.session_steps.specs.Did.{Did}
use Rattle.session_steps.specs.session_text.Headings.{heading, names_in}
use Rattle.session_steps.specs.Session.{text_of}
use Rattle.session_steps.specs.Calls.{Outside, Situation}
use Rattle.session_steps.specs.Played.{is_read_fault, MayRun, FileCause, ran_once, Starts, IsPlayed, LeftBy}
use Rattle.uc_session.specs.Playing.{told_of, WroteFront, Follows}

-- what the call came to, by the last write
abbrev pub come : {E : Type 0} → CommandAnswer → Result (Unit {0}) E → Played
come answer (Ok done) = Answered answer
come answer (Err failed) = WriteFault

-- ---- texts

-- the text of a command is its heading and the rest
parts_of : (k : ℕ) (one : Command) (did : Did) → text_of k one did ≡ heading k one ++ (did.shown ++ told_of one did)
unfolding text_of
parts_of k one did =
    append_assoc (heading k one ++ did.shown) did.told (answer_line (names_in one) did.answer)
    ∙ append_assoc (heading k one) did.shown (told_of one did)

-- a front of the rest, with the heading before it, is a front of the text
longer_front : (k : ℕ) (one : Command) (did : Did) (front : List ℕ) → IsFront front (did.shown ++ told_of one did) →
    IsFront (heading k one ++ front) (text_of k one did)
longer_front k one did front is =
    (is.0, parts_of k one did ∙ ap (λ text. heading k one ++ text) is.1 ∙ sym (append_assoc (heading k one) front is.0))

-- a file is unread only where the files' count rose
by_fault : (unread : Bool) (before now : ℕ) → FileCause unread before now → IsTrue unread → Rose before now
by_fault true before now cause is = cause
by_fault false before now cause is = absurd (false≢true is)

-- ---- which state is left

-- the state that was before stands where no more was written than what is shown
pub still_old : (front rest shown : List ℕ) (old after : State) → shown ≡ front ++ rest → LeftBy front shown old old after
still_old front rest shown old after split =
    let lengths : length shown ≡ length front + length rest = ap length split ∙ length-append front rest in
    record {
      less = λ below. refl;
      just = λ same. inl refl;
      more = λ above. absurd (omega (arith, lengths, above));
    }

-- the state after the command stands where all that is shown was written
pub is_new : (shown front : List ℕ) (old after : State) → LeftBy (shown ++ front) shown old after after
is_new shown front old after =
    let lengths : length (shown ++ front) ≡ length shown + length front = length-append shown front in
    record {
      less = λ below. absurd (omega (arith, lengths, below));
      just = λ same. inr refl;
      more = λ above. refl;
    }

-- the same with a heading before both
with_heading : (head front shown : List ℕ) (old new after : State) → LeftBy front shown old new after →
    LeftBy (head ++ front) (head ++ shown) old new after
with_heading head front shown old new after left =
    let one : length (head ++ front) ≡ length head + length front = length-append head front in
    let two : length (head ++ shown) ≡ length head + length shown = length-append head shown in
    record {
      less = λ below. left.less (omega (arith, one, two, below));
      just = λ same. left.just (omega (arith, one, two, same));
      more = λ above. left.more (omega (arith, one, two, above));
    }

-- ---- behind the heading

module _ {D : Type 0} (outside : Outside D) (one : Command) (did : Did) (before : Situation D) where
  -- what is shown was written and the state has changed; then the rest was written, or not all of it
  pub told : {E : Type 0} (mid : D) (now : Situation D) (r : Result (Unit {0}) E) → now.state ≡ did.after →
      Writes {E = E} outside.stands outside.faults before.sink mid did.shown (Ok tt) →
      Writes outside.stands outside.faults mid now.sink (told_of one did) r →
      Follows outside one did before now (come did.answer r)
  told {E = E} mid now (Ok done) is_after shown rest =
      let all : Writes {E = E} outside.stands outside.faults before.sink now.sink (did.shown ++ told_of one did) (Ok done) =
      Writes-then outside.stands outside.faults before.sink mid now.sink did.shown (told_of one did) {E = E} (Ok done) shown rest in
      record {
        later = all.later;
        cause = all.still;
        follows = record { is_answer = refl; is_after = is_after; grew = all.outcome };
      }
  told {E = E} mid now (Err failed) is_after shown rest =
      let all : Writes {E = E} outside.stands outside.faults before.sink now.sink (did.shown ++ told_of one did) (Err failed) =
      Writes-then outside.stands outside.faults before.sink mid now.sink did.shown (told_of one did) {E = E} (Err failed) shown rest in
      let front : List ℕ = rest.outcome.0.front in
      record {
        later = all.later;
        cause = all.outcome.1;
        follows = (
          record {
            front = did.shown ++ front;
            is_front = (
              rest.outcome.0.rest,
              ap (λ text. did.shown ++ text) rest.outcome.0.split ∙ sym (append_assoc did.shown front rest.outcome.0.rest),
            );
            grew = Grew-then outside.stands before.sink mid now.sink did.shown front shown.outcome rest.outcome.0.grew;
          },
          subst (λ (left : State). LeftBy (did.shown ++ front) did.shown before.state left did.after) (sym is_after)
              (is_new did.shown front before.state did.after),
          all.outcome.1,
        );
      }

  -- a front of what is shown was written, and the state is as it was
  module _ (now : Situation D) (same : now.state ≡ before.state) (front rest : List ℕ)
      (later : outside.faults before.sink ≤ outside.faults now.sink) (split : did.shown ≡ front ++ rest)
      (grew : Grew outside.stands before.sink now.sink front) where
    abbrev shown_front : WroteFront outside one did before now
    shown_front = record {
      front = front;
      is_front = (rest ++ told_of one did, ap (λ text. text ++ told_of one did) split ∙ append_assoc front rest (told_of one did));
      grew = grew;
    }

    pub cut : Rose (outside.faults before.sink) (outside.faults now.sink) → Follows outside one did before now WriteFault
    cut rose = record {
      later = later;
      cause = rose;
      follows = (
        shown_front,
        subst (λ (left : State). LeftBy front did.shown before.state left did.after) (sym same)
            (still_old front rest did.shown before.state did.after split),
        rose,
      );
    }

    pub out : outside.faults now.sink ≡ outside.faults before.sink → Follows outside one did before now NoMemory
    out still = record { later = later; cause = still; follows = (shown_front, same) }

-- ---- with the heading

module _ {D : Type 0} (outside : Outside D) (setting : Setting) (k : ℕ) (one : Command) (before now : Situation D)
    (did : Did) (may : MayRun outside.lists outside.held setting one before.state did)
    (cause : FileCause (is_read_fault did.answer) before.files now.files) where
  -- the heading was written, and a front of the rest
  abbrev starts : (mid : D) → Grew outside.stands before.sink mid (heading k one) →
      WroteFront outside one did (record before { sink = mid }) now → Starts outside setting k one before now
  starts mid head wrote = record {
    did = did;
    may = may;
    front = heading k one ++ wrote.front;
    is_front = longer_front k one did wrote.front wrote.is_front;
    grew = Grew-then outside.stands before.sink mid now.sink (heading k one) wrote.front head wrote.grew;
    by_fault = by_fault (is_read_fault did.answer) before.files now.files cause;
  }

  pub after_heading : {E : Type 0} (mid : D) (come : Played) →
      ((answer : CommandAnswer) → come ≡ Answered answer → outside.lists ≡ false → now.runs ≡ before.runs ++ ran_once did.ran) →
      Writes {E = E} outside.stands outside.faults before.sink mid (heading k one) (Ok tt) →
      Follows outside one did (record before { sink = mid }) now come → IsPlayed outside setting k one before now come
  after_heading {E = E} mid (Answered answer) kept head rest =
      let all : Grew outside.stands before.sink now.sink (heading k one ++ (did.shown ++ told_of one did)) =
      Grew-then outside.stands before.sink mid now.sink (heading k one) (did.shown ++ told_of one did) head.outcome rest.follows.grew in
      record {
        did = did;
        may = may;
        is_answer = rest.follows.is_answer;
        is_after = rest.follows.is_after;
        grew = subst (λ text. Grew outside.stands before.sink now.sink text) (sym (parts_of k one did)) all;
        cause = subst (λ a. FileCause (is_read_fault a) before.files now.files) (sym rest.follows.is_answer) cause;
        kept = kept answer refl;
      }
  after_heading {E = E} mid WriteFault kept head rest = record {
    starts = starts mid head.outcome rest.follows.0;
    left = with_heading (heading k one) rest.follows.0.front did.shown before.state now.state did.after rest.follows.1;
    rose = grind (arith, head.later, rest.later, rest.follows.2);
  }
  after_heading {E = E} mid NoMemory kept head rest = record {
    starts = starts mid head.outcome rest.follows.0;
    same = rest.follows.1;
  }

  -- not even the heading was written, and nothing was done
  pub no_heading : {E : Type 0} (e : E) →
      Writes {E = E} outside.stands outside.faults before.sink now.sink (heading k one) (Err e) →
      now.state ≡ before.state → IsPlayed outside setting k one before now WriteFault
  no_heading e head same = record {
    starts = record {
      did = did;
      may = may;
      front = head.outcome.0.front;
      is_front = (
        head.outcome.0.rest ++ (did.shown ++ told_of one did),
        parts_of k one did
            ∙ ap (λ text. text ++ (did.shown ++ told_of one did)) head.outcome.0.split
            ∙ append_assoc head.outcome.0.front head.outcome.0.rest (did.shown ++ told_of one did),
      );
      grew = head.outcome.0.grew;
      by_fault = by_fault (is_read_fault did.answer) before.files now.files cause;
    };
    left = subst
        (λ (left : State). LeftBy head.outcome.0.front (heading k one ++ did.shown) before.state left did.after) (sym same)
        (still_old head.outcome.0.front (head.outcome.0.rest ++ did.shown) (heading k one ++ did.shown) before.state did.after
        (ap (λ text. text ++ did.shown) head.outcome.0.split ∙ append_assoc head.outcome.0.front head.outcome.0.rest did.shown));
    rose = head.outcome.1;
  }
