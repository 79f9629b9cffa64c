-- What a session answers, by commands that did not end it and one behind them.
use Rattle.std.proofs.Common.{◌≡◌, ◌&&◌, ◌++◌, Bool, true, false, List, [], ◌∷◌, Option, Some, None, refl, sym, ap, ◌∙◌}
use Rattle.std.proofs.Math.Bool.{and_assoc, and-false}
use Rattle.script_text.specs.declared.command.Command.{Command}
use Rattle.session_text.specs.declared.answers.CommandAnswer.{CommandAnswer}
use Rattle.session_text.specs.declared.answers.CommandAnswer.TheVariants.{Done, Load}
use Rattle.session_text.specs.declared.answers.LoadAnswer.TheVariants as load
use Rattle.session_text.specs.declared.answers.SessionAnswer.{SessionAnswer}
use Rattle.session_steps.specs.State.{Setting, State}
use Rattle.session_steps.specs.Did.{Did}
use Rattle.session_steps.specs.Session.{ends_session, is_done, all_done, ended_by, or_else, first_end, answer_by, session_answer}
use Rattle.session_steps.specs.Played.{is_read_fault}
use Rattle.session_steps.specs.Whole.{is_unread}
use Rattle.command_laws.proofs.Steps.{unread_by}
use Rattle.cut_laws.specs.SoFar.{StepsTo}

-- ---- one answer

ended_none : (answer : CommandAnswer) → ends_session answer ≡ false → ended_by answer ≡ None
ended_none (Load (load.ReadFault file)) goes_on = cc
ended_none (Load (load.BadFile file fault)) goes_on = cc
ended_none (Load (load.Panicked t)) goes_on = cc
ended_none answer goes_on = refl

end_is_not_done : (answer : CommandAnswer) → ends_session answer ≡ true → is_done answer ≡ false
end_is_not_done Done ends = cc
end_is_not_done answer ends = refl

pub goes_on_read : (answer : CommandAnswer) → ends_session answer ≡ false → is_read_fault answer ≡ false
goes_on_read (Load (load.ReadFault file)) goes_on = cc
goes_on_read answer goes_on = refl

-- a file is unread where this ended the session exactly where this left it so
pub end_unread : (answer : CommandAnswer) → is_unread (answer_by (ended_by answer) false) ≡ is_read_fault answer
end_unread (Load (load.ReadFault file)) = refl
end_unread (Load (load.BadFile file fault)) = refl
end_unread (Load (load.Panicked t)) = refl
end_unread answer = refl

or_none : (end : Option SessionAnswer) → or_else end None ≡ end
or_none (Some answer) = refl
or_none None = refl

-- ---- answers one after another

-- those that did not end the session leave its end to those behind them
first_end-behind : (lists : Bool) (setting : Setting) (state : State) (commands : List Command) (dids : List Did)
    (after : State) (more : List Did) → StepsTo lists setting state commands dids after →
    first_end (dids ++ more) ≡ first_end more
first_end-behind lists setting state [] [] after more steps = refl
first_end-behind lists setting state (one ∷ commands) (did ∷ dids) after more steps =
    ap (λ (end : Option SessionAnswer). or_else end (first_end (dids ++ more))) (ended_none did.answer steps.1)
    ∙ first_end-behind lists setting did.after commands dids after more steps.2
first_end-behind lists setting state [] (did ∷ dids) after more steps = absurd steps
first_end-behind lists setting state (one ∷ commands) [] after more steps = absurd steps

pub all_done-append : (dids more : List Did) → all_done (dids ++ more) ≡ (all_done dids && all_done more)
all_done-append [] more = refl
all_done-append (did ∷ dids) more =
    ap (λ (b : Bool). is_done did.answer && b) (all_done-append dids more)
    ∙ sym (and_assoc (is_done did.answer) (all_done dids) (all_done more))

-- where none ended the session, it answers whether all were done
pub answer_of_all : (lists : Bool) (setting : Setting) (state : State) (commands : List Command) (dids : List Did)
    (after : State) → StepsTo lists setting state commands dids after →
    first_end dids ≡ None
answer_of_all lists setting state [] [] after steps = refl
answer_of_all lists setting state (one ∷ commands) (did ∷ dids) after steps =
    ap (λ (end : Option SessionAnswer). or_else end (first_end dids)) (ended_none did.answer steps.1)
    ∙ answer_of_all lists setting did.after commands dids after steps.2
answer_of_all lists setting state [] (did ∷ dids) after steps = absurd steps
answer_of_all lists setting state (one ∷ commands) [] after steps = absurd steps

module _ (lists : Bool) (setting : Setting) (state : State) (commands : List Command) (dids : List Did)
    (after : State) (steps : StepsTo lists setting state commands dids after) where
  -- one that ends the session decides its answer
  pub answer_of_end : (did : Did) → ends_session did.answer ≡ true →
      session_answer (dids ++ did ∷ []) ≡ answer_by (ended_by did.answer) false
  answer_of_end did ends =
      let last : first_end (dids ++ did ∷ []) ≡ ended_by did.answer =
      first_end-behind lists setting state commands dids after (did ∷ []) steps ∙ or_none (ended_by did.answer) in
      let not_done : all_done (dids ++ did ∷ []) ≡ false =
      all_done-append dids (did ∷ [])
      ∙ ap (λ (b : Bool). all_done dids && (b && true)) (end_is_not_done did.answer ends)
      ∙ and-false (all_done dids) in
      ap (λ (end : Option SessionAnswer). answer_by end (all_done (dids ++ did ∷ []))) last
      ∙ ap (λ (b : Bool). answer_by (ended_by did.answer) b) not_done

  -- the answers of those behind them say whether a file is unread
  pub unread_behind : (more : List Did) →
      is_unread (session_answer (dids ++ more)) ≡ is_unread (session_answer more)
  unread_behind more =
      ap (λ (end : Option SessionAnswer). is_unread (answer_by end (all_done (dids ++ more))))
      (first_end-behind lists setting state commands dids after more steps)
      ∙ unread_by (first_end more) (all_done (dids ++ more)) (all_done more)
