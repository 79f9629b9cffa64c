-- Which read fails in a session that came to an answer.
use Rattle.std.proofs.Common.{◌≡◌, ℕ, false, None, IsSome, refl, sym}
use Rattle.std.specs.Prelude.{IsTrue}
use Rattle.std.proofs.lemmas.Bool.{false≢true}
use Rattle.session_text.specs.declared.answers.SessionAnswer.{SessionAnswer}
use Rattle.session_text.specs.declared.answers.SessionAnswer.TheVariants as session
use Rattle.tool_text.specs.session_steps.Whole.{is_unread}
use Rattle.status_rule.specs.Written.{GoesWith}
use Rattle.tool_text.specs.Plays.{status_of, unread_after}

pub goes : (count : ℕ) (answer : SessionAnswer) → GoesWith (unread_after count answer) (status_of answer)
goes count session.Ended = tt
goes count session.Short = tt
goes count session.BadInput = tt
goes count session.ReadFault = tt
goes count session.WriteFault = tt
goes count (session.Panicked t) = tt
goes count session.NoMemory = tt

pub is_some_unread : (count : ℕ) (answer : SessionAnswer) → IsSome (unread_after count answer) → IsTrue (is_unread answer)
is_some_unread count session.Ended some = some
is_some_unread count session.Short some = some
is_some_unread count session.BadInput some = some
is_some_unread count session.ReadFault some = refl
is_some_unread count session.WriteFault some = some
is_some_unread count (session.Panicked t) some = some
is_some_unread count session.NoMemory some = some

pub no_file : {P : Type 0} → IsSome {T = ℕ} None → P
no_file some = absurd (false≢true some)

-- where every file was read, none is unread
pub none_unread : (count : ℕ) (answer : SessionAnswer) → is_unread answer ≡ false → unread_after count answer ≡ None
none_unread count session.Ended read = refl
none_unread count session.Short read = refl
none_unread count session.BadInput read = refl
none_unread count session.ReadFault read = absurd (false≢true (sym read))
none_unread count session.WriteFault read = refl
none_unread count (session.Panicked t) read = refl
none_unread count session.NoMemory read = refl
