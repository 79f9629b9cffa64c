-- What came of a generated session, and the line on it.
use Rattle.std.specs.Prelude.{ℕ, List, [], ◌∷◌, None, codes, decimal}
use Rattle.tool_text.specs.session_text.declared.answers.SessionAnswer.{SessionAnswer}
use Rattle.status_rule.specs.Status.{RanToItsEnd}
use Rattle.status_rule.specs.Written.{GoesWith}
use Rattle.uc_gen.specs.declared.tally.TallySink.{TallySink}
use Rattle.uc_gen.specs.Tally.{lines_of, last_of, Tallies}
use Rattle.tool_text.specs.report_text.Lines.{joined}
use Rattle.tool_text.specs.Plays.{status_of, IsGenerated}

-- it was played to its end, and its text was counted; no fault came
pub record WasPlayed (number : ℕ) (answer : SessionAnswer) (tally : TallySink) : Type 0 where
  pub whole : List ℕ
  pub generated : IsGenerated number whole answer
  pub tallies : Tallies tally whole
  pub ran : RanToItsEnd (status_of answer)
  pub goes : GoesWith None (status_of answer)

abbrev pub summary_of : ℕ → TallySink → List ℕ
summary_of number tally =
    joined
    (codes "gen " ∷ decimal number
    ∷ codes " lines " ∷ decimal (lines_of tally)
    ∷ codes " last " ∷ last_of tally
    ∷ codes "\n" ∷ [])
