-- What holds of the session that a text is of; and what was written is of texts of which this holds.
use Rattle.std.proofs.Common.{ℕ, List, Option}
use Rattle.uc_topology.proofs.Partition.{partition}
use Rattle.status_rule.specs.declared.status.Status.{Status}
use Rattle.status_rule.specs.Written.{Written}
use Rattle.tool_text.specs.rendezvous_rule.Runs.{RunOf}
use Rattle.script_text.proofs.Kept.{within}
use Rattle.tool_text.specs.Words.{Asked, Faulty, ListOf, ShowOf, SelectOf, PlayOf, GenOf}
use Rattle.tool_text.specs.Plays.{limits_of, setting_of}
use Rattle.tool_laws.proofs.Sessions.{Laws, session_holds}
use Rattle.tool_laws.proofs.SomePlay.{all_in_range}
use Rattle.uc_cli.proofs.Headline.{written_as}
use Rattle.live_cli.specs.Headline.{HoldingText, TextsHold}
use Rattle.live_cli.specs.Texts.{Rendezvous, Course, AskedText, FromRuns}

pub texts_hold : Laws → TextsHold
texts_hold laws rendezvous (Faulty i) course files text status = tt
texts_hold laws rendezvous (ListOf names) course files text status = tt
texts_hold laws rendezvous (ShowOf name number) course files text status = tt
texts_hold laws rendezvous (SelectOf topology names) course files text status = tt
texts_hold laws rendezvous (GenOf number) course files text status = tt
texts_hold laws rendezvous (PlayOf topology script) course files text status = λ few plays.
    let limits = limits_of few.machine in
    session_holds laws rendezvous.lists (setting_of few.machine plays.stated)
    (partition few.states.bytes few.machine few.states.is_machine.states) plays.stated.commands plays.plays.dids
    (all_in_range few.machine plays.stated (within limits plays.bytes plays.stated plays.is_script.states))
    plays.plays.steps

module _ (tells : Type 0) (holds : List ℕ → List ℕ) (kept : List RunOf → Type 0) where
  runs_as : (texts others : Course → Option ℕ → List ℕ → Status → Type 0) →
      ((course : Course) (files : Option ℕ) (text : List ℕ) (status : Status) →
      texts course files text status → others course files text status) →
      (files : Option ℕ) (text : List ℕ) (status : Status) → FromRuns tells holds kept texts files text status →
      FromRuns tells holds kept others files text status
  runs_as texts others each files text status is = record {
    course = is.course;
    held = is.held;
    is_kept = is.is_kept;
    is_text = each is.course files text status is.is_text;
  }

-- texts of which the headline holds
pub holding : TextsHold → {D : Type 0} (tells : Type 0) (holds : List ℕ → List ℕ) (kept : List RunOf → Type 0)
    (rose : Type 0) (stands : D → List ℕ → Type 0) (old new : D) (rendezvous : Rendezvous) (line : Asked)
    (status : Status) →
    Written (FromRuns tells holds kept (AskedText rendezvous line)) rose stands old new status →
    Written (FromRuns tells holds kept (HoldingText rendezvous line)) rose stands old new status
holding law tells holds kept rose stands old new rendezvous line status written =
    written_as (FromRuns tells holds kept (AskedText rendezvous line))
    (FromRuns tells holds kept (HoldingText rendezvous line)) rose stands old new
    (runs_as tells holds kept (AskedText rendezvous line) (HoldingText rendezvous line)
    (λ course files text status is.
    record { is_text = is; headline = law rendezvous line course files text status })) status written
