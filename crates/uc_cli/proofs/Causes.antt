-- Why a run ended, by the count of the sink's faults.
use Rattle.std.proofs.Common.{◌≡◌, ℕ, List, sym, ap, ◌∙◌, subst}
use Rattle.uc_io.specs.Faults.{Rose}
use Rattle.tool_text.specs.session_text.declared.answers.SessionAnswer.{SessionAnswer}
use Rattle.tool_text.specs.session_text.declared.answers.SessionAnswer.TheVariants as session
use Rattle.tool_text.specs.session_steps.Whole.{SinkCauseAt}
use Rattle.status_rule.specs.declared.status.Status.{Status}
use Rattle.status_rule.specs.declared.status.Status.TheVariants as statuses
use Rattle.status_rule.specs.Causes.{WriteCause}
use Rattle.status_rule.specs.Written.{memory_line}
use Rattle.status_rule.proofs.Endings.{still_cause, ended_cause}
use Rattle.uc_cli.specs.Playing.{IsEnded}

module _ {D : Type 0} (stands : D → List ℕ → Type 0) (faults : D → ℕ) (old mid new : D) (status : Status) where
  -- nothing more was written, and the session did not end by a write fault
  ended_still : (meant : Status) → (meant ≡ statuses.WriteFault → ⊥) → faults mid ≡ faults old → status ≡ meant → new ≡ mid → WriteCause (faults old) (faults new) status
  ended_still meant never still is same =
      subst (WriteCause (faults old) (faults new)) (sym is) (still_cause meant (faults old) (faults new) never (ap faults same ∙ still))

  -- a run whose session answered so
  pub session_cause : (answer : SessionAnswer) → SinkCauseAt answer (faults old) (faults mid) → IsEnded stands faults mid new answer status → WriteCause (faults old) (faults new) status
  session_cause session.Ended cause ended = ended_still statuses.Done (λ e. cc) cause ended.0 ended.1
  session_cause session.Short cause ended = ended_still statuses.Short (λ e. cc) cause ended.0 ended.1
  session_cause session.BadInput cause ended = ended_still statuses.BadInput (λ e. cc) cause ended.0 ended.1
  session_cause session.ReadFault cause ended = ended_still statuses.ReadFault (λ e. cc) cause ended.0 ended.1
  session_cause session.WriteFault cause ended =
      subst (WriteCause (faults old) (faults new)) (sym ended.0) (subst (λ (last : D). Rose (faults old) (faults last)) (sym ended.1) cause)
  session_cause (session.Panicked t) cause ended = ended_still (statuses.Panicked t) (λ e. cc) cause ended.0 ended.1
  session_cause session.NoMemory cause ended =
      subst (λ (before : ℕ). WriteCause before (faults new) status) cause (ended_cause stands faults mid new memory_line statuses.NoMemory status (λ e. cc) ended)
