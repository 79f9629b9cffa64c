use Rattle.std.proofs.Common.{sym, subst}
use Rattle.session_steps.specs.State.{State}
use Rattle.session_laws.specs.Standing.{Standing}
use Rattle.session_parts.specs.Parts.{setting_of}
use Rattle.uc_session.proofs.sessions.Session.new.Goals as goal

-- the opening state stands
pub invariant_of-result : goal.invariant_of-result
invariant_of-result c = record {
  standing =
      subst (λ (state : State). Standing (setting_of c.in_ok-parts.parts) state) (sym c.in_ok-parts.ensures.opening)
      (c.each_state_stands.ensures.opening (setting_of c.in_ok-parts.parts));
}
