use Rattle.std.proofs.Common.{sym, ◌∙◌, arith, below_more}
use Rattle.session_parts.specs.Parts.{setting_of, state_of}
use Rattle.session_parts.proofs.Present.{a_missing, none_missing}
use Rattle.session_parts.proofs.parts.Parts.first_missing.Goals as goal

pub returns-then-is_missing : goal.returns-then-is_missing
returns-then-is_missing c =
    sym (a_missing (setting_of c.args.self.now) (state_of c.args.self.now) c.threads.t (omega arith)
    (sym c.is_missing.ensures ∙ c.if-is_missing.true) c.threads.invariant)

pub returns : goal.returns
returns c =
    sym (none_missing (setting_of c.args.self.now) (state_of c.args.self.now)
    (λ t below. c.threads.invariant t (omega (arith, below))))

pub threads-preserved : goal.threads-preserved
threads-preserved c =
    below_more _ _ c.threads.invariant (sym c.is_missing.ensures ∙ c.if-is_missing.false)
