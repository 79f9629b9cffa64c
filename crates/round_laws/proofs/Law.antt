-- The law on one step, from each kind of step.
use Rattle.std.proofs.Common.{◌≡◌, ℕ, true, false, Some, refl, ap, sym, ◌∙◌, subst}
use Rattle.rendezvous_steps.specs.declared.steps.Phase.{Phase}
use Rattle.rendezvous_steps.specs.declared.steps.Phase.TheVariants as phase
use Rattle.rendezvous_steps.specs.declared.steps.Local.{Local}
use Rattle.rendezvous_steps.specs.declared.steps.How.{How}
use Rattle.rendezvous_steps.specs.declared.steps.How.TheVariants as how
use Rattle.rendezvous_steps.specs.declared.operations.Op.{Op}
use Rattle.rendezvous_steps.specs.Plan.{Plan}
use Rattle.rendezvous_steps.specs.Words.{families, touched, written, put_word}
use Rattle.rendezvous_steps.specs.StepTable.{operation, operation_in, after, is_last}
use Rattle.rendezvous_steps.specs.Events.{Running, put, steps}
use Rattle.rendezvous_model.specs.RoundStep.{Round}
use Rattle.rendezvous_rule.specs.Shown.{shown}
use Rattle.rendezvous_rule.specs.Rule.{Rule}
use Rattle.rule_laws.specs.Kept.{Kept, event_of, is_step}
use Rattle.rule_laws.proofs.Step.{moved, stepped}
use Rattle.round_laws.specs.OneStep.{StepLaw}
use Rattle.round_laws.proofs.Kind.{KeepsTheRule}
use Rattle.round_laws.proofs.Entering.{outside_step, outside_timeout}
use Rattle.round_laws.proofs.Kicking.{kicking_step, kicking_timeout}
use Rattle.round_laws.proofs.OfflineWaiting.{offline_wait_step, offline_wait_timeout}
use Rattle.round_laws.proofs.Arriving.{arriving_step, arriving_timeout}
use Rattle.round_laws.proofs.Deciding.{deciding_step, deciding_timeout}
use Rattle.round_laws.proofs.Waiting.{waiting_step, waiting_timeout}
use Rattle.round_laws.proofs.Reading.{reading_step, reading_timeout, checking_step, checking_timeout}
use Rattle.round_laws.proofs.Writing.{beginning_step, beginning_timeout, writing_step, writing_timeout}
use Rattle.round_laws.proofs.Reporting.{reporting_step, reporting_timeout}
use Rattle.round_laws.proofs.Freeing.{freeing_step, freeing_timeout}
use Rattle.round_laws.proofs.Halting.{sibling_wait_step, sibling_wait_timeout, offline_hold_step, offline_hold_timeout}
use Rattle.round_laws.proofs.Siblings.{sibling_check_step, sibling_check_timeout, sibling_copy_step, sibling_copy_timeout}
use Rattle.round_laws.proofs.Withdrawing.{withdrawing_step, withdrawing_timeout, releasing_step, releasing_timeout}
use Rattle.round_laws.proofs.Counting.{offline_count_step, offline_count_timeout}
use Rattle.round_laws.proofs.Leaving.{leaving_step, leaving_timeout}

each_step : (p : Phase) → is_last p ≡ false → KeepsTheRule p how.Step
each_step phase.Outside goes = outside_step
each_step phase.Kicking goes = kicking_step
each_step phase.OfflineWait goes = offline_wait_step
each_step phase.Arriving goes = arriving_step
each_step phase.Deciding goes = deciding_step
each_step phase.Waiting goes = waiting_step
each_step phase.Reading goes = reading_step
each_step phase.Beginning goes = beginning_step
each_step phase.Writing goes = writing_step
each_step phase.Checking goes = checking_step
each_step phase.Reporting goes = reporting_step
each_step phase.Freeing goes = freeing_step
each_step phase.SiblingWait goes = sibling_wait_step
each_step phase.SiblingCheck goes = sibling_check_step
each_step phase.SiblingCopy goes = sibling_copy_step
each_step phase.Withdrawing goes = withdrawing_step
each_step phase.Releasing goes = releasing_step
each_step phase.OfflineCount goes = offline_count_step
each_step phase.OfflineHold goes = offline_hold_step
each_step phase.Leaving goes = leaving_step
each_step phase.Left goes = cc
each_step phase.Halted goes = cc
each_step phase.Withdrawn goes = cc
each_step phase.Nothing goes = cc

each_timeout : (p : Phase) → is_last p ≡ false → KeepsTheRule p how.Timeout
each_timeout phase.Outside goes = outside_timeout
each_timeout phase.Kicking goes = kicking_timeout
each_timeout phase.OfflineWait goes = offline_wait_timeout
each_timeout phase.Arriving goes = arriving_timeout
each_timeout phase.Deciding goes = deciding_timeout
each_timeout phase.Waiting goes = waiting_timeout
each_timeout phase.Reading goes = reading_timeout
each_timeout phase.Beginning goes = beginning_timeout
each_timeout phase.Writing goes = writing_timeout
each_timeout phase.Checking goes = checking_timeout
each_timeout phase.Reporting goes = reporting_timeout
each_timeout phase.Freeing goes = freeing_timeout
each_timeout phase.SiblingWait goes = sibling_wait_timeout
each_timeout phase.SiblingCheck goes = sibling_check_timeout
each_timeout phase.SiblingCopy goes = sibling_copy_timeout
each_timeout phase.Withdrawing goes = withdrawing_timeout
each_timeout phase.Releasing goes = releasing_timeout
each_timeout phase.OfflineCount goes = offline_count_timeout
each_timeout phase.OfflineHold goes = offline_hold_timeout
each_timeout phase.Leaving goes = leaving_timeout
each_timeout phase.Left goes = cc
each_timeout phase.Halted goes = cc
each_timeout phase.Withdrawn goes = cc
each_timeout phase.Nothing goes = cc

each_kind : (p : Phase) (h : How) → is_step h ≡ true → is_last p ≡ false → KeepsTheRule p h
each_kind p how.Step own goes = each_step p goes
each_kind p how.Timeout own goes = each_timeout p goes
each_kind p how.Nmi own goes = cc

-- a thread with an operation is in no last phase
has_operation :
    (plan : Plan) (t : ℕ) (local : Local) (h : How) (op : Op) (p : Phase) → operation_in plan t local h p ≡ Some op →
    is_last p ≡ false
has_operation plan t local h op phase.Left e = cc
has_operation plan t local h op phase.Halted e = cc
has_operation plan t local h op phase.Withdrawn e = cc
has_operation plan t local h op phase.Nothing e = cc
has_operation plan t local h op p e = refl

pub step_law : StepLaw
unfolding operation KeepsTheRule
step_law plan words locals latched t local h op found sound padded rule own same does read =
    let moment : Running = record { words = words; locals = locals; latched = latched } in
    let next = after plan t local h found in
    let goes : is_last (locals t).phase ≡ false =
    ap (λ l. is_last l.phase) (sym same) ∙ has_operation plan t local h op local.phase does in
    let kept : Kept plan (event_of h t) moment (steps plan t h moment) =
    each_kind (locals t).phase h own goes plan moment t sound padded rule refl in
    let step = stepped plan t h moment op local next (sym same) does (ap (after plan t local h) read) in
    let there : Kept plan (event_of h t) moment (moved moment t op next) =
    subst (λ x. Kept plan (event_of h t) moment x) step kept in
    subst
    (λ f.
    let words' = put_word words (touched op) (written op f) in
    let locals' = put locals t next.0 in
    Rule plan (families words') locals'
    × Round plan (shown plan (families words) locals latched) (event_of h t) next.1
    (shown plan (families words') locals' latched))
    read
    (there.rule, there.round)
