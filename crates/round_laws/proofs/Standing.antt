-- Where an Offline thread stands in a phase that only such a thread has.
use Rattle.std.proofs.Common.{◌≡◌, ℕ, Bool, true, false, refl, ap, sym, ◌∙◌, subst}
use Rattle.rendezvous_steps.specs.declared.steps.Kind.{Kind}
use Rattle.rendezvous_steps.specs.declared.steps.Kind.TheVariants.{Online, Offline, Absent}
use Rattle.rendezvous_steps.specs.declared.steps.Phase.{Phase}
use Rattle.rendezvous_steps.specs.declared.steps.Phase.TheVariants as phase
use Rattle.rendezvous_steps.specs.declared.steps.Local.{Local}
use Rattle.rendezvous_steps.specs.Plan.{Plan}
use Rattle.rendezvous_steps.specs.Words.{Families}
use Rattle.rendezvous_model.specs.Round.{Stage, State}
use Rattle.rendezvous_rule.specs.Knows.{Knows, OnlineKnows, OfflineKnows}
use Rattle.rendezvous_rule.specs.Rule.{RuleBy}
use Rattle.rule_laws.proofs.Frame.{at_phase, is_at}
use Rattle.rule_laws.proofs.Facts.{state}

-- a phase that only an Offline thread has
abbrev pub is_offline_phase : Phase → Bool
is_offline_phase phase.OfflineCount = true
is_offline_phase phase.OfflineHold = true
is_offline_phase phase.Withdrawn = true
is_offline_phase p = false

-- an Offline thread in a phase, with what it knows
pub record StandsOffline (p : Phase) (plan : Plan) (t : ℕ) (local : Local) (s : State) : Type 0 where
  pub here : local ≡ at_phase p local.at local.polls local.mine
  pub offline : plan.kind t ≡ Offline
  pub row : OfflineKnows p t local.mine s

never_online :
    (p : Phase) (plan : Plan) (t at mine : ℕ) (s : State) → is_offline_phase p ≡ true →
    OnlineKnows p plan t at mine s → ⊥
never_online phase.OfflineCount plan t at mine s own row = row
never_online phase.OfflineHold plan t at mine s own row = row
never_online phase.Withdrawn plan t at mine s own row = row
never_online p plan t at mine s own row = cc

never_nothing : (p : Phase) → is_offline_phase p ≡ true → p ≡ phase.Nothing → ⊥
never_nothing p own e = let same : false ≡ true = ap is_offline_phase (sym e) ∙ own in cc

offline_row :
    (p : Phase) (plan : Plan) (t : ℕ) (local : Local) (s : State) (kind : Kind) →
    local.phase ≡ p → is_offline_phase p ≡ true → Knows kind plan t local s →
    (kind ≡ Offline) × OfflineKnows p t local.mine s
offline_row p plan t local s Online e own knows =
    absurd
    (never_online p plan t local.at local.mine s own (subst (λ x. OnlineKnows x plan t local.at local.mine s) e knows))
offline_row p plan t local s Offline e own knows = (refl, subst (λ x. OfflineKnows x t local.mine s) e knows)
offline_row p plan t local s Absent e own knows = absurd (never_nothing p own (sym e ∙ knows))

pub stands_offline :
    (p : Phase) (plan : Plan) (words : Families) (locals : ℕ → Local) (first : Bool) (stage : Stage) (t : ℕ) →
    RuleBy plan words locals first stage →
    (locals t).phase ≡ p → is_offline_phase p ≡ true → StandsOffline p plan t (locals t) (state plan first locals stage)
stands_offline p plan words locals first stage t rule e own =
    let both = offline_row p plan t (locals t) (state plan first locals stage) (plan.kind t) e own (rule.knows t) in
    record { here = is_at (locals t) p e; offline = both.0; row = both.1 }
