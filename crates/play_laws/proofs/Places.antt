-- Where the phase of a thread has it.
use Rattle.std.proofs.Common.{◌≡◌, ◌≢◌, ℕ, Bool, true, false, None, refl, ap, sym, ◌∙◌, subst}
use Rattle.rendezvous_steps.specs.declared.steps.Kind.{Kind}
use Rattle.rendezvous_steps.specs.declared.steps.Kind.TheVariants.{Online, Offline, Absent as KindAbsent}
use Rattle.rendezvous_steps.specs.declared.steps.Phase.{Phase}
use Rattle.rendezvous_steps.specs.declared.steps.Phase.TheVariants as phase
use Rattle.rendezvous_steps.specs.declared.steps.Local.{Local}
use Rattle.rendezvous_steps.specs.declared.steps.How.{How}
use Rattle.rendezvous_steps.specs.declared.steps.How.TheVariants as how
use Rattle.rendezvous_steps.specs.Plan.{Plan, Sound}
use Rattle.rendezvous_steps.specs.Padded.{Padded}
use Rattle.rendezvous_steps.specs.StepTable.{operation, operation_in, is_last}
use Rattle.rendezvous_steps.specs.Events.{Running, is_outside}
use Rattle.rendezvous_model.specs.Round.{Out, In, State, nobody, is_unfinished, is_out}
use Rattle.rendezvous_rule.specs.Shown.{shown_by}
use Rattle.rendezvous_rule.specs.View.{views, place_in}
use Rattle.rendezvous_rule.specs.Seen.{seen, place_seen}
use Rattle.rendezvous_rule.specs.Knows.{Knows, OfflineKnows}
use Rattle.rule_laws.specs.Kept.{Ruled}
use Rattle.play_laws.proofs.Told.{place_is}

-- a thread without an operation has come to its last phase
last_by :
    (plan : Plan) (t : ℕ) (local : Local) (h : How) (p : Phase) → operation_in plan t local h p ≡ None →
    is_last p ≡ true
last_by plan t local h phase.Left e = refl
last_by plan t local h phase.Halted e = refl
last_by plan t local h phase.Withdrawn e = refl
last_by plan t local h phase.Nothing e = refl
last_by plan t local how.Step p e = cc
last_by plan t local how.Timeout p e = cc
last_by plan t local how.Nmi p e = cc

pub no_operation :
    (plan : Plan) (t : ℕ) (local : Local) (h : How) → operation plan t local h ≡ None → is_last local.phase ≡ true
unfolding operation
no_operation plan t local h e = last_by plan t local h local.phase e

-- the last phases are those of a thread that has come to an end
ended_by :
    (kind : Kind) (p : Phase) (plan : Plan) (t at polls mine : ℕ) (s : State) (settled : Bool) →
    s.place t ≡ place_seen (place_in p mine) settled →
    Knows kind plan t (record { phase = p; at = at; polls = polls; mine = mine }) s →
    is_last p ≡ true → is_unfinished (s.place t) ≡ false
ended_by kind phase.Left plan t at polls mine s settled e knows last = ap is_unfinished e
ended_by kind phase.Halted plan t at polls mine s settled e knows last = ap is_unfinished e
ended_by kind phase.Nothing plan t at polls mine s settled e knows last = ap is_unfinished e
ended_by Online phase.Withdrawn plan t at polls mine s settled e knows last = absurd knows
ended_by Offline phase.Withdrawn plan t at polls mine s settled e knows last = ap is_unfinished knows.0
ended_by KindAbsent phase.Withdrawn plan t at polls mine s settled e knows last = cc
ended_by kind p plan t at polls mine s settled e knows last = cc

-- an Offline thread in another phase than Outside has come or is withdrawn
inside_by :
    (p : Phase) (t mine : ℕ) (s : State) (settled : Bool) →
    s.place t ≡ place_seen (place_in p mine) settled →
    OfflineKnows p t mine s → is_outside p ≡ false → is_out (s.place t) ≡ false
inside_by phase.Outside t mine s settled e knows inside = cc
inside_by phase.OfflineCount t mine s settled e knows inside = ap is_out e
inside_by phase.OfflineHold t mine s settled e knows inside = ap is_out e
inside_by phase.Leaving t mine s settled e knows inside = ap is_out e
inside_by phase.Left t mine s settled e knows inside = ap is_out e
inside_by phase.Halted t mine s settled e knows inside = ap is_out e
inside_by phase.Withdrawn t mine s settled e knows inside = ap is_out knows.0
inside_by p t mine s settled e knows inside = absurd knows

-- Of a moment.

pub ended :
    (plan : Plan) (moment : Running) (t : ℕ) →
    Sound plan → Padded plan → Ruled plan moment →
    is_last (moment.locals t).phase ≡ true → is_unfinished ((shown_by plan moment).place t) ≡ false
unfolding views
ended plan moment t sound padded ruled last =
    let l = moment.locals t in
    let s = seen plan (views plan ruled.first moment.locals) ruled.stage nobody in
    ap is_unfinished (place_is plan moment ruled.first ruled.stage sound padded ruled.by t)
    ∙ ended_by (plan.kind t) l.phase plan t l.at l.polls l.mine s
    ((views plan ruled.first moment.locals).settles 0 t) refl (ruled.by.knows t) last

pub came_in :
    (plan : Plan) (moment : Running) (t : ℕ) →
    Sound plan → Padded plan → Ruled plan moment → plan.kind t ≡ Offline →
    is_outside (moment.locals t).phase ≡ false → is_out ((shown_by plan moment).place t) ≡ false
unfolding views
came_in plan moment t sound padded ruled offline inside =
    let l = moment.locals t in
    let s = seen plan (views plan ruled.first moment.locals) ruled.stage nobody in
    ap is_out (place_is plan moment ruled.first ruled.stage sound padded ruled.by t)
    ∙ inside_by l.phase t l.mine s ((views plan ruled.first moment.locals).settles 0 t) refl
    (subst (λ kind. Knows kind plan t l s) offline (ruled.by.knows t)) inside

not_inside : (settled : Bool) → place_seen Out settled ≢ In
not_inside true e = cc
not_inside false e = cc

-- a thread in Outside is not in the handler
pub outside_is_not_in :
    (plan : Plan) (moment : Running) (t : ℕ) →
    Sound plan → Padded plan → Ruled plan moment →
    (moment.locals t).phase ≡ phase.Outside → (shown_by plan moment).place t ≢ In
unfolding views
outside_is_not_in plan moment t sound padded ruled outside e =
    let l = moment.locals t in
    let settled = (views plan ruled.first moment.locals).settles 0 t in
    not_inside settled
    (sym (ap (λ p. place_seen (place_in p l.mine) settled) outside)
    ∙ sym (place_is plan moment ruled.first ruled.stage sound padded ruled.by t) ∙ e)
