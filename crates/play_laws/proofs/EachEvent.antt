-- The law on every event.
use Rattle.std.proofs.Common.{◌≡◌, ◌≢◌, ℕ, Bool, true, false, not, ◌&&◌, ◌||◌, if◌then◌else◌, refl, ap, sym, ◌∙◌, subst}
use Rattle.rendezvous_steps.specs.declared.steps.Kind.{Kind}
use Rattle.rendezvous_steps.specs.declared.steps.Kind.TheVariants.{Online, Offline, Absent as KindAbsent}
use Rattle.rendezvous_steps.specs.declared.steps.Phase.{Phase}
use Rattle.rendezvous_steps.specs.declared.steps.Phase.TheVariants as phase
use Rattle.rendezvous_steps.specs.declared.steps.How.TheVariants as how
use Rattle.rendezvous_steps.specs.declared.items.What.{What}
use Rattle.rendezvous_steps.specs.declared.items.Event.TheVariants as event
use Rattle.rendezvous_steps.specs.Plan.{Plan, Sound}
use Rattle.rendezvous_steps.specs.Padded.{Padded}
use Rattle.rendezvous_steps.specs.Events.{Running, happens, steps, runs, runs_by, nmi_comes, nmi_by, nmi_offline, runs_ordinary, latches, idles, left_with_latch, shows_held, shows_halted, shows_left, shows_withdrawn, is_outside}
use Rattle.rendezvous_model.specs.Round.{Cause, Step, Nmi, Run, Place, Out, In, Left, Halted, Withdrawn, Absent, is_held, is_halted, is_out, is_withdrawn, has_left}
use Rattle.rendezvous_model.specs.RoundEnds.{is_free_to_run, comes_through, may_idle}
use Rattle.rendezvous_model.specs.RoundStep.{cause_of}
use Rattle.rendezvous_rule.specs.Shown.{shown_by}
use Rattle.play_laws.specs.Lawful.{Lawful, EventLaw}
use Rattle.play_laws.proofs.Told.{Told, told, online_at, absent_at}
use Rattle.play_laws.proofs.Places.{came_in}
use Rattle.play_laws.proofs.Quiet.{LedBy, idle_led, ordinary_led, latch_led, through, is_in_by}
use Rattle.play_laws.proofs.Steps.{steps_led, nmi_outside_led}

-- What a place allows, by tests on it.

-- an Online thread that is not in the handler and has not halted runs ordinary code
run_online :
    (place : Place) (kicked latched : Bool) →
    place ≢ Withdrawn → place ≢ Absent → is_held place ≡ false → is_halted place ≡ false →
    (is_free_to_run Online Run place kicked || comes_through Run place latched) ≡ true
run_online Out kicked latched a b held halted = refl
run_online (Left x) kicked latched a b held halted = refl
run_online In kicked latched a b held halted = cc
run_online Halted kicked latched a b held halted = cc
run_online Withdrawn kicked latched a b held halted = absurd (a refl)
run_online Absent kicked latched a b held halted = absurd (b refl)

nmi_online :
    (place : Place) (kicked latched : Bool) →
    place ≢ Withdrawn → place ≢ Absent → is_held place ≡ false → is_halted place ≡ false →
    (is_free_to_run Online Nmi place kicked || comes_through Nmi place latched) ≡ true
nmi_online Out kicked latched a b held halted = refl
nmi_online (Left x) kicked latched a b held halted = refl
nmi_online In kicked latched a b held halted = cc
nmi_online Halted kicked latched a b held halted = cc
nmi_online Withdrawn kicked latched a b held halted = absurd (a refl)
nmi_online Absent kicked latched a b held halted = absurd (b refl)

halted_idles :
    (kind : Kind) (cause : Cause) (place : Place) (latched : Bool) → is_halted place ≡ true →
    may_idle kind cause place latched ≡ true
halted_idles kind cause Halted latched e = refl
halted_idles kind cause Out latched e = cc
halted_idles kind cause In latched e = cc
halted_idles kind cause (Left x) latched e = cc
halted_idles kind cause Withdrawn latched e = cc
halted_idles kind cause Absent latched e = cc

absent_idles :
    (kind : Kind) (cause : Cause) (place : Place) (latched : Bool) → place ≡ Absent →
    may_idle kind cause place latched ≡ true
absent_idles kind cause place latched e = rw e refl

-- an Offline thread that is not in the handler does nothing at an attempt, where no latch comes through
run_offline :
    (place : Place) (latched : Bool) →
    is_held place ≡ false → (has_left place && latched) ≡ false → may_idle Offline Run place latched ≡ true
run_offline Out latched held none = refl
run_offline In latched held none = cc
run_offline (Left x) latched held none = ap not none
run_offline Halted latched held none = refl
run_offline Withdrawn latched held none = refl
run_offline Absent latched held none = refl

-- at an NMI it runs ordinary code once it has left or was withdrawn, and else has halted
nmi_offline_runs :
    (place : Place) (kicked latched : Bool) →
    (has_left place || is_withdrawn place) ≡ true →
    (is_free_to_run Offline Nmi place kicked || comes_through Nmi place latched) ≡ true
nmi_offline_runs (Left x) kicked latched e = refl
nmi_offline_runs Withdrawn kicked latched e = refl
nmi_offline_runs Out kicked latched e = cc
nmi_offline_runs In kicked latched e = cc
nmi_offline_runs Halted kicked latched e = cc
nmi_offline_runs Absent kicked latched e = cc

nmi_offline_idles :
    (place : Place) (latched : Bool) →
    is_held place ≡ false → is_out place ≡ false → (has_left place || is_withdrawn place) ≡ false →
    may_idle Offline Nmi place latched ≡ true
nmi_offline_idles Halted latched held out over = refl
nmi_offline_idles Absent latched held out over = refl
nmi_offline_idles (Left x) latched held out over = cc
nmi_offline_idles Withdrawn latched held out over = cc
nmi_offline_idles Out latched held out over = cc
nmi_offline_idles In latched held out over = cc

is_outside_by : (p : Phase) → is_outside p ≡ true → p ≡ phase.Outside
is_outside_by phase.Outside e = refl
is_outside_by p e = cc

module _ (plan : Plan) (m : Running) (t : ℕ) (sound : Sound plan) (padded : Padded plan) (lawful : Lawful plan m) where
  abbrev place : Place
  place = (shown_by plan m).place t

  tells : Told plan t m place
  tells = told plan m t sound padded lawful.ruled

  -- both cases of a test
  both_led : (cause : Cause) (b : Bool) (x y : Running × What) →
      (b ≡ true → LedBy plan t cause m x) → (b ≡ false → LedBy plan t cause m y) →
      LedBy plan t cause m (if b then x else y)
  both_led cause true x y first second = first refl
  both_led cause false x y first second = second refl

  -- an attempt to run ordinary code, of a thread that is not in the handler
  runs_by_led : (kind : Kind) → plan.kind t ≡ kind → is_held place ≡ false → LedBy plan t Run m (runs_by kind plan t m)
  runs_by_led Online e held =
      both_led Run (shows_halted m.words t) (idles m) (runs_ordinary t m)
      (λ halted. idle_led plan t Run m lawful
      (halted_idles (plan.kind t) Run place (m.latched t) (sym tells.halted ∙ halted)))
      (λ not_halted.
      let where_ = online_at plan m t e in
      ordinary_led plan t Run m lawful
      (subst (λ kind. (is_free_to_run kind Run place ((shown_by plan m).kicked t) || comes_through Run place
      (m.latched t)) ≡ true) (sym e)
      (run_online place ((shown_by plan m).kicked t) (m.latched t) where_.0 where_.1 held
      (sym tells.halted ∙ not_halted))))
  runs_by_led Offline e held =
      both_led Run (left_with_latch t m) (runs_ordinary t m) (idles m)
      (λ on. ordinary_led plan t Run m lawful
      (through (plan.kind t) Run place ((shown_by plan m).kicked t) (m.latched t) (λ f. cc)
      (ap (λ b. b && m.latched t) (sym tells.left) ∙ on)))
      (λ off. idle_led plan t Run m lawful
      (subst (λ kind. may_idle kind Run place (m.latched t) ≡ true) (sym e)
      (run_offline place (m.latched t) held (ap (λ b. b && m.latched t) (sym tells.left) ∙ off))))
  runs_by_led KindAbsent e held =
      idle_led plan t Run m lawful (absent_idles (plan.kind t) Run place (m.latched t)
      (absent_at plan m t sound padded lawful.ruled e))

  -- an NMI from elsewhere, at a thread that is not in the handler
  nmi_offline_led : plan.kind t ≡ Offline → is_held place ≡ false → LedBy plan t Nmi m (nmi_offline plan t m)
  nmi_offline_led e held =
      let over = shows_left m.words t || shows_withdrawn plan m.words t in
      let is_over : over ≡ (has_left place || is_withdrawn place) = both_same _ _ _ _ tells.left tells.withdrawn in
      both_led Nmi (is_outside (m.locals t).phase) (steps plan t how.Nmi m)
      (if over then runs_ordinary t m else idles m)
      (λ outside. nmi_outside_led plan m t sound padded lawful e (is_outside_by (m.locals t).phase outside))
      (λ inside.
      both_led Nmi over (runs_ordinary t m) (idles m)
      (λ on. ordinary_led plan t Nmi m lawful
      (subst (λ kind. (is_free_to_run kind Nmi place ((shown_by plan m).kicked t) || comes_through Nmi place
      (m.latched t)) ≡ true) (sym e)
      (nmi_offline_runs place ((shown_by plan m).kicked t) (m.latched t) (sym is_over ∙ on))))
      (λ off. idle_led plan t Nmi m lawful
      (subst (λ kind. may_idle kind Nmi place (m.latched t) ≡ true) (sym e)
      (nmi_offline_idles place (m.latched t) held (came_in plan m t sound padded lawful.ruled e inside)
      (sym is_over ∙ off)))))
    where
      both_same : (a b c d : Bool) → a ≡ c → b ≡ d → (a || b) ≡ (c || d)
      both_same a b c d e f = rw (e, f) refl

  nmi_by_led : (kind : Kind) → plan.kind t ≡ kind → is_held place ≡ false → LedBy plan t Nmi m (nmi_by kind plan t m)
  nmi_by_led Online e held =
      both_led Nmi (shows_halted m.words t) (idles m) (runs_ordinary t m)
      (λ halted. idle_led plan t Nmi m lawful
      (halted_idles (plan.kind t) Nmi place (m.latched t) (sym tells.halted ∙ halted)))
      (λ not_halted.
      let where_ = online_at plan m t e in
      ordinary_led plan t Nmi m lawful
      (subst (λ kind. (is_free_to_run kind Nmi place ((shown_by plan m).kicked t) || comes_through Nmi place
      (m.latched t)) ≡ true) (sym e)
      (nmi_online place ((shown_by plan m).kicked t) (m.latched t) where_.0 where_.1 held
      (sym tells.halted ∙ not_halted))))
  nmi_by_led Offline e held = nmi_offline_led e held
  nmi_by_led KindAbsent e held =
      idle_led plan t Nmi m lawful (absent_idles (plan.kind t) Nmi place (m.latched t)
      (absent_at plan m t sound padded lawful.ruled e))

  nmi_led : LedBy plan t Nmi m (nmi_comes plan t m)
  nmi_led =
      both_led Nmi (shows_held plan m.words t) (latches t m) (nmi_by (plan.kind t) plan t m)
      (λ on. latch_led plan t m lawful (is_in_by place (sym tells.held ∙ on)))
      (λ off. nmi_by_led (plan.kind t) refl (sym tells.held ∙ off))

  -- an attempt to run ordinary code
  run_by : (held : Bool) → shows_held plan m.words t ≡ held →
      LedBy plan t (if held then Step else Run) m
      (if held then steps plan t how.Step m else runs_by (plan.kind t) plan t m)
  run_by true on = steps_led plan m t how.Step sound padded lawful refl
  run_by false off = runs_by_led (plan.kind t) refl (sym tells.held ∙ off)

  run_led : LedBy plan t (cause_of (shown_by plan m) (event.Run t)) m (runs plan t m)
  run_led =
      subst (λ held. LedBy plan t (if held then Step else Run) m (runs plan t m)) tells.held
      (run_by (shows_held plan m.words t) refl)

pub event_law : EventLaw
unfolding happens
event_law plan (event.Step t) m sound padded lawful =
    let by = steps_led plan m t how.Step sound padded lawful refl in
    record { lawful = by.lawful; round = by.round }
event_law plan (event.Timeout t) m sound padded lawful =
    let by = steps_led plan m t how.Timeout sound padded lawful refl in
    record { lawful = by.lawful; round = by.round }
event_law plan (event.Nmi t) m sound padded lawful =
    let by = nmi_led plan m t sound padded lawful in
    record { lawful = by.lawful; round = by.round }
event_law plan (event.Run t) m sound padded lawful =
    let by = run_led plan m t sound padded lawful in
    record { lawful = by.lawful; round = by.round }
