-- Events that touch no word and no thread's state: it idles, runs ordinary code, or an NMI is latched.
use Rattle.std.proofs.Common.{◌≡◌, ◌≢◌, ℕ, Bool, true, false, not, ◌&&◌, ◌||◌, refl, ap, sym, ◌∙◌, true≢false}
use Rattle.rendezvous_steps.specs.declared.steps.Kind.{Kind}
use Rattle.rendezvous_steps.specs.declared.items.What.{What}
use Rattle.rendezvous_steps.specs.Plan.{Plan}
use Rattle.rendezvous_steps.specs.Events.{Running, runs_ordinary, latches, idles}
use Rattle.rendezvous_model.specs.Round.{Cause, Step, Timeout, Nmi, Run, Place, Out, In, Left, Halted, Withdrawn, Absent, is_own, is_unfinished, is_held, has_left}
use Rattle.rendezvous_model.specs.RoundEnds.{is_free_to_run, comes_through, may_idle}
use Rattle.rendezvous_model.specs.RoundStep.{RoundBy}
use Rattle.rendezvous_rule.specs.Shown.{shown_by}
use Rattle.rule_laws.specs.Kept.{Ruled}
use Rattle.play_laws.specs.Lawful.{Lawful}
use Rattle.play_laws.proofs.Calm.{calm_kept}

-- a moment and an item that come about so
pub record LedBy (plan : Plan) (t : ℕ) (cause : Cause) (before : Running) (after : Running × What) : Type 0 where
  pub lawful : Lawful plan after.0
  pub round : RoundBy plan t cause (shown_by plan before) after.1 (shown_by plan after.0)

-- from the rule afterwards and the step of the model
pub led_by :
    (plan : Plan) (t : ℕ) (cause : Cause) (before : Running) (after : Running × What) →
    Lawful plan before → Ruled plan after.0 →
    RoundBy plan t cause (shown_by plan before) after.1 (shown_by plan after.0) → LedBy plan t cause before after
led_by plan t cause before after lawful ruled round =
    record {
      lawful = record {
        ruled = ruled;
        calm = calm_kept plan t cause (shown_by plan before) after.1 (shown_by plan after.0) round lawful.calm;
      };
      round = round;
    }

pub idle_led :
    (plan : Plan) (t : ℕ) (cause : Cause) (moment : Running) →
    Lawful plan moment →
    may_idle (plan.kind t) cause ((shown_by plan moment).place t) (moment.latched t) ≡ true →
    LedBy plan t cause moment (idles moment)
idle_led plan t cause moment lawful may =
    led_by plan t cause moment (idles moment) lawful lawful.ruled (record { may = may; change = refl })

pub ordinary_led :
    (plan : Plan) (t : ℕ) (cause : Cause) (moment : Running) →
    Lawful plan moment →
    (is_free_to_run (plan.kind t) cause ((shown_by plan moment).place t) ((shown_by plan moment).kicked t)
    || comes_through cause ((shown_by plan moment).place t) (moment.latched t)) ≡ true →
    LedBy plan t cause moment (runs_ordinary t moment)
ordinary_led plan t cause moment lawful may =
    led_by plan t cause moment (runs_ordinary t moment) lawful lawful.ruled (record { may = may; change = refl })

pub latch_led :
    (plan : Plan) (t : ℕ) (moment : Running) →
    Lawful plan moment → (shown_by plan moment).place t ≡ In → LedBy plan t Nmi moment (latches t moment)
latch_led plan t moment lawful is_in =
    led_by plan t Nmi moment (latches t moment) lawful lawful.ruled
    (record { by_nmi = refl; is_in = is_in; change = refl })

-- What each place and kind allows.

no : {A : Type 0} (b : Bool) → b ≡ false → b ≡ true → A
no b off on = absurd (true≢false (sym on ∙ off))

-- one that came to its end idles, where no latch comes through
pub quiet_end :
    (kind : Kind) (cause : Cause) (place : Place) (latched : Bool) →
    is_own cause ≡ true → is_unfinished place ≡ false → (has_left place && latched) ≡ false →
    may_idle kind cause place latched ≡ true
quiet_end kind Step (Left x) latched own over none = ap not none
quiet_end kind Timeout (Left x) latched own over none = ap not none
quiet_end kind cause Halted latched own over none = refl
quiet_end kind Step Withdrawn latched own over none = refl
quiet_end kind Timeout Withdrawn latched own over none = refl
quiet_end kind cause Absent latched own over none = refl
quiet_end kind cause Out latched own over none = cc
quiet_end kind cause In latched own over none = cc
quiet_end kind Nmi place latched own over none = cc
quiet_end kind Run place latched own over none = cc

either_true : (a b : Bool) → b ≡ true → (a || b) ≡ true
either_true true b e = refl
either_true false b e = e

-- a latch comes through
pub through :
    (kind : Kind) (cause : Cause) (place : Place) (kicked latched : Bool) →
    cause ≢ Nmi → (has_left place && latched) ≡ true →
    (is_free_to_run kind cause place kicked || comes_through cause place latched) ≡ true
through kind Step place kicked latched not_nmi on =
    either_true (is_free_to_run kind Step place kicked) (has_left place && latched) on
through kind Timeout place kicked latched not_nmi on =
    either_true (is_free_to_run kind Timeout place kicked) (has_left place && latched) on
through kind Run place kicked latched not_nmi on =
    either_true (is_free_to_run kind Run place kicked) (has_left place && latched) on
through kind Nmi place kicked latched not_nmi on = absurd (not_nmi refl)

pub is_in_by : (place : Place) → is_held place ≡ true → place ≡ In
is_in_by In e = refl
is_in_by Out e = cc
is_in_by (Left x) e = cc
is_in_by Halted e = cc
is_in_by Withdrawn e = cc
is_in_by Absent e = cc
