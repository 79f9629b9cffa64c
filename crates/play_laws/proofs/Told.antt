-- What the words tell of a thread is where the state that they show has it.
use Rattle.std.proofs.Common.{◌≡◌, ◌≢◌, ℕ, ◌+◌, ◌-◌, Bool, true, false, not, ◌&&◌, ◌||◌, ◌==◌, nat_le, if◌then◌else◌, refl, ap, sym, ◌∙◌, subst, arith}
use Rattle.std.proofs.lemmas.Bool.Decides.{nat_tests}
use Rattle.rendezvous_steps.specs.declared.steps.Kind.{Kind}
use Rattle.rendezvous_steps.specs.declared.steps.Kind.TheVariants.{Online, Offline, Absent as KindAbsent}
use Rattle.rendezvous_steps.specs.declared.steps.ThreadResult.{ThreadResult}
use Rattle.rendezvous_steps.specs.declared.steps.ThreadResult.TheVariants as results
use Rattle.rendezvous_steps.specs.declared.steps.Phase.TheVariants as phase
use Rattle.rendezvous_steps.specs.Plan.{Plan, Sound, is_offline}
use Rattle.rendezvous_steps.specs.Padded.{Padded}
use Rattle.rendezvous_steps.specs.StepTable.{number_of, result_of}
use Rattle.rendezvous_steps.specs.Words.{Families, families}
use Rattle.rendezvous_steps.specs.Events.{Running, is_inside, shows_halted, shows_left, shows_withdrawn, shows_held}
use Rattle.rendezvous_model.specs.Round.{Place, Out, In, Left, Halted, Withdrawn, Absent, Stage, GroupPlace, Reported, State, nobody, is_halted, has_left, is_withdrawn, is_held}
use Rattle.rendezvous_rule.specs.Shown.{shown_by, place_of}
use Rattle.rendezvous_rule.specs.View.{views, place_in}
use Rattle.rendezvous_rule.specs.Seen.{seen, words_of, place_seen, mode_code, ctrl_code, nmi_code, release_code, writes_now}
use Rattle.rendezvous_rule.specs.Knows.{Knows}
use Rattle.rendezvous_rule.specs.Rule.{RuleBy}
use Rattle.rule_laws.specs.Kept.{Ruled}
use Rattle.rule_laws.proofs.Assemble.{shown_is_seen}

-- of a thread of this kind at this place, by its words
pub record ToldBy (kind : Kind) (place : Place) (mode ctrl nmi : ℕ) : Type 0 where
  pub halted : (ctrl == 3) ≡ is_halted place
  pub left : nat_le 8 mode ≡ has_left place
  pub withdrawn : (is_offline kind && (nmi == 3)) ≡ is_withdrawn place
  pub held : (is_inside kind mode nmi && not (ctrl == 3)) ≡ is_held place

released : (group : GroupPlace) → (release_code group == 3) ≡ false
released (Reported results.Updated) = refl
released group = refl

not_halted : (freed : Bool) (group : GroupPlace) → ((if freed then release_code group else 0) == 3) ≡ false
not_halted true group = released group
not_halted false group = refl

left_number : (n : ℕ) → nat_le 8 (8 + n) ≡ true
left_number n = grind (arith, nat_tests)

left_inside : (n : ℕ) → ((8 + n == 1) || (8 + n == 2)) ≡ false
left_inside n =
    let a : (8 + n == 1) ≡ false = grind (arith, nat_tests) in
    let b : (8 + n == 2) ≡ false = grind (arith, nat_tests) in
    rw (a, b) refl

left_zero : (n : ℕ) → (8 + n == 0) ≡ false
left_zero n = grind (arith, nat_tests)

online_told :
    (place : Place) (writes freed kicked : Bool) (group : GroupPlace) →
    place ≢ Withdrawn → place ≢ Absent →
    ToldBy Online place (mode_code Online writes place) (ctrl_code place freed group) (nmi_code Online kicked place)
online_told Out writes freed kicked group a b =
    record { halted = not_halted freed group; left = refl; withdrawn = refl; held = refl }
online_told In true freed kicked group a b =
    record { halted = not_halted freed group; left = refl; withdrawn = refl; held = ap not (not_halted freed group) }
online_told In false freed kicked group a b =
    record { halted = not_halted freed group; left = refl; withdrawn = refl; held = ap not (not_halted freed group) }
online_told (Left x) writes freed kicked group a b =
    record {
      halted = not_halted freed group;
      left = left_number (number_of x);
      withdrawn = refl;
      held = ap (λ b. b && not ((if freed then release_code group else 0) == 3)) (left_inside (number_of x));
    }
online_told Halted true freed kicked group a b = record { halted = refl; left = refl; withdrawn = refl; held = refl }
online_told Halted false freed kicked group a b = record { halted = refl; left = refl; withdrawn = refl; held = refl }
online_told Withdrawn writes freed kicked group a b = absurd (a refl)
online_told Absent writes freed kicked group a b = absurd (b refl)

offline_told :
    (place : Place) (writes freed kicked : Bool) (group : GroupPlace) →
    place ≢ Absent → (kicked ≡ false → place ≢ In) → (kicked ≡ false → place ≢ Withdrawn) →
    ToldBy Offline place (mode_code Offline writes place) (ctrl_code place freed group) (nmi_code Offline kicked place)
offline_told Out writes freed true group a b c =
    record { halted = not_halted freed group; left = refl; withdrawn = refl; held = refl }
offline_told Out writes freed false group a b c =
    record { halted = not_halted freed group; left = refl; withdrawn = refl; held = refl }
offline_told In writes freed true group a b c =
    record { halted = not_halted freed group; left = refl; withdrawn = refl; held = ap not (not_halted freed group) }
offline_told In writes freed false group a b c = absurd (b refl refl)
offline_told (Left x) writes freed true group a b c =
    record {
      halted = not_halted freed group;
      left = left_number (number_of x);
      withdrawn = refl;
      held = ap (λ b. b && not ((if freed then release_code group else 0) == 3)) (left_zero (number_of x));
    }
offline_told (Left x) writes freed false group a b c =
    record { halted = not_halted freed group; left = left_number (number_of x); withdrawn = refl; held = refl }
offline_told Halted writes freed true group a b c = record { halted = refl; left = refl; withdrawn = refl; held = refl }
offline_told Halted writes freed false group a b c =
    record { halted = refl; left = refl; withdrawn = refl; held = refl }
offline_told Withdrawn writes freed true group a b c =
    record { halted = not_halted freed group; left = refl; withdrawn = refl; held = refl }
offline_told Withdrawn writes freed false group a b c = absurd (c refl refl)
offline_told Absent writes freed kicked group a b c = absurd (a refl)

absent_told :
    (writes freed kicked : Bool) (group : GroupPlace) →
    ToldBy KindAbsent Absent (mode_code KindAbsent writes Absent) (ctrl_code Absent freed group)
    (nmi_code KindAbsent kicked Absent)
absent_told writes freed kicked group = record {
  halted = not_halted freed group;
  left = refl;
  withdrawn = refl;
  held = refl;
}

-- Where a thread of a kind can be, by its words.

online_place :
    (mode ctrl nmi : ℕ) → (place_of Online mode ctrl nmi ≢ Withdrawn) × (place_of Online mode ctrl nmi ≢ Absent)
online_place mode ctrl nmi = places (ctrl == 3) (nat_le 8 mode) ((mode == 1) || (mode == 2)) (result_of (mode - 8))
  where
    places : (a b c : Bool) (x : ThreadResult) →
        ((if a then Halted else if b then Left x else if c then In else Out) ≢ Withdrawn)
        × ((if a then Halted else if b then Left x else if c then In else Out) ≢ Absent)
    places true b c x = (λ e. cc, λ e. cc)
    places false true c x = (λ e. cc, λ e. cc)
    places false false true x = (λ e. cc, λ e. cc)
    places false false false x = (λ e. cc, λ e. cc)

offline_place : (mode ctrl nmi : ℕ) → place_of Offline mode ctrl nmi ≢ Absent
offline_place mode ctrl nmi = places (ctrl == 3) (nat_le 8 mode) (nmi == 2) (nmi == 3) (result_of (mode - 8))
  where
    places : (a b c d : Bool) (x : ThreadResult) →
        (if a then Halted else if b then Left x else if c then In else if d then Withdrawn else Out) ≢ Absent
    places true b c d x e = cc
    places false true c d x e = cc
    places false false true d x e = cc
    places false false false true x e = cc
    places false false false false x e = cc

unkicked_place : (mode ctrl : ℕ) → (place_of Offline mode ctrl 0 ≢ In) × (place_of Offline mode ctrl 0 ≢ Withdrawn)
unkicked_place mode ctrl = places (ctrl == 3) (nat_le 8 mode) (result_of (mode - 8))
  where
    places : (a b : Bool) (x : ThreadResult) →
        ((if a then Halted else if b then Left x else Out) ≢ In) ×
        ((if a then Halted else if b then Left x else Out) ≢ Withdrawn)
    places true b x = (λ e. cc, λ e. cc)
    places false true x = (λ e. cc, λ e. cc)
    places false false x = (λ e. cc, λ e. cc)

told_by :
    (kind : Kind) (place : Place) (writes freed kicked : Bool) (group : GroupPlace) →
    place ≡ place_of kind (mode_code kind writes place) (ctrl_code place freed group) (nmi_code kind kicked place) →
    (kind ≡ KindAbsent → place ≡ Absent) →
    ToldBy kind place (mode_code kind writes place) (ctrl_code place freed group) (nmi_code kind kicked place)
told_by Online place writes freed kicked group e absent =
    let where_ = online_place (mode_code Online writes place) (ctrl_code place freed group)
    (nmi_code Online kicked place) in
    online_told place writes freed kicked group (λ f. where_.0 (sym e ∙ f)) (λ f. where_.1 (sym e ∙ f))
told_by Offline place writes freed kicked group e absent =
    let mode = mode_code Offline writes place in
    let ctrl = ctrl_code place freed group in
    let unkicked : kicked ≡ false → place ≡ place_of Offline mode ctrl 0 =
    λ f. e ∙ ap (λ b. place_of Offline mode ctrl (nmi_code Offline b place)) f in
    offline_told place writes freed kicked group
    (λ f. offline_place mode ctrl (nmi_code Offline kicked place) (sym e ∙ f))
    (λ f g. (unkicked_place mode ctrl).0 (sym (unkicked f) ∙ g))
    (λ f g. (unkicked_place mode ctrl).1 (sym (unkicked f) ∙ g))
told_by KindAbsent place writes freed kicked group e absent =
    subst (λ p. ToldBy KindAbsent p (mode_code KindAbsent writes p) (ctrl_code p freed group)
    (nmi_code KindAbsent kicked p))
    (sym (absent refl)) (absent_told writes freed kicked group)

-- Of a moment.

-- the place that the words show is the one that the views make
pub place_is :
    (plan : Plan) (moment : Running) (first : Bool) (stage : Stage) →
    Sound plan → Padded plan → RuleBy plan (families moment.words) moment.locals first stage →
    (t : ℕ) → (shown_by plan moment).place t ≡ (seen plan (views plan first moment.locals) stage nobody).place t
place_is plan moment first stage sound padded rule t =
    ap (λ (s : State). s.place t) (shown_is_seen plan (families moment.words) moment.locals first stage
    moment.latched sound padded rule)

-- what the words tell of a thread, and the place that they show
pub record Told (plan : Plan) (t : ℕ) (moment : Running) (place : Place) : Type 0 where
  pub halted : shows_halted moment.words t ≡ is_halted place
  pub left : shows_left moment.words t ≡ has_left place
  pub withdrawn : shows_withdrawn plan moment.words t ≡ is_withdrawn place
  pub held : shows_held plan moment.words t ≡ is_held place

-- a thread that takes no part
absent_place :
    (plan : Plan) (moment : Running) (first : Bool) (stage : Stage) (t : ℕ) →
    RuleBy plan (families moment.words) moment.locals first stage →
    plan.kind t ≡ KindAbsent → (seen plan (views plan first moment.locals) stage nobody).place t ≡ Absent
unfolding views
absent_place plan moment first stage t rule absent =
    let s = seen plan (views plan first moment.locals) stage nobody in
    let nothing : (moment.locals t).phase ≡ phase.Nothing =
    subst (λ kind. Knows kind plan t (moment.locals t) s) absent (rule.knows t) in
    ap (λ p. place_seen (place_in p (moment.locals t).mine) ((views plan first moment.locals).settles 0 t)) nothing

pub told :
    (plan : Plan) (moment : Running) (t : ℕ) →
    Sound plan → Padded plan → Ruled plan moment → Told plan t moment ((shown_by plan moment).place t)
unfolding words_of
told plan moment t sound padded ruled =
    let rule = ruled.by in
    let s = seen plan (views plan ruled.first moment.locals) ruled.stage nobody in
    let shown = place_is plan moment ruled.first ruled.stage sound padded rule t in
    let mode = ap (λ (w : Families). w.mode t) rule.says in
    let ctrl = ap (λ (w : Families). w.ctrl t) rule.says in
    let nmi = ap (λ (w : Families). w.nmi t) rule.says in
    let place : s.place t ≡ place_of (plan.kind t) (mode_code (plan.kind t) (writes_now plan t s.group) (s.place t))
    (ctrl_code (s.place t) (s.freed t) (s.group (plan.group t))) (nmi_code (plan.kind t) (s.kicked t) (s.place t)) =
    sym shown ∙ ap (λ (w : Families). place_of (plan.kind t) (w.mode t) (w.ctrl t) (w.nmi t)) rule.says in
    let by = told_by (plan.kind t) (s.place t) (writes_now plan t s.group) (s.freed t) (s.kicked t)
    (s.group (plan.group t)) place
    (absent_place plan moment ruled.first ruled.stage t rule) in
    record {
      halted = ap (λ n. n == 3) ctrl ∙ by.halted ∙ ap is_halted (sym shown);
      left = ap (λ n. nat_le 8 n) mode ∙ by.left ∙ ap has_left (sym shown);
      withdrawn = ap (λ n. is_offline (plan.kind t) && (n == 3)) nmi ∙ by.withdrawn ∙ ap is_withdrawn (sym shown);
      held =
          ap (λ (w : Families). is_inside (plan.kind t) (w.mode t) (w.nmi t) && not (w.ctrl t == 3)) rule.says
          ∙ by.held ∙ ap is_held (sym shown);
    }

-- where a thread of its kind can be

pub online_at :
    (plan : Plan) (moment : Running) (t : ℕ) →
    plan.kind t ≡ Online → ((shown_by plan moment).place t ≢ Withdrawn) × ((shown_by plan moment).place t ≢ Absent)
online_at plan moment t online =
    let w = families moment.words in
    let by = online_place (w.mode t) (w.ctrl t) (w.nmi t) in
    let is : (shown_by plan moment).place t ≡ place_of Online (w.mode t) (w.ctrl t) (w.nmi t) =
    ap (λ kind. place_of kind (w.mode t) (w.ctrl t) (w.nmi t)) online in
    (λ e. by.0 (sym is ∙ e), λ e. by.1 (sym is ∙ e))

pub absent_at :
    (plan : Plan) (moment : Running) (t : ℕ) →
    Sound plan → Padded plan → Ruled plan moment → plan.kind t ≡ KindAbsent → (shown_by plan moment).place t ≡ Absent
absent_at plan moment t sound padded ruled absent =
    place_is plan moment ruled.first ruled.stage sound padded ruled.by t
    ∙ absent_place plan moment ruled.first ruled.stage t ruled.by absent
