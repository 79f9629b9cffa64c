-- The rule holds when a rendezvous begins, and the model's opening state is shown there.
use Rattle.std.proofs.Common.{◌≡◌, ℕ, ◌-◌, Bool, true, false, not, ◌&&◌, ◌||◌, ◌==◌, if◌then◌else◌, refl, ap, sym, ◌∙◌, subst}
use Rattle.rendezvous_steps.specs.declared.steps.Kind.{Kind}
use Rattle.rendezvous_steps.specs.declared.steps.Kind.TheVariants.{Online, Offline, Absent}
use Rattle.rendezvous_steps.specs.Plan.{Plan, Sound, is_online, is_offline, is_primary, is_sibling, online_count}
use Rattle.rendezvous_steps.specs.Words.{families, opening_words}
use Rattle.rendezvous_steps.specs.StepTable.{opening, opening_phase, opening_mine}
use Rattle.rendezvous_model.specs.Round.{Out, GroupPlace, Waiting, Gathering, State, nobody, opening_state, opening_place, still_awaited, offline_arrived}
use Rattle.rendezvous_rule.specs.View.{views, place_in, arrived_in, decides_in, write_in, frees_in, kicks_in, settles_in}
use Rattle.rendezvous_rule.specs.Seen.{seen, words_of, place_seen, freed_seen, revision_in, mode_code, ctrl_code, nmi_code}
use Rattle.rendezvous_rule.specs.Knows.{Knows}
use Rattle.rendezvous_rule.specs.Rule.{RuleBy, Gathered}
use Rattle.rule_laws.specs.Laws.{OpeningIsRuled, OpeningIsShown}
use Rattle.rule_laws.proofs.Count.{count_same, count_zero}
use Rattle.rule_laws.proofs.Frame.{same_state, and_false}
use Rattle.rule_laws.proofs.Assemble.{shown_is_seen, waits_either}

-- What is seen of each thread, by its kind.

first_place :
    (kind : Kind) (z : Bool) → z ≡ false →
    place_seen (place_in (opening_phase kind) (opening_mine kind)) z ≡ opening_place kind
first_place Online z e = ap (place_seen Out) e
first_place Offline z e = ap (place_seen Out) e
first_place Absent z e = refl

first_settles : (kind : Kind) (at mine u : ℕ) → settles_in (opening_phase kind) at mine u ≡ false
first_settles Online at mine u = refl
first_settles Offline at mine u = refl
first_settles Absent at mine u = refl

first_frees : (kind : Kind) (at mine u : ℕ) → frees_in (opening_phase kind) at mine u ≡ false
first_frees Online at mine u = refl
first_frees Offline at mine u = refl
first_frees Absent at mine u = refl

first_freed :
    (kind : Kind) (p z : Bool) → p ≡ false → freed_seen (place_in (opening_phase kind) (opening_mine kind)) p z ≡ false
first_freed Online p z e = e
first_freed Offline p z e = e
first_freed Absent p z e = e

first_arrived : (kind : Kind) (mine : ℕ) (given : Bool) → arrived_in (opening_phase kind) mine given ≡ false
first_arrived Online mine given = refl
first_arrived Offline mine given = refl
first_arrived Absent mine given = refl

first_decides : (kind : Kind) → decides_in (opening_phase kind) ≡ false
first_decides Online = refl
first_decides Offline = refl
first_decides Absent = refl

first_write :
    (kind : Kind) (mine : ℕ) (b : Bool) → (if b then write_in (opening_phase kind) mine else Waiting) ≡ Waiting
first_write Online mine b = waits_either b
first_write Offline mine b = waits_either b
first_write Absent mine b = waits_either b

-- the views make the opening state
pub opening_seen :
    (plan : Plan) → Sound plan → seen plan (views plan false (opening plan)) Gathering nobody ≡ opening_state plan
unfolding views opening
opening_seen plan sound =
    let v = views plan false (opening plan) in
    let settles : (u : ℕ) → v.settles 0 u ≡ false =
    λ u. and_false (is_offline (plan.kind u))
    (settles_in (opening_phase (plan.kind 0)) 0 (opening_mine (plan.kind 0)) u)
    (first_settles (plan.kind 0) 0 (opening_mine (plan.kind 0)) u) in
    let writes : (g : ℕ) → v.write (plan.primary g) ≡ Waiting =
    λ g. let p = plan.primary g in first_write (plan.kind p) (opening_mine (plan.kind p)) (is_primary plan p) in
    same_state
    (seen plan v Gathering nobody)
    (opening_state plan)
    (λ u. first_place (plan.kind u) (v.settles 0 u) (settles u))
    (λ u.
    ap (λ kind. is_offline (plan.kind u) && kicks_in (opening_phase kind) 0 u) sound.thread_0_is_online
    ∙ and_false (is_offline (plan.kind u)) false refl)
    (λ u. first_arrived (plan.kind u) (opening_mine (plan.kind u)) (not (u == 0) || false))
    (λ u.
    let p = plan.primary (plan.group u) in
    first_freed (plan.kind u) (v.frees p u) (v.settles 0 u)
    (and_false (is_primary plan p)
    (is_sibling plan p u && frees_in (opening_phase (plan.kind p)) 0 (opening_mine (plan.kind p)) u)
    (and_false (is_sibling plan p u) (frees_in (opening_phase (plan.kind p)) 0 (opening_mine (plan.kind p)) u)
    (first_frees (plan.kind p) 0 (opening_mine (plan.kind p)) u))))
    (λ u. refl)
    refl
    (λ u. first_decides (plan.kind u))
    writes
    (λ g. ap (revision_in plan g) (writes g))

-- The words.

all_awaited : (b : Bool) → b ≡ (b && true)
all_awaited true = refl
all_awaited false = refl

first_mode : (kind : Kind) (writes : Bool) → 0 ≡ mode_code kind writes (opening_place kind)
first_mode Online writes = refl
first_mode Offline writes = refl
first_mode Absent writes = refl

first_ctrl : (kind : Kind) (group : GroupPlace) → 0 ≡ ctrl_code (opening_place kind) false group
first_ctrl Online group = refl
first_ctrl Offline group = refl
first_ctrl Absent group = refl

first_nmi : (kind : Kind) → 0 ≡ nmi_code kind false (opening_place kind)
first_nmi Online = refl
first_nmi Offline = refl
first_nmi Absent = refl

opening_says : (plan : Plan) → families (opening_words plan) ≡ words_of plan (opening_state plan)
unfolding words_of online_count still_awaited offline_arrived
opening_says plan =
    let online : online_count plan ≡ still_awaited plan nobody =
    count_same (λ u. is_online (plan.kind u)) (λ u. is_online (plan.kind u) && true) 0 (plan.threads - 0)
    (λ u. all_awaited (is_online (plan.kind u))) in
    let offline : 0 ≡ offline_arrived plan nobody =
    sym
    (count_zero (λ u. is_offline (plan.kind u) && false) 0 (plan.threads - 0)
    (λ u. and_false (is_offline (plan.kind u)) false refl)) in
    λ i. record {
      arrive = online i;
      off_in = offline i;
      decide = 0;
      mode = λ t. first_mode (plan.kind t) (is_primary plan t && false) i;
      ctrl = λ t. first_ctrl (plan.kind t) Waiting i;
      nmi = λ t. first_nmi (plan.kind t) i;
      rev = plan.rev0;
      res = λ g. 0;
    }

opening_gathered : (plan : Plan) → Sound plan → Gathered plan nobody Gathering nobody
opening_gathered plan sound =
    record {
      zero_last = λ e. cc;
      decides_last = λ t e. cc;
      one_decides = λ t u e f. cc;
      somebody_decides = λ e here. let f : false ≡ true = here 0 sound.thread_0_is_online in cc;
      go_after_all = λ e. cc;
      kick_dropped = λ e. cc;
      dropped_by_online = λ t e. cc;
      zero_dropped = λ e. cc;
    }

first_knows :
    (kind : Kind) (plan : Plan) (t : ℕ) (s : State) →
    Knows kind plan t (record { phase = opening_phase kind; at = 0; polls = 0; mine = opening_mine kind }) s
first_knows Online plan t s = tt
first_knows Offline plan t s = refl
first_knows Absent plan t s = refl

pub opening_rule :
    (plan : Plan) → Sound plan → RuleBy plan (families (opening_words plan)) (opening plan) false Gathering
unfolding opening
opening_rule plan sound =
    record {
      says = opening_says plan ∙ ap (words_of plan) (sym (opening_seen plan sound));
      gathered =
          subst (λ s. Gathered plan s.arrived Gathering s.is_decider) (sym (opening_seen plan sound))
          (opening_gathered plan sound);
      knows = λ t. first_knows (plan.kind t) plan t (seen plan (views plan false (opening plan)) Gathering nobody);
    }

pub opening_is_ruled : OpeningIsRuled
opening_is_ruled plan sound padded = record { first = false; stage = Gathering; by = opening_rule plan sound }

pub opening_is_shown : OpeningIsShown
opening_is_shown plan sound padded =
    shown_is_seen plan (families (opening_words plan)) (opening plan) false Gathering nobody sound padded
    (opening_rule plan sound)
    ∙ opening_seen plan sound
