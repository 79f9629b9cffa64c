-- Every sound plan has a run over any beats, and in a run no group's revision falls.
use Rattle.std.proofs.Common.{◌≡◌, ℕ, zero, suc, ◌+◌, ◌*◌, ◌<◌, ◌≤◌, Bool, true, false, List, [], ◌∷◌, map, length, get_or, Option, Some, None, refl, ap, ◌∙◌, arith, inl, inr}
use Rattle.std.specs.List.{range_with_len, slice_index, flat_map}
use Rattle.std.proofs.lemmas.Bool.{cases_lt}
use Rattle.std.proofs.lemmas.List.FromFn.{get_or-map-range_with_len}
use Rattle.rendezvous_steps.specs.declared.items.Event.{Event}
use Rattle.rendezvous_steps.specs.declared.items.Item.{Item}
use Rattle.rendezvous_steps.specs.declared.ends.Beat.{Beat}
use Rattle.rendezvous_steps.specs.declared.ends.Beat.TheVariants as beat
use Rattle.rendezvous_steps.specs.Plan.{Plan, Sound, threads_from}
use Rattle.rendezvous_steps.specs.Padded.{Padded}
use Rattle.rendezvous_steps.specs.Events.{opening_running}
use Rattle.rendezvous_model.specs.Round.{State}
use Rattle.rendezvous_model.specs.Outcome.{Outcome, end_of, decide_of}
use Rattle.rendezvous_model.specs.Run.{Run}
use Rattle.rendezvous_rule.specs.Shown.{shown_by}
use Rattle.rendezvous_rule.specs.Ran.{events_of, revision_after_go}
use Rattle.rendezvous_rule.specs.Runs.{AlwaysRuns, RanGrows}
use Rattle.play_steps.specs.Play.{last_moment}
use Rattle.run_laws.proofs.SafeRuns.{runs_never_fall}
use Rattle.play_laws.specs.Runs.{items_of}
use Rattle.play_laws.specs.Patient.{is_in_time}
use Rattle.play_laws.proofs.Listed.{plays_are_listed}
use Rattle.play_laws.proofs.Patient.{patient_unlisted}

-- the outcome of a state
abbrev outcome_of : Plan → State → Outcome
outcome_of plan state =
    record {
      decide = decide_of state.stage;
      ends = map (λ t. end_of (state.place t)) (threads_from plan 0);
      revs = map state.revision (range_with_len 0 plan.groups);
    }

abbrev last_state : Plan → List Beat → State
last_state plan beats = shown_by plan (last_moment plan (opening_running plan) (events_of plan beats))

pub always_runs : (line : Item → List ℕ) (lists : Bool) → AlwaysRuns line lists
always_runs line true plan beats sound padded =
    record {
      text = flat_map line (items_of plan (events_of plan beats));
      outcome = outcome_of plan (last_state plan beats);
      late = true;
      ran = plays_are_listed line plan beats _ (outcome_of plan (last_state plan beats)) sound padded refl
          (record { decide = refl; ends = refl; revs = refl });
    }
always_runs line false plan beats sound padded =
    let enough : List Beat = beat.Rounds (20 * plan.threads + 8) ∷ [] in
    record {
      text = [];
      outcome = outcome_of plan (last_state plan enough);
      late = false;
      ran = patient_unlisted plan enough (outcome_of plan (last_state plan enough)) sound padded
          (λ k d within. one_beat k d within) (omega arith) (record { decide = refl; ends = refl; revs = refl });
    }
  where
    one_beat : (k : ℕ) (d : Beat) → k < length (beat.Rounds (20 * plan.threads + 8) ∷ []) →
        is_in_time (get_or (beat.Rounds (20 * plan.threads + 8) ∷ []) k d) ≡ true
    one_beat zero d within = refl
    one_beat (suc k) d within = absurd (omega arith)

-- a listed run goes through states of which none lowers a revision
rises :
    (plan : Plan) (events : List Event) (items : List Item) (states : ℕ → State) →
    Sound plan → Padded plan → Run plan events items states →
    (g k : ℕ) → k ≤ length items → plan.rev0 g ≤ (states k).revision g
rises plan events items states sound padded run g zero within =
    let first = ap (λ (s : State). s.revision g) run.opens in omega arith
rises plan events items states sound padded run g (suc k) within =
    let before = rises plan events items states sound padded run g k (omega arith) in
    let step = runs_never_fall plan events items states sound padded run k g (omega arith) in
    let next : k + 1 ≡ suc k = omega arith in
    let same = ap (λ n. (states n).revision g) next in
    omega arith

offer_rises :
    (plan : Plan) (g : ℕ) (offer : Option ℕ) (refuses : Bool) → Sound plan → g < plan.groups →
    plan.offer g ≡ offer →
    plan.rev0 g ≤ revision_after_go offer refuses (plan.rev0 g)
offer_rises plan g (Some o) false sound within e = let greater = sound.offer_is_greater g o within e in omega arith
offer_rises plan g (Some o) true sound within e = omega arith
offer_rises plan g None refuses sound within e = omega arith

pub ran_grows : (line : Item → List ℕ) (lists : Bool) → RanGrows line lists
ran_grows line true plan beats text outcome late sound padded ran g within =
    let last = rises plan (events_of plan beats) ran.items (λ k. shown_by plan (ran.moments k)) sound padded
    ran.answers g (length ran.items) (omega arith) in
    let read = ap (λ (xs : List ℕ). slice_index xs g) ran.comes_out.revs
    ∙ get_or-map-range_with_len (shown_by plan (ran.moments (length ran.items))).revision 0 plan.groups g g 0 within
    (omega arith) in
    omega arith
ran_grows line false plan beats text outcome late sound padded ran g within =
    elim (cases_lt outcome.decide 2) [
      | inl less ↦
          let some = ran.decided in
          let one : outcome.decide ≡ 1 = omega arith in
          let read = (ran.after_go one).revisions g within in
          let rises = offer_rises plan g (plan.offer g) (plan.refuse g) sound within refl in
          omega arith
      | inr more ↦ let read = (ran.after_drop more).revisions g within in omega arith
    ]
