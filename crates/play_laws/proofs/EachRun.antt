-- The items of a schedule are those of a run of the model, through the states that are shown.
use Rattle.std.proofs.Common.{◌≡◌, ◌⊎◌, ℕ, zero, suc, ◌+◌, Bool, true, false, List, [], ◌∷◌, length, Some, None, slice_get, refl, ap, sym, ◌∙◌, subst, arith, inl, inr}
use Rattle.rendezvous_steps.specs.declared.items.Event.{Event}
use Rattle.rendezvous_steps.specs.declared.items.Item.{Item}
use Rattle.rendezvous_steps.specs.Plan.{Plan, Sound}
use Rattle.rendezvous_steps.specs.Padded.{Padded}
use Rattle.rendezvous_steps.specs.Events.{Running, happens, opening_running}
use Rattle.rendezvous_model.specs.Round.{unfinished_count}
use Rattle.rendezvous_model.specs.Run.{Run, Answered}
use Rattle.rendezvous_rule.specs.Shown.{shown_by}
use Rattle.play_steps.specs.Play.{is_over, play, moment_at, last_moment}
use Rattle.play_steps.proofs.Play.{item_of, play_over, play_next, moment_at_over, moment_at_next, last_moment_over, last_moment_next, last_moment_is, play_no_longer}
use Rattle.run_laws.proofs.Few.{few_inner_items, few_counted}
use Rattle.run_laws.proofs.SafeRuns.{safe_runs_exclude, runs_never_fall}
use Rattle.play_laws.specs.Lawful.{Lawful, EventLaw, OpeningIsLawful}
use Rattle.play_laws.specs.Runs.{RunsHold, MomentsAreLawful, items_of, state_at}
use Rattle.rule_laws.proofs.Opening.{opening_is_ruled, opening_is_shown}
use Rattle.rule_laws.proofs.Safety.{ruled_is_safe}
use Rattle.play_laws.proofs.EachEvent.{event_law}
use Rattle.play_laws.proofs.Over.{over_none, goes_on_some}

module _ (law : EventLaw) (plan : Plan) (sound : Sound plan) (padded : Padded plan) where
  -- Each moment is lawful.

  lawful_by : (m : Running) (event : Event) (events : List Event) (k : ℕ) (over : Bool) →
      is_over plan m ≡ over → Lawful plan m → Lawful plan (moment_at plan (happens plan event m).0 events k) →
      Lawful plan (moment_at plan m (event ∷ events) (suc k))
  lawful_by m event events k true over lawful rest =
      subst (Lawful plan) (sym (moment_at_over plan m (event ∷ events) (suc k) over)) lawful
  lawful_by m event events k false over lawful rest =
      subst (Lawful plan) (sym (moment_at_next plan m event events k over)) rest

  pub lawful_at : (m : Running) (events : List Event) (k : ℕ) → Lawful plan m → Lawful plan (moment_at plan m events k)
  lawful_at m events zero lawful = lawful
  lawful_at m [] (suc k) lawful = lawful
  lawful_at m (event ∷ events) (suc k) lawful =
      lawful_by m event events k (is_over plan m) refl lawful
      (lawful_at (happens plan event m).0 events k (law plan event m sound padded lawful).lawful)

  -- Each item answers its event.

  abbrev Answers : Running → List Event → ℕ → Event → Item → Type 0
  Answers m events k event item =
      Answered plan event item (shown_by plan (moment_at plan m events k))
      (shown_by plan (moment_at plan m events (suc k)))

  first_answers : (m : Running) (event : Event) (events : List Event) (item : Item) →
      is_over plan m ≡ false → Lawful plan m → item_of plan m event ≡ item → Answers m (event ∷ events) zero event item
  first_answers m event events item goes_on lawful e =
      let led = law plan event m sound padded lawful in
      subst (λ i. Answers m (event ∷ events) zero event i) e
      (subst (λ x. Answered plan event (item_of plan m event) (shown_by plan m) (shown_by plan x))
      (sym (moment_at_next plan m event events zero goes_on))
      (record { of_its_thread = refl; goes_on = goes_on_some plan m goes_on; step = led.round }))

  answers_by : (m : Running) (first : Event) (events : List Event) (k : ℕ) (event : Event) (item : Item) (over : Bool) →
      is_over plan m ≡ over → Lawful plan m →
      ((j : ℕ) → k ≡ suc j → slice_get events j ≡ Some event →
      slice_get (play plan (happens plan first m).0 events) j ≡ Some item →
      Answers (happens plan first m).0 events j event item) →
      slice_get (first ∷ events) k ≡ Some event → slice_get (play plan m (first ∷ events)) k ≡ Some item →
      Answers m (first ∷ events) k event item
  answers_by m first events k event item true over lawful rest e f =
      let none : None ≡ Some item = sym (ap (λ (items : List Item). slice_get items k)
      (play_over plan m (first ∷ events) over)) ∙ f in cc
  answers_by m first events zero event item false over lawful rest e f =
      let one : Some (item_of plan m first) ≡ Some item =
      sym (ap (λ (items : List Item). slice_get items zero) (play_next plan m first events over)) ∙ f in
      let same : item_of plan m first ≡ item = cc in
      let event_is : first ≡ event = cc in
      subst (λ x. Answers m (first ∷ events) zero x item) event_is
      (first_answers m first events item over lawful same)
  answers_by m first events (suc j) event item false over lawful rest e f =
      let later : slice_get (play plan (happens plan first m).0 events) j ≡ Some item =
      sym (ap (λ (items : List Item). slice_get items (suc j)) (play_next plan m first events over)) ∙ f in
      subst (λ x. Answered plan event item (shown_by plan x)
      (shown_by plan (moment_at plan m (first ∷ events) (suc (suc j)))))
      (sym (moment_at_next plan m first events j over))
      (subst (λ x. Answered plan event item (shown_by plan (moment_at plan (happens plan first m).0 events j))
      (shown_by plan x))
      (sym (moment_at_next plan m first events (suc j) over))
      (rest j refl e later))

  answers_at : (m : Running) (events : List Event) (k : ℕ) (event : Event) (item : Item) →
      Lawful plan m → slice_get events k ≡ Some event → slice_get (play plan m events) k ≡ Some item →
      Answers m events k event item
  answers_at m [] k event item lawful e f = cc
  answers_at m (first ∷ events) k event item lawful e f =
      answers_by m first events k event item (is_over plan m) refl lawful
      (λ j is e' f'. answers_at (happens plan first m).0 events j event item
      (law plan first m sound padded lawful).lawful e' f') e f

  -- The items end where it is over, or with the events.

  ends_by : (m : Running) (event : Event) (events : List Event) (over : Bool) →
      is_over plan m ≡ over →
      (is_over plan (last_moment plan (happens plan event m).0 events) ≡ true)
      ⊎ (length (play plan (happens plan event m).0 events) ≡ length events) →
      (is_over plan (last_moment plan m (event ∷ events)) ≡ true) ⊎
      (length (play plan m (event ∷ events)) ≡ length (event ∷ events))
  ends_by m event events true over rest = inl (ap (is_over plan) (last_moment_over plan m (event ∷ events) over) ∙ over)
  ends_by m event events false over (inl done) =
      inl (ap (is_over plan) (last_moment_next plan m event events over) ∙ done)
  ends_by m event events false over (inr all) = inr (ap length (play_next plan m event events over) ∙ ap suc all)

  pub ends_at : (m : Running) (events : List Event) →
      (is_over plan (last_moment plan m events) ≡ true) ⊎ (length (play plan m events) ≡ length events)
  ends_at m [] = inr refl
  ends_at m (event ∷ events) = ends_by m event events (is_over plan m) refl (ends_at (happens plan event m).0 events)

-- From the opening.

pub opening_lawful : OpeningIsLawful
opening_lawful plan sound padded = record { ruled = opening_is_ruled plan sound padded; calm = λ u on. cc }

pub moments_are_lawful : MomentsAreLawful
moments_are_lawful plan events k sound padded =
    lawful_at event_law plan sound padded (opening_running plan) events k (opening_lawful plan sound padded)

pub run_of :
    (plan : Plan) (events : List Event) → Sound plan → Padded plan →
    Run plan events (items_of plan events) (state_at plan events)
run_of plan events sound padded =
    let m = opening_running plan in
    record {
      opens = opening_is_shown plan sound padded;
      no_more = play_no_longer plan m events;
      answers = λ k event item e f.
          let next : suc k ≡ k + 1 = omega arith in
          subst (λ n. Answered plan event item (state_at plan events k) (state_at plan events n)) next
          (answers_at event_law plan sound padded m events k event item (opening_lawful plan sound padded) e f);
      ends = by (ends_at event_law plan sound padded m events);
    }
  where
    by :
        (is_over plan (last_moment plan (opening_running plan) events) ≡ true) ⊎
        (length (items_of plan events) ≡ length events) →
        (unfinished_count plan (state_at plan events (length (items_of plan events))) ≡ 0) ⊎
        (length (items_of plan events) ≡ length events)
    by (inl over) =
        inl (ap (λ x. unfinished_count plan (shown_by plan x)) (sym (last_moment_is plan (opening_running plan) events))
        ∙ over_none plan (last_moment plan (opening_running plan) events) over)
    by (inr all) = inr all

pub runs_hold : RunsHold
runs_hold plan events sound padded =
    let run = run_of plan events sound padded in
    let safe = λ (k : ℕ). ruled_is_safe plan (moment_at plan (opening_running plan) events k) sound padded
    (moments_are_lawful plan events k sound padded).ruled in
    record {
      run = run;
      few_inner = few_inner_items plan events;
      few_counted = few_counted plan events padded;
      safe = safe;
      excluded = safe_runs_exclude plan events (items_of plan events) (state_at plan events) run (λ k within. safe k);
      never_falls = runs_never_fall plan events (items_of plan events) (state_at plan events) sound padded run;
    }
