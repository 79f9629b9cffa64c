-- A run that lists its items is the play of its schedule, so what holds of each play holds of it.
use Rattle.std.proofs.Common.{◌≡◌, ◌⊎◌, ℕ, suc, ◌+◌, ◌<◌, ◌≤◌, true, false, List, [], ◌∷◌, length, Some, slice_get, flat_map, refl, sym, ap, ◌∙◌, subst, inl, inr, arith}
use Rattle.std.proofs.lemmas.Bool.{cases_Bool}
use Rattle.tool_text.specs.rendezvous_steps.declared.items.What.{What}
use Rattle.tool_text.specs.rendezvous_steps.declared.items.Event.{Event}
use Rattle.tool_text.specs.rendezvous_steps.declared.items.Item.{Item}
use Rattle.tool_text.specs.rendezvous_steps.declared.ends.Beat.{Beat}
use Rattle.tool_text.specs.rendezvous_steps.Plan.{Plan, Sound}
use Rattle.tool_text.specs.rendezvous_steps.Padded.{Padded}
use Rattle.tool_text.specs.rendezvous_steps.Events.{Running, happens, opening_running}
use Rattle.tool_text.specs.rendezvous_model.Round.{unfinished_count}
use Rattle.tool_text.specs.rendezvous_model.RoundStep.{thread_of}
use Rattle.tool_text.specs.rendezvous_model.Outcome.{Outcome, OutcomeShows}
use Rattle.tool_text.specs.rendezvous_rule.Shown.{shown_by}
use Rattle.tool_text.specs.rendezvous_rule.Ran.{Listed, events_of}
use Rattle.play_steps.specs.Play.{is_over, play, last_moment}
use Rattle.play_steps.proofs.Play.{item_of, play_over, play_next, last_moment_over, last_moment_next, last_moment_is}
use Rattle.play_laws.specs.Runs.{RunsHold, items_of, state_at}
use Rattle.play_laws.proofs.Over.{over_none, goes_on_some}
use Rattle.tool_text.specs.rendezvous_steps.ItemText.{item_line}
use Rattle.tool_text.specs.Headline.{SafeItems}

not_over : (plan : Plan) (m : Running) → 0 < unfinished_count plan (shown_by plan m) → is_over plan m ≡ false
not_over plan m some = elim (cases_Bool (is_over plan m)) [
  | inl over ↦ let none = over_none plan m over in absurd (omega (arith, none, some))
  | inr goes_on ↦ goes_on
]

none_over : (plan : Plan) (m : Running) → unfinished_count plan (shown_by plan m) ≡ 0 → is_over plan m ≡ true
none_over plan m none = elim (cases_Bool (is_over plan m)) [
  | inl over ↦ over
  | inr goes_on ↦ let some = goes_on_some plan m goes_on in absurd (omega (arith, none, some))
]

item_is : (item : Item) (t : ℕ) (w : What) → item.thread ≡ t → item.what ≡ w → item ≡ record { thread = t; what = w }
item_is item t w thread what =
    subst (λ (u : ℕ). item ≡ record { thread = u; what = w }) thread
    (subst (λ (v : What). item ≡ record { thread = item.thread; what = v }) what refl)

module _ (plan : Plan) where
  -- items that answer events from a moment on, each as the step table says, until none is unfinished or no event is left
  record Answering (m : Running) (events : List Event) (items : List Item) (moments : ℕ → Running) : Type 0 where
    opens : moments 0 ≡ m
    steps :
        (k : ℕ) (event : Event) (item : Item) → slice_get events k ≡ Some event → slice_get items k ≡ Some item →
        happens plan event (moments k) ≡ (moments (suc k), item.what)
    threads :
        (k : ℕ) (event : Event) (item : Item) → slice_get events k ≡ Some event → slice_get items k ≡ Some item →
        item.thread ≡ thread_of event
    goes_on :
        (k : ℕ) (event : Event) (item : Item) → slice_get events k ≡ Some event → slice_get items k ≡ Some item →
        is_over plan (moments k) ≡ false
    no_more : length items ≤ length events
    ends : (is_over plan (moments (length items)) ≡ true) ⊎ (length items ≡ length events)

  pub record IsPlay (m : Running) (events : List Event) (items : List Item) (moments : ℕ → Running) : Type 0 where
    pub items_are : items ≡ play plan m events
    pub last_is : moments (length items) ≡ last_moment plan m events

  over_is_play : (m : Running) (event : Event) (events : List Event) (moments : ℕ → Running) → moments 0 ≡ m →
      (is_over plan (moments 0) ≡ true) ⊎ (0 ≡ suc (length events)) → IsPlay m (event ∷ events) [] moments
  over_is_play m event events moments opens (inl over) =
      let here : is_over plan m ≡ true = subst (λ (x : Running). is_over plan x ≡ true) opens over in
      record {
        items_are = sym (play_over plan m (event ∷ events) here);
        last_is = opens ∙ sym (last_moment_over plan m (event ∷ events) here);
      }
  over_is_play m event events moments opens (inr same) = absurd (omega (arith, same))

  later_ends : (over : Type 0) (n k : ℕ) → over ⊎ (suc n ≡ suc k) → over ⊎ (n ≡ k)
  later_ends over n k (inl is) = inl is
  later_ends over n k (inr same) = inr (omega (arith, same))

  is_play : (m : Running) (events : List Event) (items : List Item) (moments : ℕ → Running) →
      Answering m events items moments → IsPlay m events items moments
  is_play m [] [] moments answering = record { items_are = refl; last_is = answering.opens }
  is_play m [] (item ∷ items) moments answering = let more = answering.no_more in absurd (omega (arith, more))
  is_play m (event ∷ events) [] moments answering =
      over_is_play m event events moments answering.opens answering.ends
  is_play m (event ∷ events) (item ∷ items) moments answering =
      let led : happens plan event m ≡ (moments 1, item.what) =
      ap (happens plan event) (sym answering.opens) ∙ answering.steps 0 event item refl refl in
      let goes : is_over plan m ≡ false =
      subst (λ (x : Running). is_over plan x ≡ false) answering.opens (answering.goes_on 0 event item refl refl) in
      let next : Running = (happens plan event m).0 in
      let more = answering.no_more in
      let rest : IsPlay next events items (λ k. moments (suc k)) =
      is_play next events items (λ k. moments (suc k))
      (record {
        opens = sym (ap (λ after. after.0) led);
        steps = λ k e i at there. answering.steps (suc k) e i at there;
        threads = λ k e i at there. answering.threads (suc k) e i at there;
        goes_on = λ k e i at there. answering.goes_on (suc k) e i at there;
        no_more = omega (arith, more);
        ends = later_ends _ (length items) (length events) answering.ends;
      }) in
      let own : item ≡ item_of plan m event =
      item_is item (thread_of event) (happens plan event m).1 (answering.threads 0 event item refl refl)
      (sym (ap (λ after. after.1) led)) in
      record {
        items_are =
            ap (λ (first : Item). first ∷ items) own ∙ ap (λ (later : List Item). item_of plan m event ∷ later) rest.items_are
            ∙ sym (play_next plan m event events goes);
        last_is = rest.last_is ∙ sym (last_moment_next plan m event events goes);
      }

  run_ends : (m : Running) (n k : ℕ) → (unfinished_count plan (shown_by plan m) ≡ 0) ⊎ (n ≡ k) →
      (is_over plan m ≡ true) ⊎ (n ≡ k)
  run_ends m n k (inl none) = inl (none_over plan m none)
  run_ends m n k (inr same) = inr same

pub listed_is_play : (line : Item → List ℕ) (plan : Plan) (beats : List Beat) (text : List ℕ) (outcome : Outcome)
    (ran : Listed line plan beats text outcome) →
    IsPlay plan (opening_running plan) (events_of plan beats) ran.items ran.moments
listed_is_play line plan beats text outcome ran =
    let next : (k : ℕ) → k + 1 ≡ suc k = λ k. omega arith in
    is_play plan (opening_running plan) (events_of plan beats) ran.items ran.moments
    (record {
      opens = ran.played.opens;
      steps = λ k event item at there.
          subst (λ (n : ℕ). happens plan event (ran.moments k) ≡ (ran.moments n, item.what)) (next k)
          (ran.played.happens k event item at there);
      threads = λ k event item at there. (ran.answers.answers k event item at there).of_its_thread;
      goes_on = λ k event item at there.
          not_over plan (ran.moments k) (ran.answers.answers k event item at there).goes_on;
      no_more = ran.answers.no_more;
      ends =
          run_ends plan (ran.moments (length ran.items)) (length ran.items) (length (events_of plan beats)) ran.answers.ends;
    })

-- the outcome is that of the last moment of the play
pub shows_last : (line : Item → List ℕ) (plan : Plan) (beats : List Beat) (text : List ℕ) (outcome : Outcome) →
    Listed line plan beats text outcome →
    OutcomeShows plan outcome (shown_by plan (last_moment plan (opening_running plan) (events_of plan beats)))
shows_last line plan beats text outcome ran =
    subst (λ (m : Running). OutcomeShows plan outcome (shown_by plan m))
    (listed_is_play line plan beats text outcome ran).last_is ran.comes_out

pub safe_items : RunsHold → (plan : Plan) (beats : List Beat) (text : List ℕ) (outcome : Outcome) → Sound plan →
    Padded plan → Listed item_line plan beats text outcome → SafeItems plan beats text outcome
safe_items law plan beats text outcome sound padded ran =
    let events : List Event = events_of plan beats in
    let holds = law plan events sound padded in
    let is = listed_is_play item_line plan beats text outcome ran in
    record {
      items = items_of plan events;
      states = state_at plan events;
      are_lines = ran.lines ∙ ap (flat_map item_line) is.items_are;
      run = holds.run;
      few_inner = holds.few_inner;
      excluded = holds.excluded;
      safe = λ k within. holds.safe k;
      never_falls = holds.never_falls;
      comes_out =
          subst (λ (m : Running). OutcomeShows plan outcome (shown_by plan m))
          (is.last_is ∙ last_moment_is plan (opening_running plan) events) ran.comes_out;
    }
