-- A run that lists its items has those of its schedule, and comes to its last moment.
use Rattle.std.proofs.Common.{◌≡◌, ◌⊎◌, ℕ, zero, suc, ◌+◌, ◌<◌, ◌≤◌, ◌-◌, ◌==◌, ◌||◌, Bool, true, false, true≢false, not, count_by, get_or, List, [], ◌∷◌, length, slice_get, Some, refl, sym, ap, ◌∙◌, subst, arith, inl, inr, ⊎_elim}
use Rattle.std.proofs.Math.Path.{fun_ext}
use Rattle.std.proofs.lemmas.Bool.Decides.{nat_tests, eqb_tells}
use Rattle.std.proofs.lemmas.List.FromFn.{get_or-map-range_with_len}
use Rattle.std.specs.List.{flat_map, list_any, range_with_len}
use Rattle.rendezvous_steps.specs.declared.ends.End.{End}
use Rattle.rendezvous_steps.specs.declared.ends.End.TheVariants.{Unfinished, Absent as absent}
use Rattle.rendezvous_steps.specs.declared.items.What.{What}
use Rattle.rendezvous_steps.specs.declared.items.Item.{Item}
use Rattle.rendezvous_steps.specs.declared.items.Event.{Event}
use Rattle.rendezvous_steps.specs.Plan.{Plan, threads_from}
use Rattle.rendezvous_steps.specs.Events.{Running, happens, opening_running, shows_finished}
use Rattle.rendezvous_model.specs.Round.{Place, Out, In, Left, Halted, Withdrawn, Absent, is_unfinished, unfinished_count}
use Rattle.rendezvous_model.specs.Verdict.{end_at}
use Rattle.rendezvous_model.specs.RoundStep.{thread_of}
use Rattle.rendezvous_model.specs.Outcome.{OutcomeShows, end_of}
use Rattle.rendezvous_rule.specs.Ran.{events_of}
use Rattle.rendezvous_rule.specs.Shown.{shown_by}
use Rattle.play_steps.specs.Play.{is_over, play, last_moment}
use Rattle.play_steps.proofs.Play.{play_next, last_moment_next, play_over, last_moment_over}
use Rattle.play_laws.proofs.Rounds.{enough_rounds}
use Rattle.ctl_core.specs.Laws.{ListedIsPlayed, EnoughRoundsFinish}
use Rattle.ctl_core.specs.Moments.{unfinished_in}
use Rattle.ctl_core.proofs.Over.{over_by_count}
use Rattle.ctl_core.proofs.Shown.{unfinished_shown}

-- the count of unfinished threads tells whether it is over

counted_shown : (plan : Plan) (moment : Running) → unfinished_count plan (shown_by plan moment) ≡ unfinished_in plan moment.words
unfolding unfinished_count
counted_shown plan moment = ap (λ (p : ℕ → Bool). count_by p (threads_from plan 0)) (fun_ext (unfinished_shown plan moment))

over_shown : (plan : Plan) (moment : Running) → unfinished_count plan (shown_by plan moment) ≡ 0 → is_over plan moment ≡ true
over_shown plan moment none = sym (over_by_count plan moment _ (counted_shown plan moment)) ∙ ap (λ n. n == 0) none

positive : (n : ℕ) → 0 < n → (n == 0) ≡ false
positive n some = grind (arith, nat_tests)

goes_on_shown : (plan : Plan) (moment : Running) → 0 < unfinished_count plan (shown_by plan moment) → is_over plan moment ≡ false
goes_on_shown plan moment some = sym (over_by_count plan moment _ (counted_shown plan moment)) ∙ positive _ some

-- Items that follow events from a moment on, through these moments.
record Follows (plan : Plan) (events : List Event) (items : List Item) (moments : ℕ → Running) : Type 0 where
  no_more : length items ≤ length events
  each :
      (k : ℕ) (e : Event) (item : Item) → slice_get events k ≡ Some e → slice_get items k ≡ Some item →
      (is_over plan (moments k) ≡ false) × (item.thread ≡ thread_of e) × (happens plan e (moments k) ≡ (moments (suc k), item.what))
  ends : (is_over plan (moments (length items)) ≡ true) ⊎ (length items ≡ length events)

later : (plan : Plan) (e : Event) (events : List Event) (item : Item) (items : List Item) (moments : ℕ → Running) → Follows plan (e ∷ events) (item ∷ items) moments → Follows plan events items (λ k. moments (suc k))
later plan e events item items moments follows = record {
  no_more = omega (arith, follows.no_more);
  each = λ k. follows.each (suc k);
  ends = ⊎_elim (λ over. inl over) (λ all. inr (omega (arith, all))) follows.ends;
}

determined : (plan : Plan) (events : List Event) (items : List Item) (moments : ℕ → Running) → Follows plan events items moments → (items ≡ play plan (moments 0) events) × (moments (length items) ≡ last_moment plan (moments 0) events)
determined plan [] [] moments follows = (refl, refl)
determined plan [] (item ∷ items) moments follows = absurd (omega (arith, follows.no_more))
determined plan (e ∷ events) [] moments follows =
    ⊎_elim
    (λ over. (sym (play_over plan (moments 0) (e ∷ events) over), sym (last_moment_over plan (moments 0) (e ∷ events) over)))
    (λ all. absurd (omega (arith, all)))
    follows.ends
determined plan (e ∷ events) (item ∷ items) moments follows =
    let first = follows.each 0 e item refl refl in
    let rest = determined plan events items (λ k. moments (suc k)) (later plan e events item items moments follows) in
    let next : (happens plan e (moments 0)).0 ≡ moments 1 = ap (λ x. x.0) first.2 in
    let what : (happens plan e (moments 0)).1 ≡ item.what = ap (λ x. x.1) first.2 in
    let here : item ≡ record { thread = thread_of e; what = (happens plan e (moments 0)).1 } =
    ap (λ (t : ℕ). record { thread = t; what = item.what }) first.1 ∙ ap (λ (w : What). record { thread = thread_of e; what = w }) (sym what) in (
      ap (λ (i : Item). i ∷ items) here
          ∙ (ap (λ (is : List Item). record { thread = thread_of e; what = (happens plan e (moments 0)).1 } ∷ is) (rest.0 ∙ ap (λ (m : Running). play plan m events) (sym next))
          ∙ sym (play_next plan (moments 0) e events first.0)),
      rest.1 ∙ (ap (λ (m : Running). last_moment plan m events) (sym next) ∙ sym (last_moment_next plan (moments 0) e events first.0)),
    )

pub listed_is_played : ListedIsPlayed
listed_is_played line plan beats text outcome listed =
    let events = events_of plan beats in
    let follows : Follows plan events listed.items listed.moments =
    record {
      no_more = listed.answers.no_more;
      each = λ k e item at_event at_item.
          let answered = listed.answers.answers k e item at_event at_item in
          let next : k + 1 ≡ suc k = omega arith in (
            goes_on_shown plan (listed.moments k) answered.goes_on,
            answered.of_its_thread,
            listed.played.happens k e item at_event at_item ∙ ap (λ (j : ℕ). (listed.moments j, item.what)) next,
          );
      ends = ⊎_elim (λ none. inl (over_shown plan (listed.moments (length listed.items)) none)) (λ all. inr all) listed.answers.ends;
    } in
    let found = determined plan events listed.items listed.moments follows in
    let items = found.0 ∙ ap (λ (m : Running). play plan m events) listed.played.opens in
    let last = found.1 ∙ ap (λ (m : Running). last_moment plan m events) listed.played.opens in
    record {
      text_is = listed.lines ∙ ap (λ (is : List Item). flat_map line is) items;
      comes_out = subst (λ (m : Running). OutcomeShows plan outcome (shown_by plan m)) last listed.comes_out;
    }

-- With rounds enough no thread's end is Unfinished.

none_at_by : (q : ℕ → Bool) (a n t : ℕ) (b : Bool) → q a ≡ b → (b || list_any q (range_with_len (a + 1) n)) ≡ false → a ≤ t → (a + 1 ≤ t → list_any q (range_with_len (a + 1) n) ≡ false → q t ≡ false) → q t ≡ false
none_at_by q a n t true e none low rest = absurd (true≢false none)
none_at_by q a n t false e none low rest =
    ⊎_elim (λ is. ap q (sym is.1) ∙ e) (λ other. rest (omega (arith, other.1)) none) (eqb_tells a t)

none_at : (q : ℕ → Bool) (a n t : ℕ) → list_any q (range_with_len a n) ≡ false → a ≤ t → t < a + n → q t ≡ false
none_at q a zero t none low high = absurd (omega arith)
none_at q a (suc n) t none low high =
    none_at_by q a n t (q a) refl none low (λ next rest. none_at q (a + 1) n t rest next (omega arith))

not_true : (b : Bool) → not b ≡ true → b ≡ false
not_true true e = sym e
not_true false e = refl

ended : (place : Place) → end_of place ≡ Unfinished → is_unfinished place ≡ true
ended Out e = refl
ended In e = refl
ended (Left result) e = absurd (cc)
ended Halted e = absurd (cc)
ended Withdrawn e = absurd (cc)
ended Absent e = absurd (cc)

pub enough_finish : EnoughRoundsFinish
enough_finish line plan beats text outcome sound padded listed enough t below e =
    let last = last_moment plan (opening_running plan) (events_of plan beats) in
    let over : is_over plan last ≡ true = enough_rounds plan beats sound padded enough in
    let finished = none_at (λ u. not (shows_finished plan last.words u)) 0 (plan.threads - 0) t (not_true _ over) (omega arith) (omega arith) in
    let ends = (listed_is_played line plan beats text outcome listed).comes_out.ends in
    let end : end_at outcome t ≡ end_of ((shown_by plan last).place t) =
    ap (λ (xs : List End). get_or xs t absent) ends
    ∙ get_or-map-range_with_len (λ u. end_of ((shown_by plan last).place u)) 0 (plan.threads - 0) t t absent (omega arith) (omega arith) in
    let unfinished : is_unfinished ((shown_by plan last).place t) ≡ true = ended _ (sym end ∙ e) in
    true≢false (sym unfinished ∙ (unfinished_shown plan last t ∙ finished))
