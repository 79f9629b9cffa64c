-- The items of a schedule, listed.
use Rattle.std.proofs.Common.{◌≡◌, ℕ, zero, suc, ◌+◌, Bool, true, false, List, [], ◌∷◌, Some, None, slice_get, refl, ap, sym, ◌∙◌, subst, arith}
use Rattle.rendezvous_steps.specs.declared.items.Event.{Event}
use Rattle.rendezvous_steps.specs.declared.items.Item.{Item}
use Rattle.rendezvous_steps.specs.Plan.{Plan}
use Rattle.rendezvous_steps.specs.Events.{Running, happens, opening_running}
use Rattle.rendezvous_model.specs.Outcome.{OutcomeShows}
use Rattle.rendezvous_rule.specs.Shown.{shown_by}
use Rattle.rendezvous_rule.specs.Ran.{events_of}
use Rattle.play_steps.specs.Play.{is_over, play, moment_at}
use Rattle.play_steps.proofs.Play.{item_of, play_over, play_next, moment_at_next, last_moment_is}
use Rattle.run_laws.proofs.Few.{few_inner_items}
use Rattle.play_laws.specs.Runs.{items_of}
use Rattle.play_laws.specs.Outcomes.{PlaysAreListed}
use Rattle.play_laws.proofs.EachRun.{run_of}

-- each item is that of its event, between the moments
abbrev Happens : Plan → Running → List Event → ℕ → Event → Item → Type 0
Happens plan m events k event item =
    happens plan event (moment_at plan m events k) ≡ (moment_at plan m events (suc k), item.what)

happened_by :
    (plan : Plan) (m : Running) (first : Event) (events : List Event) (k : ℕ) (event : Event) (item : Item)
    (over : Bool) →
    is_over plan m ≡ over →
    ((j : ℕ) → k ≡ suc j → slice_get events j ≡ Some event →
    slice_get (play plan (happens plan first m).0 events) j ≡ Some item →
    Happens plan (happens plan first m).0 events j event item) →
    slice_get (first ∷ events) k ≡ Some event → slice_get (play plan m (first ∷ events)) k ≡ Some item →
    Happens plan m (first ∷ events) k event item
happened_by plan m first events k event item true over rest e f =
    let none : None ≡ Some item = sym (ap (λ (items : List Item). slice_get items k)
    (play_over plan m (first ∷ events) over)) ∙ f in cc
happened_by plan m first events zero event item false over rest e f =
    let one : Some (item_of plan m first) ≡ Some item =
    sym (ap (λ (items : List Item). slice_get items zero) (play_next plan m first events over)) ∙ f in
    let same : item_of plan m first ≡ item = cc in
    let event_is : first ≡ event = cc in
    subst (λ x. happens plan x m ≡ (moment_at plan m (first ∷ events) 1, item.what)) event_is
    (subst (λ (i : Item). happens plan first m ≡ (moment_at plan m (first ∷ events) 1, i.what)) same
    (ap (λ (next : Running). (next, (happens plan first m).1)) (sym (moment_at_next plan m first events zero over))))
happened_by plan m first events (suc j) event item false over rest e f =
    let later : slice_get (play plan (happens plan first m).0 events) j ≡ Some item =
    sym (ap (λ (items : List Item). slice_get items (suc j)) (play_next plan m first events over)) ∙ f in
    ap (happens plan event) (moment_at_next plan m first events j over)
    ∙ (rest j refl e later
    ∙ ap (λ (next : Running). (next, item.what)) (sym (moment_at_next plan m first events (suc j) over)))

happened_at :
    (plan : Plan) (m : Running) (events : List Event) (k : ℕ) (event : Event) (item : Item) →
    slice_get events k ≡ Some event → slice_get (play plan m events) k ≡ Some item → Happens plan m events k event item
happened_at plan m [] k event item e f = cc
happened_at plan m (first ∷ events) k event item e f =
    happened_by plan m first events k event item (is_over plan m) refl
    (λ j is e' f'. happened_at plan (happens plan first m).0 events j event item e' f') e f

pub plays_are_listed : PlaysAreListed
plays_are_listed line plan beats text outcome sound padded lines shows =
    let m = opening_running plan in
    let events = events_of plan beats in
    record {
      items = items_of plan events;
      moments = moment_at plan m events;
      played = record {
        opens = refl;
        happens = λ k event item e f.
            let next : suc k ≡ k + 1 = omega arith in
            subst (λ n. happens plan event (moment_at plan m events k) ≡ (moment_at plan m events n, item.what)) next
            (happened_at plan m events k event item e f);
      };
      answers = run_of plan events sound padded;
      few_inner = few_inner_items plan events;
      lines = lines;
      comes_out = subst (λ x. OutcomeShows plan outcome (shown_by plan x)) (last_moment_is plan m events) shows;
    }
