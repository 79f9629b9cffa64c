-- Events that are played one after another, with their lines.
use Rattle.std.proofs.Common.{◌≡◌, ℕ, zero, suc, ◌+◌, ◌-◌, ◌<◌, ◌≤◌, true, List, [], ◌∷◌, ◌++◌, length, map, take, drop, get_or, Result, Ok, Err, refl, sym, ap, ◌∙◌, subst, arith, append_assoc, append-nil, take-append-drop}
use Rattle.std.specs.List.{flat_map, range_with_len}
use Rattle.std.specs.Result.{IsErr}
use Rattle.std.proofs.lemmas.Grind.{flat_map-append}
use Rattle.std.proofs.lemmas.List.{take_more}
use Rattle.uc_io.specs.Writing.{Writes}
use Rattle.uc_io.proofs.Writes.{Writes-then, Writes-more}
use Rattle.rendezvous_steps.specs.declared.items.Event.{Event}
use Rattle.rendezvous_steps.specs.declared.items.Item.{Item}
use Rattle.rendezvous_steps.specs.declared.items.Event.TheVariants as event
use Rattle.rendezvous_steps.specs.declared.items.Event.TheVariants.{Step}
use Rattle.rendezvous_steps.specs.declared.ends.Beat.{Beat}
use Rattle.rendezvous_steps.specs.declared.ends.Beat.TheVariants as beat
use Rattle.rendezvous_steps.specs.Plan.{Plan, threads_from}
use Rattle.rendezvous_rule.specs.Ran.{events_of, repeated}
use Rattle.rendezvous_steps.specs.Events.{Running, opening_running}
use Rattle.rendezvous_model.specs.Outcome.{Outcome, OutcomeShows}
use Rattle.rendezvous_rule.specs.Shown.{shown_by}
use Rattle.play_steps.specs.Play.{is_over, play, last_moment}
use Rattle.play_steps.proofs.Play.{play_append, last_moment_append, play_over, last_moment_over}
use Rattle.rendezvous_steps.specs.ItemText.{item_line}
use Rattle.ctl_core.specs.Playing.{lines_of, Plays}

lines_append : (plan : Plan) (before mid : Running) (xs ys : List Event) → mid ≡ last_moment plan before xs → lines_of plan before (xs ++ ys) ≡ lines_of plan before xs ++ lines_of plan mid ys
lines_append plan before mid xs ys is =
    ap (λ (items : List Item). flat_map item_line items) (play_append plan before xs ys)
    ∙ (flat_map-append item_line (play plan before xs) (play plan (last_moment plan before xs) ys)
    ∙ ap (λ (m : Running). lines_of plan before xs ++ lines_of plan m ys) (sym is))

module _ {D : Type 0} (stands : D → List ℕ → Type 0) (faults : D → ℕ) (plan : Plan) where
  -- events, and then others
  pub Plays-then : {E : Type 0} (before mid after : Running) (xs ys : List Event) (old between new : D) → Plays {E = E} stands faults plan (record { moment = before; sink = old }) (record { moment = mid; sink = between }) xs (Ok tt) → Plays {E = E} stands faults plan (record { moment = mid; sink = between }) (record { moment = after; sink = new }) ys (Ok tt) → Plays {E = E} stands faults plan (record { moment = before; sink = old }) (record { moment = after; sink = new }) (xs ++ ys) (Ok tt)
  Plays-then {E} before mid after xs ys old between new first second = record {
    wrote =
        subst (λ text. Writes {E = E} stands faults old new text (Ok tt)) (sym (lines_append plan before mid xs ys first.came))
        (Writes-then stands faults old between new (lines_of plan before xs) (lines_of plan mid ys) {E = E} (Ok tt) first.wrote second.wrote);
    came = second.came ∙ (ap (λ (m : Running). last_moment plan m ys) first.came ∙ sym (last_moment_append plan before xs ys));
  }

  -- events of which a front of the lines was not followed by the rest, whatever comes behind them
  pub Plays-cut : {E F : Type 0} (e : E) (r : Result (Unit {0}) F) → IsErr r → (before mid after other : Running) (xs ys zs : List Event) (old between new : D) → Plays {E = E} stands faults plan (record { moment = before; sink = old }) (record { moment = mid; sink = between }) xs (Ok tt) → Plays {E = E} stands faults plan (record { moment = mid; sink = between }) (record { moment = other; sink = new }) ys (Err e) → Plays stands faults plan (record { moment = before; sink = old }) (record { moment = after; sink = new }) (xs ++ (ys ++ zs)) r
  Plays-cut e (Ok done) err before mid after other xs ys zs old between new first second = cc
  Plays-cut {E} {F} e (Err f) err before mid after other xs ys zs old between new first second = record {
    wrote =
        subst (λ text. Writes {E = F} stands faults old new text (Err f)) (sym (lines_append plan before mid xs (ys ++ zs) first.came ∙ (ap (λ text. lines_of plan before xs ++ text) (lines_append plan mid (last_moment plan mid ys) ys zs refl) ∙ sym (append_assoc (lines_of plan before xs) (lines_of plan mid ys) _))))
        (Writes-more stands faults old new (lines_of plan before xs ++ lines_of plan mid ys) _ e (Err f) err
        (Writes-then stands faults old between new (lines_of plan before xs) (lines_of plan mid ys) {E = E} (Err e) first.wrote second.wrote));
    came = tt;
  }

  -- once it is over nothing more is printed
  pub Plays-over : {E : Type 0} (before after : Running) (xs ys : List Event) (old new : D) → is_over plan after ≡ true → Plays {E = E} stands faults plan (record { moment = before; sink = old }) (record { moment = after; sink = new }) xs (Ok tt) → Plays {E = E} stands faults plan (record { moment = before; sink = old }) (record { moment = after; sink = new }) (xs ++ ys) (Ok tt)
  Plays-over {E} before after xs ys old new over first =
      let nothing : lines_of plan after ys ≡ [] = ap (λ (items : List Item). flat_map item_line items) (play_over plan after ys over) in
      record {
        wrote =
            subst (λ text. Writes {E = E} stands faults old new text (Ok tt))
            (sym (lines_append plan before after xs ys first.came ∙ (ap (λ text. lines_of plan before xs ++ text) nothing ∙ append-nil (lines_of plan before xs))))
            first.wrote;
        came = first.came ∙ (sym (last_moment_over plan (last_moment plan before xs) ys (subst (λ (m : Running). is_over plan m ≡ true) first.came over)) ∙ sym (last_moment_append plan before xs ys));
      }

  -- The steps of a loop, in which the plan stays.

  pub more_played : {E : Type 0} (other : Plan) → other ≡ plan → (before mid after : Running) (xs ys zs : List Event) (old between new : D) → xs ++ ys ≡ zs → Plays {E = E} stands faults plan (record { moment = before; sink = old }) (record { moment = mid; sink = between }) xs (Ok tt) → Plays {E = E} stands faults other (record { moment = mid; sink = between }) (record { moment = after; sink = new }) ys (Ok tt) → Plays {E = E} stands faults plan (record { moment = before; sink = old }) (record { moment = after; sink = new }) zs (Ok tt)
  more_played {E} other same before mid after xs ys zs old between new is first second =
      subst (λ (events : List Event). Plays {E = E} stands faults plan (record { moment = before; sink = old }) (record { moment = after; sink = new }) events (Ok tt)) is
      (Plays-then before mid after xs ys old between new first (subst (λ (p : Plan). Plays {E = E} stands faults p (record { moment = mid; sink = between }) (record { moment = after; sink = new }) ys (Ok tt)) same second))

  pub cut_short : {E F : Type 0} (e : E) (r : Result (Unit {0}) F) → IsErr r → (other : Plan) → other ≡ plan → (before mid next after : Running) (xs ys zs whole : List Event) (old between new : D) → xs ++ (ys ++ zs) ≡ whole → Plays {E = E} stands faults plan (record { moment = before; sink = old }) (record { moment = mid; sink = between }) xs (Ok tt) → Plays {E = E} stands faults other (record { moment = mid; sink = between }) (record { moment = next; sink = new }) ys (Err e) → Plays stands faults plan (record { moment = before; sink = old }) (record { moment = after; sink = new }) whole r
  cut_short {E} e r err other same before mid next after xs ys zs whole old between new is first second =
      subst (λ (events : List Event). Plays stands faults plan (record { moment = before; sink = old }) (record { moment = after; sink = new }) events r) is
      (Plays-cut {E = E} e r err before mid after next xs ys zs old between new first (subst (λ (p : Plan). Plays {E = E} stands faults p (record { moment = mid; sink = between }) (record { moment = next; sink = new }) ys (Err e)) same second))

  pub nothing_more : {E F : Type 0} (other : Plan) → other ≡ plan → (before after : Running) (xs ys whole : List Event) (old new : D) → xs ++ ys ≡ whole → is_over other after ≡ true → Plays {E = E} stands faults plan (record { moment = before; sink = old }) (record { moment = after; sink = new }) xs (Ok tt) → Plays {E = F} stands faults plan (record { moment = before; sink = old }) (record { moment = after; sink = new }) whole (Ok tt)
  nothing_more {E} {F} other same before after xs ys whole old new is over first =
      let retyped : Plays {E = F} stands faults plan (record { moment = before; sink = old }) (record { moment = after; sink = new }) xs (Ok tt) = record { wrote = record { later = first.wrote.later; still = first.wrote.still; outcome = first.wrote.outcome }; came = first.came } in
      subst (λ (events : List Event). Plays {E = F} stands faults plan (record { moment = before; sink = old }) (record { moment = after; sink = new }) events (Ok tt)) is
      (Plays-over {E = F} before after xs ys old new (subst (λ (p : Plan). is_over p after ≡ true) same over) retyped)

-- Parts of the events of a schedule.

-- a round up to a thread, that thread's step, and the rest
pub round_split : (f : ℕ → Event) (a n t : ℕ) → t < n → map f (range_with_len a t) ++ ((f (a + t) ∷ []) ++ map f (range_with_len (a + t + 1) (n - (t + 1)))) ≡ map f (range_with_len a n)
round_split f a zero t below = absurd (omega arith)
round_split f a (suc n) zero below =
    let here : a + 0 ≡ a = omega arith in
    let left : suc n - (0 + 1) ≡ n = omega arith in
    rw (here, left) refl
round_split f a (suc n) (suc t) below =
    let here : a + suc t ≡ a + 1 + t = omega arith in
    let left : suc n - (suc t + 1) ≡ n - (t + 1) = omega arith in
    rw (here, left) (ap (λ (events : List Event). f a ∷ events) (round_split f (a + 1) n t (omega arith)))

pub round_split_0 : (f : ℕ → Event) (n t : ℕ) → t < n → map f (range_with_len 0 t) ++ ((f t ∷ []) ++ map f (range_with_len (t + 1) (n - (t + 1)))) ≡ map f (range_with_len 0 n)
round_split_0 f n t below =
    let here : 0 + t ≡ t = omega arith in
    let split = round_split f 0 n t below in
    rw here at split

-- rounds up to one, that one, and the rest
pub one_round_more : (n : ℕ) (round : List Event) → repeated n round [] ++ round ≡ repeated (n + 1) round []
one_round_more zero round = sym (append-nil round)
one_round_more (suc n) round =
    let next : suc n + 1 ≡ suc (n + 1) = omega arith in
    rw next (append_assoc round (repeated n round []) round ∙ ap (λ (events : List Event). round ++ events) (one_round_more n round))

pub rounds_split : (n i : ℕ) (round : List Event) → i < n → repeated i round [] ++ (round ++ repeated (n - (i + 1)) round []) ≡ repeated n round []
rounds_split zero i round below = absurd (omega arith)
rounds_split (suc n) zero round below =
    let left : suc n - (0 + 1) ≡ n = omega arith in
    rw left refl
rounds_split (suc n) (suc i) round below =
    let left : suc n - (suc i + 1) ≡ n - (i + 1) = omega arith in
    rw left (append_assoc round (repeated i round []) _ ∙ ap (λ (events : List Event). round ++ events) (rounds_split n i round (omega arith)))

pub rounds_left : (n i : ℕ) (round : List Event) → i ≤ n → repeated i round [] ++ repeated (n - i) round [] ≡ repeated n round []
rounds_left n zero round within = let left : n - 0 ≡ n = omega arith in rw left refl
rounds_left zero (suc i) round within = absurd (omega arith)
rounds_left (suc n) (suc i) round within =
    let left : suc n - suc i ≡ n - i = omega arith in
    rw left (append_assoc round (repeated i round []) _ ∙ ap (λ (events : List Event). round ++ events) (rounds_left n i round (omega arith)))

-- rounds before others
repeated_rest : (n : ℕ) (round rest : List Event) → repeated n round rest ≡ repeated n round [] ++ rest
repeated_rest zero round rest = refl
repeated_rest (suc n) round rest = ap (λ (events : List Event). round ++ events) (repeated_rest n round rest) ∙ sym (append_assoc round (repeated n round []) rest)

-- the events of beats, and of others behind them
events_append : (plan : Plan) (xs ys : List Beat) → events_of plan (xs ++ ys) ≡ events_of plan xs ++ events_of plan ys
events_append plan [] ys = refl
events_append plan (beat.Step t ∷ xs) ys = ap (λ (events : List Event). Step t ∷ events) (events_append plan xs ys)
events_append plan (beat.Timeout t ∷ xs) ys = ap (λ (events : List Event). event.Timeout t ∷ events) (events_append plan xs ys)
events_append plan (beat.Nmi t ∷ xs) ys = ap (λ (events : List Event). event.Nmi t ∷ events) (events_append plan xs ys)
events_append plan (beat.Run t ∷ xs) ys = ap (λ (events : List Event). event.Run t ∷ events) (events_append plan xs ys)
events_append plan (beat.Rounds n ∷ xs) ys =
    let round = map Step (threads_from plan 0) in
    ap (λ (rest : List Event). repeated n round rest) (events_append plan xs ys)
    ∙ (repeated_rest n round (events_of plan xs ++ events_of plan ys)
    ∙ (sym (append_assoc (repeated n round []) (events_of plan xs) (events_of plan ys))
    ∙ ap (λ (events : List Event). events ++ events_of plan ys) (sym (repeated_rest n round (events_of plan xs)))))

-- one beat more
beats_more : (plan : Plan) (beats : List Beat) (i : ℕ) (d : Beat) → i < length beats → events_of plan (take i beats) ++ events_of plan (get_or beats i d ∷ []) ≡ events_of plan (take (i + 1) beats)
beats_more plan beats i d inside = sym (events_append plan (take i beats) (get_or beats i d ∷ [])) ∙ ap (events_of plan) (sym (take_more beats i d inside))

beats_split : (plan : Plan) (beats : List Beat) (i : ℕ) (d : Beat) → i < length beats → events_of plan (take i beats) ++ (events_of plan (get_or beats i d ∷ []) ++ events_of plan (drop (i + 1) beats)) ≡ events_of plan beats
beats_split plan beats i d inside =
    sym (append_assoc (events_of plan (take i beats)) _ _)
    ∙ (ap (λ (events : List Event). events ++ events_of plan (drop (i + 1) beats)) (beats_more plan beats i d inside)
    ∙ (sym (events_append plan (take (i + 1) beats) (drop (i + 1) beats)) ∙ ap (events_of plan) (take-append-drop (i + 1) beats)))

-- the same where the beat was played with an equal plan
pub beat_more : (other plan : Plan) (beats : List Beat) (i : ℕ) (d : Beat) → other ≡ plan → i < length beats → events_of plan (take i beats) ++ events_of other (get_or beats i d ∷ []) ≡ events_of plan (take (i + 1) beats)
beat_more other plan beats i d same inside =
    ap (λ (p : Plan). events_of plan (take i beats) ++ events_of p (get_or beats i d ∷ [])) same ∙ beats_more plan beats i d inside

pub beat_split : (other plan : Plan) (beats : List Beat) (i : ℕ) (d : Beat) → other ≡ plan → i < length beats → events_of plan (take i beats) ++ (events_of other (get_or beats i d ∷ []) ++ events_of plan (drop (i + 1) beats)) ≡ events_of plan beats
beat_split other plan beats i d same inside =
    ap (λ (p : Plan). events_of plan (take i beats) ++ (events_of p (get_or beats i d ∷ []) ++ events_of plan (drop (i + 1) beats))) same ∙ beats_split plan beats i d inside

pub beats_left : (plan : Plan) (beats : List Beat) (i : ℕ) → events_of plan (take i beats) ++ events_of plan (drop i beats) ≡ events_of plan beats
beats_left plan beats i = sym (events_append plan (take i beats) (drop i beats)) ∙ ap (events_of plan) (take-append-drop i beats)

-- A whole schedule, on a core that begins.

pub played_at : {D E : Type 0} (stands : D → List ℕ → Type 0) (faults : D → ℕ) (p q : Plan) (before after : Running) (beats : List Beat) (old new : D) (r : Result (Unit {0}) E) → p ≡ q → before ≡ opening_running q → Plays stands faults p (record { moment = before; sink = old }) (record { moment = after; sink = new }) (events_of p beats) r → Plays stands faults q (record { moment = opening_running q; sink = old }) (record { moment = after; sink = new }) (events_of q beats) r
played_at stands faults p q before after beats old new r same opens plays =
    subst (λ (m : Running). Plays stands faults q (record { moment = m; sink = old }) (record { moment = after; sink = new }) (events_of q beats) r) opens
    (subst (λ (k : Plan). Plays stands faults k (record { moment = before; sink = old }) (record { moment = after; sink = new }) (events_of k beats) r) same plays)

pub shows_at : (p q : Plan) (m n : Running) (outcome : Outcome) → p ≡ q → m ≡ n → OutcomeShows p outcome (shown_by p m) → OutcomeShows q outcome (shown_by q n)
shows_at p q m n outcome same is shows =
    subst (λ (k : Running). OutcomeShows q outcome (shown_by q k)) is
    (subst (λ (k : Plan). OutcomeShows k outcome (shown_by k m)) same shows)
