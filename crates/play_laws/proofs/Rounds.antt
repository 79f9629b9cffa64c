-- In each round something counts, so enough rounds bring a rendezvous to its end.
use Rattle.std.proofs.Common.{◌≡◌, ◌⊎◌, ℕ, zero, suc, ◌+◌, ◌-◌, ◌<◌, ◌≤◌, Bool, true, false, if◌then◌else◌, List, [], ◌∷◌, ◌++◌, map, refl, ap, sym, ◌∙◌, subst, arith, true≢false, inl, inr}
use Rattle.std.proofs.Math.Path.{fun_ext}
use Rattle.std.specs.List.{range_with_len}
use Rattle.rendezvous_steps.specs.declared.operations.Word.{Word}
use Rattle.rendezvous_steps.specs.declared.operations.Word.TheVariants as word
use Rattle.rendezvous_steps.specs.declared.items.What.{What}
use Rattle.rendezvous_steps.specs.declared.items.What.TheVariants as what
use Rattle.rendezvous_steps.specs.declared.items.Event.{Event}
use Rattle.rendezvous_steps.specs.declared.items.Event.TheVariants as event
use Rattle.rendezvous_steps.specs.declared.ends.Beat.{Beat}
use Rattle.rendezvous_steps.specs.declared.ends.Beat.TheVariants as beat
use Rattle.rendezvous_steps.specs.Plan.{Plan, Sound}
use Rattle.rendezvous_steps.specs.Padded.{Padded}
use Rattle.rendezvous_steps.specs.Words.{Families, families}
use Rattle.rendezvous_steps.specs.Events.{Running, happens, opening_running}
use Rattle.rendezvous_model.specs.Round.{State}
use Rattle.rendezvous_model.specs.RoundStep.{thread_of, cause_of}
use Rattle.rendezvous_rule.specs.Shown.{shown_by}
use Rattle.rendezvous_rule.specs.Seen.{words_of}
use Rattle.rendezvous_rule.specs.Ran.{events_of, repeated}
use Rattle.play_steps.specs.Play.{is_over, last_moment}
use Rattle.play_steps.specs.Rank.{is_counted, rank, all_ranks}
use Rattle.play_steps.proofs.Play.{last_moment_over, last_moment_next, last_moment_append, last_moment_is}
use Rattle.rule_laws.specs.Kept.{Ruled}
use Rattle.rule_laws.proofs.Assemble.{shown_is_seen}
use Rattle.run_laws.proofs.Tables.{same_or_not}
use Rattle.run_laws.proofs.Events.{ranks_fall}
use Rattle.run_laws.proofs.Ranks.{rank_kept, all_ranks_fall, first_ranks}
use Rattle.run_laws.proofs.Sums.{sum_le}
use Rattle.run_laws.proofs.Model.{change, changed}
use Rattle.play_laws.specs.Lawful.{Lawful, Led, EventLaw}
use Rattle.play_laws.specs.Stuck.{rounds_in, EnoughRounds}
use Rattle.play_laws.proofs.EachEvent.{event_law}
use Rattle.play_laws.proofs.EachRun.{lawful_at, opening_lawful}
use Rattle.play_laws.proofs.Counts.{Counts}
use Rattle.play_laws.proofs.Ready.{found_ready, counts_here}

-- An item that does not count changes no word.

words_same :
    (plan : Plan) (t : ℕ) (s : State) (item : What) → is_counted item ≡ false →
    words_of plan (change plan t item s) ≡ words_of plan s
unfolding words_of
words_same plan t s what.Poll e = refl
words_same plan t s what.Idle e = refl
words_same plan t s what.Ordinary e = refl
words_same plan t s what.Latched e = refl
words_same plan t s item e = cc

-- the words are those of the state that they show
shown_words :
    (plan : Plan) (m : Running) → Sound plan → Padded plan → Ruled plan m →
    families m.words ≡ words_of plan (shown_by plan m)
unfolding words_of
shown_words plan m sound padded ruled =
    ruled.by.says
    ∙ sym (ap (words_of plan) (shown_is_seen plan (families m.words) m.locals ruled.first ruled.stage m.latched
    sound padded ruled.by))

each_word : (a b : Word → ℕ) → families a ≡ families b → (w : Word) → a w ≡ b w
each_word a b e word.Arrive = ap (λ (f : Families). f.arrive) e
each_word a b e word.OffIn = ap (λ (f : Families). f.off_in) e
each_word a b e word.Decide = ap (λ (f : Families). f.decide) e
each_word a b e (word.Mode t) = ap (λ (f : Families). f.mode t) e
each_word a b e (word.Ctrl t) = ap (λ (f : Families). f.ctrl t) e
each_word a b e (word.Nmi t) = ap (λ (f : Families). f.nmi t) e
each_word a b e (word.Rev g) = ap (λ (f : Families). f.rev g) e
each_word a b e (word.Res g) = ap (λ (f : Families). f.res g) e

uncounted_words :
    (plan : Plan) (event : Event) (m : Running) →
    Sound plan → Padded plan → Lawful plan m → Led plan event m (happens plan event m) →
    is_counted (happens plan event m).1 ≡ false → (happens plan event m).0.words ≡ m.words
uncounted_words plan event m sound padded lawful led e =
    let after = happens plan event m in
    let s = shown_by plan m in
    let same : families after.0.words ≡ families m.words =
    shown_words plan after.0 sound padded led.lawful.ruled
    ∙ (ap (words_of plan) (changed plan (thread_of event) (cause_of s event) s after.1 (shown_by plan after.0)
    led.round)
    ∙ (words_same plan (thread_of event) s after.1 e
    ∙ sym (shown_words plan m sound padded lawful.ruled))) in
    fun_ext (each_word after.0.words m.words same)

-- Ranks do not rise.

ranks_kept :
    (plan : Plan) (event : Event) (m : Running) →
    all_ranks plan (happens plan event m).0.locals ≤ all_ranks plan m.locals
unfolding all_ranks
ranks_kept plan event m =
    sum_le (λ u. rank true plan u ((happens plan event m).0.locals u)) (λ u. rank true plan u (m.locals u)) 0
    (plan.threads - 0)
    (rank_kept true plan (thread_of event) m (happens plan event m) (ranks_fall true plan event m))

kept_by :
    (plan : Plan) (m : Running) (event : Event) (events : List Event) (over : Bool) →
    is_over plan m ≡ over →
    all_ranks plan (last_moment plan (happens plan event m).0 events).locals ≤ all_ranks plan
    (happens plan event m).0.locals →
    all_ranks plan (last_moment plan m (event ∷ events)).locals ≤ all_ranks plan m.locals
kept_by plan m event events true e rest = rw e (omega arith)
kept_by plan m event events false e rest = let here = ranks_kept plan event m in rw e (omega arith)

ranks_last :
    (plan : Plan) (m : Running) (events : List Event) →
    all_ranks plan (last_moment plan m events).locals ≤ all_ranks plan m.locals
ranks_last plan m [] = omega arith
ranks_last plan m (event ∷ events) = kept_by plan m event events (is_over plan m) refl
    (ranks_last plan (happens plan event m).0 events)

module _ (law : EventLaw) (plan : Plan) (sound : Sound plan) (padded : Padded plan) where
  pub lawful_last : (m : Running) (events : List Event) → Lawful plan m → Lawful plan (last_moment plan m events)
  lawful_last m events lawful = subst (Lawful plan) (sym (last_moment_is plan m events))
      (lawful_at law plan sound padded m events _ lawful)

  -- steps of the threads from a on
  abbrev steps_from : ℕ → ℕ → List Event
  steps_from a n = map (λ t. event.Step t) (range_with_len a n)

  abbrev Over : Running → Type 0
  Over m = is_over plan m ≡ true

  abbrev Fell : Running → Running → Type 0
  Fell m m' = 1 + all_ranks plan m'.locals ≤ all_ranks plan m.locals

  -- the first of these steps
  first_step : (m : Running) (a n : ℕ) (counted : Bool) →
      a < plan.threads → is_over plan m ≡ false → is_counted (happens plan (event.Step a) m).1 ≡ counted →
      (counted ≡ false →
      Over (last_moment plan (happens plan (event.Step a) m).0 (steps_from (a + 1) n))
      ⊎ Fell (happens plan (event.Step a) m).0
      (last_moment plan (happens plan (event.Step a) m).0 (steps_from (a + 1) n))) →
      Over (last_moment plan m (steps_from a (suc n))) ⊎ Fell m (last_moment plan m (steps_from a (suc n)))
  first_step m a n true within goes_on counted rest =
      let falls = all_ranks_fall plan (event.Step a) m within in
      let one : 1 ≤ (if is_counted (happens plan (event.Step a) m).1 then 1 else 0) = rw counted (omega arith) in
      let kept = ranks_last plan (happens plan (event.Step a) m).0 (steps_from (a + 1) n) in
      let next = ap (λ (x : Running). all_ranks plan x.locals)
      (last_moment_next plan m (event.Step a) (steps_from (a + 1) n) goes_on) in
      inr (omega arith)
  first_step m a n false within goes_on counted rest = by (rest refl)
    where
      by : Over (last_moment plan (happens plan (event.Step a) m).0 (steps_from (a + 1) n))
          ⊎ Fell (happens plan (event.Step a) m).0
          (last_moment plan (happens plan (event.Step a) m).0 (steps_from (a + 1) n)) →
          Over (last_moment plan m (steps_from a (suc n))) ⊎ Fell m (last_moment plan m (steps_from a (suc n)))
      by (inl over) = inl (ap (is_over plan) (last_moment_next plan m (event.Step a) (steps_from (a + 1) n) goes_on)
          ∙ over)
      by (inr fell) =
          let here = ranks_kept plan (event.Step a) m in
          let next = ap (λ (x : Running). all_ranks plan x.locals)
          (last_moment_next plan m (event.Step a) (steps_from (a + 1) n) goes_on) in
          inr (omega arith)

  -- a thread whose step counts comes to it, or something counted before
  round_by : (m : Running) (t a n : ℕ) →
      Lawful plan m → Counts plan t (m.locals t) m.words → a ≤ t → t < a + n → a + n ≤ plan.threads →
      (over : Bool) → is_over plan m ≡ over →
      Over (last_moment plan m (steps_from a n)) ⊎ Fell m (last_moment plan m (steps_from a n))
  round_by m t a n lawful counts low high ends true over =
      inl (ap (is_over plan) (last_moment_over plan m (steps_from a n) over) ∙ over)
  round_by m t a zero lawful counts low high ends false over = absurd (omega arith)
  round_by m t a (suc n) lawful counts low high ends false over =
      let after = happens plan (event.Step a) m in
      let led = law plan (event.Step a) m sound padded lawful in
      first_step m a n (is_counted after.1) (omega arith) over refl
      (λ uncounted.
      elim (same_or_not t a) [
        | inl e ↦
            absurd (true≢false (sym (ap (λ u. is_counted (happens plan (event.Step u) m).1) (sym e)
            ∙ counts_here plan m t counts) ∙ uncounted))
        | inr other ↦
            let words = uncounted_words plan (event.Step a) m sound padded lawful led uncounted in
            let local = (ranks_fall true plan (event.Step a) m).others t other in
            round_by after.0 t (a + 1) n led.lawful
            (subst (λ l. Counts plan t l after.0.words) (sym local)
            (subst (λ w. Counts plan t (m.locals t) w) (sym words) counts))
            (omega arith) (omega arith) (omega arith) (is_over plan after.0) refl
      ])

  -- in a round something counts, or it is over
  round_falls : (m : Running) → Lawful plan m → (over : Bool) → is_over plan m ≡ over →
      Over (last_moment plan m (steps_from 0 (plan.threads - 0))) ⊎ Fell m
      (last_moment plan m (steps_from 0 (plan.threads - 0)))
  round_falls m lawful true over = inl (ap (is_over plan)
      (last_moment_over plan m (steps_from 0 (plan.threads - 0)) over) ∙ over)
  round_falls m lawful false over =
      let found = found_ready plan m sound padded lawful.ruled over in
      let within = found.in_range in
      round_by m found.thread 0 (plan.threads - 0) lawful found.counts (omega arith) (omega arith) (omega arith)
      false over

  -- where nothing is left to count, it is over
  none_left : (m : Running) (over : Bool) → Lawful plan m → all_ranks plan m.locals ≤ 0 → is_over plan m ≡ over → Over m
  none_left m true lawful none e = e
  none_left m false lawful none e =
      let found = found_ready plan m sound padded lawful.ruled e in
      let falls = all_ranks_fall plan (event.Step found.thread) m found.in_range in
      let counted = counts_here plan m found.thread found.counts in
      let one : 1 ≤ (if is_counted (happens plan (event.Step found.thread) m).1 then 1 else 0) =
      rw counted (omega arith) in
      absurd (omega arith)

  -- once it is over it stays so
  stays_over : (m : Running) (events : List Event) → Over m → Over (last_moment plan m events)
  stays_over m events over = ap (is_over plan) (last_moment_over plan m events over) ∙ over

  one_by : (m : Running) (happened : Event) (events : List Event) (over : Bool) → is_over plan m ≡ over →
      Over (last_moment plan (happens plan happened m).0 events) → Over (last_moment plan m (happened ∷ events))
  one_by m happened events true e rest = stays_over m (happened ∷ events) e
  one_by m happened events false e rest = ap (is_over plan) (last_moment_next plan m happened events e) ∙ rest

  round_then : (m : Running) (rest : List Event) →
      Over (last_moment plan m (steps_from 0 (plan.threads - 0))) ⊎ Fell m
      (last_moment plan m (steps_from 0 (plan.threads - 0))) →
      (Fell m (last_moment plan m (steps_from 0 (plan.threads - 0))) → Over
      (last_moment plan (last_moment plan m (steps_from 0 (plan.threads - 0))) rest)) →
      Over (last_moment plan m (steps_from 0 (plan.threads - 0) ++ rest))
  round_then m rest (inl over) later =
      ap (is_over plan) (last_moment_append plan m (steps_from 0 (plan.threads - 0)) rest)
      ∙ stays_over (last_moment plan m (steps_from 0 (plan.threads - 0))) rest over
  round_then m rest (inr fell) later =
      ap (is_over plan) (last_moment_append plan m (steps_from 0 (plan.threads - 0)) rest) ∙ later fell

  rounds_by : (n k : ℕ) (rest : List Event) →
      ((m : Running) → Lawful plan m → all_ranks plan m.locals ≤ k → Over (last_moment plan m rest)) →
      (m : Running) → Lawful plan m → all_ranks plan m.locals ≤ n + k →
      Over (last_moment plan m (repeated n (steps_from 0 (plan.threads - 0)) rest))
  rounds_by zero k rest later m lawful few = later m lawful (omega arith)
  rounds_by (suc n) k rest later m lawful few =
      round_then m (repeated n (steps_from 0 (plan.threads - 0)) rest) (round_falls m lawful (is_over plan m) refl)
      (λ fell. rounds_by n k rest later (last_moment plan m (steps_from 0 (plan.threads - 0)))
      (lawful_last m (steps_from 0 (plan.threads - 0)) lawful) (omega arith))

  -- one event, and the beats behind it
  event_then : (happened : Event) (beats : List Beat) →
      ((m : Running) → Lawful plan m → all_ranks plan m.locals ≤ rounds_in beats → Over (last_moment plan m (events_of plan beats))) →
      (m : Running) → Lawful plan m → all_ranks plan m.locals ≤ rounds_in beats →
      Over (last_moment plan m (happened ∷ events_of plan beats))
  event_then happened beats later m lawful few =
      let kept = ranks_kept plan happened m in
      one_by m happened (events_of plan beats) (is_over plan m) refl
      (later (happens plan happened m).0 (law plan happened m sound padded lawful).lawful (omega arith))

  pub enough_from : (beats : List Beat) (m : Running) →
      Lawful plan m → all_ranks plan m.locals ≤ rounds_in beats → Over (last_moment plan m (events_of plan beats))
  enough_from [] m lawful few = none_left m (is_over plan m) lawful few refl
  enough_from (beat.Step t ∷ beats) m lawful few = event_then (event.Step t) beats (enough_from beats) m lawful few
  enough_from (beat.Timeout t ∷ beats) m lawful few = event_then (event.Timeout t) beats (enough_from beats) m lawful few
  enough_from (beat.Nmi t ∷ beats) m lawful few = event_then (event.Nmi t) beats (enough_from beats) m lawful few
  enough_from (beat.Run t ∷ beats) m lawful few = event_then (event.Run t) beats (enough_from beats) m lawful few
  enough_from (beat.Rounds n ∷ beats) m lawful few =
      rounds_by n (rounds_in beats) (events_of plan beats) (enough_from beats) m lawful few

pub enough_rounds : EnoughRounds
enough_rounds plan beats sound padded enough =
    let first = first_ranks plan in
    enough_from event_law plan sound padded beats (opening_running plan) (opening_lawful plan sound padded)
    (omega arith)
