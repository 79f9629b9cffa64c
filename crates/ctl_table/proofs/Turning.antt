-- A step of a post keeps the rule of the table. It is one argument for every phase: the law on one step, read on the table.
use Rattle.std.proofs.Common.{◌≡◌, ◌≢◌, ℕ, ◌+◌, ◌<◌, ◌≤◌, Bool, true, false, ◌||◌, List, [], length, IsTrue, IfSome, Option, Some, slice_index, slice_set, refl, sym, ap, subst, ◌∙◌, inl, inr, arith, length-set}
use mathlib.Core.Option.{some}
use lib.ListN.{get_elem?}
use Rattle.atomic_table.specs.Table.{Me, keeps, stepped, Allows}
use Rattle.rendezvous_steps.specs.declared.steps.Phase.TheVariants.{Halted}
use Rattle.rendezvous_steps.specs.declared.steps.Local.{Local}
use Rattle.rendezvous_steps.specs.declared.steps.How.{How}
use Rattle.rendezvous_steps.specs.declared.steps.How.TheVariants as how
use Rattle.rendezvous_steps.specs.declared.operations.Word.{Word}
use Rattle.rendezvous_steps.specs.declared.operations.Word.TheVariants.{Decide}
use Rattle.rendezvous_steps.specs.declared.operations.Op.{Op}
use Rattle.rendezvous_steps.specs.declared.items.What.{What}
use Rattle.rendezvous_steps.specs.Plan.{Plan}
use Rattle.rendezvous_steps.specs.Words.{families, touched, written, put_word, words_after}
use Rattle.rendezvous_steps.specs.StepTable.{operation, after, is_last}
use Rattle.rendezvous_steps.specs.Events.{put}
use Rattle.rendezvous_model.specs.RoundStep.{Round}
use Rattle.rendezvous_rule.specs.Rule.{Rule}
use Rattle.rendezvous_rule.specs.Shown.{shown}
use Rattle.rule_laws.specs.Kept.{event_of, is_step}
use Rattle.rule_laws.proofs.Frame.{put_same, put_other}
use Rattle.round_laws.proofs.Law.{step_law}
use Rattle.ctl_words.specs.declared.plans.Plan.{Plan as Tables}
use Rattle.ctl_words.specs.Plans.{plan_of, IsSound}
use Rattle.ctl_words.specs.Places.{is_word, place_of}
use Rattle.ctl_words.proofs.TablesEnd.{padded}
use Rattle.ctl_thread.proofs.Patient.{step_drops_not, step_halts_not}
use Rattle.ctl_table.specs.declared.standings.Standing.{Standing}
use Rattle.ctl_table.specs.declared.standings.View.{View}
use Rattle.ctl_table.specs.declared.standings.View.TheVariants.{Sits}
use Rattle.ctl_table.specs.Words.{words_of}
use Rattle.ctl_table.specs.Standings.{makes_late, moved, moved_view, spent_count}
use Rattle.ctl_table.specs.Holds.{Desk, Holds, SeatOk, HasLate}
use Rattle.ctl_table.specs.Laws.{shown_on, turned_desk}
use Rattle.ctl_table.proofs.Sitting.{found_below, sits_after, spent_before, count_kept, late_here, late_kept, same_or_not}
use Rattle.ctl_table.proofs.Reading.{word_read, word_set}

-- a post may do this operation, which finds this
pub record May (plan : Tables) (s : Desk) (id : ℕ) (v : Standing) (h : How) (op : Op) (found : ℕ) : Type 0 where
  pub sound : IsSound plan
  pub held : Holds plan s
  pub sits : get_elem? s.views id ≡ some (Sits v)
  pub steps : is_step h ≡ true
  pub operates : operation (plan_of plan) v.thread v.local h ≡ Some op
  pub known : IsTrue (is_word (plan_of plan) (touched op))
  pub finds : words_of (plan_of plan) s.words (touched op) ≡ found

-- only a timeout drops and halts
drop_before : (plan : Plan) (t : ℕ) (local : Local) (op : Op) (words : Word → ℕ) (found : ℕ) → operation plan t local how.Step ≡ Some op → words (touched op) ≡ found → 2 ≤ put_word words (touched op) (written op found) Decide → 2 ≤ words Decide
drop_before plan t local op words found operates finds drops =
    let law : 2 ≤ words_after words op Decide → 2 ≤ words Decide = subst (λ (o : Option Op). IfSome o (λ q. 2 ≤ words_after words q Decide → 2 ≤ words Decide)) operates (step_drops_not plan t local words) in
    law (subst (λ (n : ℕ). 2 ≤ put_word words (touched op) (written op n) Decide) (sym finds) drops)

no_halt : (plan : Plan) (t : ℕ) (local : Local) (op : Op) (found : ℕ) → operation plan t local how.Step ≡ Some op → (after plan t local how.Step found).0.phase ≢ Halted
no_halt plan t local op found operates =
    subst (λ (o : Option Op). IfSome o (λ q. (after plan t local how.Step found).0.phase ≢ Halted)) operates (step_halts_not plan t local found)

or_true : (b : Bool) → (b || true) ≡ true
or_true true = refl
or_true false = refl

stays_late : (a b : Bool) → a ≡ true → (a || b) ≡ true
stays_late true b e = refl
stays_late false b e = absurd cc

module _ (s : Desk) (id : ℕ) (v : Standing) (h : How) (op : Op) (found : ℕ) (m : May v.plan s id v h op found) where
  abbrev p : Plan
  p = plan_of v.plan

  abbrev next : Local × What
  next = after p v.thread v.local h found

  abbrev locals' : ℕ → Local
  locals' = put m.held.locals v.thread next.0

  abbrev words' : Word → ℕ
  words' = words_of p (slice_set s.words (place_of p (touched op)) (written op found))

  abbrev views' : List View
  views' = slice_set s.views id (Sits (moved h v found))

  seat : SeatOk v.plan s.views m.held.locals id v
  seat = m.held.seats id v m.sits

  set : words' ≡ put_word (words_of p s.words) (touched op) (written op found)
  set = word_set p s.words (touched op) (written op found) m.known m.held.width

  here : v.local ≡ m.held.locals v.thread
  here = seat.its_local ∙ ap m.held.locals (sym seat.its_number)

  ruled : Rule p (families words') locals'
  ruled =
      subst (λ (x : Word → ℕ). Rule p (families x) locals') (sym set)
      (step_law p (words_of p s.words) m.held.locals (λ _. false) v.thread v.local h op found m.sound.sound (padded v.plan m.sound) m.held.ruled m.steps here m.operates m.finds).0

  round : Round p (shown p (families (words_of p s.words)) m.held.locals (λ _. false)) (event_of h v.thread) next.1 (shown p (families words') locals' (λ _. false))
  round =
      subst (λ (x : Word → ℕ). Round p (shown p (families (words_of p s.words)) m.held.locals (λ _. false)) (event_of h v.thread) next.1 (shown p (families x) locals' (λ _. false))) (sym set)
      (step_law p (words_of p s.words) m.held.locals (λ _. false) v.thread v.local h op found m.sound.sound (padded v.plan m.sound) m.held.ruled m.steps here m.operates m.finds).1

  in_views : v.thread < length s.views
  in_views = let below = found_below s.views id (Sits v) m.sits in let same = seat.its_number in omega arith

  others : (u : ℕ) → u ≢ id → locals' u ≡ m.held.locals u
  others u apart = put_other m.held.locals v.thread u next.0 (λ e. apart (e ∙ seat.its_number))

  counts : (w : Standing) (n : ℕ) → (length s.views ≡ w.given + 1) × (spent_count s.views ≡ w.joined) → (length views' ≡ w.given + 1) × (spent_count views' ≡ w.joined)
  counts w n had = (length-set s.views id (Sits (moved h v found)) ∙ had.0, count_kept s.views id v (moved h v found) m.sits ∙ had.1)

  moves : SeatOk v.plan views' locals' id (moved h v found)
  moves =
      record {
        its_plan = refl;
        its_number = seat.its_number;
        its_local = sym (ap locals' (sym seat.its_number) ∙ put_same m.held.locals v.thread next.0);
        of_zero = λ z. counts v id (seat.of_zero z);
      }

  sits : (j : ℕ) (w : Standing) → get_elem? views' j ≡ some (Sits w) → SeatOk v.plan views' locals' j w
  sits j w e =
      elim (sits_after s.views id j (moved h v found) w e) [
        | inl same ↦ subst (λ (k : ℕ). SeatOk v.plan views' locals' k w) (sym same.0) (subst (λ (x : Standing). SeatOk v.plan views' locals' id x) same.1 moves)
        | inr other ↦ (
            let had = m.held.seats j w other.1 in
            record {
              its_plan = had.its_plan;
              its_number = had.its_number;
              its_local = had.its_local ∙ sym (others j other.0);
              of_zero = λ z. counts w j (had.of_zero z);
            })
      ]

  was_late : (h' : How) → HasLate s.views → HasLate (slice_set s.views id (Sits (moved h' v found)))
  was_late h' had = late_kept s.views id v (moved h' v found) m.sits (stays_late v.late (makes_late h')) had

  drops : (h' : How) → is_step h' ≡ true → operation p v.thread v.local h' ≡ Some op → 2 ≤ words' Decide → HasLate (slice_set s.views id (Sits (moved h' v found)))
  drops how.Timeout step operates two = late_here s.views id v (moved how.Timeout v found) m.sits (or_true v.late)
  drops how.Step step operates two =
      was_late how.Step
      (m.held.drop_is_late (drop_before p v.thread v.local op (words_of p s.words) found operates m.finds (subst (λ (f : Word → ℕ). 2 ≤ f Decide) set two)))
  drops how.Nmi step operates two = absurd cc

  halts_here : (h' : How) → is_step h' ≡ true → operation p v.thread v.local h' ≡ Some op → (after p v.thread v.local h' found).0.phase ≡ Halted → HasLate (slice_set s.views id (Sits (moved h' v found)))
  halts_here how.Timeout step operates halted = late_here s.views id v (moved how.Timeout v found) m.sits (or_true v.late)
  halts_here how.Step step operates halted = absurd (no_halt p v.thread v.local op found operates halted)
  halts_here how.Nmi step operates halted = absurd cc

  halts : (u : ℕ) → (locals' u).phase ≡ Halted → HasLate views'
  halts u halted =
      elim (same_or_not u id) [
        | inl same ↦ halts_here h m.steps m.operates (ap (λ (l : Local). l.phase) (sym (put_same m.held.locals v.thread next.0) ∙ ap locals' (seat.its_number ∙ sym same)) ∙ halted)
        | inr other ↦ was_late h (m.held.halt_is_late u (ap (λ (l : Local). l.phase) (sym (others u other)) ∙ halted))
      ]

  keeps_own : Holds v.plan (turned_desk v.plan s id v h op found)
  keeps_own =
      record {
        locals = locals';
        ruled = ruled;
        width = length-set s.words (place_of p (touched op)) (written op found) ∙ m.held.width;
        few = let same = length-set s.views id (Sits (moved h v found)) in let had = m.held.few in omega arith;
        seats = sits;
        not_given = λ u above. let same = length-set s.views id (Sits (moved h v found)) in let below = found_below s.views id (Sits v) m.sits in others u (λ e. omega arith) ∙ m.held.not_given u (omega arith);
        joined = λ u e. let was = spent_before s.views id u (moved h v found) e in subst (λ (l : Local). IsTrue (is_last l.phase)) (sym (others u was.0)) (m.held.joined u was.1);
        drop_is_late = drops h m.steps m.operates;
        halt_is_late = halts;
      }

-- what the law on a step of the table says of it
abbrev pub Kept : (plan : Tables) (s : Desk) (id : ℕ) (v : Standing) (h : How) (op : Op) (found : ℕ) → May plan s id v h op found → Type 0
Kept plan s id v h op found m =
    (held' : Holds plan (turned_desk plan s id v h op found))
    × Round (plan_of plan) (shown_on plan s m.held) (event_of h v.thread) (after (plan_of plan) v.thread v.local h found).1 (shown_on plan (turned_desk plan s id v h op found) held')

pub turn_kept : (plan : Tables) (s : Desk) (id : ℕ) (v : Standing) (h : How) (op : Op) (found : ℕ) (m : May plan s id v h op found) → Kept plan s id v h op found m
unfolding after keeps_own
turn_kept plan s id v h op found m =
    subst (λ (q : Tables). (n : May q s id v h op found) → Kept q s id v h op found n) (m.held.seats id v m.sits).its_plan
    (λ n. (keeps_own s id v h op found n, round s id v h op found n)) m

-- Whatever the table is when the operation is done, the post may do it, and goes on as it says.
abbrev pub Goes : Tables → ℕ → ℕ → How → Me (Unit {0}) View → ℕ → (ℕ → ℕ) → Type 0
Goes plan slots id h me place f = Allows (Holds plan) slots id me place f (λ found after'. after' ≡ (moved_view h me.0 found, me.1))

pub turn_allowed : (plan : Tables) (slots id : ℕ) (v : Standing) (h : How) (op : Op) (me : Me (Unit {0}) View) (place : ℕ) (f : ℕ → ℕ) → IsSound plan → me ≡ (Sits v, []) → is_step h ≡ true → operation (plan_of plan) v.thread v.local h ≡ Some op → IsTrue (is_word (plan_of plan) (touched op)) → place ≡ place_of (plan_of plan) (touched op) → ((n : ℕ) → f n ≡ written op n)
    → Goes plan slots id h me place f
turn_allowed plan slots id v h op me place f sound sits step operates known at does =
    subst (λ (x : Me (Unit {0}) View). Goes plan slots id h x place f) (sym sits)
    (subst (λ (k : ℕ). Goes plan slots id h (Sits v, []) k f) (sym at)
    (λ s held wide there small.
    let found : ℕ = slice_index s.words (place_of (plan_of plan) (touched op)) in
    let m : May plan s id v h op found =
    record {
      sound = sound;
      held = held;
      sits = there;
      steps = step;
      operates = operates;
      known = known;
      finds = word_read (plan_of plan) s.words (touched op) known;
    } in (
      Sits (moved h v found),
      keeps,
      tt,
      subst (λ (n : ℕ). Holds plan (stepped s (place_of (plan_of plan) (touched op)) n id [] (Sits (moved h v found)) keeps)) (sym (does found)) (turn_kept plan s id v h op found m).0,
      refl,
    )))
