-- What the rule of the table says once all posts but thread 0's were joined.
use Rattle.std.proofs.Common.{◌≡◌, ◌⊎◌, ℕ, ◌+◌, ◌<◌, ◌≤◌, ◌==◌, ◌||◌, Bool, true, false, IsTrue, List, length, Some, unwrap_or, refl, sym, ap, subst, ◌∙◌, inl, inr, arith, eq-eqb, lt_of_not-le}
use Rattle.std.proofs.lemmas.Bool.{false≢true}
use mathlib.Core.Option.{some}
use lib.ListN.{get_elem?}
use Rattle.rendezvous_steps.specs.declared.steps.Local.{Local}
use Rattle.rendezvous_steps.specs.declared.operations.Word.TheVariants.{Rev}
use Rattle.rendezvous_steps.specs.Plan.{Plan, offer_or_rev0}
use Rattle.rendezvous_steps.specs.StepTable.{is_last}
use Rattle.rendezvous_steps.specs.Events.{Running}
use Rattle.rendezvous_model.specs.Outcome.{OutcomeShows}
use Rattle.rendezvous_model.specs.Safe.{Safe}
use Rattle.rendezvous_rule.specs.Shown.{shown_by}
use Rattle.rule_laws.proofs.Safety.{ruled_is_safe}
use Rattle.play_laws.proofs.Unlisted.{ends_are_unlisted}
use Rattle.ctl_words.specs.declared.plans.Plan.{Plan as Tables}
use Rattle.ctl_words.specs.Plans.{plan_of, IsSound}
use Rattle.ctl_words.proofs.TablesEnd.{padded}
use Rattle.uc_rendezvous.proofs.Shown.{decide_shown}
use Rattle.atomic_table.specs.Table.{Me, Final, Seen}
use Rattle.ctl_table.specs.declared.exact_outcomes.ExactOutcome.{ExactOutcome}
use Rattle.ctl_table.specs.declared.bays.Bay.{Bay}
use Rattle.ctl_table.specs.declared.posts.Post.{Post}
use Rattle.ctl_table.specs.Posts.{standing_of, IsOf}
use Rattle.ctl_table.specs.declared.standings.Standing.{Standing}
use Rattle.ctl_table.specs.declared.standings.View.{View}
use Rattle.ctl_table.specs.declared.standings.View.TheVariants.{Spent, Sits}
use Rattle.ctl_table.specs.Words.{words_of, is_first_or_offer}
use Rattle.ctl_table.specs.Standings.{spent_count}
use Rattle.ctl_table.specs.Holds.{Desk, Holds, HasLate}
use Rattle.ctl_table.specs.Ended.{ClosedShows}
use Rattle.ctl_table.specs.Exact.{exact_outcome_of}
use Rattle.ctl_table.specs.Lasts.{OutcomeReads}
use Rattle.ctl_table.proofs.Sitting.{found_there, one_view, count_below, count_two, same_or_not}

abbrev pub last_moment : (p : Tables) (s : Desk) → Holds p s → Running
last_moment p s held = record { words = words_of (plan_of p) s.words; locals = held.locals; latched = λ _. false }

pub safe_at : (p : Tables) (s : Desk) (held : Holds p s) → IsSound p → Safe (plan_of p) (shown_by (plan_of p) (last_moment p s held))
safe_at p s held sound = ruled_is_safe (plan_of p) (last_moment p s held) sound.sound (padded p sound) held.ruled

-- each revision is the group's first or its offer
first_or_offer : (plan : Plan) (g n : ℕ) → (n ≡ plan.rev0 g) ⊎ (plan.offer g ≡ Some n) → IsTrue (is_first_or_offer plan g n)
first_or_offer plan g n (inl first) = rw (eq-eqb n (plan.rev0 g) first) refl
first_or_offer plan g n (inr offer) =
    let at : (n == offer_or_rev0 plan g) ≡ true = eq-eqb n (offer_or_rev0 plan g) (sym (ap (λ o. unwrap_or o (plan.rev0 g)) offer)) in
    either_way (n == plan.rev0 g) at
  where
    either_way : (b : Bool) → (n == offer_or_rev0 plan g) ≡ true → (b || (n == offer_or_rev0 plan g)) ≡ true
    either_way true e = refl
    either_way false e = e

pub revisions_known : (p : Tables) (s : Desk) → Holds p s → IsSound p → (g : ℕ) → IsTrue (is_first_or_offer (plan_of p) g (words_of (plan_of p) s.words (Rev g)))
revisions_known p s held sound g =
    first_or_offer (plan_of p) g (words_of (plan_of p) s.words (Rev g)) ((safe_at p s held sound).first_or_offer g)

module _ (p : Tables) (sound : IsSound p) (s : Desk) (held : Holds p s) (id : ℕ) (v : Standing) (there : get_elem? s.views id ≡ some (Sits v)) (first : v.thread ≡ 0) (all : v.joined + 1 ≡ p.threads) (ended : IsTrue (is_last v.local.phase)) where
  at_zero : id ≡ 0
  at_zero = sym (held.seats id v there).its_number ∙ first

  counts : spent_count s.views ≡ v.joined
  counts = ((held.seats id v there).of_zero at_zero).1

  -- no other post sits, and every thread has had one
  only_one : (j : ℕ) (w : Standing) → get_elem? s.views j ≡ some (Sits w) → j ≡ id
  only_one j w at =
      elim (same_or_not j id) [
        | inl same ↦ same
        | inr other ↦ (
            let two = count_two s.views id j v w other there at in
            let few = held.few in
            let spent = counts in
            absurd (omega arith))
      ]

  all_given : length s.views ≡ p.threads
  all_given =
      let one = count_below s.views id v there in
      let few = held.few in
      let spent = counts in
      omega arith

  is_mine : (j : ℕ) (w : Standing) → get_elem? s.views j ≡ some (Sits w) → w ≡ v
  is_mine j w at = one_view s.views id w v (subst (λ (k : ℕ). get_elem? s.views k ≡ some (Sits w)) (only_one j w at) at) there

  last_by : (u : ℕ) (a : View) → get_elem? s.views u ≡ some a → IsTrue (is_last (held.locals u).phase)
  last_by u Spent at = held.joined u at
  last_by u (Sits w) at =
      subst (λ (l : Local). IsTrue (is_last l.phase)) (held.seats u w at).its_local
      (subst (λ (x : Standing). IsTrue (is_last x.local.phase)) (sym (is_mine u w at)) ended)

  all_last : (u : ℕ) → u < p.threads → IsTrue (is_last (held.locals u).phase)
  all_last u below =
      let given = all_given in
      let found = found_there s.views u (omega arith) in
      last_by u found.0 found.1

  nobody_late : {A : Type 0} → v.late ≡ false → HasLate s.views → A
  nobody_late in_time had =
      absurd (false≢true (sym in_time ∙ (ap (λ (x : Standing). x.late) (sym (is_mine had.id had.standing had.sits)) ∙ had.is_late)))

  pub closes : (outcome : ExactOutcome) → OutcomeReads (plan_of p) (words_of (plan_of p) s.words) outcome → ClosedShows (plan_of p) (exact_outcome_of outcome) v.late
  closes outcome reads =
      let plan = plan_of p in
      let moment = last_moment p s held in
      let shows : OutcomeShows plan (exact_outcome_of outcome) (shown_by plan moment) =
      record { decide = reads.decide ∙ decide_shown _; ends = reads.ends; revs = reads.revs } in
      record {
        moment = moment;
        ruled = held.ruled;
        safe = safe_at p s held sound;
        shows = shows;
        unlisted = ends_are_unlisted plan moment (exact_outcome_of outcome) v.late sound.sound (padded p sound) held.ruled all_last
            (λ in_time. lt_of_not-le (λ two. nobody_late in_time (held.drop_is_late (subst (λ (n : ℕ). 2 ≤ n) reads.decide two))))
            (λ in_time u halted. nobody_late in_time (held.halt_is_late u halted))
            shows;
      }

-- The bay at its end, and the post that it is closed with.
module _ (bay : Bay) (post : Post) (row : List ℕ) (slots : List (Unit {0})) (ours : IsOf bay post) (final : Final (Seen (Holds bay.table.shared.key) post.seat.id post.seat.me.0) row slots) where
  abbrev at_end : Desk
  at_end = final.0

  holds_at_end : Holds bay.plan.value at_end
  holds_at_end = subst (λ (p : Tables). Holds p at_end) bay.keyed final.1.0

  row_is : at_end.words ≡ row
  row_is = final.2

  pub revisions_at_end : (g : ℕ) → IsTrue (is_first_or_offer (plan_of bay.plan.value) g (words_of (plan_of bay.plan.value) row (Rev g)))
  revisions_at_end g =
      subst (λ (r : List ℕ). IsTrue (is_first_or_offer (plan_of bay.plan.value) g (words_of (plan_of bay.plan.value) r (Rev g)))) row_is
      (revisions_known bay.plan.value at_end holds_at_end bay.sound g)

  pub closed_at_end : post.thread ≡ 0 → post.joined + 1 ≡ bay.plan.value.threads → IsTrue (is_last post.local.phase) → (outcome : ExactOutcome) → OutcomeReads (plan_of bay.plan.value) (words_of (plan_of bay.plan.value) row) outcome → ClosedShows (plan_of bay.plan.value) (exact_outcome_of outcome) post.late
  closed_at_end first all ended outcome reads =
      closes bay.plan.value bay.sound at_end holds_at_end post.seat.id (standing_of bay.plan.value post) (final.1.1 ∙ ap (λ (m : Me (Unit {0}) View). some m.0) ours.sits) first all ended outcome
      (subst (λ (r : List ℕ). OutcomeReads (plan_of bay.plan.value) (words_of (plan_of bay.plan.value) r) outcome) (sym row_is) reads)
