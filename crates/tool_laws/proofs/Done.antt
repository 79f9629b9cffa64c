-- Where a load is done, each group that was offered an entry holds its revision.
use Rattle.std.proofs.Common.{◌≡◌, ◌≢◌, ℕ, ◌-◌, ◌<◌, Bool, true, false, ◌&&◌, List, [], get_or, Option, Some, None, refl, sym, ap, ◌∙◌, subst, inl, inr, arith, true≢false}
use Rattle.std.specs.List.{slice_index}
use Rattle.std.proofs.lemmas.Bool.{cases_lt, eq-eqb}
use Rattle.std.proofs.lemmas.List.FromFn.{get_or-map-range_with_len}
use Rattle.tool_text.specs.rendezvous_steps.declared.steps.Kind.TheVariants.{Online}
use Rattle.tool_text.specs.rendezvous_steps.declared.steps.Phase.{Phase}
use Rattle.tool_text.specs.rendezvous_steps.declared.steps.Phase.TheVariants as phase
use Rattle.tool_text.specs.rendezvous_steps.declared.ends.End.{End}
use Rattle.tool_text.specs.rendezvous_steps.declared.ends.End.TheVariants as ends
use Rattle.tool_text.specs.rendezvous_steps.Plan.{Plan, Sound, is_primary}
use Rattle.tool_text.specs.rendezvous_steps.Padded.{Padded}
use Rattle.tool_text.specs.rendezvous_steps.Words.{families}
use Rattle.tool_text.specs.rendezvous_steps.StepTable.{is_last}
use Rattle.tool_text.specs.rendezvous_steps.Events.{Running}
use Rattle.tool_text.specs.rendezvous_model.Round.{Place, Out, In, Left, Halted, Withdrawn, Absent, Stage, Gathering, Going, DroppedByKick, DroppedBy, State, is_unfinished, is_dropped, nobody}
use Rattle.tool_text.specs.rendezvous_model.Outcome.{Outcome, OutcomeShows, end_of, decide_of}
use Rattle.tool_text.specs.rendezvous_model.Verdict.{LoadVerdict, Done, end_at, left_with_error}
use Rattle.tool_text.specs.rendezvous_model.Verdict as verdict
use Rattle.tool_text.specs.rendezvous_rule.Shown.{shown_by}
use Rattle.tool_text.specs.rendezvous_rule.View.{views}
use Rattle.tool_text.specs.rendezvous_rule.Seen.{seen, place_seen}
use Rattle.tool_text.specs.rendezvous_rule.Rule.{RuleBy}
use Rattle.tool_text.specs.rendezvous_rule.Ran.{Unlisted, AfterGo, revision_after_go, primary_result}
use Rattle.rule_laws.specs.Kept.{Ruled}
use Rattle.rule_laws.proofs.Assemble.{shown_is_seen}
use Rattle.rule_laws.proofs.Facts.{none_settled}
use Rattle.play_laws.specs.Outcomes.{EndedLaw}
use Rattle.play_laws.proofs.Ready.{place_at}
use Rattle.play_laws.proofs.Told.{place_is}

no : {A : Type 0} (b : Bool) → b ≡ false → b ≡ true → A
no b off on = absurd (true≢false (sym on ∙ off))

-- ---- a thread that is finished, where nothing was dropped, stands in its last phase

module _ (plan : Plan) (m : Running) (first : Bool) (stage : Stage) (sound : Sound plan) (padded : Padded plan)
    (rule : RuleBy plan (families m.words) m.locals first stage) (undropped : is_dropped stage ≡ false) where
  abbrev s : State
  s = seen plan (views plan first m.locals) stage nobody

  last_by : (u : ℕ) (p : Phase) → (m.locals u).phase ≡ p → is_unfinished (s.place u) ≡ false → is_last p ≡ true
  last_by u phase.Left e finished = refl
  last_by u phase.Halted e finished = refl
  last_by u phase.Withdrawn e finished = refl
  last_by u phase.Nothing e finished = refl
  last_by u phase.Outside e finished =
      let settled = none_settled plan (families m.words) m.locals first stage u sound rule undropped in
      no _ finished (ap is_unfinished (place_at plan m first stage sound padded rule u phase.Outside e)
      ∙ ap (λ b. is_unfinished (place_seen Out b)) settled)
  last_by u p e finished = no _ finished (ap is_unfinished (place_at plan m first stage sound padded rule u p e))

undropped_by : (stage : Stage) → decide_of stage < 2 → is_dropped stage ≡ false
undropped_by Gathering less = refl
undropped_by Going less = refl
undropped_by DroppedByKick less = absurd (omega (arith, less))
undropped_by (DroppedBy t) less = absurd (omega (arith, less))

finished_by : (place : Place) → verdict.ended_unfinished (end_of place) ≡ false → is_unfinished place ≡ false
finished_by Out finished = no _ finished refl
finished_by In finished = no _ finished refl
finished_by (Left x) finished = refl
finished_by Halted finished = refl
finished_by Withdrawn finished = refl
finished_by Absent finished = refl

-- a primary that left with no error wrote its group's offer
wrote_by : (offer rev first : ℕ) (refuses : Bool) →
    left_with_error (ends.Left (primary_result (Some offer) refuses)) ≡ false →
    rev ≡ revision_after_go (Some offer) refuses first → rev ≡ offer
wrote_by offer rev first false fine is = is
wrote_by offer rev first true fine is = no _ fine refl

-- ---- an outcome that a run may come to

module _ (plan : Plan) (text : List ℕ) (outcome : Outcome) (late : Bool) (sound : Sound plan) (padded : Padded plan)
    (unlisted : Unlisted plan text outcome late) (done : LoadVerdict plan outcome Done) where
  went : AfterGo plan outcome
  went = let some = unlisted.decided in let few = done.1 in unlisted.after_go (omega (arith, some, few))

  and_second : (a b : Bool) → a ≡ true → (a && b) ≡ false → b ≡ false
  and_second true b is both = both
  and_second false b is both = absurd cc

  pub unlisted_holds : (g rev : ℕ) → plan.offer g ≡ Some rev → slice_index outcome.revs g ≡ rev
  unlisted_holds g rev offered = elim (cases_lt g plan.groups) [
    | inr past ↦ let wrong : None ≡ Some rev = sym (padded.no_offer g past) ∙ offered in absurd cc
    | inl below ↦
        let t : ℕ = plan.primary g in
        let within : t < plan.threads = sound.primaries_in_range g below in
        let own : plan.group t ≡ g = sound.primary_is_one_of_its_group g below in
        let leads : is_primary plan t ≡ true = eq-eqb t (plan.primary (plan.group t)) (ap plan.primary (sym own)) in
        let online : plan.kind t ≡ Online = sound.offer_to_present g rev below offered in
        let its : plan.offer (plan.group t) ≡ Some rev = ap plan.offer own ∙ offered in
        let left : end_at outcome t ≡ ends.Left (primary_result (Some rev) (plan.refuse (plan.group t))) =
        went.primaries t within online leads
        ∙ ap (λ (offer : Option ℕ). ends.Left (primary_result offer (plan.refuse (plan.group t)))) its in
        let fine : left_with_error (end_at outcome t) ≡ false =
        and_second (is_primary plan t) (left_with_error (end_at outcome t)) leads (done.2 t within) in
        let written : slice_index outcome.revs g ≡ revision_after_go (Some rev) (plan.refuse (plan.group t)) (plan.rev0 g) =
        went.revisions g below
        ∙ ap (λ (offer : Option ℕ). revision_after_go offer (plan.refuse g) (plan.rev0 g)) offered
        ∙ ap (λ (h : ℕ). revision_after_go (Some rev) (plan.refuse h) (plan.rev0 g)) (sym own) in
        wrote_by rev (slice_index outcome.revs g) (plan.rev0 g) (plan.refuse (plan.group t))
        (sym (ap left_with_error left) ∙ fine) written
  ]

-- ---- the outcome of items that are listed

module _ (law : EndedLaw) (plan : Plan) (m : Running) (outcome : Outcome) (sound : Sound plan) (padded : Padded plan)
    (ruled : Ruled plan m) (shows : OutcomeShows plan outcome (shown_by plan m)) (done : LoadVerdict plan outcome Done)
  where
    end_is : (t : ℕ) → t < plan.threads → end_at outcome t ≡ end_of ((shown_by plan m).place t)
    end_is t within =
        ap (λ (xs : List End). get_or xs t ends.Absent) shows.ends
        ∙ get_or-map-range_with_len (λ u. end_of ((shown_by plan m).place u)) 0 (plan.threads - 0) t t ends.Absent
        (omega arith) (omega arith)

    less : decide_of ruled.stage < 2
    less =
        subst (λ (n : ℕ). n < 2)
        (shows.decide
        ∙ ap (λ (x : State). decide_of x.stage)
        (shown_is_seen plan (families m.words) m.locals ruled.first ruled.stage m.latched sound padded ruled.by))
        done.1

    each_is_last : (u : ℕ) → u < plan.threads → is_last (m.locals u).phase ≡ true
    each_is_last u within =
        let finished : is_unfinished ((shown_by plan m).place u) ≡ false =
        finished_by ((shown_by plan m).place u) (sym (ap verdict.ended_unfinished (end_is u within)) ∙ done.0.1 u within) in
        last_by plan m ruled.first ruled.stage sound padded ruled.by (undropped_by ruled.stage less) u (m.locals u).phase refl
        (ap is_unfinished (sym (place_is plan m ruled.first ruled.stage sound padded ruled.by u)) ∙ finished)

    unlisted : Unlisted plan [] outcome true
    unlisted = law plan m outcome true sound padded ruled each_is_last (λ e. cc) (λ e. cc) shows

    pub holds_offer : (g rev : ℕ) → plan.offer g ≡ Some rev → slice_index outcome.revs g ≡ rev
    holds_offer = unlisted_holds plan [] outcome true sound padded unlisted done
