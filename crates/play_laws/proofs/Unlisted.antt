-- Every outcome of a rendezvous where each thread has come to its last phase is one that a run may have.
use Rattle.std.proofs.Common.{◌≡◌, ◌≢◌, ◌⊎◌, ◌↔◌, ℕ, ◌-◌, ◌<◌, ◌≤◌, Bool, true, false, if◌then◌else◌, List, [], length, get_or, refl, ap, sym, ◌∙◌, subst, arith, true≢false, inl, inr}
use Rattle.std.specs.List.{slice_index}
use Rattle.std.proofs.lemmas.List.FromFn.{get_or-map-range_with_len, length-map-range_with_len}
use Rattle.rendezvous_steps.specs.declared.steps.Kind.{Kind}
use Rattle.rendezvous_steps.specs.declared.steps.Kind.TheVariants.{Online, Offline, Absent as KindAbsent}
use Rattle.rendezvous_steps.specs.declared.steps.ThreadResult.TheVariants as results
use Rattle.rendezvous_steps.specs.declared.steps.Phase.TheVariants as phase
use Rattle.rendezvous_steps.specs.declared.ends.End.{End}
use Rattle.rendezvous_steps.specs.declared.ends.End.TheVariants as ends
use Rattle.rendezvous_steps.specs.Plan.{Plan, Sound, is_primary}
use Rattle.rendezvous_steps.specs.Padded.{Padded}
use Rattle.rendezvous_steps.specs.StepTable.{is_last}
use Rattle.rendezvous_steps.specs.Words.{families}
use Rattle.rendezvous_steps.specs.Events.{Running}
use Rattle.rendezvous_model.specs.Round.{Place, Out, In, Left, Halted, Withdrawn, Absent, Stage, Going, DroppedBy, State, nobody, is_dropped, is_going}
use Rattle.rendezvous_model.specs.Outcome.{Outcome, OutcomeShows, end_of, decide_of}
use Rattle.rendezvous_model.specs.RoundEnds.{okay_for}
use Rattle.rendezvous_model.specs.Verdict.{end_at}
use Rattle.rendezvous_rule.specs.View.{views}
use Rattle.rendezvous_rule.specs.Seen.{seen}
use Rattle.rendezvous_rule.specs.Knows.{report_of, result_for}
use Rattle.rendezvous_rule.specs.Rule.{RuleBy}
use Rattle.rendezvous_rule.specs.Ran.{Unlisted, AfterGo, AfterDrop, primary_result, sibling_result, ended_offline}
use Rattle.rule_laws.proofs.Assemble.{shown_is_seen}
use Rattle.rule_laws.proofs.Facts.{going_undropped}
use Rattle.rule_laws.proofs.Safety.{ruled_is_safe}
use Rattle.play_laws.specs.Outcomes.{EndedLaw}
use Rattle.play_laws.proofs.Ends.{OnlineEnd, after_go, after_drop, in_halt, OfflineEnd, freed, held, withdrawn, went_by, dropped_by, kick_by, thread_by, not_going, online_end, offline_end, absent_end, decided, withdrawn_dropped, withdrawn_away, revision_went}

no : {A : Type 0} (b : Bool) → b ≡ false → b ≡ true → A
no b off on = absurd (true≢false (sym on ∙ off))

-- what a place tells of an end

end_absent : (place : Place) → end_of place ≡ ends.Absent → place ≡ Absent
end_absent Absent e = refl
end_absent Out e = cc
end_absent In e = cc
end_absent (Left x) e = cc
end_absent Halted e = cc
end_absent Withdrawn e = cc

end_halted : (place : Place) → end_of place ≡ ends.Halted → place ≡ Halted
end_halted Halted e = refl
end_halted Out e = cc
end_halted In e = cc
end_halted (Left x) e = cc
end_halted Withdrawn e = cc
end_halted Absent e = cc

end_withdrawn : (place : Place) → end_of place ≡ ends.Withdrawn → place ≡ Withdrawn
end_withdrawn Withdrawn e = refl
end_withdrawn Out e = cc
end_withdrawn In e = cc
end_withdrawn (Left x) e = cc
end_withdrawn Halted e = cc
end_withdrawn Absent e = cc

module _ (plan : Plan) (m : Running) (first : Bool) (stage : Stage) (sound : Sound plan) (padded : Padded plan)
    (rule : RuleBy plan (families m.words) m.locals first stage)
    (last : (u : ℕ) → u < plan.threads → is_last (m.locals u).phase ≡ true)
    (outcome : Outcome) (shows : OutcomeShows plan outcome (seen plan (views plan first m.locals) stage m.latched))
  where
    abbrev s : State
    s = seen plan (views plan first m.locals) stage nobody

    end_is : (t : ℕ) → t < plan.threads → end_at outcome t ≡ end_of (s.place t)
    end_is t within =
        ap (λ (xs : List End). get_or xs t ends.Absent) shows.ends
        ∙ get_or-map-range_with_len (λ u. end_of (s.place u)) 0 (plan.threads - 0) t t ends.Absent (omega arith)
        (omega arith)

    revision_is : (g : ℕ) → g < plan.groups → slice_index outcome.revs g ≡ s.revision g
    revision_is g within =
        ap (λ (xs : List ℕ). slice_index xs g) shows.revs
        ∙ get_or-map-range_with_len s.revision 0 plan.groups g g 0 within (omega arith)

    -- By kind, the place of a thread at its end is none of these.

    online_place : (t : ℕ) → OnlineEnd plan m first stage sound padded rule t →
        (end_of (s.place t) ≢ ends.Absent) × (end_of (s.place t) ≢ ends.Unfinished) ×
        (end_of (s.place t) ≢ ends.Withdrawn)
    online_place t (after_go going place) = (
      λ e. let f : ends.Left (result_for plan t) ≡ ends.Absent = sym (ap end_of place) ∙ e in cc,
      λ e. let f : ends.Left (result_for plan t) ≡ ends.Unfinished = sym (ap end_of place) ∙ e in cc,
      λ e. let f : ends.Left (result_for plan t) ≡ ends.Withdrawn = sym (ap end_of place) ∙ e in cc,
    )
    online_place t (after_drop dropped place) = (
      λ e. let f : ends.Left results.Timeout ≡ ends.Absent = sym (ap end_of place) ∙ e in cc,
      λ e. let f : ends.Left results.Timeout ≡ ends.Unfinished = sym (ap end_of place) ∙ e in cc,
      λ e. let f : ends.Left results.Timeout ≡ ends.Withdrawn = sym (ap end_of place) ∙ e in cc,
    )
    online_place t (in_halt going follows place here) = (
      λ e. let f : ends.Halted ≡ ends.Absent = sym (ap end_of place) ∙ e in cc,
      λ e. let f : ends.Halted ≡ ends.Unfinished = sym (ap end_of place) ∙ e in cc,
      λ e. let f : ends.Halted ≡ ends.Withdrawn = sym (ap end_of place) ∙ e in cc,
    )

    offline_place : (t : ℕ) → OfflineEnd plan m first stage sound padded rule t →
        (end_of (s.place t) ≢ ends.Absent) × (end_of (s.place t) ≢ ends.Unfinished)
    offline_place t (freed place) = (
      λ e. let f : ends.Left results.Offline ≡ ends.Absent = sym (ap end_of place) ∙ e in cc,
      λ e. let f : ends.Left results.Offline ≡ ends.Unfinished = sym (ap end_of place) ∙ e in cc,
    )
    offline_place t (held place here) = (
      λ e. let f : ends.Halted ≡ ends.Absent = sym (ap end_of place) ∙ e in cc,
      λ e. let f : ends.Halted ≡ ends.Unfinished = sym (ap end_of place) ∙ e in cc,
    )
    offline_place t (withdrawn place here) = (
      λ e. let f : ends.Withdrawn ≡ ends.Absent = sym (ap end_of place) ∙ e in cc,
      λ e. let f : ends.Withdrawn ≡ ends.Unfinished = sym (ap end_of place) ∙ e in cc,
    )

    online_at_end : (t : ℕ) → t < plan.threads → plan.kind t ≡ Online → OnlineEnd plan m first stage sound padded rule t
    online_at_end t within k = online_end plan m first stage sound padded rule t k (last t within)

    offline_at_end :
        (t : ℕ) → t < plan.threads → plan.kind t ≡ Offline → OfflineEnd plan m first stage sound padded rule t
    offline_at_end t within k = offline_end plan m first stage sound padded rule t k (last t within)

    absents_by :
        (t : ℕ) (kind : Kind) → t < plan.threads → plan.kind t ≡ kind →
        (end_at outcome t ≡ ends.Absent) ↔ (plan.kind t ≡ KindAbsent)
    absents_by t Online within k = (
      λ e. absurd ((online_place t (online_at_end t within k)).0 (sym (end_is t within) ∙ e)),
      λ f. let same : Online ≡ KindAbsent = sym k ∙ f in cc,
    )
    absents_by t Offline within k = (
      λ e. absurd ((offline_place t (offline_at_end t within k)).0 (sym (end_is t within) ∙ e)),
      λ f. let same : Offline ≡ KindAbsent = sym k ∙ f in cc,
    )
    absents_by t KindAbsent within k =
        (λ e. k, λ f. end_is t within ∙ ap end_of (absent_end plan m first stage sound padded rule t k))

    unfinished_by : (t : ℕ) (kind : Kind) → t < plan.threads → plan.kind t ≡ kind → end_at outcome t ≢ ends.Unfinished
    unfinished_by t Online within k e = (online_place t (online_at_end t within k)).1 (sym (end_is t within) ∙ e)
    unfinished_by t Offline within k e = (offline_place t (offline_at_end t within k)).1 (sym (end_is t within) ∙ e)
    unfinished_by t KindAbsent within k e =
        let f : ends.Absent ≡ ends.Unfinished =
        sym (ap end_of (absent_end plan m first stage sound padded rule t k)) ∙ (sym (end_is t within) ∙ e) in cc

    -- After a go.

    primary_by : (t : ℕ) → t < plan.threads → is_primary plan t ≡ true → stage ≡ Going →
        OnlineEnd plan m first stage sound padded rule t →
        end_at outcome t ≡ ends.Left (primary_result (plan.offer (plan.group t)) (plan.refuse (plan.group t)))
    unfolding report_of result_for
    primary_by t within leads going (after_go e place) =
        end_is t within
        ∙ (ap end_of place
        ∙ ap (λ b. ends.Left (if b then report_of plan (plan.group t) else okay_for (report_of plan (plan.group t))))
        leads)
    primary_by t within leads going (after_drop dropped place) = no _ (going_undropped stage going) dropped
    primary_by t within leads going (in_halt e follows place here) = no _ follows leads

    sibling_by : (t : ℕ) → t < plan.threads → is_primary plan t ≡ false → stage ≡ Going →
        OnlineEnd plan m first stage sound padded rule t →
        (end_at outcome t ≡ ends.Halted)
        ⊎ (end_at outcome t ≡ ends.Left (sibling_result (plan.offer (plan.group t)) (plan.refuse (plan.group t))))
    unfolding report_of result_for
    sibling_by t within follows going (after_go e place) =
        inr (end_is t within
        ∙ (ap end_of place
        ∙ ap (λ b. ends.Left (if b then report_of plan (plan.group t) else okay_for (report_of plan (plan.group t))))
        follows))
    sibling_by t within follows going (after_drop dropped place) = no _ (going_undropped stage going) dropped
    sibling_by t within follows going (in_halt e f place here) = inl (end_is t within ∙ ap end_of place)

    offline_by : (t : ℕ) → t < plan.threads → stage ≡ Going →
        OfflineEnd plan m first stage sound padded rule t →
        (end_at outcome t ≡ ends.Halted) ⊎ (end_at outcome t ≡ ends.Left results.Offline)
    offline_by t within going (freed place) = inr (end_is t within ∙ ap end_of place)
    offline_by t within going (held place here) = inl (end_is t within ∙ ap end_of place)
    offline_by t within going (withdrawn place here) =
        no _ (going_undropped stage going) (withdrawn_dropped plan m first stage sound padded rule t place here)

    went : stage ≡ Going → AfterGo plan outcome
    went going =
        record {
          revisions = λ g within. revision_is g within ∙ revision_went plan m first stage sound padded rule g going last;
          primaries = λ t within k leads. primary_by t within leads going (online_at_end t within k);
          siblings = λ t within k follows. sibling_by t within follows going (online_at_end t within k);
          offlines = λ t within k. offline_by t within going (offline_at_end t within k);
        }

    -- After a drop.

    timed_out : (t : ℕ) → t < plan.threads → is_dropped stage ≡ true →
        OnlineEnd plan m first stage sound padded rule t → end_at outcome t ≡ ends.Left results.Timeout
    timed_out t within dropped (after_drop e place) = end_is t within ∙ ap end_of place
    timed_out t within dropped (after_go going place) = no _ (going_undropped stage going) dropped
    timed_out t within dropped (in_halt going follows place here) = no _ (going_undropped stage going) dropped

    ended_by :
        (t : ℕ) → t < plan.threads → OfflineEnd plan m first stage sound padded rule t →
        ended_offline (end_at outcome t) ≡ true
    ended_by t within (freed place) = ap ended_offline (end_is t within ∙ ap end_of place)
    ended_by t within (held place here) = ap ended_offline (end_is t within ∙ ap end_of place)
    ended_by t within (withdrawn place here) = ap ended_offline (end_is t within ∙ ap end_of place)

    -- where thread 0 had arrived, every Offline thread has, and none was withdrawn
    came_by :
        (t : ℕ) (kind : Kind) → t < plan.threads → plan.kind t ≡ kind → s.arrived 0 ≡ true →
        end_at outcome t ≢ ends.Withdrawn
    came_by t Online within k came e = (online_place t (online_at_end t within k)).2 (sym (end_is t within) ∙ e)
    came_by t Offline within k came e = by (offline_at_end t within k)
      where
        by : OfflineEnd plan m first stage sound padded rule t → ⊥
        by (freed place) = let f : ends.Left results.Offline ≡ ends.Withdrawn = sym (ap end_of place)
            ∙ (sym (end_is t within) ∙ e) in cc
        by (held place here) = let f : ends.Halted ≡ ends.Withdrawn = sym (ap end_of place)
            ∙ (sym (end_is t within) ∙ e) in cc
        by (withdrawn place here) =
            no _ (withdrawn_away plan m first stage sound padded rule t here) (rule.gathered.zero_last came t k)
    came_by t KindAbsent within k came e =
        let f : ends.Absent ≡ ends.Withdrawn =
        sym (ap end_of (absent_end plan m first stage sound padded rule t k)) ∙ (sym (end_is t within) ∙ e) in cc

    zero_by : outcome.decide ≡ 3 → stage ≡ DroppedBy 0
    zero_by e =
        let three : decide_of stage ≡ 3 = sym shows.decide ∙ e in
        thread_by stage (omega arith) ∙ ap (λ n. DroppedBy (n - 3)) three

    dropped : is_dropped stage ≡ true → AfterDrop plan outcome
    dropped is_dropped =
        let safe = ruled_is_safe plan m sound padded (record { first = first; stage = stage; by = rule }) in
        let shown = shown_is_seen plan (families m.words) m.locals first stage m.latched sound padded rule in
        record {
          revisions = λ g within.
              revision_is g within
              ∙ (sym (ap (λ (x : State). x.revision g) shown)
              ∙ (safe.nothing_without_go (ap (λ (x : State). is_going x.stage) shown ∙ not_going stage is_dropped) g).1);
          onlines = λ t within k. timed_out t within is_dropped (online_at_end t within k);
          offlines = λ t within k. ended_by t within (offline_at_end t within k);
          by_kick = λ e. rule.gathered.kick_dropped (kick_by stage (sym shows.decide ∙ e));
          by_online = λ e.
              let three : 3 ≤ decide_of stage = subst (λ n. 3 ≤ n) shows.decide e in
              ap (λ n. plan.kind (n - 3)) shows.decide
              ∙ rule.gathered.dropped_by_online (decide_of stage - 3) (thread_by stage three);
          by_zero = λ e. (rule.gathered.zero_dropped (zero_by e)).1;
          by_zero_after_all = λ e t within. came_by t (plan.kind t) within refl
              (rule.gathered.zero_dropped (zero_by e)).0;
        }

    -- who is shown to have halted stands there
    halted_by :
        (t : ℕ) (kind : Kind) → t < plan.threads → plan.kind t ≡ kind → s.place t ≡ Halted →
        (m.locals t).phase ≡ phase.Halted
    halted_by t Online within k e = by (online_at_end t within k)
      where
        by : OnlineEnd plan m first stage sound padded rule t → (m.locals t).phase ≡ phase.Halted
        by (after_go going place) = let f : Left (result_for plan t) ≡ Halted = sym place ∙ e in cc
        by (after_drop dropped place) = let f : Left results.Timeout ≡ Halted = sym place ∙ e in cc
        by (in_halt going follows place here) = here
    halted_by t Offline within k e = by (offline_at_end t within k)
      where
        by : OfflineEnd plan m first stage sound padded rule t → (m.locals t).phase ≡ phase.Halted
        by (freed place) = let f : Left results.Offline ≡ Halted = sym place ∙ e in cc
        by (held place here) = here
        by (withdrawn place here) = let f : Withdrawn ≡ Halted = sym place ∙ e in cc
    halted_by t KindAbsent within k e =
        let f : Absent ≡ Halted = sym (absent_end plan m first stage sound padded rule t k) ∙ e in cc

    pub unlisted : (late : Bool) →
        (late ≡ false → outcome.decide < 2) → (late ≡ false → (u : ℕ) → (m.locals u).phase ≢ phase.Halted) →
        Unlisted plan [] outcome late
    unlisted late in_time none_halts =
        let some : 0 < outcome.decide =
        subst (λ n. 0 < n) (sym shows.decide) (decided plan m first stage sound padded rule (last 0 sound.some_thread)) in
        record {
          no_text = refl;
          an_end_each = ap length shows.ends ∙ (length-map-range_with_len (λ u. end_of (s.place u)) 0
              (plan.threads - 0) ∙ omega arith);
          a_revision_each = ap length shows.revs ∙ length-map-range_with_len s.revision 0 plan.groups;
          absents = λ t within. absents_by t (plan.kind t) within refl;
          none_unfinished = λ t within. unfinished_by t (plan.kind t) within refl;
          decided = some;
          after_go = λ e. went (went_by stage (sym shows.decide ∙ e));
          after_drop = λ e. dropped (dropped_by stage (subst (λ n. 2 ≤ n) shows.decide e));
          in_time = λ e. let less = in_time e in omega arith;
          in_time_none_halted = λ e t within f.
              none_halts e t (halted_by t (plan.kind t) within refl (end_halted (s.place t) (sym (end_is t within) ∙ f)));
        }

pub ends_are_unlisted : EndedLaw
ends_are_unlisted plan moment outcome late sound padded ruled last in_time none_halts shows =
    unlisted plan moment ruled.first ruled.stage sound padded ruled.by last outcome
    (subst (λ x. OutcomeShows plan outcome x)
    (shown_is_seen plan (families moment.words) moment.locals ruled.first ruled.stage moment.latched sound padded
    ruled.by) shows)
    late in_time none_halts
