-- A moment with the rule shows one state.
use Rattle.std.proofs.Common.{◌≡◌, ℕ, ◌+◌, ◌-◌, ◌≤◌, true, refl, ap, sym, ◌∙◌, subst, arith}
use Rattle.rendezvous_steps.specs.declared.steps.Kind.TheVariants.{Online}
use Rattle.rendezvous_steps.specs.Plan.{Plan}
use Rattle.rendezvous_steps.specs.Words.{families}
use Rattle.rendezvous_model.specs.Round.{Stage, Gathering, Going, DroppedByKick, DroppedBy, State, still_awaited, offline_arrived}
use Rattle.rendezvous_model.specs.Outcome.{decide_of}
use Rattle.rendezvous_rule.specs.Seen.{words_of}
use Rattle.rule_laws.specs.Laws.{RuledShows, ShowsOne}
use Rattle.rule_laws.proofs.Assemble.{shown_is_seen}

dropped_online :
    (plan : Plan) (stage : Stage) →
    ((t : ℕ) → stage ≡ DroppedBy t → plan.kind t ≡ Online) → 3 ≤ decide_of stage →
    plan.kind (decide_of stage - 3) ≡ Online
dropped_online plan Gathering by low = absurd (omega arith)
dropped_online plan Going by low = absurd (omega arith)
dropped_online plan DroppedByKick by low = absurd (omega arith)
dropped_online plan (DroppedBy t) by low = let e : 3 + t - 3 ≡ t = omega arith in ap plan.kind e ∙ by t refl

pub ruled_shows : RuledShows
unfolding words_of
ruled_shows plan moment sound padded rule =
    let words = families moment.words in
    let same = shown_is_seen plan words moment.locals rule.first rule.stage moment.latched sound padded rule.by in
    let decide : words.decide ≡ decide_of rule.stage = ap (λ w. w.decide) rule.by.says in
    record {
      stands_for = refl;
      arrive = ap (λ w. w.arrive) rule.by.says ∙ ap (λ s. still_awaited plan s.arrived) (sym same);
      off_in = ap (λ w. w.off_in) rule.by.says ∙ ap (λ s. offline_arrived plan s.arrived) (sym same);
      one_decider =
          subst (λ (s : State). (u v : ℕ) → s.is_decider u ≡ true → s.is_decider v ≡ true → u ≡ v)
          (sym same) rule.by.gathered.one_decides;
      decided_by_online = λ low.
          ap (λ d. plan.kind (d - 3)) decide
          ∙ dropped_online plan rule.stage rule.by.gathered.dropped_by_online (subst (λ d. 3 ≤ d) decide low);
    }

pub shows_one : ShowsOne
shows_one plan moment a b sa sb = sa.stands_for ∙ sym sb.stands_for
