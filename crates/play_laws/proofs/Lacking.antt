-- What goes wrong without the rule, without its clause on latches, and with too few rounds.
use Rattle.std.proofs.Common.{◌≡◌, ℕ, zero, suc, ◌<◌, ◌≤◌, ◌==◌, Bool, true, false, if◌then◌else◌, [], ◌∷◌, refl, sym, ap, ◌∙◌, true≢false, arith}
use Rattle.rendezvous_steps.specs.declared.steps.Kind.TheVariants.{Online, Offline}
use Rattle.rendezvous_steps.specs.declared.steps.Phase.{Phase}
use Rattle.rendezvous_steps.specs.declared.steps.Phase.TheVariants as phase
use Rattle.rendezvous_steps.specs.declared.steps.Local.{Local}
use Rattle.rendezvous_steps.specs.declared.operations.Word.{Word}
use Rattle.rendezvous_steps.specs.declared.operations.Word.TheVariants.{Mode}
use Rattle.rendezvous_steps.specs.declared.items.Event.TheVariants.{Step, Nmi}
use Rattle.rendezvous_steps.specs.declared.ends.Beat.TheVariants.{Rounds}
use Rattle.rendezvous_steps.specs.Plan.{Plan, offline_from, sibling_from, online_count, offline_count}
use Rattle.rendezvous_steps.specs.Events.{Running, opening_running, happens, put}
use Rattle.rendezvous_steps.specs.Words.{put_word}
use Rattle.rendezvous_steps.specs.StepTable.{operation, after, opening}
use Rattle.rendezvous_steps.specs.declared.items.What.{What}
use Rattle.rendezvous_model.specs.Round.{State, is_unfinished}
use Rattle.rendezvous_model.specs.RoundStep.{Round}
use Rattle.rendezvous_model.specs.Safe.{Safe}
use Rattle.rendezvous_rule.specs.Shown.{shown_by}
use Rattle.rendezvous_rule.specs.Ran.{events_of}
use Rattle.play_steps.specs.Play.{is_over, last_moment}
use Rattle.play_steps.specs.Rank.{is_counted}
use Rattle.rendezvous_rule.specs.Facets.{is_writing, past_writing, is_deciding, past_arriving}
use Rattle.play_steps.proofs.Small.{pair, pair_sound, pair_padded}
use Rattle.rule_laws.proofs.Opening.{opening_is_ruled}
use Rattle.play_laws.specs.Needed.{RuleIsNeededForSafety, RuleIsNeededToGetOn, CalmIsNeeded, EightRoundsAreFew}

abbrev at_phase : Phase → Local
at_phase here = record { phase = here; at = 0; polls = 0; mine = 0 }

-- Thread 0 writes, and thread 1 is outside.

abbrev writes_alone : Running
writes_alone =
    record (opening_running (pair Online)) {
      words = put_word (opening_running (pair Online)).words (Mode 0) 2;
      locals = λ t. if t == 0 then at_phase phase.Writing else at_phase phase.Outside;
    }

unsafe : Safe (pair Online) (shown_by (pair Online) writes_alone) → ⊥
unfolding is_writing past_writing is_deciding past_arriving
unsafe safe = true≢false (sym (safe.write_holds_all 0 1 refl refl (λ e. cc)))

pub rule_for_safety : RuleIsNeededForSafety
rule_for_safety all = unsafe (all (pair Online) writes_alone (pair_sound Online) (pair_padded Online))

-- Thread 0 has left, and thread 1 waits for the decision.

abbrev waits_alone : Running
waits_alone =
    record (opening_running (pair Online)) {
      words = put_word (put_word (opening_running (pair Online)).words (Mode 0) 13) (Mode 1) 1;
      locals = λ t. if t == 0 then at_phase phase.Left else at_phase phase.Waiting;
    }

not_over : is_over (pair Online) waits_alone ≡ false
not_over = refl

not_ready : (t : ℕ) → t < 2 → is_unfinished ((shown_by (pair Online) waits_alone).place t) ≡ true →
    is_counted (happens (pair Online) (Step t) waits_alone).1 ≡ true → ⊥
unfolding happens operation after put
not_ready zero below unfinished counts = true≢false (sym unfinished)
not_ready (suc zero) below unfinished counts = true≢false (sym counts)
not_ready (suc (suc t)) below unfinished counts = absurd (omega arith)

pub rule_to_get_on : RuleIsNeededToGetOn
rule_to_get_on all =
    let some = all (pair Online) waits_alone (pair_sound Online) (pair_padded Online) not_over in
    not_ready some.thread some.in_range some.unfinished some.counts

-- An NMI is latched for thread 1, which is Offline and outside, and another comes.

abbrev latched_outside : Running
latched_outside = record (opening_running (pair Offline)) { latched = λ t. true }

abbrev after_nmi : Running × What
after_nmi = happens (pair Offline) (Nmi 1) latched_outside

no_step : Round (pair Offline) (shown_by (pair Offline) latched_outside) (Nmi 1) after_nmi.1
    (shown_by (pair Offline) after_nmi.0) → ⊥
unfolding happens operation after opening put
no_step step = true≢false (ap (λ (s : State). s.latched 1) step.change)

pub calm_is_needed : CalmIsNeeded
calm_is_needed all =
    no_step (all (pair Offline) (Nmi 1) latched_outside (pair_sound Offline) (pair_padded Offline)
    (opening_is_ruled (pair Offline) (pair_sound Offline) (pair_padded Offline)))

-- After eight rounds of two threads no thread has left.

still_there : is_over (pair Online)
    (last_moment (pair Online) (opening_running (pair Online)) (events_of (pair Online) (Rounds 8 ∷ []))) ≡ false
unfolding happens operation after opening put offline_from sibling_from online_count offline_count
still_there = refl

pub eight_rounds_are_few : EightRoundsAreFew
eight_rounds_are_few all =
    true≢false (sym (all (pair Online) (Rounds 8 ∷ []) (pair_sound Online) (pair_padded Online) (omega arith)) ∙ still_there)
