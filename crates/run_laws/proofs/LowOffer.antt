-- A run in which a revision falls, since the offer is below what runs.
use Rattle.std.proofs.Common.{◌≡◌, ℕ, zero, suc, ◌+◌, ◌<◌, ◌≤◌, ◌==◌, Bool, true, false, if◌then◌else◌, List, [], ◌∷◌, Option, Some, None, slice_get, refl, subst, inr, arith}
use Rattle.std.proofs.lemmas.Bool.Decides.{nat_tests}
use Rattle.rendezvous_steps.specs.declared.steps.Kind.{Kind}
use Rattle.rendezvous_steps.specs.declared.steps.Kind.TheVariants.{Online, Offline, Absent}
use Rattle.rendezvous_steps.specs.declared.items.Event.{Event}
use Rattle.rendezvous_steps.specs.declared.items.Event.TheVariants.{Step}
use Rattle.rendezvous_steps.specs.declared.items.Item.{Item}
use Rattle.rendezvous_steps.specs.declared.items.What.{What}
use Rattle.rendezvous_steps.specs.declared.items.What.TheVariants as what
use Rattle.rendezvous_steps.specs.Plan.{Plan}
use Rattle.rendezvous_steps.specs.Padded.{Padded}
use Rattle.rendezvous_steps.specs.Events.{put}
use Rattle.rendezvous_model.specs.Round.{State, In, Going, Writing, Written, nobody, opening_state, still_awaited, unfinished_count}
use Rattle.rendezvous_model.specs.RoundItems.{decider_after}
use Rattle.rendezvous_model.specs.Run.{Run, Answered}
use Rattle.run_laws.specs.Needed.{SoundIsNeeded}

abbrev kind_alone : ℕ → Kind
kind_alone t = if t == 0 then Online else Absent

abbrev offer_alone : ℕ → Option ℕ
offer_alone g = if g == 0 then Some 1 else None

-- one thread, whose group runs revision 2 and is offered revision 1
abbrev lower : Plan
lower =
    record {
      threads = 1;
      groups = 1;
      kind = kind_alone;
      group = λ t. t;
      primary = λ g. g;
      offer = offer_alone;
      refuse = λ g. false;
      rev0 = λ g. 2;
      patience = 0;
    }

past_zero : (g : ℕ) → 1 ≤ g → g == 0 ≡ false
past_zero g past = grind (arith, nat_tests)

lower_padded : Padded lower
lower_padded =
    record {
      no_thread = λ t past. rw (past_zero t past) refl;
      no_offer = λ g past. rw (past_zero g past) refl;
      no_primary = λ g past. rw (past_zero g past) refl;
    }

-- The states: at the opening, and once it has entered, arrived, decided, begun and written.

abbrev entered : State
entered = record (opening_state lower) { place = put (opening_state lower).place 0 In }

abbrev arrived : State
arrived =
    let set = put entered.arrived 0 true in
    record entered { arrived = set; is_decider = decider_after lower 0 entered set }

abbrev decided : State
decided = record arrived { stage = Going; is_decider = nobody }

abbrev begun : State
begun = record decided { group = put decided.group 0 Writing }

abbrev wrote : State
wrote = record begun { group = put begun.group 0 Written; revision = put begun.revision 0 1 }

abbrev states : ℕ → State
states zero = opening_state lower
states (suc zero) = entered
states (suc (suc zero)) = arrived
states (suc (suc (suc zero))) = decided
states (suc (suc (suc (suc zero)))) = begun
states (suc (suc (suc (suc (suc k))))) = wrote

abbrev item : What → Item
item what = record { thread = 0; what = what }

abbrev items : List Item
items = item what.Enter ∷ item what.Arrive ∷ item what.Go ∷ item (what.Begin 0) ∷ item (what.Wrote 0 1) ∷ []

abbrev events : List Event
events = Step 0 ∷ Step 0 ∷ Step 0 ∷ Step 0 ∷ Step 0 ∷ []

some_inj : {A : Type 0} (x y : A) → Some x ≡ Some y → x ≡ y
some_inj x y e = cc

-- an answer by the event and the item that stand there
by_list : (event' : Event) (item' : Item) (before after : State) → Answered lower event' item' before after →
    (e : Event) (i : Item) → Some event' ≡ Some e → Some item' ≡ Some i → Answered lower e i before after
by_list event' item' before after answered e i of_event of_item =
    subst (λ (x : Event). Answered lower x i before after) (some_inj event' e of_event)
    (subst (λ (x : Item). Answered lower event' x before after) (some_inj item' i of_item) answered)

enters : Answered lower (Step 0) (item what.Enter) (opening_state lower) entered
unfolding unfinished_count
enters =
    record {
      of_its_thread = refl;
      goes_on = omega arith;
      step = record { is_out = refl; may = refl; change = refl };
    }

none_offline_by : {A : Type 0} (b : Bool) → (if b then Online else Absent) ≡ Offline → A
none_offline_by true e = cc
none_offline_by false e = cc

arrives : Answered lower (Step 0) (item what.Arrive) entered arrived
unfolding unfinished_count put
arrives =
    record {
      of_its_thread = refl;
      goes_on = omega arith;
      step = (
        refl,
        record {
          is_in = refl;
          not_arrived = refl;
          zero_after_offline = λ zero k offline. none_offline_by (k == 0) offline;
          change = refl;
        },
      );
    }

decides : Answered lower (Step 0) (item what.Go) arrived decided
unfolding unfinished_count put still_awaited
decides =
    record {
      of_its_thread = refl;
      goes_on = omega arith;
      step = (refl, record { gathering = refl; is_in = refl; decides = refl; change = refl });
    }

begins : Answered lower (Step 0) (item (what.Begin 0)) decided begun
unfolding unfinished_count put
begins =
    record {
      of_its_thread = refl;
      goes_on = omega arith;
      step = (
        refl,
        record { by_primary = refl; is_in = refl; going = refl; waits = refl; has_offer = refl; change = refl },
      );
    }

writes : Answered lower (Step 0) (item (what.Wrote 0 1)) begun wrote
unfolding unfinished_count put
writes =
    record {
      of_its_thread = refl;
      goes_on = omega arith;
      step = (
        refl,
        record { by_primary = refl; writing = refl; refused = λ e. cc; taken = λ e. refl; change = refl },
      );
    }

answers : (k : ℕ) (e : Event) (i : Item) →
    slice_get events k ≡ Some e → slice_get items k ≡ Some i → Answered lower e i (states k) (states (k + 1))
answers zero e i of_event of_item = by_list _ _ _ _ enters e i of_event of_item
answers (suc zero) e i of_event of_item = by_list _ _ _ _ arrives e i of_event of_item
answers (suc (suc zero)) e i of_event of_item = by_list _ _ _ _ decides e i of_event of_item
answers (suc (suc (suc zero))) e i of_event of_item = by_list _ _ _ _ begins e i of_event of_item
answers (suc (suc (suc (suc zero)))) e i of_event of_item = by_list _ _ _ _ writes e i of_event of_item
answers (suc (suc (suc (suc (suc k))))) e i of_event of_item = cc

falls : (states 4).revision 0 ≤ (states 5).revision 0 → ⊥
unfolding put
falls lower_stays = absurd (omega (arith, lower_stays))

pub sound_is_needed : SoundIsNeeded
sound_is_needed all =
    falls (all lower events items states lower_padded
    record { opens = refl; no_more = omega arith; answers = answers; ends = inr refl } 4 0 (omega arith))
