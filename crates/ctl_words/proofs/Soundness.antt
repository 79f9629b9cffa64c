-- What a sound plan is, put together from what is tested of it.
use Rattle.std.proofs.Common.{◌≡◌}
use Rattle.rendezvous_steps.specs.declared.steps.Kind.TheVariants.{Online}
use Rattle.ctl_words.specs.declared.plans.Plan.{Plan as Tables}
use Rattle.ctl_words.specs.Plans.{plan_of, TablesFit, ThreadsFit, GroupsFit, IsSound}

pub IsSound-from_parts : (p : Tables) → TablesFit p → (plan_of p).kind 0 ≡ Online → ThreadsFit (plan_of p) → GroupsFit (plan_of p) → IsSound p
IsSound-from_parts p tables first threads groups =
    record {
      tables = tables;
      sound = record {
        some_thread = tables.some_thread;
        few_threads = tables.few_threads;
        groups_in_range = λ t below. (threads t below).group_in_range;
        primaries_in_range = λ g below. (groups g below).primary_in_range;
        primary_is_one_of_its_group = λ g below. (groups g below).primary_is_one;
        primary_is_the_lowest = λ t below. (threads t below).primary_is_no_later;
        thread_0_is_online = first;
        present_primary = λ t below. (threads t below).present_primary;
        offer_to_present = λ g o below. (groups g below).offer.to_present o;
        offer_is_greater = λ g o below. (groups g below).offer.is_greater o;
      };
    }

pub ThreadsFit-of_sound : (p : Tables) → IsSound p → ThreadsFit (plan_of p)
ThreadsFit-of_sound p h t below =
    record {
      group_in_range = h.sound.groups_in_range t below;
      primary_is_no_later = h.sound.primary_is_the_lowest t below;
      present_primary = h.sound.present_primary t below;
    }

pub GroupsFit-of_sound : (p : Tables) → IsSound p → GroupsFit (plan_of p)
GroupsFit-of_sound p h g below =
    record {
      primary_in_range = h.sound.primaries_in_range g below;
      primary_is_one = h.sound.primary_is_one_of_its_group g below;
      offer = record { to_present = λ o. h.sound.offer_to_present g o below; is_greater = λ o. h.sound.offer_is_greater g o below };
    }
