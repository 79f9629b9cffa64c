use Rattle.run_laws.proofs.ManyItems.{padded_is_needed, two_a_thread_are_few}
use Rattle.run_laws.proofs.needs.counts_need_their_bound.Goals as goal

pub returns : goal.returns
returns c = record { padded = padded_is_needed; few = two_a_thread_are_few }
