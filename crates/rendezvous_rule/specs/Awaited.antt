-- How many threads have not arrived, by the threads' own states. Thread 0 is left out: its phase does not tell whether
-- it gave up before it arrived.
use Rattle.std.specs.Prelude.{ℕ, ◌&&◌, not, count_by}
use Rattle.rendezvous_steps.specs.declared.steps.Local.{Local}
use Rattle.rendezvous_steps.specs.Plan.{Plan, is_online, threads_from}
use Rattle.rendezvous_rule.specs.Facets.{past_arriving}

-- the Online threads other than 0 that have not counted themselves in
unfoldable pub awaited : Plan → (ℕ → Local) → ℕ
awaited plan locals =
    count_by (λ u. is_online (plan.kind u) && not (past_arriving (locals u).phase)) (threads_from plan 1)
