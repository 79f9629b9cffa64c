-- The words of a bay that is closed, and what they are read into.
use Rattle.std.specs.Prelude.{◌≡◌, ℕ, List, map}
use Rattle.std.specs.List.{range_with_len}
use Rattle.std.specs.Mem.Slots.{slots_items}
use Rattle.rendezvous_steps.specs.declared.operations.Word.{Word}
use Rattle.rendezvous_steps.specs.declared.operations.Word.TheVariants.{Decide, Rev}
use Rattle.rendezvous_steps.specs.declared.ends.End.{End}
use Rattle.rendezvous_steps.specs.Plan.{Plan, threads_from}
use Rattle.ctl_words.specs.Plans.{plan_of}
use Rattle.uc_rendezvous.specs.Ends.{end_in}
use Rattle.ctl_table.specs.declared.exact_outcomes.ExactOutcome.{ExactOutcome}
use Rattle.ctl_table.specs.declared.last.Last.{Last}
use Rattle.ctl_table.specs.Words.{words_of}

abbrev pub plan_at : Last → Plan
plan_at last = plan_of last.plan.now

abbrev pub words_at : Last → Word → ℕ
words_at last = words_of (plan_of last.plan.now) (slots_items last.words.now.words)

-- how each thread came out, and each group's revision
abbrev pub ends_read : Plan → (Word → ℕ) → List End
ends_read plan words = map (end_in plan words) (threads_from plan 0)

abbrev pub revisions_read : Plan → (Word → ℕ) → List ℕ
revisions_read plan words = map (λ g. words (Rev g)) (range_with_len 0 plan.groups)

-- the outcome is what these words hold of the decision, of each thread and of each group
pub record OutcomeReads (plan : Plan) (words : Word → ℕ) (outcome : ExactOutcome) : Type 0 where
  pub decide : outcome.decide ≡ words Decide
  pub ends : outcome.ends.entries.items ≡ ends_read plan words
  pub revs : outcome.revs.entries.items ≡ revisions_read plan words
