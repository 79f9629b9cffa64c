-- What holds of the table between any two operations: the words and the threads' states meet the rule of the
-- rendezvous, and each post's place says where its thread stands. Views are numbered in the order in which posts were
-- given, so a thread's view has the thread's number.
use Rattle.std.specs.Prelude.{◌≡◌, ℕ, ◌+◌, ◌≤◌, true, length}
use mathlib.Core.Option.{some}
use lib.ListN.{get_elem?}
use Rattle.std.specs.Prelude.{List, IsTrue}
use Rattle.atomic_table.specs.Table.{State}
use Rattle.rendezvous_steps.specs.declared.steps.Phase.TheVariants.{Halted}
use Rattle.rendezvous_steps.specs.declared.steps.Local.{Local}
use Rattle.rendezvous_steps.specs.declared.operations.Word.TheVariants.{Decide}
use Rattle.rendezvous_steps.specs.Words.{families}
use Rattle.rendezvous_steps.specs.StepTable.{opening, is_last}
use Rattle.rendezvous_rule.specs.Rule.{Rule}
use Rattle.ctl_words.specs.declared.plans.Plan.{Plan as Tables}
use Rattle.ctl_words.specs.Plans.{plan_of}
use Rattle.ctl_words.specs.Places.{word_count}
use Rattle.ctl_table.specs.declared.standings.Standing.{Standing}
use Rattle.ctl_table.specs.declared.standings.View.{View}
use Rattle.ctl_table.specs.declared.standings.View.TheVariants.{Spent, Sits}
use Rattle.ctl_table.specs.Words.{words_of}
use Rattle.ctl_table.specs.Standings.{spent_count}

abbrev pub Desk : Type 0
Desk = State (Unit {0}) View

-- the place of view number id, which is not spent
pub record SeatOk (plan : Tables) (views : List View) (locals : ℕ → Local) (id : ℕ) (v : Standing) : Type 0 where
  pub its_plan : v.plan ≡ plan
  pub its_number : v.thread ≡ id
  pub its_local : v.local ≡ locals id
  -- thread 0's counts the posts that were given, and those that were joined
  pub of_zero : id ≡ 0 → (length views ≡ v.given + 1) × (spent_count views ≡ v.joined)

-- a post that is late was not joined, or was joined by one that is late since
pub record HasLate (views : List View) : Type 0 where
  pub id : ℕ
  pub standing : Standing
  pub sits : get_elem? views id ≡ some (Sits standing)
  pub is_late : standing.late ≡ true

pub record Holds (plan : Tables) (s : Desk) : Type 0 where
  pub locals : ℕ → Local
  pub ruled : Rule (plan_of plan) (families (words_of (plan_of plan) s.words)) locals
  pub width : length s.words ≡ word_count (plan_of plan)
  pub few : length s.views ≤ plan.threads
  pub seats : (id : ℕ) (v : Standing) → get_elem? s.views id ≡ some (Sits v) → SeatOk plan s.views locals id v
  -- a thread without a post has not begun, and one whose post was joined has ended
  pub not_given : (u : ℕ) → length s.views ≤ u → locals u ≡ opening (plan_of plan) u
  pub joined : (u : ℕ) → get_elem? s.views u ≡ some Spent → IsTrue (is_last (locals u).phase)
  -- only late posts drop and halt
  pub drop_is_late : 2 ≤ words_of (plan_of plan) s.words Decide → HasLate s.views
  pub halt_is_late : (u : ℕ) → (locals u).phase ≡ Halted → HasLate s.views
