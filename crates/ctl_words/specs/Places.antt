-- The words of a plan, numbered for a table: with T threads and G groups Arrive, OffIn and Decide, then T words of each
-- of Mode, Ctrl and Nmi, and then G words of each of Rev and Res.
use Rattle.std.specs.Prelude.{ℕ, ◌+◌, ◌*◌, Bool, true, nat_lt}
use Rattle.rendezvous_steps.specs.declared.operations.Word.{Word}
use Rattle.rendezvous_steps.specs.declared.operations.Word.TheVariants.{Arrive, OffIn, Decide, Mode, Ctrl, Nmi, Rev}
use Rattle.rendezvous_steps.specs.declared.operations.Word.TheVariants.{Res}
use Rattle.rendezvous_steps.specs.Plan.{Plan}

-- w is one of the plan's words
abbrev pub is_word : Plan → Word → Bool
is_word plan Arrive = true
is_word plan OffIn = true
is_word plan Decide = true
is_word plan (Mode t) = nat_lt t plan.threads
is_word plan (Ctrl t) = nat_lt t plan.threads
is_word plan (Nmi t) = nat_lt t plan.threads
is_word plan (Rev g) = nat_lt g plan.groups
is_word plan (Res g) = nat_lt g plan.groups

abbrev pub place_of : Plan → Word → ℕ
place_of plan Arrive = 0
place_of plan OffIn = 1
place_of plan Decide = 2
place_of plan (Mode t) = 3 + t
place_of plan (Ctrl t) = 3 + plan.threads + t
place_of plan (Nmi t) = 3 + 2 * plan.threads + t
place_of plan (Rev g) = 3 + 3 * plan.threads + g
place_of plan (Res g) = 3 + 3 * plan.threads + plan.groups + g

abbrev pub word_count : Plan → ℕ
word_count plan = 3 + 3 * plan.threads + 2 * plan.groups
