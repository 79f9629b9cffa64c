-- From a group's begin until its report no thread of it runs ordinary code, told by the items alone.
use Rattle.std.specs.Prelude.{◌≡◌, ◌≢◌, ℕ, Bool, true, false, ◌==◌, if◌then◌else◌, List, Some, slice_get, take, fold}
use Rattle.rendezvous_steps.specs.declared.steps.Kind.TheVariants.{Absent}
use Rattle.rendezvous_steps.specs.declared.items.What.{What}
use Rattle.rendezvous_steps.specs.declared.items.What.TheVariants as what
use Rattle.rendezvous_steps.specs.declared.items.Item.{Item}
use Rattle.rendezvous_steps.specs.Plan.{Plan}

-- A thread is inside from its Enter until its Leave. One that halts stays inside.

abbrev pub inside_after : Bool → What → Bool
inside_after inside what.Enter = true
inside_after inside (what.Leave result) = false
inside_after inside item = inside

abbrev pub has_entered : ℕ → List Item → Bool
has_entered t items =
    fold (λ inside item. if item.thread == t then inside_after inside item.what else inside) false items

-- A group is in its write from its Begin until its Report.

abbrev pub write_after : ℕ → Bool → What → Bool
write_after g in_write (what.Begin h) = if h == g then true else in_write
write_after g in_write (what.Report h result) = if h == g then false else in_write
write_after g in_write item = in_write

abbrev pub is_being_written : ℕ → List Item → Bool
is_being_written g items = fold (λ in_write item. write_after g in_write item.what) false items

-- An item that may come after these: at a begin each thread of the group that takes part is inside, and no thread runs
-- ordinary code while its group is in its write.
abbrev pub MayCome : Plan → List Item → ℕ → What → Type 0
MayCome plan earlier t (what.Begin g) =
    (u : ℕ) → plan.group u ≡ g → plan.kind u ≢ Absent → has_entered u earlier ≡ true
MayCome plan earlier t what.Ordinary = is_being_written (plan.group t) earlier ≡ false
MayCome plan earlier t item = Unit {0}

abbrev pub Excluded : Plan → List Item → Type 0
Excluded plan items =
    (k : ℕ) (item : Item) → slice_get items k ≡ Some item → MayCome plan (take k items) item.thread item.what
