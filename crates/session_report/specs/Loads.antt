-- The lines of a load, from its plan and the lists that its rendezvous leaves.
use Rattle.std.specs.Prelude.{ℕ, Bool, ◌==◌, ◌&&◌, not, if◌then◌else◌, List, [], length, slice_index, slice_index_or}
use Rattle.std.specs.List.{list_any, range_with_len}
use Rattle.uc_topology.specs.Stated.{Machine, core_at, group_of}
use Rattle.rendezvous_steps.specs.declared.ends.End.{End}
use Rattle.rendezvous_steps.specs.Plan.{Plan, is_absent}
use Rattle.rendezvous_model.specs.Outcome.{Outcome}
use Rattle.session_text.specs.Lines.{core_line}

-- an outcome of which the ends alone are told
abbrev pub ended : List End → Outcome
ended ends = record { decide = 0; ends = ends; revs = [] }

-- a thread of the core takes part
unfoldable pub takes_part : Machine → Plan → ℕ → Bool
takes_part machine plan core =
    list_any (λ t. (slice_index machine.stated.threads t == core) && not (is_absent (plan.kind t)))
    (range_with_len 0 (length machine.stated.threads))

-- the line of a core of one that does, at the revision of its group; before is that of a group past the list's end
abbrev pub line_of_core : Machine → Plan → List ℕ → (ℕ → ℕ) → ℕ → List ℕ
line_of_core machine plan revs before core =
    let group = group_of (core_at machine.stated.cores core) in
    if takes_part machine plan core then core_line core (slice_index_or revs group (before group)) else []
