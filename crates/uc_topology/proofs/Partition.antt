-- What a text states is a partition: its cores are one of the threads, and its groups one of the cores.
use Rattle.std.proofs.Common.{◌≡◌, ℕ, ◌<◌, ◌≤◌, Bool, true, false, not, ◌&&◌, nat_le, nat_lt, ◌==◌, if◌then◌else◌, List, [], ◌∷◌, ◌++◌, length, Option, Some, None, Result, Ok, Err, inl, inr, refl, sym, ◌∙◌, ap, subst, arith}
use Rattle.std.specs.Prelude.{IfOk, codes, slice_index}
use Rattle.uc_text.specs.Lines.{words_of}
use Rattle.std.proofs.lemmas.Bool.{cases_lt, leb-false, not-false, eqb-true}
use Rattle.std.proofs.lemmas.List.{length_push, map_push}
use Rattle.std.proofs.lemmas.List.Elements.{All-push}
use Rattle.std.proofs.lemmas.Result.{IfOk-at_ok}
use Rattle.uc_topology.specs.declared.fault.TopoCause.{TopoCause}
use Rattle.uc_topology.specs.declared.fault.TopoCause.TheVariants.{Order, NoCore, TooMany, Disagree, Word}
use Rattle.uc_topology.specs.declared.forms.Version.{Version}
use Rattle.uc_topology.specs.declared.tables.Core.{Core}
use Rattle.uc_topology.specs.Stated.{Stated, Machine, AreTables, IsPartition, group_of, core_at, group_count, group_facts}
use Rattle.uc_topology.specs.Grammar.{line_has, core_form, core_from, thread_from, after_line, next_core, next_thread, same_facts, stated_group, stated_facts, nothing}
use Rattle.uc_topology.specs.Forms.{numbers_of}
use Rattle.uc_topology.specs.Texts.{InTurn, LinesState, States}
use Rattle.uc_topology.proofs.Kept.{groups_from, partition_from, AreTables-old_group, AreTables-new_group, AreTables-none}

-- what is stated so far has its tables
record HasTables (stated : Stated) : Type 0 where
  groups : List ℕ
  firsts : List ℕ
  are : AreTables stated.cores stated.threads groups firsts

-- what checks let through
past_four : (many order unknown differs : Bool) (next : Stated) → (many ≡ false → order ≡ false → unknown ≡ false → differs ≡ false → HasTables next)
    → IfOk (if many then Err TooMany else if order then Err Order else if unknown then Err Order else if differs then Err Disagree else Ok next) HasTables
past_four true order unknown differs next has = tt
past_four false true unknown differs next has = tt
past_four false false true differs next has = tt
past_four false false false true next has = tt
past_four false false false false next has = has refl refl refl refl

past_three : (many order unknown : Bool) (next : Stated) → (many ≡ false → order ≡ false → unknown ≡ false → HasTables next)
    → IfOk (if many then Err TooMany else if order then Err Order else if unknown then Err NoCore else Ok next) HasTables
past_three true order unknown next has = tt
past_three false true unknown next has = tt
past_three false false true next has = tt
past_three false false false next has = has refl refl refl

either : (one : Bool) (first second : Result Stated TopoCause) → IfOk first HasTables → IfOk second HasTables → IfOk (if one then first else second) HasTables
either true first second has other = has
either false first second has other = other

-- a core of a group that stands agrees with it
agrees_with : (stands same : Bool) → stands ≡ true → (stands && not same) ≡ false → same ≡ true
agrees_with true true stands passes = refl
agrees_with true false stands passes = absurd cc
agrees_with false same stands passes = absurd cc

one_core : (before : Stated) (number : ℕ) (core : Core) → HasTables before → length before.cores < 256 → number ≡ length before.cores → core.group ≤ group_count before.cores
    → (nat_lt core.group (group_count before.cores) && not (same_facts core.facts (group_facts before.cores core.group))) ≡ false → HasTables (record { cores = before.cores ++ core ∷ []; threads = before.threads })
one_core before number core has room next known passes =
    let are = has.are in
    elim (cases_lt core.group (group_count before.cores)) [
      | inl old ↦
          record {
            groups = has.groups;
            firsts = has.firsts;
            are = AreTables-old_group before.cores before.threads has.groups has.firsts core are room (omega (arith, are.count, old))
                (agrees_with (nat_lt core.group (group_count before.cores)) (same_facts core.facts (group_facts before.cores core.group)) (grind (arith, old)) passes);
          }
      | inr new ↦
          record {
            groups = has.groups;
            firsts = has.firsts ++ number ∷ [];
            are = AreTables-new_group before.cores before.threads has.groups has.firsts core number are room (omega (arith, are.count, known, new)) next;
          }
    ]

one_thread : (before : Stated) (core : ℕ) → HasTables before → length before.threads < 256 → core < length before.cores → HasTables (record { cores = before.cores; threads = before.threads ++ core ∷ [] })
one_thread before core has room known =
    let are = has.are in
    let group : ℕ → ℕ = λ k. group_of (core_at before.cores k) in
    record {
      groups = has.groups ++ group core ∷ [];
      firsts = has.firsts;
      are = record {
        cores_fit = are.cores_fit;
        threads_fit = omega (arith, length_push before.threads core, room);
        groups = ap (λ (groups : List ℕ). groups ++ group core ∷ []) are.groups ∙ sym (map_push group before.threads core);
        on_cores = All-push (λ k. k < length before.cores) before.threads core are.on_cores known;
        fewer = are.fewer;
        count = are.count;
        different = are.different;
        in_groups = are.in_groups;
        first = are.first;
        first_in = are.first_in;
        agree = are.agree;
      };
    }

next_core_kept : (before : Stated) (number : ℕ) (core : Core) → HasTables before → IfOk (next_core before number core) HasTables
next_core_kept before number core has =
    past_four (nat_le 256 (length before.cores)) (not (number == length before.cores)) (nat_lt (group_count before.cores) core.group)
    (nat_lt core.group (group_count before.cores) && not (same_facts core.facts (group_facts before.cores core.group)))
    (record { cores = before.cores ++ core ∷ []; threads = before.threads })
    (λ few next known agrees.
    one_core before number core has (leb-false 256 (length before.cores) few) (eqb-true number (length before.cores) (not-false (number == length before.cores) next)) (grind (arith, known)) agrees)

next_thread_kept : (before : Stated) (number core : ℕ) → HasTables before → IfOk (next_thread before number core) HasTables
next_thread_kept before number core has =
    past_three (nat_le 256 (length before.threads)) (not (number == length before.threads)) (nat_le (length before.cores) core)
    (record { cores = before.cores; threads = before.threads ++ core ∷ [] })
    (λ few next known. one_thread before core has (leb-false 256 (length before.threads) few) (leb-false (length before.cores) core known))

core_kept : (version : Version) (before : Stated) (numbers : Option (List ℕ)) → HasTables before → IfOk (core_from version before numbers) HasTables
core_kept version before None has = tt
core_kept version before (Some numbers) has =
    next_core_kept before (slice_index numbers 0) (record { group = stated_group version numbers; facts = stated_facts version numbers }) has

thread_kept : (before : Stated) (numbers : Option (List ℕ)) → HasTables before → IfOk (thread_from before numbers) HasTables
thread_kept before None has = tt
thread_kept before (Some numbers) has = next_thread_kept before (slice_index numbers 0) (slice_index numbers 1) has

line_kept : (version : Version) (before : Stated) (line : List ℕ) → HasTables before → IfOk (after_line version before line) HasTables
unfolding after_line
line_kept version before line has =
    let core = numbers_of (words_of (core_form version)) (words_of line) in
    let thread = numbers_of (words_of (codes "cpu T core C")) (words_of line) in
    let other : Result Stated TopoCause = Err Word in
    either (line_has (core_form version) line) (core_from version before core) (if line_has (codes "cpu T core C") line then thread_from before thread else other) (core_kept version before core has)
    (either (line_has (codes "cpu T core C") line) (thread_from before thread) other (thread_kept before thread has) tt)

lines_kept : (version : Version) (before after : Stated) (lines : List (ℕ × List ℕ)) → HasTables before → InTurn version before lines after → HasTables after
lines_kept version before after [] has turn = subst HasTables turn has
lines_kept version before after (line ∷ lines) has turn =
    lines_kept version turn.0 after lines (IfOk-at_ok HasTables turn.1 (line_kept version before line.1 has)) turn.2

of_lines : (lines : List (ℕ × List ℕ)) (machine : Machine) → LinesState lines machine → IsPartition machine.stated
of_lines [] machine state = absurd state
of_lines (head ∷ []) machine state = absurd state
of_lines (head ∷ second ∷ body) machine state =
    let has = lines_kept state.0 nothing machine.stated body (record { groups = []; firsts = []; are = AreTables-none }) state.3 in
    partition_from machine.stated (groups_from machine.stated.cores machine.stated.threads has.groups has.firsts has.are) state.4

pub partition : (text : List ℕ) (machine : Machine) → States text machine → IsPartition machine.stated
partition text machine states = of_lines _ machine states.lines
