-- There is room for one more run, and the new one is joined at its place.
use Rattle.std.proofs.Common.{◌≡◌, ℕ, not, nat_lt, List, Result, Ok, is_ok, cond, sym, ap, ◌∙◌, subst, arith}
use Rattle.std.specs.List.{insert}
use Rattle.std.specs.declared.alloc.AllocFailed.{AllocFailed}
use Rattle.std.proofs.lemmas.List.Sums.{prefix_len-le-length}
use Rattle.patch_pool.specs.declared.runs.Run.{Run}
use Rattle.patch_pool.specs.Runs.{AllEnd, AreSpaced, is_in, settle}
use Rattle.patch_pool.proofs.Spaced.{few_runs, spaced_to}
use Rattle.patch_pool.proofs.Joining.{ends_insert}
use Rattle.patch_pool.proofs.Giving.{in_given, spaced_given}
use Rattle.patch_pool.proofs.runs.Runs.give_back.Goals as goal

abbrev run_of : ℕ → ℕ → Run
run_of first len = record { first = first; len = len }

pub insert-requires : goal.insert-requires
insert-requires c =
    omega (arith, c.place-at.ensures, prefix_len-le-length (λ (run : Run). not (nat_lt c.args.first run.first)) c.args.self.now.runs.items, c.args.self.now.runs.ok.0)

pub unwrap-requires : goal.unwrap-requires
unwrap-requires c =
    let few = few_runs c.args.self.now.runs.items 0 c.args.self.now.blocks c.args.self.now.spaced (omega arith) in
    c.insert.ensures.succeeds (omega (arith, few, c.args.self.now.runs.ok.0, c.args.self.now.room))

-- the list after an insert that was done
when_ok : (answer : Result (Unit {0}) (AllocFailed Run)) (done : Unit {0}) (runs with_it without : List Run) → answer ≡ Ok done → runs ≡ cond (is_ok answer) with_it without → runs ≡ with_it
when_ok answer done runs with_it without ok e = rw ok at e

pub settle-requires-clause-few : goal.settle-requires-clause-few
settle-requires-clause-few c =
    let runs = c.args.self.now.runs.items in
    let items = when_ok _ _ _ (insert runs c.place-at.result (run_of c.args.first c.args.len)) runs c.unwrap.ensures c.insert.ensures.items in
    subst (AllEnd 65536) (sym items) (ends_insert runs 0 65536 c.place-at.result (run_of c.args.first c.args.len) (spaced_to runs 0 c.args.self.now.blocks 65536 c.args.self.now.spaced c.args.self.now.few) (omega (arith, c.requires.inside, c.args.self.now.few)))

pub invariant_of-self : goal.invariant_of-self
invariant_of-self c =
    let runs = c.args.self.now.runs.items in
    let run = run_of c.args.first c.args.len in
    let items = when_ok _ _ _ (insert runs c.place-at.result run) runs c.unwrap.ensures c.insert.ensures.items in
    let settled : c.settle.new.runs.items ≡ settle (insert runs c.place-at.result run) c.place-at.result = c.settle.ensures.settled ∙ ap (λ (list : List Run). settle list c.place-at.result) items in
    record {
      few = c.args.self.now.few;
      spaced = subst (AreSpaced 0 c.args.self.now.blocks) (sym settled) (spaced_given runs 0 c.args.self.now.blocks c.place-at.result run c.args.self.now.spaced (omega arith, (c.requires.some, c.requires.inside)) (record { none = c.requires.taken }) (sym c.place-at.ensures));
      room = omega (arith, c.args.self.now.room, c.settle.ensures.capacity, c.insert.ensures.capacity);
    }

pub returns-clause-free : goal.returns-clause-free
returns-clause-free c =
    let runs = c.args.self.now.runs.items in
    let run = run_of c.args.first c.args.len in
    let items = when_ok _ _ _ (insert runs c.place-at.result run) runs c.unwrap.ensures c.insert.ensures.items in
    λ block. ap (λ (list : List Run). is_in list block) (c.settle.ensures.settled ∙ ap (λ (list : List Run). settle list c.place-at.result) items) ∙ in_given runs c.place-at.result run block
