-- What is taken begins where the first run that is long enough does, which is where the lowest run of free blocks does.
use Rattle.std.proofs.Common.{◌≡◌, ◌<◌, ◌≤◌, ◌≢◌, ℕ, ◌&&◌, not, List, Some, slice_index_or, refl, sym, ap, ◌∙◌, subst, arith}
use Rattle.std.specs.List.{remove, slice_set}
use Rattle.std.proofs.lemmas.List.{get_or_read}
use Rattle.patch_pool.specs.declared.runs.Run.{Run}
use Rattle.patch_pool.specs.Free.{IsTaken, is_within}
use Rattle.patch_pool.specs.Runs.{AreSpaced, IsFit, is_in, run_at, no_run, end_of}
use Rattle.patch_pool.proofs.Taking.{spaced_remove, in_remove, spaced_set, in_set, rest_of}
use Rattle.patch_pool.proofs.runs.Runs.take.Goals as goal

-- the run that was found
its_run : (runs : List Run) (blocks needed at : ℕ) (run : Run) → IsFit runs blocks needed at → run ≡ slice_index_or runs at run → run ≡ run_at runs at
its_run runs blocks needed at run is e = get_or_read runs at run is.within e no_run

fits_run : (runs : List Run) (blocks needed at : ℕ) (run : Run) → IsFit runs blocks needed at → run ≡ slice_index_or runs at run → (needed ≤ run.len) × (end_of run ≤ blocks)
fits_run runs blocks needed at run is e =
    subst (λ (r : Run). (needed ≤ r.len) × (end_of r ≤ blocks)) (sym (its_run runs blocks needed at run is e)) (is.enough, is.ends)

whole_taken : (runs : List Run) (blocks needed at : ℕ) (run : Run) → AreSpaced 0 blocks runs → IsFit runs blocks needed at → run ≡ slice_index_or runs at run → run.len ≡ needed
    → IsTaken (is_in runs) (is_in (remove runs at)) blocks needed (Some run.first)
whole_taken runs blocks needed at run spaced is e whole =
    subst (λ (r : Run). r.len ≡ needed → IsTaken (is_in runs) (is_in (remove runs at)) blocks needed (Some r.first)) (sym (its_run runs blocks needed at run is e))
    (λ whole'. (is.lowest, λ block. in_remove runs 0 blocks at block spaced is.within ∙ ap (λ (n : ℕ). is_in runs block && not (is_within (run_at runs at).first n block)) whole'))
    whole

front_taken : (runs : List Run) (blocks needed at : ℕ) (run : Run) → AreSpaced 0 blocks runs → IsFit runs blocks needed at → run ≡ slice_index_or runs at run → run.len ≢ needed
    → IsTaken (is_in runs) (is_in (slice_set runs at (rest_of run needed))) blocks needed (Some run.first) × AreSpaced 0 blocks (slice_set runs at (rest_of run needed))
front_taken runs blocks needed at run spaced is e part =
    subst (λ (r : Run). r.len ≢ needed → IsTaken (is_in runs) (is_in (slice_set runs at (rest_of r needed))) blocks needed (Some r.first) × AreSpaced 0 blocks (slice_set runs at (rest_of r needed))) (sym (its_run runs blocks needed at run is e))
    (λ part'.
    let less : needed < (run_at runs at).len = omega (arith, is.enough, part') in
    ((is.lowest, λ block. in_set runs 0 blocks at needed block spaced is.within less), spaced_set runs 0 blocks at needed spaced is.within less))
    part

pub overflow_add-run : goal.overflow_add-run
overflow_add-run c =
    let is = c.in-Some.ensures in
    omega (arith, fits_run _ _ _ _ _ is c.index-run.ensures, c.args.self.now.few)

pub overflow_sub-run : goal.overflow_sub-run
overflow_sub-run c =
    let is = c.in-Some.ensures in
    (fits_run _ _ _ _ _ is c.index-run.ensures).0

pub returns-in_default-clause-taken : goal.returns-in_default-clause-taken
returns-in_default-clause-taken c =
    (c.in_default.ensures, λ _. refl)

pub invariant_of-self : goal.invariant_of-self
invariant_of-self c =
    let is = c.in-Some.ensures in
    record {
      few = c.args.self.now.few;
      spaced = subst (λ (runs : List Run). AreSpaced 0 c.args.self.now.blocks runs) (sym c.remove.ensures.items) (spaced_remove c.args.self.now.runs.items 0 c.args.self.now.blocks c.in-Some.at c.args.self.now.spaced is.within);
      room = omega (arith, c.args.self.now.room, c.remove.ensures.capacity);
    }

pub invariant_of-self-else-run-needed : goal.invariant_of-self-else-run-needed
invariant_of-self-else-run-needed c =
    let is = c.in-Some.ensures in
    record {
      few = c.args.self.now.few;
      spaced = (front_taken _ _ _ _ _ c.args.self.now.spaced is c.index-run.ensures c.if-run-needed.false).1;
      room = c.args.self.now.room;
    }

pub returns-then-run-needed-clause-taken : goal.returns-then-run-needed-clause-taken
returns-then-run-needed-clause-taken c =
    let is = c.in-Some.ensures in
    rw c.remove.ensures.items (whole_taken _ _ _ _ _ c.args.self.now.spaced is c.index-run.ensures c.if-run-needed.true)

pub returns-else-run-needed-clause-taken : goal.returns-else-run-needed-clause-taken
returns-else-run-needed-clause-taken c =
    let is = c.in-Some.ensures in
    (front_taken _ _ _ _ _ c.args.self.now.spaced is c.index-run.ensures c.if-run-needed.false).0
