-- A piece that was taken, and what is held handed on behind it.
use Rattle.std.proofs.Common.{ℕ, List, [], ◌++◌, Result, Ok, Err, sym, ◌∙◌, ap, subst, arith, append_assoc}
use Rattle.std.proofs.lemmas.List.{append-nil}
use Rattle.uc_io.specs.Faults.{Rose}
use Rattle.uc_io.specs.Writing.{Writes}
use Rattle.uc_io.specs.declared.sinks.SinkFailed.{SinkFailed}

module _ {D : Type 0} (stands : D → List ℕ → Type 0) (faults : D → ℕ) (old mid new : D) (piece : List ℕ) where
  pub handed_through : (done : Unit {0}) (wrote : Result (Unit {0}) SinkFailed) →
      Writes {E = SinkFailed} stands faults old mid piece (Ok done) → Writes stands faults mid new [] wrote →
      Writes stands faults old new piece wrote
  handed_through done (Ok also) first second = record {
    later = omega (arith, first.later, second.later);
    still = second.still ∙ first.still;
    outcome = record {
      each = λ taken before.
          subst (stands new) (append-nil (taken ++ piece)) (second.outcome.each (taken ++ piece) (first.outcome.each taken before));
    };
  }
  handed_through done (Err failed) first second =
      let front : List ℕ = second.outcome.0.front in
      let rest : List ℕ = second.outcome.0.rest in
      record {
        later = omega (arith, first.later, second.later);
        still = tt;
        outcome = (
          record {
            front = piece ++ front;
            rest = rest;
            split = sym (append-nil piece)
                ∙ (ap (λ (x : List ℕ). piece ++ x) second.outcome.0.split ∙ sym (append_assoc piece front rest));
            grew = record {
              each = λ taken before.
                  subst (stands new) (append_assoc taken piece front)
                  (second.outcome.0.grew.each (taken ++ piece) (first.outcome.each taken before));
            };
          },
          subst (λ (n : ℕ). Rose n (faults new)) first.still second.outcome.1,
        );
      }
