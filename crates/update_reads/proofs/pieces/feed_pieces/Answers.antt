use Rattle.std.proofs.Common.{◌≡◌, inl, inr, ℕ, ◌+◌, ◌<◌, List, [], ◌++◌, Option, subst, length, take, refl, sym, ◌∙◌, ap, arith, append_assoc, length-append, length-take-le}
use Rattle.uc_bytes.specs.declared.causes.FileFault.{FileFault}
use Rattle.uc_bytes.specs.declared.TheConstants.{FILE_LIMIT}
use Rattle.read_model.proofs.Accepted.{past_limit}
use Rattle.uc_catalog.specs.Contents.{Contents, with_coming}
use Rattle.uc_catalog.specs.declared.coming.Coming.{Coming}
use Rattle.uc_catalog.specs.Coming.{ComesBy}
use Rattle.update_reads.specs.Fed.{HasCome}
use Rattle.update_reads.proofs.Taken.{whole, settled_fault}
use Rattle.update_reads.proofs.pieces.feed_pieces.Goals as goal

-- the end was come to
pub returns-in-None-clause-answer : goal.returns-in-None-clause-answer
returns-in-None-clause-answer g c =
    let before = c.pieces.invariant in
    let taken = before.taken in
    let piece = c.in-Ok.ensures.piece in
    let none : c.in-Ok.taken ≡ 0 = omega (arith, c.if-taken-eq0.true) in (
      piece.0 ∙ before.count,
      (
        taken.bytes,
        omega (arith, taken.long, before.within),
        λ tell. whole (g.F.Pieces.left c.args.files.now) taken.bytes (g.F.Pieces.left c.pieces.files) (taken.split tell) (piece.3 (before.still tell) none),
        subst (λ (fault : Option FileFault). HasCome taken.bytes fault c.pieces.catalog) c.in-None.is taken.come,
      ),
    )

pub returns-in-Some-clause-answer : goal.returns-in-Some-clause-answer
returns-in-Some-clause-answer g c =
    let before = c.pieces.invariant in
    let taken = before.taken in
    let piece = c.in-Ok.ensures.piece in
    let fault = c.in-Some.fault in
    let none : c.in-Ok.taken ≡ 0 = omega (arith, c.if-taken-eq0.true) in (
      piece.0 ∙ before.count,
      (
        taken.bytes,
        λ tell. whole (g.F.Pieces.left c.args.files.now) taken.bytes (g.F.Pieces.left c.pieces.files) (taken.split tell) (piece.3 (before.still tell) none),
        inr (
          omega (arith, taken.long, before.within),
          settled_fault taken.bytes fault.offset fault.cause
              (subst (λ (f : Option FileFault). HasCome taken.bytes f c.pieces.catalog) c.in-Some.is taken.come),
        ),
      ),
    )

pub returns-then-came-gt-FILE_LIMIT-clause-answer : goal.returns-then-came-gt-FILE_LIMIT-clause-answer
returns-then-came-gt-FILE_LIMIT-clause-answer g c =
    let tells = g.F.Pieces.tells c.args.files.now in
    let before = c.pieces.invariant in
    let taken = before.taken in
    let n = c.in-Ok.taken in
    let piece = c.in-Ok.ensures.piece in
    let into = c.next.new.into in
    let left = g.F.Pieces.left c.pieces.files in
    let rest = g.F.Pieces.left c.next.new.self in
    let long : tells → FILE_LIMIT < length (g.F.Pieces.left c.args.files.now) =
    λ tell. omega (arith, c.if-came-gt-FILE_LIMIT.true, taken.long, ap (λ (l : List ℕ). length l) (taken.split tell), ap (λ (l : List ℕ). length l) (piece.2 (before.still tell)), length-append taken.bytes left, length-append (take n into) rest, length-take-le n into piece.1) in
    let past = past_limit FILE_LIMIT (g.F.Pieces.left c.args.files.now) tells long in
    (piece.0 ∙ before.count, (past.0, past.2, inl (past.1, refl, refl)))

-- nothing came yet
pub pieces-init : goal.pieces-init
pieces-init g c =
    record {
      within = omega arith;
      fed = rw c.requires (omega arith);
      kept = refl;
      same = refl;
      still = λ tell. tell;
      count = refl;
      taken = record {
        bytes = [];
        long = refl;
        split = λ tell. refl;
        come = subst (λ (coming : Option Coming). ComesBy c.args.catalog.now.keeps [] coming) (sym c.requires) refl;
      };
    }

pub pieces-preserved : goal.pieces-preserved
pieces-preserved g c =
    let before = c.pieces.invariant in
    let n = c.in-Ok.taken in
    let piece = c.in-Ok.ensures.piece in
    let into = c.next.new.into in
    let rest = g.F.Pieces.left c.next.new.self in
    let long = length-take-le n into piece.1 in
    record {
      within = omega (arith, c.if-came-gt-FILE_LIMIT.false);
      fed = omega (arith, c.in-Ok-feed_piece.ensures.fed, before.fed, long);
      kept = c.in-Ok-feed_piece.ensures.kept ∙ ap (λ (v : Contents). with_coming c.feed_piece.new.catalog.coming v) before.kept;
      same = g.met.F.Files.holds_stay c.pieces.files c.next.new.self c.in-Ok.ensures.source ∙ before.same;
      still = λ tell. c.in-Ok.ensures.still (before.still tell);
      count = piece.0 ∙ before.count;
      taken =
          let taken = before.taken in
          record {
            bytes = taken.bytes ++ take n into;
            long = omega (arith, length-append taken.bytes (take n into), taken.long, long);
            split = λ tell.
                taken.split tell ∙ ap (λ (l : List ℕ). taken.bytes ++ l) (piece.2 (before.still tell)) ∙ sym (append_assoc taken.bytes (take n into) rest);
            come = c.in-Ok-feed_piece.ensures.come taken.bytes taken.come;
          };
    }
