use Rattle.std.proofs.Common.{◌≡◌, ◌≤◌, ◌+◌, ◌%◌, ℕ, List, [], ◌++◌, length, Result, Ok, Err, OnOk, OnErr, refl, sym, ap, ◌∙◌, arith, append_assoc, append-nil, length-append}
use Rattle.std.specs.Result.{IsOk}
use Rattle.arrayvec.specs.ArrayVec.{array_vec_len}
use Rattle.std.proofs.KnownBytes.{Appends-nil, Appends-trans}
use Rattle.std.proofs.lemmas.Grind.{common_steps}
use Rattle.uc_io.proofs.gathering.gather.Goals as goal

-- behind what was held a front more is held, and some of all this is handed on
moved_more : (first before done held front more new : List ℕ) → first ++ before ≡ done ++ held → held ++ front ≡ more ++ new → first ++ (before ++ front) ≡ (done ++ more) ++ new
moved_more first before done held front more new split moved =
    sym (append_assoc first before front)
    ∙ ap (λ text. text ++ front) split
    ∙ append_assoc done held front
    ∙ ap (λ text. done ++ text) moved
    ∙ sym (append_assoc done more new)

front_more : (piece before rest front behind : List ℕ) → piece ≡ before ++ rest → rest ≡ front ++ behind → piece ≡ (before ++ front) ++ behind
front_more piece before rest front behind is cut = is ∙ ap (λ text. before ++ text) cut ∙ sym (append_assoc before front behind)

blocks_more : (done more : List ℕ) → length done % 65536 ≡ 0 → length more ≡ 65536 → length (done ++ more) % 65536 ≡ 0
blocks_more done more whole one = omega (arith, length-append done more)

-- what a call that went well ensures
held_more : {E : Type 0} (r : Result (Unit {0}) E) (P : Type 0) → IsOk r → OnOk r P → P
held_more (Ok done) P ok holds = holds
held_more (Err e) P ok holds = cc

on_err : {E : Type 0} (r : Result (Unit {0}) E) (P : Type 0) → P → OnErr r P
on_err (Ok done) P holds = tt
on_err (Err e) P holds = holds

pub loop-rest-init : goal.loop-rest-init
loop-rest-init g c = ([], [], refl, append-nil c.args.held.now.items, refl, Appends-nil (g.W.Write.contents c.args.to.now))

pub returns-in_err-hand_on-clause-err : goal.returns-in_err-hand_on-clause-err
returns-in_err-hand_on-clause-err g c =
    let (before, done, is, split, blocks, appended) = c.loop-rest.invariant in
    let (more, moved, wrote) = c.in_err-hand_on.ensures.moved in
    let front : List ℕ = c.split_at.result.0.now in
    let behind : List ℕ = c.split_at.result.1.now in
    let fits : array_vec_len c.loop-rest.held + length front ≤ 65536 = omega (arith, c.split_at.ensures.front_len, c.len-in-loop-rest.ensures.value, c.len-in-loop-rest.ensures.fits) in
    let taken = held_more _ _ (c.try_extend_from_slice.ensures.variant.1 fits) c.try_extend_from_slice.ensures.ok in
    let cut : c.loop-rest.rest.now ≡ front ++ behind = grind (arith, common_steps) in
    on_err c.from_residual.result _
    (record {
      front = before ++ front;
      rest = behind;
      done = done ++ more;
      is_front = front_more c.args.piece.now before c.loop-rest.rest.now front behind is cut;
      split = moved_more c.args.held.now.items before done c.loop-rest.held.items front more _ split (sym taken ∙ moved);
      appended = Appends-trans _ _ _ _ _ appended wrote;
    })

pub loop-rest-preserved : goal.loop-rest-preserved
loop-rest-preserved g c =
    let (before, done, is, split, blocks, appended) = c.loop-rest.invariant in
    let (more, moved, wrote) = c.in_ok-hand_on.ensures.moved in
    let front : List ℕ = c.split_at.result.0.now in
    let behind : List ℕ = c.split_at.result.1.now in
    let fits : array_vec_len c.loop-rest.held + length front ≤ 65536 = omega (arith, c.split_at.ensures.front_len, c.len-in-loop-rest.ensures.value, c.len-in-loop-rest.ensures.fits) in
    let taken = held_more _ _ (c.try_extend_from_slice.ensures.variant.1 fits) c.try_extend_from_slice.ensures.ok in
    let counted = held_more _ _ (c.try_extend_from_slice.ensures.variant.1 fits) c.try_extend_from_slice.ensures.len in
    let none : c.hand_on.new.held.items ≡ [] = c.in_ok-hand_on.ensures.all.0 refl in
    let whole : c.try_extend_from_slice.new.self.items ≡ more = moved ∙ ap (λ left. more ++ left) none ∙ append-nil more in
    let cut : c.loop-rest.rest.now ≡ front ++ behind = grind (arith, common_steps) in (
      before ++ front,
      done ++ more,
      front_more c.args.piece.now before c.loop-rest.rest.now front behind is cut,
      moved_more c.args.held.now.items before done c.loop-rest.held.items front more _ split (sym taken ∙ moved),
      blocks_more done more blocks (omega (arith, ap (λ (l : List ℕ). length l) whole, counted, c.split_at.ensures.front_len, c.len-in-loop-rest.ensures.value, c.len-in-loop-rest.ensures.fits)),
      Appends-trans _ _ _ _ _ appended wrote,
    )
