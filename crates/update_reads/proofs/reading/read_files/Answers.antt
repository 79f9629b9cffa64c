use Rattle.std.proofs.Common.{◌≡◌, ◌<◌, ℕ, List, [], Some, sym, subst, length, take, refl, ap, ◌∙◌, arith, length-take-le}
use Rattle.std.proofs.lemmas.Option.{slice_get_read}
use Rattle.std.specs.Prelude.{slice_get}
use Rattle.uc_catalog.specs.Contents.{Contents}
use Rattle.update_reads.specs.Reading.{IsOfFiles}
use Rattle.update_reads.proofs.Files.{none_yet, files_count, one_more, stopped}
use Rattle.update_reads.proofs.reading.read_files.Goals as goal

pub names-init : goal.names-init
names-init g c =
    let tells = g.F.Pieces.tells c.args.files.now in
    let holds = g.F.Files.holds c.args.files.now in
    record {
      same = refl;
      still = λ tell. tell;
      place = refl;
      count = refl;
      keeps = refl;
      stands = subst (λ (contents : Contents). IsOfFiles tells [] holds contents) (sym c.requires.empty)
          (none_yet tells c.args.names.now holds c.args.catalog.keeps);
    }

pub names-preserved : goal.names-preserved
names-preserved g c =
    let answer = c.in-Ok.ensures.answer in
    let at : slice_get c.args.names.now c.names.name-index ≡ Some c.name-item.result =
    slice_get_read c.args.names.now (length c.args.names.now)
    c.names.name-index c.name-item.result refl (omega (arith, c.names-test.true)) c.name-item.is in
    record {
      same = c.in-Ok.ensures.leaves.same ∙ c.names.invariant.same;
      still = λ tell. c.in-Ok.ensures.leaves.still (c.names.invariant.still tell);
      place = omega (arith, c.names.invariant.place);
      count = answer.0 ∙ c.names.invariant.count;
      keeps = answer.1.3.keeps ∙ c.names.invariant.keeps;
      stands = one_more _ c.args.names.now _ _ _ answer.1.0 c.names.name-index c.name-item.result
          c.names.invariant.stands answer.1.3 answer.1.1
          (λ tell. answer.1.2 (c.names.invariant.still tell) ∙ ap (λ (holds : List ℕ →
          List ℕ). holds c.name-item.result) c.names.invariant.same)
          at;
    }

pub overflow_add-place : goal.overflow_add-place
overflow_add-place g c = omega (arith, c.names.invariant.place, c.names-test.true, c.requires.few)

pub returns-in-Err-clause-answer : goal.returns-in-Err-clause-answer
returns-in-Err-clause-answer g c =
    let inside : c.names.name-index < length c.args.names.now = omega (arith, c.names-test.true) in
    let at : slice_get c.args.names.now c.names.name-index ≡ Some c.name-item.result =
    slice_get_read c.args.names.now (length c.args.names.now)
    c.names.name-index c.name-item.result refl inside c.name-item.is in
    stopped _ c.args.names.now _ _ _ c.names.name-index c.name-item.result c.names.invariant.place inside
    c.names.invariant.stands at _ _ _ _ _ c.names.catalog c.read_update.new.catalog c.in-Err.answer _ c.in_place.ensures c.names.invariant.still
    (ap (λ (holds : List ℕ → List ℕ). holds c.name-item.result) c.names.invariant.same)
    c.names.invariant.count
    c.in-Err.ensures.answer

pub read_update-requires : goal.read_update-requires
read_update-requires g c =
    let read = take c.names.name-index c.args.names.now in
    omega (arith, c.requires.few, c.names-test.true, files_count _ read _ c.names.catalog c.names.invariant.stands, length-take-le c.names.name-index c.args.names.now (omega (arith, c.names-test.true)))
