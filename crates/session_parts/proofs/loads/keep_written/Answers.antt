use Rattle.std.proofs.Common.{◌≡◌, ℕ, Option, Some, None, ap, sym, ◌∙◌}
use Rattle.std.specs.Prelude.{slice_index}
use Rattle.machine_steps.specs.Hardware.{put}
use Rattle.early_load.specs.Caches.{cached_of, place_at}
use Rattle.ctl_words.specs.Plans.{plan_of}
use Rattle.session_parts.specs.Loads.{mixed, written_place, new_or_old}
use Rattle.session_parts.proofs.Tables.{mixed_more, mixed_same}
use Rattle.session_parts.proofs.loads.keep_written.Goals as goal

pub groups-preserved-in-None : goal.groups-preserved-in-None
groups-preserved-in-None c =
    let old = cached_of c.args.cache.now in
    let plan = plan_of c.args.plan.now in
    let new : ℕ → Option ℕ = λ g. new_or_old (written_place (plan.offer g) (slice_index c.args.revs.now g)
    (place_at c.args.places.now g)) (old g) in
    let g = c.groups.g in
    let none : None ≡ written_place (plan.offer g) (slice_index c.args.revs.now g) (place_at c.args.places.now g) =
    c.in-None.ensures ∙ ap (λ (offer : Option ℕ). written_place offer (slice_index c.args.revs.now g)
    (place_at c.args.places.now g)) c.offer_of.ensures in
    record {
      kept = c.groups.invariant.kept ∙ mixed_same new old g
          (ap (λ (place : Option ℕ). new_or_old place (old g)) (sym none));
      size = c.groups.invariant.size;
    }

pub groups-preserved : goal.groups-preserved
groups-preserved c =
    let old = cached_of c.args.cache.now in
    let plan = plan_of c.args.plan.now in
    let new : ℕ → Option ℕ = λ g. new_or_old (written_place (plan.offer g) (slice_index c.args.revs.now g)
    (place_at c.args.places.now g)) (old g) in
    let g = c.groups.g in
    let some : Some c.in-Some.id.0 ≡ written_place (plan.offer g) (slice_index c.args.revs.now g)
    (place_at c.args.places.now g) =
    c.in-Some.ensures ∙ ap (λ (offer : Option ℕ). written_place offer (slice_index c.args.revs.now g)
    (place_at c.args.places.now g)) c.offer_of.ensures in
    record {
      kept = c.keep.ensures.kept ∙ ap (λ (f : ℕ → Option ℕ). put f g (Some c.in-Some.id.0)) c.groups.invariant.kept
          ∙ ap (λ (place : Option ℕ). put (mixed new old g) g (new_or_old place (old g))) some ∙ mixed_more new old g;
      size = c.keep.ensures.size ∙ c.groups.invariant.size;
    }
