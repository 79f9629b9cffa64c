use Rattle.std.proofs.Common.{◌≡◌, ℕ, ap, ◌∙◌}
use Rattle.machine_steps.specs.Hardware.{Setting}
use Rattle.machine_steps.specs.Puts.{swept}
use Rattle.patch_pool.specs.Pool.{patches_of}
use Rattle.early_load.specs.Caches.{groups_of, cached_of}
use Rattle.ctl_words.specs.Plans.{plan_of}
use Rattle.session_steps.specs.State.{machine_of}
use Rattle.session_parts.specs.Parts.{setting_of, state_of}
use Rattle.session_parts.specs.Loads.{kept_by_plan}
use Rattle.session_parts.proofs.Finished.{finished}
use Rattle.session_parts.proofs.parts.Parts.finish_load.Goals as goal

pub returns-clause-kept : goal.returns-clause-kept
returns-clause-kept c = λ entries offers before outcome put is_plan is_revs.
    let old = c.args.self.now in
    let groups : groups_of old.cache ≡ (machine_of (setting_of old)).groups = old.groups
    ∙ ap (λ (s : Setting). s.groups) old.states in
    finished (setting_of old) entries offers before (state_of old) c.args.places.now put
    (plan_of c.args.plan.now) outcome c.args.revs.now _ is_plan is_revs c.requires.revs
    c.set_revisions.ensures.set
    (c.keep_written.ensures.kept ∙ ap (λ (n : ℕ). kept_by_plan
    (plan_of c.args.plan.now) c.args.places.now c.args.revs.now (cached_of old.cache) n) groups)
    (c.sweep.ensures.swept ∙ ap (λ (n : ℕ). swept n (cached_of c.keep_written.new.cache) (patches_of old.pool))
    (c.keep_written.ensures.size ∙ groups))
