-- Each event lowers the rank of its thread by what its item counts.
use Rattle.std.proofs.Common.{◌≡◌, ℕ, ◌||◌, Bool, true, false, if◌then◌else◌, Option, Some, None, refl, ap, arith}
use Rattle.rendezvous_steps.specs.declared.steps.Kind.{Kind}
use Rattle.rendezvous_steps.specs.declared.steps.Kind.TheVariants.{Online, Offline, Absent}
use Rattle.rendezvous_steps.specs.declared.steps.How.{How}
use Rattle.rendezvous_steps.specs.declared.steps.How.TheVariants as how
use Rattle.rendezvous_steps.specs.declared.operations.Op.{Op}
use Rattle.rendezvous_steps.specs.declared.items.What.{What}
use Rattle.rendezvous_steps.specs.declared.items.What.TheVariants as what
use Rattle.rendezvous_steps.specs.declared.items.Event.TheVariants as event
use Rattle.rendezvous_steps.specs.Plan.{Plan}
use Rattle.rendezvous_steps.specs.Words.{touched}
use Rattle.rendezvous_steps.specs.StepTable.{operation, after}
use Rattle.rendezvous_steps.specs.Events.{Running, put, happens, steps, performs, runs, runs_by, nmi_comes, nmi_by, nmi_offline, runs_ordinary, latches, idles, left_with_latch, is_outside, shows_held, shows_halted, shows_left, shows_withdrawn}
use Rattle.play_steps.specs.Rank.{weight, rank}
use Rattle.run_laws.specs.Counted.{Falls, RanksFall}
use Rattle.run_laws.proofs.Falls.{after_fits}
use Rattle.run_laws.proofs.Tables.{put_same, put_other}

module _ (all : Bool) (plan : Plan) (t : ℕ) (m : Running) where
  abbrev Fall : Running × What → Type 0
  Fall after = Falls all plan t m after

  both : (b : Bool) (x y : Running × What) → Fall x → Fall y → Fall (if b then x else y)
  both true x y first second = first
  both false x y first second = second

  nothing : (b : Bool) → weight b what.Idle ≡ 0
  nothing true = refl
  nothing false = refl

  ordinary : (b : Bool) → weight b what.Ordinary ≡ 0
  ordinary true = refl
  ordinary false = refl

  latched : (b : Bool) → weight b what.Latched ≡ 0
  latched true = refl
  latched false = refl

  idle_falls : Fall (idles m)
  idle_falls = record { own = let zero = nothing all in omega arith; others = λ u other. refl }

  ordinary_falls : Fall (runs_ordinary t m)
  ordinary_falls = record { own = let zero = ordinary all in omega arith; others = λ u other. refl }

  latch_falls : Fall (latches t m)
  latch_falls = record { own = let zero = latched all in omega arith; others = λ u other. refl }

  performs_falls : (h : How) (op : Option Op) → Fall (performs plan t h m op)
  performs_falls h (Some op) =
      let next = after plan t (m.locals t) h (m.words (touched op)) in
      let fits = after_fits all plan t (m.locals t) h (m.words (touched op)) in
      let here : rank all plan t (put m.locals t next.0 t) ≡ rank all plan t next.0 =
      ap (rank all plan t) (put_same m.locals t next.0) in
      record { own = omega arith; others = λ u other. put_other m.locals t u next.0 other }
  performs_falls h None = both (left_with_latch t m) (runs_ordinary t m) (idles m) ordinary_falls idle_falls

  steps_falls : (h : How) → Fall (steps plan t h m)
  steps_falls h = performs_falls h (operation plan t (m.locals t) h)

  runs_by_falls : (kind : Kind) → Fall (runs_by kind plan t m)
  runs_by_falls Online = both (shows_halted m.words t) (idles m) (runs_ordinary t m) idle_falls ordinary_falls
  runs_by_falls Offline = both (left_with_latch t m) (runs_ordinary t m) (idles m) ordinary_falls idle_falls
  runs_by_falls Absent = idle_falls

  nmi_offline_falls : Fall (nmi_offline plan t m)
  nmi_offline_falls =
      let over = shows_left m.words t || shows_withdrawn plan m.words t in
      both (is_outside (m.locals t).phase) (steps plan t how.Nmi m) (if over then runs_ordinary t m else idles m)
      (steps_falls how.Nmi)
      (both over (runs_ordinary t m) (idles m) ordinary_falls idle_falls)

  nmi_by_falls : (kind : Kind) → Fall (nmi_by kind plan t m)
  nmi_by_falls Online = both (shows_halted m.words t) (idles m) (runs_ordinary t m) idle_falls ordinary_falls
  nmi_by_falls Offline = nmi_offline_falls
  nmi_by_falls Absent = idle_falls

  runs_falls : Fall (runs plan t m)
  runs_falls =
      both (shows_held plan m.words t) (steps plan t how.Step m) (runs_by (plan.kind t) plan t m)
      (steps_falls how.Step) (runs_by_falls (plan.kind t))

  nmi_falls : Fall (nmi_comes plan t m)
  nmi_falls =
      both (shows_held plan m.words t) (latches t m) (nmi_by (plan.kind t) plan t m) latch_falls
      (nmi_by_falls (plan.kind t))

pub ranks_fall : RanksFall
unfolding happens
ranks_fall all plan (event.Step t) m = steps_falls all plan t m how.Step
ranks_fall all plan (event.Timeout t) m = steps_falls all plan t m how.Timeout
ranks_fall all plan (event.Nmi t) m = nmi_falls all plan t m
ranks_fall all plan (event.Run t) m = runs_falls all plan t m
