-- The go path and the drop path: what others see of a thread that takes one, and what it knows then.
use Rattle.std.proofs.Common.{◌≡◌, ◌≢◌, ℕ, Bool, true, false, not, ◌&&◌, ◌||◌, ◌==◌, if◌then◌else◌, Option, Some, None, refl, ap, sym, ◌∙◌}
use mathlib.Core.Path.{fun_ext}
use Rattle.rendezvous_steps.specs.declared.steps.Kind.TheVariants.{Online}
use Rattle.rendezvous_steps.specs.declared.steps.Phase.TheVariants as phase
use Rattle.rendezvous_steps.specs.declared.steps.Local.{Local}
use Rattle.rendezvous_steps.specs.Plan.{Plan, is_offline, is_primary, is_sibling, offline_from}
use Rattle.rendezvous_steps.specs.Padded.{Padded}
use Rattle.rendezvous_steps.specs.StepTable.{go_path, drop_path, to, wait_in, with_result, withdraw_at}
use Rattle.rendezvous_model.specs.Round.{In, Waiting, Going, State, is_dropped}
use Rattle.rendezvous_rule.specs.View.{View, view}
use Rattle.rendezvous_rule.specs.Knows.{Knows}
use Rattle.rule_laws.proofs.Frame.{and_false, equal_numbers, different}
use Rattle.rule_laws.proofs.Loops.{offline_begins, offline_found}

-- the view of a thread inside that has kicked all, and of which nothing more shows but whether it has arrived, and
-- decides
abbrev pub plain : Plan → ℕ → Bool → Bool → View
plain plan t arrived deciding =
    record {
      place = In;
      arrived = arrived;
      deciding = deciding;
      write = if is_primary plan t then Waiting else Waiting;
      frees = λ u. is_primary plan t && (is_sibling plan t u && false);
      kicks = λ k. (t == 0) && (is_offline (plan.kind k) && true);
      settles = λ k. (t == 0) && (is_offline (plan.kind k) && false);
    }

-- The go path.

go_view_by :
    (plan : Plan) (t : ℕ) (first : Bool) (local : Local) (primary : Bool) →
    view plan t first (if primary then to local phase.Reading else wait_in local phase.SiblingWait)
    ≡ plain plan t true false
go_view_by plan t first local true = refl
go_view_by plan t first local false = refl

pub go_view :
    (plan : Plan) (t : ℕ) (first : Bool) (local : Local) →
    view plan t first (go_path plan t local) ≡ plain plan t true false
go_view plan t first local = go_view_by plan t first local (is_primary plan t)

go_row_by :
    (plan : Plan) (t : ℕ) (local : Local) (primary : Bool) (s : State) →
    is_primary plan t ≡ primary →
    s.stage ≡ Going →
    Knows Online plan t (if primary then to local phase.Reading else wait_in local phase.SiblingWait) s
go_row_by plan t local true s e going = (e, going)
go_row_by plan t local false s e going = (e, going)

pub go_row :
    (plan : Plan) (t : ℕ) (local : Local) (s : State) → s.stage ≡ Going → Knows Online plan t (go_path plan t local) s
go_row plan t local s going = go_row_by plan t local (is_primary plan t) s refl going

-- The drop path.

abbrev drop_by : Local → Bool → Option ℕ → Local
drop_by local is_zero next =
    if is_zero then withdraw_at (record local { mine = 5 }) next else with_result local 5 phase.Leaving

drop_view_by :
    (plan : Plan) (t : ℕ) (first : Bool) (local : Local) (is_zero : Bool) (next : Option ℕ) →
    Padded plan →
    (t == 0) ≡ is_zero →
    offline_from plan 0 ≡ next →
    view plan t first (drop_by local is_zero next) ≡ plain plan t (not (t == 0) || first) false
drop_view_by plan t first local true (Some k) padded zero e =
    ap (λ (f : ℕ → Bool). record (plain plan t (not (t == 0) || first) false) { settles = f })
    (fun_ext (λ u.
    ap (λ b. (t == 0) && b)
    (offline_begins plan (Some k) padded e u ∙ sym (and_false (is_offline (plan.kind u)) false refl))))
drop_view_by plan t first local true None padded zero e =
    ap (λ (f : ℕ → Bool). record (plain plan t (not (t == 0) || first) false) { settles = f })
    (fun_ext (λ u.
    ap (λ b. (t == 0) && b)
    (offline_begins plan None padded e u ∙ sym (and_false (is_offline (plan.kind u)) false refl))))
drop_view_by plan t first local false next padded zero e =
    ap (λ (f : ℕ → Bool). record (plain plan t (not (t == 0) || first) false) { settles = f })
    (fun_ext (λ u.
    ap (λ b. b && (is_offline (plan.kind u) && true)) zero
    ∙ sym (ap (λ b. b && (is_offline (plan.kind u) && false)) zero)))

-- first says whether thread 0 has arrived
pub drop_view :
    (plan : Plan) (t : ℕ) (first : Bool) (local : Local) →
    Padded plan → view plan t first (drop_path plan t local) ≡ plain plan t (not (t == 0) || first) false
drop_view plan t first local padded = drop_view_by plan t first local (t == 0) (offline_from plan 0) padded refl refl

drop_row_by :
    (plan : Plan) (t : ℕ) (local : Local) (is_zero : Bool) (next : Option ℕ) (s : State) →
    (t == 0) ≡ is_zero →
    offline_from plan 0 ≡ next → is_dropped s.stage ≡ true → Knows Online plan t (drop_by local is_zero next) s
drop_row_by plan t local true (Some k) s zero e dropped =
    ((equal_numbers t 0 zero, offline_found plan 0 k e), dropped, refl)
drop_row_by plan t local true None s zero e dropped = dropped
drop_row_by plan t local false next s zero e dropped = dropped

pub drop_row :
    (plan : Plan) (t : ℕ) (local : Local) (s : State) → is_dropped s.stage ≡ true →
    Knows Online plan t (drop_path plan t local) s
drop_row plan t local s dropped = drop_row_by plan t local (t == 0) (offline_from plan 0) s refl refl dropped

-- A thread that has arrived, thread 0 too, has arrived on the drop path.

pub has_arrived : (z first : Bool) → (not z || (z || first)) ≡ true
has_arrived true first = refl
has_arrived false first = refl

pub given_anew : (t : ℕ) (first : Bool) → t ≢ 0 → ((t == 0) || first) ≡ first
given_anew t first other = let e = different t 0 other in ap (λ z. z || first) e

pub drop_arrived :
    (plan : Plan) (t : ℕ) (first : Bool) (local : Local) →
    Padded plan → view plan t ((t == 0) || first) (drop_path plan t local) ≡ plain plan t true false
drop_arrived plan t first local padded =
    drop_view plan t ((t == 0) || first) local padded
    ∙ ap (λ (b : Bool). plain plan t b false) (has_arrived (t == 0) first)
