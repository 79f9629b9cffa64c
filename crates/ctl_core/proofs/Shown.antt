-- What the state that is shown says of unfinished threads.
use Rattle.std.proofs.Common.{◌≡◌, ℕ, ◌==◌, ◌&&◌, ◌||◌, Bool, true, false, not, nat_le, refl, ap, sym, arith}
use Rattle.std.proofs.Math.Path.{fun_ext}
use Rattle.std.proofs.lemmas.Bool.Decides.{nat_tests}
use Rattle.std.specs.List.{find}
use Rattle.rendezvous_steps.specs.declared.steps.Kind.{Kind}
use Rattle.rendezvous_steps.specs.declared.steps.Kind.TheVariants.{Online, Offline, Absent}
use Rattle.rendezvous_steps.specs.Plan.{Plan, is_offline, is_absent, threads_from}
use Rattle.rendezvous_steps.specs.declared.steps.How.TheVariants.{Step}
use Rattle.rendezvous_steps.specs.declared.operations.Word.TheVariants.{Mode, Ctrl, Nmi}
use Rattle.rendezvous_steps.specs.Events.{Running, shows_finished, steps}
use Rattle.rendezvous_model.specs.Round.{is_unfinished}
use Rattle.rendezvous_rule.specs.Shown.{place_before_end, place_of, shown_by}
use Rattle.ctl_core.specs.Moments.{unfinished_from, is_poll, ready_from}
use Rattle.ctl_core.specs.Cores.{lowest_unfinished, lowest_ready}

-- a thread is unfinished by its place just where it is by its words

online_unfinished : (mode nmi : ℕ) (b : Bool) → ((mode == 1) || (mode == 2)) ≡ b → is_unfinished (place_before_end Online mode nmi) ≡ true
online_unfinished mode nmi true e = rw e refl
online_unfinished mode nmi false e = rw e refl

two_is_not_three : (nmi : ℕ) → (nmi == 2) ≡ true → (nmi == 3) ≡ false
two_is_not_three nmi e = grind (arith, nat_tests)

offline_unfinished : (mode nmi : ℕ) (b c : Bool) → (nmi == 2) ≡ b → (nmi == 3) ≡ c → is_unfinished (place_before_end Offline mode nmi) ≡ not ((nmi == 3) || false)
offline_unfinished mode nmi true c e f = rw (e, two_is_not_three nmi e) refl
offline_unfinished mode nmi false true e f = rw (e, f) refl
offline_unfinished mode nmi false false e f = rw (e, f) refl

unfinished_by : (kind : Kind) (mode ctrl nmi : ℕ) (h l : Bool) → (ctrl == 3) ≡ h → nat_le 8 mode ≡ l → is_unfinished (place_of kind mode ctrl nmi) ≡ not (nat_le 8 mode || (ctrl == 3) || (is_offline kind && (nmi == 3)) || is_absent kind)
unfinished_by kind mode ctrl nmi true true e f = rw (e, f) refl
unfinished_by kind mode ctrl nmi true false e f = rw (e, f) refl
unfinished_by kind mode ctrl nmi false true e f = rw (e, f) refl
unfinished_by Online mode ctrl nmi false false e f = rw (e, f) (online_unfinished mode nmi ((mode == 1) || (mode == 2)) refl)
unfinished_by Offline mode ctrl nmi false false e f = rw (e, f) (offline_unfinished mode nmi (nmi == 2) (nmi == 3) refl refl)
unfinished_by Absent mode ctrl nmi false false e f = rw (e, f) refl

pub unfinished_shown : (plan : Plan) (moment : Running) (t : ℕ) → is_unfinished ((shown_by plan moment).place t) ≡ not (shows_finished plan moment.words t)
unfinished_shown plan moment t =
    unfinished_by (plan.kind t) (moment.words (Mode t)) (moment.words (Ctrl t)) (moment.words (Nmi t)) (moment.words (Ctrl t) == 3) (nat_le 8 (moment.words (Mode t))) refl refl

pub lowest_unfinished-shown : (plan : Plan) (moment : Running) → unfinished_from plan moment.words 0 ≡ lowest_unfinished plan (shown_by plan moment)
unfolding unfinished_from
lowest_unfinished-shown plan moment =
    ap (λ (p : ℕ → Bool). find p (threads_from plan 0)) (fun_ext (λ t. sym (unfinished_shown plan moment t)))

pub lowest_ready-shown : (plan : Plan) (moment : Running) → ready_from plan moment 0 ≡ lowest_ready plan moment
unfolding ready_from
lowest_ready-shown plan moment =
    ap (λ (p : ℕ → Bool). find p (threads_from plan 0))
    (fun_ext (λ t. ap (λ (b : Bool). b && not (is_poll (steps plan t Step moment).1)) (sym (unfinished_shown plan moment t))))
