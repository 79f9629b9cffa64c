-- One thread more has arrived: what that makes of the counts.
use Rattle.std.proofs.Common.{◌≡◌, ◌≢◌, ℕ, zero, suc, ◌+◌, ◌-◌, ◌<◌, ◌≤◌, ◌%◌, ◌^◌, Bool, true, false, cond, not, ◌&&◌, refl, ap, sym, ◌∙◌, arith}
use Rattle.rendezvous_steps.specs.declared.steps.Kind.{Kind}
use Rattle.rendezvous_steps.specs.declared.steps.Kind.TheVariants.{Online, Offline, Absent}
use Rattle.rendezvous_steps.specs.Plan.{Plan, Sound, is_online, is_offline, offline_count}
use Rattle.rendezvous_steps.specs.Padded.{Padded}
use Rattle.rendezvous_steps.specs.Events.{put}
use Rattle.rendezvous_model.specs.Round.{still_awaited, offline_arrived}
use Rattle.rendezvous_rule.specs.Knows.{AllHere}
use Rattle.rendezvous_rule.specs.Rule.{AllOnlineHere}
use Rattle.rule_laws.proofs.Count.{count, count_step, count_same, count_less, count_none, count_zero, count_all}
use Rattle.rule_laws.proofs.Search.{online_in_range, offline_in_range, is_offline_kind}
use Rattle.rule_laws.proofs.Frame.{put_same, put_other, and_both, another_kind}

-- Words of counts: one less, one more, within 64 bits.

pub one_less : (n : ℕ) → 0 < n → n ≤ 256 → (n + (2 ^ 64 - 1)) % 2 ^ 64 ≡ n - 1
one_less n low high = omega arith

pub one_more : (n : ℕ) → n ≤ 256 → (n + 1) % 2 ^ 64 ≡ n + 1
one_more n high = omega arith

-- no more are counted than there are
cond_one : (b : Bool) → cond b 1 0 ≤ 1
cond_one true = omega arith
cond_one false = omega arith

count_few : (p : ℕ → Bool) (a n : ℕ) → count p a n ≤ n
count_few p a zero = omega arith
count_few p a (suc n) =
    let rest = count_few p (a + 1) n in let here = cond_one (p a) in let e = count_step p a n in omega arith

pub few_awaited : (plan : Plan) (arrived : ℕ → Bool) → Sound plan → still_awaited plan arrived ≤ 256
unfolding still_awaited
few_awaited plan arrived sound =
    let few = count_few (λ u. is_online (plan.kind u) && not (arrived u)) 0 (plan.threads - 0) in
    let most = sound.few_threads in omega arith

pub few_arrived : (plan : Plan) (arrived : ℕ → Bool) → Sound plan → offline_arrived plan arrived ≤ 256
unfolding offline_arrived
few_arrived plan arrived sound =
    let few = count_few (λ u. is_offline (plan.kind u) && arrived u) 0 (plan.threads - 0) in
    let most = sound.few_threads in omega arith

-- An Online thread arrives.

pub awaited_less :
    (plan : Plan) (arrived : ℕ → Bool) (t : ℕ) →
    Padded plan →
    plan.kind t ≡ Online →
    arrived t ≡ false → still_awaited plan arrived ≡ still_awaited plan (put arrived t true) + 1
unfolding still_awaited
awaited_less plan arrived t padded online missing =
    let within = online_in_range plan padded t online in
    count_less
    (λ u. is_online (plan.kind u) && not (arrived u))
    (λ u. is_online (plan.kind u) && not (put arrived t true u))
    0
    (plan.threads - 0)
    t
    (omega arith)
    (omega arith)
    (and_both (is_online (plan.kind t)) (not (arrived t)) (ap is_online online) (ap not missing))
    (ap (λ b. is_online (plan.kind t) && not b) (put_same arrived t true) ∙ ap (λ k. is_online k && false) online)
    (λ u other. ap (λ b. is_online (plan.kind u) && not b) (sym (put_other arrived t u true other)))

online_unmoved :
    (kind : Kind) (a b : Bool) → (kind ≡ Offline → a ≡ b) → (is_offline kind && a) ≡ (is_offline kind && b)
online_unmoved Online a b same = refl
online_unmoved Offline a b same = same refl
online_unmoved Absent a b same = refl

pub offline_same :
    (plan : Plan) (arrived : ℕ → Bool) (t : ℕ) →
    plan.kind t ≡ Online → offline_arrived plan arrived ≡ offline_arrived plan (put arrived t true)
unfolding offline_arrived
offline_same plan arrived t online =
    count_same
    (λ u. is_offline (plan.kind u) && arrived u)
    (λ u. is_offline (plan.kind u) && put arrived t true u)
    0
    (plan.threads - 0)
    (λ u.
    online_unmoved (plan.kind u) (arrived u) (put arrived t true u)
    (λ offline. sym (put_other arrived t u true (another_kind plan t u online offline))))

-- An Offline thread arrives.

pub arrived_more :
    (plan : Plan) (arrived : ℕ → Bool) (t : ℕ) →
    Padded plan →
    plan.kind t ≡ Offline →
    arrived t ≡ false → offline_arrived plan (put arrived t true) ≡ offline_arrived plan arrived + 1
unfolding offline_arrived
arrived_more plan arrived t padded offline missing =
    let within = offline_in_range plan padded t offline in
    count_less
    (λ u. is_offline (plan.kind u) && put arrived t true u)
    (λ u. is_offline (plan.kind u) && arrived u)
    0
    (plan.threads - 0)
    t
    (omega arith)
    (omega arith)
    (and_both (is_offline (plan.kind t)) (put arrived t true t) (ap is_offline offline) (put_same arrived t true))
    (ap (λ b. is_offline (plan.kind t) && b) missing ∙ ap (λ k. is_offline k && false) offline)
    (λ u other. ap (λ b. is_offline (plan.kind u) && b) (put_other arrived t u true other))

offline_unmoved :
    (kind : Kind) (a b : Bool) → (kind ≡ Online → a ≡ b) → (is_online kind && not a) ≡ (is_online kind && not b)
offline_unmoved Online a b same = ap not (same refl)
offline_unmoved Offline a b same = refl
offline_unmoved Absent a b same = refl

pub awaited_same :
    (plan : Plan) (arrived : ℕ → Bool) (t : ℕ) →
    plan.kind t ≡ Offline → still_awaited plan arrived ≡ still_awaited plan (put arrived t true)
unfolding still_awaited
awaited_same plan arrived t offline =
    count_same
    (λ u. is_online (plan.kind u) && not (arrived u))
    (λ u. is_online (plan.kind u) && not (put arrived t true u))
    0
    (plan.threads - 0)
    (λ u.
    offline_unmoved (plan.kind u) (arrived u) (put arrived t true u)
    (λ online. sym (put_other arrived t u true (λ e. another_kind plan u t online offline (sym e)))))

-- Counts and what all threads have done.

not_false : (b : Bool) → not b ≡ false → b ≡ true
not_false true e = refl
not_false false e = cc

missing_none : (a b : Bool) → a ≡ true → (a && not b) ≡ false → b ≡ true
missing_none true b e f = not_false b f
missing_none false b e f = cc

-- none is awaited, so all Online threads are here
pub none_awaited :
    (plan : Plan) (arrived : ℕ → Bool) → Padded plan → still_awaited plan arrived ≡ 0 → AllOnlineHere plan arrived
unfolding still_awaited
none_awaited plan arrived padded none t online =
    let within = online_in_range plan padded t online in
    missing_none (is_online (plan.kind t)) (arrived t) (ap is_online online)
    (count_none (λ u. is_online (plan.kind u) && not (arrived u)) 0 (plan.threads - 0) t none (omega arith)
    (omega arith))

here_uncounted : (kind : Kind) (b : Bool) → (kind ≡ Online → b ≡ true) → (is_online kind && not b) ≡ false
here_uncounted Online b here = ap not (here refl)
here_uncounted Offline b here = refl
here_uncounted Absent b here = refl

pub all_online_here :
    (plan : Plan) (arrived : ℕ → Bool) → AllOnlineHere plan arrived → still_awaited plan arrived ≡ 0
unfolding still_awaited
all_online_here plan arrived here =
    count_zero (λ u. is_online (plan.kind u) && not (arrived u)) 0 (plan.threads - 0)
    (λ u. here_uncounted (plan.kind u) (arrived u) (here u))

-- as many Offline threads have arrived as there are, so all have
pub all_offline_here :
    (plan : Plan) (arrived : ℕ → Bool) → Padded plan → offline_arrived plan arrived ≡ offline_count plan →
    AllHere plan arrived
unfolding offline_arrived offline_count
all_offline_here plan arrived padded full k offline =
    let within = offline_in_range plan padded k offline in
    count_all (λ u. is_offline (plan.kind u)) arrived 0 (plan.threads - 0) k full (omega arith) (omega arith)
    (ap is_offline offline)

-- where fewer are counted that pass both tests, one passes the first alone
record Missing (p q : ℕ → Bool) : Type 0 where
  pub who : ℕ
  pub passes : p who ≡ true
  pub fails : q who ≡ false

missing_by :
    (p q : ℕ → Bool) (a n : ℕ) (b c : Bool) →
    p a ≡ b →
    q a ≡ c →
    (count (λ u. p u && q u) (a + 1) n ≢ count p (a + 1) n → Missing p q) →
    cond (b && c) 1 0 + count (λ u. p u && q u) (a + 1) n ≢ cond b 1 0 + count p (a + 1) n → Missing p q
missing_by p q a n true true e f rest other = rest (λ same. other (omega arith))
missing_by p q a n true false e f rest other = record { who = a; passes = e; fails = f }
missing_by p q a n false c e f rest other = rest (λ same. other (ap (λ x. 0 + x) same))

missing : (p q : ℕ → Bool) (a n : ℕ) → count (λ u. p u && q u) a n ≢ count p a n → Missing p q
missing p q a zero other = absurd (other refl)
missing p q a (suc n) other =
    missing_by p q a n (p a) (q a) refl refl (missing p q (a + 1) n)
    (λ same. other (count_step (λ u. p u && q u) a n ∙ same ∙ sym (count_step p a n)))

-- an Offline thread that has not arrived
pub record Absentee (plan : Plan) (arrived : ℕ → Bool) : Type 0 where
  pub who : ℕ
  pub is_offline : plan.kind who ≡ Offline
  pub not_arrived : arrived who ≡ false

pub offline_missing :
    (plan : Plan) (arrived : ℕ → Bool) → offline_arrived plan arrived ≢ offline_count plan → Absentee plan arrived
unfolding offline_arrived offline_count
offline_missing plan arrived other =
    let m = missing (λ u. is_offline (plan.kind u)) arrived 0 (plan.threads - 0) other in
    record { who = m.who; is_offline = is_offline_kind (plan.kind m.who) m.passes; not_arrived = m.fails }
