-- Threads that come up, one after the other.
use Rattle.std.proofs.Common.{◌≡◌, ◌≢◌, ℕ, zero, suc, ◌+◌, ◌-◌, ◌<◌, ◌≤◌, Bool, true, false, List, [], ◌∷◌, ◌++◌, filter, if◌then◌else◌, Option, Some, None, Ok, refl, sym, ap, ◌∙◌, append_assoc, append-nil, arith}
use Rattle.std.specs.List.{range_with_len}
use Rattle.std.proofs.lemmas.Bool.{ne_eqb}
use Rattle.machine_steps.specs.declared.bring_ups.BringUp.{BringUp}
use Rattle.machine_steps.specs.declared.states.Power.TheVariants.{On}
use Rattle.machine_steps.specs.declared.states.ThreadState.TheVariants.{Up}
use Rattle.machine_steps.specs.Hardware.{Setting, Hardware, is_on, is_cold, is_off, all_cold, with_thread, with_power, threads_of}
use Rattle.machine_steps.specs.Calls.{may_come_up, wake, power_on}
use Rattle.early_load.specs.declared.wanted.Wanted.{Wanted}
use Rattle.early_load.specs.declared.wanted.Wanted.TheVariants.{Every, Remembered}
use Rattle.early_load.specs.Wanted.{wants}
use Rattle.machine_steps.specs.BringUps.{CachedPatches, above, to_write, Brought, brought, bring_up, AllBrought, bring_up_each, and_then, resume, resume_from}

-- ---- one thread

-- a machine in which a thread may come up has power
pub on_where_may : (hardware after : Hardware) (t : ℕ) → may_come_up hardware t ≡ Ok after → is_on hardware.power ≡ true
on_where_may hardware after t e = grind arith

-- a cold thread of a machine with power may come up
pub may_where_cold : (hardware : Hardware) (t : ℕ) → is_on hardware.power ≡ true → is_cold (hardware.thread t) ≡ true → may_come_up hardware t ≡ Ok hardware
may_where_cold hardware t on cold = grind arith

bring_up_is : (setting : Setting) (patches : CachedPatches) (hardware : Hardware) (t : ℕ) (new : Option ℕ) → new ≡ to_write setting patches hardware (setting.group t)
    → brought (with_thread hardware t Up) t (setting.group t) new (hardware.refuses (setting.group t)) ≡ bring_up setting patches hardware t
bring_up_is setting patches hardware t new e =
    ap (λ (o : Option ℕ). brought (with_thread hardware t Up) t (setting.group t) o (hardware.refuses (setting.group t))) e

-- the code's way to what a thread does that comes up: what is newer than the group's revision, written by the first one
pub brought_as : (setting : Setting) (patches : CachedPatches) (old now : Hardware) (t g : ℕ) (first : Bool) (newer new : Option ℕ) (all : Brought)
    → g ≡ setting.group t → first ≡ all_cold setting old (setting.group t) → newer ≡ above (old.rev g) (patches g) → new ≡ (if first then newer else None)
    → now ≡ with_thread old t Up → all ≡ brought now t g new (now.refuses g) → all ≡ bring_up setting patches old t
brought_as setting patches old now t g first newer new all of_group of_first of_newer of_new of_now is =
    let newest : newer ≡ above (old.rev (setting.group t)) (patches (setting.group t)) = of_newer ∙ ap (λ (k : ℕ). above (old.rev k) (patches k)) of_group in
    let writes : new ≡ to_write setting patches old (setting.group t) =
    of_new ∙ ap (λ (b : Bool). if b then newer else None) of_first ∙ ap (λ (o : Option ℕ). if all_cold setting old (setting.group t) then o else None) newest
    in
    is ∙ ap (λ (h : Hardware). brought h t g new (h.refuses g)) of_now ∙ ap (λ (k : ℕ). brought (with_thread old t Up) t k new (old.refuses k)) of_group ∙ bring_up_is setting patches old t new writes

pub first_writes : (first : Bool) (newer : Option ℕ) (new : ℕ) → (if first then newer else None) ≡ Some new → newer ≡ Some new
first_writes true newer new e = e
first_writes false newer new e = absurd cc

-- what coming up leaves as it was
record Keeps (old new : Hardware) : Type 0 where
  power : new.power ≡ old.power
  thread : new.thread ≡ old.thread
  remembered : new.remembered ≡ old.remembered

brought_keeps : (hardware : Hardware) (t g : ℕ) (new : Option ℕ) (refuses : Bool) → Keeps hardware (brought hardware t g new refuses).after
brought_keeps hardware t g None refuses = record { power = refl; thread = refl; remembered = refl }
brought_keeps hardware t g (Some new) true = record { power = refl; thread = refl; remembered = refl }
brought_keeps hardware t g (Some new) false = record { power = refl; thread = refl; remembered = refl }

-- a thread came up: power and the remembered threads stay, and so do the states of the other threads
pub record CameUp (old new : Hardware) (t : ℕ) : Type 0 where
  pub power : new.power ≡ old.power
  pub remembered : new.remembered ≡ old.remembered
  pub others : (u : ℕ) → u ≢ t → new.thread u ≡ old.thread u

pub came_up : (setting : Setting) (patches : CachedPatches) (hardware : Hardware) (t : ℕ) → CameUp hardware (bring_up setting patches hardware t).after t
came_up setting patches hardware t =
    let keeps = brought_keeps (with_thread hardware t Up) t (setting.group t) (to_write setting patches hardware (setting.group t)) (hardware.refuses (setting.group t)) in
    record {
      power = keeps.power;
      remembered = keeps.remembered;
      others = λ u other. ap (λ thread. thread u) keeps.thread ∙ rw (ne_eqb u t other) refl;
    }

-- ---- several threads

-- what came up before the others
abbrev pub onto : List BringUp → AllBrought → AllBrought
onto ups rest = record { ups = ups ++ rest.ups; after = rest.after }

pub onto_next : (ups : List BringUp) (first : Brought) (rest : AllBrought) → onto ups (and_then first rest) ≡ onto (ups ++ first.up ∷ []) rest
onto_next ups first rest =
    ap (λ (all : List BringUp). record { ups = all; after = rest.after }) (sym (append_assoc ups (first.up ∷ []) rest.ups))

-- the wanted ones among the threads from one on
abbrev pub from : (ℕ → Bool) → ℕ → ℕ → List ℕ
from wanted t threads = filter wanted (range_with_len t (threads - t))

row_from : (t threads : ℕ) → t < threads → range_with_len t (threads - t) ≡ t ∷ range_with_len (t + 1) (threads - (t + 1))
row_from t threads below =
    let some : threads - t ≡ suc (threads - (t + 1)) = omega arith in ap (range_with_len t) some

pub wanted_next : (wanted : ℕ → Bool) (t threads : ℕ) → t < threads → wanted t ≡ true → from wanted t threads ≡ t ∷ from wanted (t + 1) threads
wanted_next wanted t threads below is = ap (filter wanted) (row_from t threads below) ∙ rw is refl

pub unwanted_next : (wanted : ℕ → Bool) (t threads : ℕ) → t < threads → wanted t ≡ false → from wanted t threads ≡ from wanted (t + 1) threads
unwanted_next wanted t threads below not = ap (filter wanted) (row_from t threads below) ∙ rw not refl

pub none_left : (wanted : ℕ → Bool) (t threads : ℕ) → threads ≤ t → from wanted t threads ≡ []
none_left wanted t threads past = let none : threads - t ≡ 0 = omega arith in ap (λ (n : ℕ). filter wanted (range_with_len t n)) none

every_from : (first n : ℕ) → filter (λ t. true) (range_with_len first n) ≡ range_with_len first n
every_from first zero = refl
every_from first (suc n) = ap (λ (ts : List ℕ). first ∷ ts) (every_from (first + 1) n)

pub every_thread : (setting : Setting) → filter (λ t. true) (threads_of setting) ≡ threads_of setting
every_thread setting = every_from 0 setting.threads

-- ---- the wanted threads, one after the other

-- Of the wanted threads those below t came up, and the others are cold.
pub record Rises (setting : Setting) (patches : CachedPatches) (start : Hardware) (wanted : ℕ → Bool) (ups : List BringUp) (now : Hardware) (t : ℕ) : Type 0 where
  pub on : is_on now.power ≡ true
  pub remembered : now.remembered ≡ start.remembered
  pub cold : (u : ℕ) → t ≤ u → is_cold (now.thread u) ≡ true
  pub left : bring_up_each setting patches start (filter wanted (threads_of setting)) ≡ onto ups (bring_up_each setting patches now (from wanted t setting.threads))

pub none_rose : (setting : Setting) (patches : CachedPatches) (start : Hardware) (wanted : ℕ → Bool) → is_on start.power ≡ true → ((u : ℕ) → is_cold (start.thread u) ≡ true) → Rises setting patches start wanted [] start 0
none_rose setting patches start wanted on cold =
    let all : setting.threads ≡ setting.threads - 0 = omega arith in
    record {
      on = on;
      remembered = refl;
      cold = λ u _. cold u;
      left = ap (λ (n : ℕ). bring_up_each setting patches start (filter wanted (range_with_len 0 n))) all;
    }

pub another_stays : (setting : Setting) (patches : CachedPatches) (start : Hardware) (wanted : ℕ → Bool) (ups : List BringUp) (now : Hardware) (t : ℕ)
    → Rises setting patches start wanted ups now t → t < setting.threads → wanted t ≡ false → Rises setting patches start wanted ups now (t + 1)
another_stays setting patches start wanted ups now t rises below not = record {
  on = rises.on;
  remembered = rises.remembered;
  cold = λ u past. rises.cold u (omega (arith, past));
  left = rises.left ∙ ap (λ (ts : List ℕ). onto ups (bring_up_each setting patches now ts)) (unwanted_next wanted t setting.threads below not);
}

pub another_rises : (setting : Setting) (patches : CachedPatches) (start : Hardware) (wanted : ℕ → Bool) (ups : List BringUp) (now : Hardware) (t : ℕ) (came : Brought) (more : List BringUp)
    → Rises setting patches start wanted ups now t → t < setting.threads → wanted t ≡ true → came ≡ bring_up setting patches now t → more ≡ ups ++ came.up ∷ [] → Rises setting patches start wanted more came.after (t + 1)
another_rises setting patches start wanted ups now t came more rises below is e pushed =
    let up = came_up setting patches now t in
    let rest : List ℕ = from wanted (t + 1) setting.threads in
    record {
      on = ap (λ (b : Brought). is_on b.after.power) e ∙ ap is_on up.power ∙ rises.on;
      remembered = ap (λ (b : Brought). b.after.remembered) e ∙ up.remembered ∙ rises.remembered;
      cold = λ u past.
          let other : u ≢ t = omega (arith, past) in
          ap (λ (b : Brought). is_cold (b.after.thread u)) e ∙ ap is_cold (up.others u other) ∙ rises.cold u (omega (arith, past));
      left = rises.left
          ∙ ap (λ (ts : List ℕ). onto ups (bring_up_each setting patches now ts)) (wanted_next wanted t setting.threads below is)
          ∙ ap (λ (b : Brought). onto ups (and_then b (bring_up_each setting patches b.after rest))) (sym e)
          ∙ onto_next ups came (bring_up_each setting patches came.after rest)
          ∙ ap (λ (us : List BringUp). onto us (bring_up_each setting patches came.after rest)) (sym pushed);
    }

pub all_rose : (setting : Setting) (patches : CachedPatches) (start : Hardware) (wanted : ℕ → Bool) (ups : List BringUp) (now : Hardware) (t : ℕ)
    → Rises setting patches start wanted ups now t → setting.threads ≤ t → record { ups = ups; after = now } ≡ bring_up_each setting patches start (filter wanted (threads_of setting))
all_rose setting patches start wanted ups now t rises past =
    sym
    (rises.left
    ∙ ap (λ (ts : List ℕ). onto ups (bring_up_each setting patches now ts)) (none_left wanted t setting.threads past)
    ∙ ap (λ (us : List BringUp). record { ups = us; after = now }) (append-nil ups))

-- ---- power

pub woke : (old new : Hardware) → wake old ≡ Ok new → (new ≡ with_power old On) × (is_on old.power ≡ false)
woke old new e = (grind arith, grind arith)

pub powered : (old new : Hardware) → power_on old ≡ Ok new → (new ≡ with_power old On) × (is_off old.power ≡ true) × (is_on old.power ≡ false)
powered old new e = (grind arith, grind arith, grind arith)

pub resumes : (setting : Setting) (patches : CachedPatches) (old awake : Hardware) (all : AllBrought) → wake old ≡ Ok awake → all ≡ bring_up_each setting patches awake (filter awake.remembered (threads_of setting)) → resume setting patches old ≡ Ok all
resumes setting patches old awake all w e =
    ap (resume_from setting patches old) w ∙ ap Ok (ap (λ (remembered : ℕ → Bool). bring_up_each setting patches awake (filter remembered (threads_of setting))) (sym (ap (λ (h : Hardware). h.remembered) (woke old awake w).0)) ∙ sym e)

pub wants_same : (wanted : Wanted) (one other : Hardware) (t : ℕ) → one.remembered ≡ other.remembered → wants wanted one t ≡ wants wanted other t
wants_same Every one other t e = refl
wants_same Remembered one other t e = ap (λ (remembered : ℕ → Bool). remembered t) e
