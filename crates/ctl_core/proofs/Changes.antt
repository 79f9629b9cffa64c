-- What a change of one list does to the moment that the lists stand for.
use Rattle.std.proofs.Common.{◌≡◌, ℕ, ◌<◌, ◌==◌, ◌||◌, Bool, true, false, if◌then◌else◌, List, length, get_or, slice_get, slice_set, unwrap_or, Option, refl, sym, ap, ◌∙◌, arith, length-set, map, replicate, subst, zero, suc, ◌≤◌, ◌-◌, ◌^◌, ◌⊎◌, inl, inr}
use Rattle.std.proofs.Math.Path.{fun_ext}
use Rattle.std.proofs.lemmas.Bool.Decides.{nat_tests}
use Rattle.std.proofs.lemmas.Grind.{common_steps}
use Rattle.std.proofs.lemmas.Bool.{cases_lt}
use Rattle.std.proofs.lemmas.Option.{unwrap_or-slice_get, slice_get_past}
use Rattle.std.proofs.lemmas.List.{length-replicate}
use Rattle.std.proofs.lemmas.List.FromFn.{get_or-map-range_with_len, length-map-range_with_len}
use Rattle.rendezvous_steps.specs.declared.steps.Local.{Local}
use Rattle.rendezvous_steps.specs.declared.operations.Word.{Word}
use Rattle.rendezvous_steps.specs.declared.operations.Word.TheVariants.{Rev}
use Rattle.rendezvous_steps.specs.Plan.{Plan, threads_from}
use Rattle.rendezvous_steps.specs.declared.steps.How.{How}
use Rattle.rendezvous_steps.specs.declared.operations.Op.{Op}
use Rattle.rendezvous_steps.specs.StepTable.{operation, opening}
use Rattle.rendezvous_steps.specs.declared.steps.How.TheVariants.{Step, Nmi}
use Rattle.rendezvous_steps.specs.declared.steps.Kind.TheVariants.{Online, Offline, Absent}
use Rattle.rendezvous_steps.specs.Words.{opening_words}
use Rattle.rendezvous_steps.specs.Events.{Running, opening_running, put, performs, steps, runs, runs_by, nmi_comes, nmi_by, nmi_offline, runs_ordinary, latches, idles, is_outside, left_with_latch, shows_left, shows_halted, shows_withdrawn, shows_held}
use Rattle.ctl_words.specs.Lists.{Lists, has_word, word_of}
use Rattle.ctl_words.specs.Places.{is_word}
use Rattle.ctl_words.specs.declared.plans.Plan.{Plan as Tables}
use Rattle.ctl_words.specs.Plans.{plan_of, IsSound}
use Rattle.ctl_core.specs.Chains.{Chained}
use Rattle.ctl_core.specs.Moments.{State, running_of, Fits, nowhere, unfinished_in, SmallRevisions}

get_or-written : {A : Type 0} (xs : List A) (t u : ℕ) (x d : A) → t < length xs → get_or (slice_set xs t x) u d ≡ (if u == t then x else get_or xs u d)
get_or-written xs t u x d h = grind (arith, nat_tests, common_steps)

entry-written : {A : Type 0} (xs : List A) (t u : ℕ) (x d : A) → t < length xs → unwrap_or (slice_get (slice_set xs t x) u) d ≡ put (λ k. unwrap_or (slice_get xs k) d) t x u
unfolding put
entry-written xs t u x d h =
    unwrap_or-slice_get (slice_set xs t x) u d ∙ get_or-written xs t u x d h ∙ ap (λ e. if u == t then x else e) (sym (unwrap_or-slice_get xs u d))

-- a table after a write is the table with that entry changed
entries-written : {A : Type 0} (xs : List A) (t : ℕ) (x d : A) → t < length xs → (λ u. unwrap_or (slice_get (slice_set xs t x) u) d) ≡ put (λ k. unwrap_or (slice_get xs k) d) t x
entries-written xs t x d h = fun_ext (λ u. entry-written xs t u x d h)

pub latched_changed : (plan : Plan) (s : State) (t : ℕ) (latch : Bool) → Fits plan s → t < plan.threads → running_of (record s { latched = slice_set s.latched t latch }) ≡ record (running_of s) { latched = put (running_of s).latched t latch }
latched_changed plan s t latch fits below =
    let room : t < length s.latched = omega (arith, fits.latched) in
    ap (λ table. record (running_of s) { latched = table }) (entries-written s.latched t latch false room)

pub Fits-latched : (plan : Plan) (s : State) (t : ℕ) (latch : Bool) → Fits plan s → Fits plan (record s { latched = slice_set s.latched t latch })
Fits-latched plan s t latch fits =
    record {
      words = fits.words;
      locals = fits.locals;
      latched = length-set s.latched t latch ∙ fits.latched;
      places = fits.places;
      writes = fits.writes;
      revisions = fits.revisions;
      counted = fits.counted;
      chained = fits.chained;
    }

pub performed : (plan : Plan) (s applied : State) (t : ℕ) (local : Local) → Fits plan s → t < plan.threads → applied.locals ≡ s.locals → applied.latched ≡ s.latched → running_of (record applied { locals = slice_set applied.locals t local }) ≡ record (running_of s) { words = word_of applied.words; locals = put (running_of s).locals t local }
performed plan s applied t local fits below same_locals same_latched =
    let room : t < length s.locals = omega (arith, fits.locals) in
    rw (same_locals, same_latched) (ap (λ table. record (running_of s) { words = word_of applied.words; locals = table }) (entries-written s.locals t local nowhere room))

place_kept : (b : Bool) (x y : Local) (m : ℕ) → x.at < m → y.at < m → (if b then x else y).at < m
place_kept true x y m first second = first
place_kept false x y m first second = second

-- the words after an operation, with the count that goes with them
pub Fits-applied : (plan : Plan) (s : State) (words : Lists) (unfinished : ℕ) → Fits plan s → has_word words ≡ has_word s.words → ((g : ℕ) → word_of words (Rev g) < 2 ^ 32) → unfinished ≡ unfinished_in plan (word_of words) → Fits plan (record { words = words; locals = s.locals; latched = s.latched; unfinished = unfinished; chains = s.chains })
Fits-applied plan s words unfinished fits same revisions counted =
    record {
      words = λ w. ap (λ has. has w) same ∙ fits.words w;
      locals = fits.locals;
      latched = fits.latched;
      places = fits.places;
      writes = fits.writes;
      revisions = revisions;
      counted = counted;
      chained = fits.chained;
    }

pub Fits-local : (plan : Plan) (s : State) (t : ℕ) (local : Local) → Fits plan s → t < plan.threads → local.at < plan.threads → Fits plan (record s { locals = slice_set s.locals t local })
unfolding put
Fits-local plan s t local fits below at =
    let room : t < length s.locals = omega (arith, fits.locals) in
    record {
      words = fits.words;
      locals = length-set s.locals t local ∙ fits.locals;
      latched = fits.latched;
      places = λ u u_below. rw (entry-written s.locals t u local nowhere room) (place_kept (u == t) local _ plan.threads at (fits.places u u_below));
      writes = fits.writes;
      revisions = fits.revisions;
      counted = fits.counted;
      chained = fits.chained;
    }

-- a step goes by whether the thread has an operation
pub steps-operation : (plan : Plan) (t : ℕ) (h : How) (running : Running) (op : Option Op) → operation plan t (running.locals t) h ≡ op → steps plan t h running ≡ performs plan t h running op
steps-operation plan t h running op e = ap (performs plan t h running) e

-- what each event comes to, by what the thread shows

pub runs_by-left : (plan : Plan) (t : ℕ) (running : Running) → left_with_latch t running ≡ true → runs_by Offline plan t running ≡ runs_ordinary t running
runs_by-left plan t running e = rw e refl

pub runs_by-here : (plan : Plan) (t : ℕ) (running : Running) → left_with_latch t running ≡ false → runs_by Offline plan t running ≡ idles running
runs_by-here plan t running e = rw e refl

pub runs_by-halted : (plan : Plan) (t : ℕ) (running : Running) → shows_halted running.words t ≡ true → runs_by Online plan t running ≡ idles running
runs_by-halted plan t running e = rw e refl

pub runs_by-online : (plan : Plan) (t : ℕ) (running : Running) → shows_halted running.words t ≡ false → runs_by Online plan t running ≡ runs_ordinary t running
runs_by-online plan t running e = rw e refl

pub runs-held : (plan : Plan) (t : ℕ) (running : Running) → shows_held plan running.words t ≡ true → runs plan t running ≡ steps plan t Step running
runs-held plan t running e = rw e refl

pub runs-outside : (plan : Plan) (t : ℕ) (running : Running) → shows_held plan running.words t ≡ false → runs plan t running ≡ runs_by (plan.kind t) plan t running
runs-outside plan t running e = rw e refl

pub nmi-held : (plan : Plan) (t : ℕ) (running : Running) → shows_held plan running.words t ≡ true → nmi_comes plan t running ≡ latches t running
nmi-held plan t running e = rw e refl

pub nmi-outside : (plan : Plan) (t : ℕ) (running : Running) → shows_held plan running.words t ≡ false → nmi_comes plan t running ≡ nmi_by (plan.kind t) plan t running
nmi-outside plan t running e = rw e refl

pub nmi_offline-outside : (plan : Plan) (t : ℕ) (running : Running) → is_outside ((running.locals t).phase) ≡ true → nmi_offline plan t running ≡ steps plan t Nmi running
nmi_offline-outside plan t running e = rw e refl

pub nmi_offline-over : (plan : Plan) (t : ℕ) (running : Running) → is_outside ((running.locals t).phase) ≡ false → shows_left running.words t || shows_withdrawn plan running.words t ≡ true → nmi_offline plan t running ≡ runs_ordinary t running
nmi_offline-over plan t running e over = rw (e, over) refl

pub nmi_offline-else : (plan : Plan) (t : ℕ) (running : Running) → is_outside ((running.locals t).phase) ≡ false → shows_left running.words t || shows_withdrawn plan running.words t ≡ false → nmi_offline plan t running ≡ idles running
nmi_offline-else plan t running e over = rw (e, over) refl

opening-past : (plan : Plan) (u : ℕ) → plan.kind u ≡ Absent → nowhere ≡ opening plan u
unfolding opening
opening-past plan u absent = rw absent refl

opening-place : (plan : Plan) (u : ℕ) → 0 < plan.threads → (opening plan u).at < plan.threads
unfolding opening
opening-place plan u some = some

-- the table of where threads begin, past its end too
opening_at : (plan : Plan) (u : ℕ) → ((t : ℕ) → plan.threads ≤ t → plan.kind t ≡ Absent) → (u < plan.threads) ⊎ (plan.threads ≤ u) → unwrap_or (slice_get (map (opening plan) (threads_from plan 0)) u) nowhere ≡ opening plan u
opening_at plan u past (inl below) =
    unwrap_or-slice_get _ u nowhere ∙ get_or-map-range_with_len (opening plan) 0 (plan.threads - 0) u u nowhere (omega arith) (omega arith)
opening_at plan u past (inr above) =
    let ends = length-map-range_with_len (opening plan) 0 (plan.threads - 0) in
    ap (λ entry. unwrap_or entry nowhere) (slice_get_past _ u (omega (arith, ends))) ∙ opening-past plan u (past u above)

none_latched : (n u : ℕ) → unwrap_or (slice_get (replicate n false) u) false ≡ false
none_latched zero u = refl
none_latched (suc n) zero = refl
none_latched (suc n) (suc u) = none_latched n u

-- the lists of a rendezvous that begins
pub record Opens (plan : Plan) (s : State) : Type 0 where
  pub some_thread : 0 < plan.threads
  pub past : (t : ℕ) → plan.threads ≤ t → plan.kind t ≡ Absent
  pub known : has_word s.words ≡ is_word plan
  pub words : word_of s.words ≡ opening_words plan
  pub locals : s.locals ≡ map (opening plan) (threads_from plan 0)
  pub latched : s.latched ≡ replicate plan.threads false
  pub small : SmallRevisions plan
  pub counted : s.unfinished ≡ unfinished_in plan (word_of s.words)
  pub chained : Chained plan s.chains

locals-opening : (plan : Plan) (s : State) → Opens plan s → (running_of s).locals ≡ opening plan
locals-opening plan s opens =
    fun_ext (λ u. ap (λ (xs : List Local). unwrap_or (slice_get xs u) nowhere) opens.locals ∙ opening_at plan u opens.past (cases_lt u plan.threads))

latched-opening : (plan : Plan) (s : State) → Opens plan s → (running_of s).latched ≡ (λ u. false)
latched-opening plan s opens =
    fun_ext (λ u. ap (λ (xs : List Bool). unwrap_or (slice_get xs u) false) opens.latched ∙ none_latched plan.threads u)

pub running-opening : (plan : Plan) (s : State) → Opens plan s → running_of s ≡ opening_running plan
running-opening plan s opens =
    ap (λ (words : Word → ℕ). record (running_of s) { words = words }) opens.words
    ∙ ap (λ (locals : ℕ → Local). record { words = opening_words plan; locals = locals; latched = (running_of s).latched }) (locals-opening plan s opens)
    ∙ ap (λ (latched : ℕ → Bool). record { words = opening_words plan; locals = opening plan; latched = latched }) (latched-opening plan s opens)

pub Fits-opening : (plan : Plan) (s : State) → Opens plan s → Fits plan s
Fits-opening plan s opens =
    let ends = length-map-range_with_len (opening plan) 0 (plan.threads - 0) in
    record {
      words = λ w. ap (λ (has : Word → Bool). has w) opens.known;
      locals = ap length opens.locals ∙ (ends ∙ omega arith);
      latched = ap length opens.latched ∙ length-replicate plan.threads false;
      places = λ t below. subst (λ (locals : ℕ → Local). (locals t).at < plan.threads) (sym (locals-opening plan s opens)) (opening-place plan t opens.some_thread);
      writes = opens.small.writes;
      revisions = λ g. subst (λ (words : Word → ℕ). words (Rev g) < 2 ^ 32) (sym opens.words) (opens.small.first g);
      counted = opens.counted;
      chained = opens.chained;
    }

-- past its last thread a plan has none that takes part
pub past_end : (p : Tables) → IsSound p → (t : ℕ) → p.threads ≤ t → (plan_of p).kind t ≡ Absent
past_end p sound t above =
    ap (λ entry. unwrap_or entry Absent) (slice_get_past p.kind.items t (omega (arith, sound.tables.kinds)))
