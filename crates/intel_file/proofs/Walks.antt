-- How a walk over a file goes on, update after update.
use Rattle.std.proofs.Common.{◌≡◌, ◌≢◌, inl, inr, ℕ, ◌+◌, ◌<◌, ◌≤◌, List, [], ◌∷◌, ◌++◌, length, take, length-take, refl, sym, ◌∙◌, ap, subst, arith, append_assoc, length-append}
use Rattle.std.proofs.lemmas.List.{append-nil}
use Rattle.uc_bytes.specs.declared.causes.FileCause.{FileCause}
use Rattle.uc_bytes.specs.declared.causes.FileCause.TheVariants.{Short, Truncated, TooMany}
use Rattle.intel_format.specs.Header.{header_of, total_len}
use Rattle.intel_format.specs.Update.{IsIntelUpdate, IsSoundHeader}
use Rattle.intel_format.specs.File.{FileUpdate, AreUpdates, joined, IntelFile, IsFault}
use Rattle.intel_format.specs.Settled.{IsCut, IsSettled}
use Rattle.intel_format.proofs.Front.{header_of-append}
use Rattle.intel_format.proofs.OneFault.{never_both, one_fault}
use Rattle.intel_format.proofs.ReadingOrFault.{fault_of}
use Rattle.intel_file.specs.declared.progress.Stage.{Stage}
use Rattle.intel_file.specs.declared.progress.Stage.TheVariants.{Header, Data, TableHead, Entries, Over}
use Rattle.intel_file.specs.declared.progress.Progress.{Progress}
use Rattle.intel_file.specs.declared.file.IntelUpdate.{IntelUpdate as Listed}
use Rattle.intel_file.specs.Progress.{IsAtStage, IsWithinStage, IsUpdateFault, HasHeader}
use Rattle.intel_file.specs.Stage.{unit_of}
use Rattle.intel_file.specs.Reading.{listed}
use Rattle.intel_file.proofs.Verdicts.{cut_off}

joined-push : (us : List FileUpdate) (u : FileUpdate) → joined (us ++ u ∷ []) ≡ joined us ++ u.bytes
joined-push [] u = append-nil u.bytes
joined-push (v ∷ us) u = ap (λ (l : List ℕ). v.bytes ++ l) (joined-push us u) ∙ sym (append_assoc v.bytes (joined us) u.bytes)

pub each-push : (us : List FileUpdate) (u : FileUpdate) → AreUpdates us → IsIntelUpdate u.bytes u.header u.pairs → AreUpdates (us ++ u ∷ [])
each-push [] u each is = (is, tt)
each-push (v ∷ us) u each is = (each.0, each-push us u each.1 is)

abbrev pub as_listed : ℕ → FileUpdate → Listed
as_listed start u = record { start = start; len = length u.bytes; header = u.header; pairs = length u.pairs }

pub listed-push : (start : ℕ) (us : List FileUpdate) (u : FileUpdate) → listed start (us ++ u ∷ []) ≡ listed start us ++ as_listed (start + length (joined us)) u ∷ []
listed-push start [] u = ap (λ (n : ℕ). as_listed n u ∷ []) (omega arith)
listed-push start (v ∷ us) u =
    ap (λ (l : List Listed). as_listed start v ∷ l)
    (listed-push (start + length v.bytes) us u ∙ ap (λ (n : ℕ). listed (start + length v.bytes) us ++ as_listed n u ∷ []) (omega (arith, length-append v.bytes (joined us))))

-- with nothing held, what came is what came in whole units
pub split_held : (front own held : List ℕ) → held ≡ [] → front ++ own ≡ front ++ (own ++ held)
split_held front own held none = ap (λ (l : List ℕ). front ++ l) (sym (append-nil own) ∙ ap (λ (l : List ℕ). own ++ l) (sym none))

-- an update that came whole joins those before it
pub split_on : (own : List ℕ) (us : List FileUpdate) (u : FileUpdate) (held : List ℕ) → own ≡ u.bytes → held ≡ [] → joined us ++ own ≡ joined (us ++ u ∷ []) ++ ([] ++ held)
split_on own us u held same none =
    ap (λ (l : List ℕ). joined us ++ l) same ∙ sym (joined-push us u) ∙ split_held [] (joined (us ++ u ∷ [])) held none

pub length-push : (us : List FileUpdate) (u : FileUpdate) → length (joined (us ++ u ∷ [])) ≡ length (joined us) + length u.bytes
length-push us u = ap length (joined-push us u) ∙ length-append (joined us) u.bytes

pub taken : (n : ℕ) (l : List ℕ) → n ≤ length l → length (take n l) ≡ n
taken n l within = simp length-take (omega arith)

pub none_from_length : (l : List ℕ) → length l ≡ 0 → l ≡ []
none_from_length [] none = refl
none_from_length (x ∷ l) none = absurd (omega arith)

-- a unit is within what is left
pub unit_within : (stage : Stage) (p : Progress) (done : List ℕ) (pairs : List (ℕ × ℕ)) (n : ℕ) → IsAtStage stage p done pairs → n ≡ unit_of stage → IsWithinStage stage p.left n
unit_within Header p done pairs n at unit = tt
unit_within Data p done pairs n at unit = omega (arith, unit, at.0.some, at.0.even)
unit_within TableHead p done pairs n at unit = tt
unit_within Entries p done pairs n at unit = tt
unit_within (Over cause) p done pairs n at unit = omega (arith, unit, at.0.some, at.0.even)

-- what came goes on behind what is held
pub behind_held : (front done held taken : List ℕ) → (front ++ (done ++ held)) ++ taken ≡ front ++ (done ++ (held ++ taken))
behind_held front done held taken =
    append_assoc front (done ++ held) taken ∙ ap (λ (l : List ℕ). front ++ l) (append_assoc done held taken)

-- a fault of the update that comes is the file's
pub settled_of : (bytes own : List ℕ) (us : List FileUpdate) (start : ℕ) (cause : FileCause) → bytes ≡ joined us ++ own → AreUpdates us → length us < 65536 → start ≡ length (joined us) → 0 < length own
    → IsUpdateFault own cause → IsSettled bytes start cause
settled_of bytes own us start cause split each few place some fault = (
  subst (λ (n : ℕ). IsFault bytes n cause) (sym place) (fault_of bytes us own cause split each (omega (arith, few)) some (fault.0 (length us) few)),
  fault.1,
)

pub too_many : (bytes own : List ℕ) (us : List FileUpdate) (start : ℕ) → bytes ≡ joined us ++ own → AreUpdates us → length us ≡ 65536 → start ≡ length (joined us) → 0 < length own → IsSettled bytes start TooMany
too_many bytes own us start split each many place some = (
  subst (λ (n : ℕ). IsFault bytes n TooMany) (sym place) (fault_of bytes us own TooMany split each (omega (arith, many)) some (inl (omega (arith, many), refl))),
  λ cut. cut,
)

-- ---- where no more bytes come

pub ended_whole : (bytes : List ℕ) (us : List FileUpdate) → bytes ≡ joined us ++ [] → AreUpdates us → length us ≤ 65536 → IntelFile bytes us
ended_whole bytes us split each few = record { whole = split ∙ append-nil (joined us); each = each; few = few }

pub ended_short : (bytes own : List ℕ) (us : List FileUpdate) (start : ℕ) → bytes ≡ joined us ++ own → AreUpdates us → length us < 65536 → start ≡ length (joined us) → 0 < length own → length own < 48 → IsFault bytes start Short
ended_short bytes own us start split each few place some short =
    subst (λ (n : ℕ). IsFault bytes n Short) (sym place)
    (fault_of bytes us own Short split each (omega (arith, few)) some (inr (λ many. omega (arith, few, many), inl (short, refl))))

-- what is known behind a header: it came, and a unit more is within the update
pub record Behind (p : Progress) (done : List ℕ) (unit : ℕ) : Type 0 where
  pub has : HasHeader p.header done
  pub room : length done + unit ≤ total_len p.header

pub behind_header : (stage : Stage) (p : Progress) (done : List ℕ) (pairs : List (ℕ × ℕ)) → stage ≢ Header → IsAtStage stage p done pairs → Behind p done (unit_of stage)
behind_header Header p done pairs other at = absurd (other refl)
behind_header Data p done pairs other at = record { has = at.0.has; room = omega (arith, at.0.left, at.0.some, at.0.even, at.0.has.sound.data_fits) }
behind_header TableHead p done pairs other at = record { has = at.0.after.has; room = omega (arith, at.0.room) }
behind_header Entries p done pairs other at =
    let front = at.0 in
    let has : HasHeader p.header done = subst (λ (l : List ℕ). HasHeader p.header l) (sym front.split) (record {
      long = omega (arith, front.after.has.long, length-append front.done front.table);
      header = front.after.has.header ∙ sym (header_of-append front.done front.table front.after.has.long);
      sound = front.after.has.sound;
    }) in
    record { has = has; room = omega (arith, front.whole, at.1, front.so_far.long, ap length front.split, length-append front.done front.table) }
behind_header (Over cause) p done pairs other at = record { has = at.0.has; room = omega (arith, at.0.left, at.0.some, at.0.even) }

pub ended_cut : (bytes done held : List ℕ) (us : List FileUpdate) (start : ℕ) (p : Progress) (unit : ℕ) → bytes ≡ joined us ++ (done ++ held) → AreUpdates us → length us < 65536 → start ≡ length (joined us)
    → Behind p done unit → length held < unit → IsFault bytes start Truncated
ended_cut bytes done held us start p unit split each few place behind short =
    let own : List ℕ = done ++ held in
    let same : p.header ≡ header_of own = behind.has.header ∙ sym (header_of-append done held behind.has.long) in
    let long : 48 ≤ length own = omega (arith, behind.has.long, length-append done held) in
    let cut : length own < total_len (header_of own) = omega (arith, behind.room, short, length-append done held, ap total_len same) in
    subst (λ (n : ℕ). IsFault bytes n Truncated) (sym place)
    (fault_of bytes us own Truncated split each (omega (arith, few)) (omega (arith, long)) (cut_off (length us) own few long (subst IsSoundHeader same behind.has.sound) cut))

-- what is a file, or only cut off, has no settled fault
pub whole_not_settled : (bytes : List ℕ) (us : List FileUpdate) → IntelFile bytes us → (offset : ℕ) (cause : FileCause) → IsSettled bytes offset cause → ⊥
whole_not_settled bytes us file offset cause settled = never_both bytes us offset cause file settled.0

pub cut_not_settled : (bytes : List ℕ) (start : ℕ) (cut : FileCause) → IsFault bytes start cut → IsCut cut → (offset : ℕ) (cause : FileCause) → IsSettled bytes offset cause → ⊥
cut_not_settled bytes start cut fault is offset cause settled =
    let same = one_fault bytes start offset cut cause fault settled.0 in
    settled.1 (subst IsCut same.1 is)
