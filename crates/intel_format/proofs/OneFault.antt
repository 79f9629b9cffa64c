-- Bytes have a reading or a fault and never both, and at most one fault.
use Rattle.std.proofs.Common.{◌≡◌, inl, inr, ℕ, ◌<◌, ◌≤◌, List, [], ◌∷◌, ◌++◌, length, take, drop, sym, ◌∙◌, ap, subst, refl, arith, append_assoc, length-append, take-append-drop, length-take}
use Rattle.std.proofs.lemmas.Bool.{cases_lt}
use Rattle.std.proofs.lemmas.List.{take_at, drop_at, take_all}
use Rattle.fault_rule.proofs.Search.{first_fails, one_first}
use Rattle.uc_bytes.specs.declared.causes.FileCause.{FileCause}
use Rattle.intel_format.specs.Update.{IsIntelUpdate}
use Rattle.intel_format.specs.Checks.{Fails, IsFirstFault, update_checks}
use Rattle.intel_format.specs.File.{FileUpdate, AreUpdates, joined, IntelFile, IsFault}
use Rattle.intel_format.proofs.OneReading.{one_front, one_reading}
use Rattle.intel_format.proofs.Passes.{update_passes}

-- an update at the front of bytes
pub record Front (bytes : List ℕ) : Type 0 where
  pub update : FileUpdate
  pub rest : List ℕ
  pub is : IsIntelUpdate update.bytes update.header update.pairs
  pub split : bytes ≡ update.bytes ++ rest

-- where some updates reach further than others, an update begins behind those others, and there are fewer of them
further : (us vs : List FileUpdate) (rest more : List ℕ) → AreUpdates us → AreUpdates vs → joined us ++ rest ≡ joined vs ++ more → length (joined us) < length (joined vs) → Front rest × (length us < length vs)
further [] [] rest more first second same longer = absurd (omega arith)
further [] (v ∷ vs) rest more first second same longer = (
  record { update = v; rest = joined vs ++ more; is = second.0; split = same ∙ append_assoc v.bytes (joined vs) more },
  omega arith,
)
further (u ∷ us) [] rest more first second same longer = absurd (omega arith)
further (u ∷ us) (v ∷ vs) rest more first second same longer =
    let front = one_front u v (joined us ++ rest) (joined vs ++ more) first.0 second.0
    (sym (append_assoc u.bytes (joined us) rest) ∙ same ∙ append_assoc v.bytes (joined vs) more) in
    let shorter : length (joined us) < length (joined vs) =
    omega (arith, longer, ap (λ (w : FileUpdate). length w.bytes) front.0, length-append u.bytes (joined us), length-append v.bytes (joined vs)) in
    let behind = further us vs rest more first.1 second.1 front.1 shorter in
    (behind.0, omega (arith, behind.1))

-- the first check that fails does fail
pub fails_first : (before : ℕ) (bytes : List ℕ) (cause : FileCause) → IsFirstFault before bytes cause → Fails before bytes cause
fails_first before bytes cause first = first_fails (Fails before bytes) (update_checks bytes) cause first

-- no update begins where a check fails
no_front : (before : ℕ) (rest : List ℕ) (cause : FileCause) → before < 65536 → Front rest → Fails before rest cause → ⊥
no_front before rest cause few front fails =
    update_passes before front.update front.rest cause few front.is (subst (λ (l : List ℕ). Fails before l cause) front.split fails)

-- so no longer front of the bytes is a file
pub longest : (us : List FileUpdate) (rest : List ℕ) (cause : FileCause) (n : ℕ) (others : List FileUpdate) → AreUpdates us → Fails (length us) rest cause → length (joined us) < n
    → n ≤ length (joined us ++ rest) → IntelFile (take n (joined us ++ rest)) others → ⊥
longest us rest cause n others each fails past within file =
    let bytes = joined us ++ rest in
    let split : bytes ≡ joined others ++ drop n bytes = sym (take-append-drop n bytes) ∙ ap (λ (l : List ℕ). l ++ drop n bytes) file.whole in
    let long : length (take n bytes) ≡ n = simp length-take (omega arith) in
    let behind = further us others rest (drop n bytes) each file.each split (omega (arith, ap length file.whole)) in
    no_front (length us) rest cause (omega (arith, behind.1, file.few)) behind.0 fails

pub never_both : (bytes : List ℕ) (us : List FileUpdate) (offset : ℕ) (cause : FileCause) → IntelFile bytes us → IsFault bytes offset cause → ⊥
never_both bytes us offset cause file fault =
    fault.longest (length bytes) us (omega (arith, fault.place, fault.left, ap length fault.split, length-append (joined fault.updates) fault.rest)) (omega arith)
    (subst (λ (l : List ℕ). IntelFile l us) (sym (take_all (length bytes) bytes (omega arith))) file)

-- a fault lies no further than another, since no update begins there
not_further : (bytes : List ℕ) (m n : ℕ) (c d : FileCause) (first : IsFault bytes m c) (second : IsFault bytes n d) → length (joined first.updates) < length (joined second.updates) → ⊥
not_further bytes m n c d first second longer =
    let behind = further first.updates second.updates first.rest second.rest first.file.each second.file.each (sym first.split ∙ second.split) longer in
    no_front (length first.updates) first.rest c (omega (arith, behind.1, second.file.few)) behind.0 (fails_first (length first.updates) first.rest c first.first)

pub one_fault : (bytes : List ℕ) (m n : ℕ) (c d : FileCause) → IsFault bytes m c → IsFault bytes n d → (m ≡ n) × (c ≡ d)
one_fault bytes m n c d first second = elim (cases_lt (length (joined first.updates)) (length (joined second.updates))) [
  | inl less ↦ absurd (not_further bytes m n c d first second less)
  | inr not_less ↦ elim (cases_lt (length (joined second.updates)) (length (joined first.updates))) [
    | inl more ↦ absurd (not_further bytes n m d c second first more)
    | inr not_more ↦
        let same : length (joined first.updates) ≡ length (joined second.updates) = omega arith in
        let whole : joined first.updates ++ first.rest ≡ joined second.updates ++ second.rest = sym first.split ∙ second.split in
        let n = length (joined first.updates) in
        let fronts : joined first.updates ≡ joined second.updates =
        sym (take_at (joined first.updates) first.rest n refl) ∙ ap (λ (l : List ℕ). take n l) whole ∙ take_at (joined second.updates) second.rest n (sym same) in
        let rests : first.rest ≡ second.rest =
        sym (drop_at (joined first.updates) first.rest n refl) ∙ ap (λ (l : List ℕ). drop n l) whole ∙ drop_at (joined second.updates) second.rest n (sym same) in
        let updates = one_reading first.updates second.updates first.file.each second.file.each fronts in
        let here : IsFirstFault (length second.updates) second.rest c =
        subst (λ (l : List ℕ). IsFirstFault (length second.updates) l c) rests (subst (λ (us : List FileUpdate). IsFirstFault (length us) first.rest c) updates first.first) in (
          first.place ∙ same ∙ sym second.place,
          one_first (Fails (length second.updates) second.rest) (update_checks second.rest) c d here second.first,
        )
  ]
]
