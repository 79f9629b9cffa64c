-- Bytes are read as updates in at most one way.
use Rattle.std.proofs.Common.{◌≡◌, inl, inr, ℕ, ◌+◌, ◌≤◌, List, [], ◌∷◌, ◌++◌, length, take, drop, sym, ◌∙◌, ap, subst, refl, arith, length-append}
use Rattle.std.proofs.lemmas.List.{take_at, drop_at}
use Rattle.intel_format.specs.declared.header.IntelHeader.{IntelHeader}
use Rattle.intel_format.specs.Header.{header_of, data_len, total_len, header_triple}
use Rattle.intel_format.specs.Update.{IsIntelUpdate, IsTable}
use Rattle.intel_format.specs.File.{FileUpdate, AreUpdates, joined}
use Rattle.intel_format.proofs.Front.{header_of-append}

-- an update is as long as its header says, and no shorter than that header
pub update_long : (bytes : List ℕ) (h : IntelHeader) (pairs : List (ℕ × ℕ)) → IsIntelUpdate bytes h pairs → 48 ≤ length bytes
update_long bytes h pairs update = omega (arith, update.whole, update.sound.header_fits)

-- a table has its pairs
one_table : (triple : ℕ) (rest : List ℕ) (p q : List (ℕ × ℕ)) → IsTable triple rest p → IsTable triple rest q → p ≡ q
one_table triple rest p q (inl a) (inl b) = a.1 ∙ sym b.1
one_table triple rest p q (inl a) (inr b) = absurd (omega (arith, b.whole, ap length a.0))
one_table triple rest p q (inr a) (inl b) = absurd (omega (arith, a.whole, ap length b.0))
one_table triple rest p q (inr a) (inr b) = a.entries ∙ sym b.entries

-- what follows an update does not change its header
pub header_at_front : (u : FileUpdate) (rest : List ℕ) → IsIntelUpdate u.bytes u.header u.pairs → header_of (u.bytes ++ rest) ≡ u.header
header_at_front u rest update = header_of-append u.bytes rest (update_long _ _ _ update) ∙ sym update.header

-- two updates at the front of the same bytes are one, and so is what follows them
pub one_front : (u v : FileUpdate) (rest more : List ℕ) → IsIntelUpdate u.bytes u.header u.pairs → IsIntelUpdate v.bytes v.header v.pairs → u.bytes ++ rest ≡ v.bytes ++ more → (u ≡ v) × (rest ≡ more)
one_front u v rest more first second same =
    let headers : u.header ≡ v.header = sym (header_at_front u rest first) ∙ ap header_of same ∙ header_at_front v more second in
    let lengths : length u.bytes ≡ length v.bytes = first.whole ∙ ap total_len headers ∙ sym second.whole in
    let bytes : u.bytes ≡ v.bytes =
    sym (take_at u.bytes rest (length u.bytes) refl) ∙ ap (λ (l : List ℕ). take (length u.bytes) l) same ∙ take_at v.bytes more (length u.bytes) (sym lengths) in
    let after : rest ≡ more =
    sym (drop_at u.bytes rest (length u.bytes) refl) ∙ ap (λ (l : List ℕ). drop (length u.bytes) l) same ∙ drop_at v.bytes more (length u.bytes) (sym lengths) in
    let table : IsTable (header_triple v.header) (drop (48 + data_len v.header) v.bytes) u.pairs =
    subst (λ (h : IntelHeader). IsTable (header_triple h) (drop (48 + data_len h) v.bytes) u.pairs) headers
    (subst (λ (b : List ℕ). IsTable (header_triple u.header) (drop (48 + data_len u.header) b) u.pairs) bytes first.table) in
    let pairs : u.pairs ≡ v.pairs = one_table _ _ _ _ table second.table in (
      λ i. record { bytes = bytes i; header = headers i; pairs = pairs i },
      after,
    )

pub one_reading : (us vs : List FileUpdate) → AreUpdates us → AreUpdates vs → joined us ≡ joined vs → us ≡ vs
one_reading [] [] first second same = refl
one_reading [] (v ∷ vs) first second same =
    absurd (omega (arith, update_long _ _ _ second.0, ap length same, length-append v.bytes (joined vs)))
one_reading (u ∷ us) [] first second same =
    absurd (omega (arith, update_long _ _ _ first.0, ap length same, length-append u.bytes (joined us)))
one_reading (u ∷ us) (v ∷ vs) first second same =
    let front = one_front u v (joined us) (joined vs) first.0 second.0 same in
    λ i. front.0 i ∷ one_reading us vs first.1 second.1 front.1 i
