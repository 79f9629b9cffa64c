-- Bytes are read as containers in at most one way.
use Rattle.std.proofs.Common.{◌≡◌, ◌⊎◌, inl, inr, ℕ, ◌+◌, ◌<◌, List, [], ◌∷◌, ◌++◌, length, take, drop, sym, ◌∙◌, ap, refl, arith, append_assoc, length-append}
use Rattle.std.proofs.lemmas.List.{take_at, drop_at}
use Rattle.uc_bytes.specs.Words.{word}
use Rattle.amd_format.specs.Equiv.{IsEquiv}
use Rattle.amd_format.specs.Patch.{IsSection}
use Rattle.amd_format.specs.File.{FileContainer, AreSections, joined_sections, AreContainers, container_bytes, joined, patches_in}
use Rattle.uc_bytes.proofs.Fronts.{word-append}
use Rattle.amd_format.proofs.Passes.{table_length, patch_length}

-- a head with its table at the front of bytes
pub record EquivFront (bytes : List ℕ) : Type 0 where
  pub equiv : List ℕ
  pub rest : List ℕ
  pub is : IsEquiv equiv
  pub split : bytes ≡ equiv ++ rest

-- a section at the front of bytes
pub record SectionFront (bytes : List ℕ) : Type 0 where
  pub section : List ℕ
  pub rest : List ℕ
  pub is : IsSection section
  pub split : bytes ≡ section ++ rest

-- a container's first word is the magic, and a section's is 1
pub not_both : (bytes : List ℕ) → EquivFront bytes → SectionFront bytes → ⊥
not_both bytes e s =
    let first : word bytes 0 ≡ 0x00414d44 =
    ap (λ (l : List ℕ). word l 0) e.split ∙ word-append e.equiv e.rest 0 (omega (arith, e.is.head)) ∙ e.is.magic in
    let second : word bytes 0 ≡ 1 =
    ap (λ (l : List ℕ). word l 0) s.split ∙ word-append s.section s.rest 0 (omega (arith, s.is.head)) ∙ s.is.kind in
    omega arith

-- two fronts of one length are one
same_fronts : (xs ys rest more : List ℕ) → length xs ≡ length ys → xs ++ rest ≡ ys ++ more → (xs ≡ ys) × (rest ≡ more)
same_fronts xs ys rest more lengths same = (
  sym (take_at xs rest (length xs) refl) ∙ ap (λ (l : List ℕ). take (length xs) l) same ∙ take_at ys more (length xs) (sym lengths),
  sym (drop_at xs rest (length xs) refl) ∙ ap (λ (l : List ℕ). drop (length xs) l) same ∙ drop_at ys more (length xs) (sym lengths),
)

-- two heads with tables at the front of the same bytes are one, and so is what follows them
one_equiv : (d e rest more : List ℕ) → IsEquiv d → IsEquiv e → d ++ rest ≡ e ++ more → (d ≡ e) × (rest ≡ more)
one_equiv d e rest more first second same =
    same_fronts d e rest more (table_length d rest first ∙ ap (λ (l : List ℕ). 12 + word l 8) same ∙ sym (table_length e more second)) same

-- and so are two sections
one_section : (s t rest more : List ℕ) → IsSection s → IsSection t → s ++ rest ≡ t ++ more → (s ≡ t) × (rest ≡ more)
one_section s t rest more first second same =
    same_fronts s t rest more (patch_length s rest first ∙ ap (λ (l : List ℕ). 8 + word l 4) same ∙ sym (patch_length t more second)) same

-- sections go on where others end, before this rest
record SectionsGoOn (ss ts : List (List ℕ)) (rest : List ℕ) : Type 0 where
  front : SectionFront rest
  fewer : length ss < length ts
  shorter : length (joined_sections ss) < length (joined_sections ts)

-- one section more before both
section_before : (s t : List ℕ) (ss ts : List (List ℕ)) (rest : List ℕ) → s ≡ t → SectionsGoOn ss ts rest → SectionsGoOn (s ∷ ss) (t ∷ ts) rest
section_before s t ss ts rest same on = record {
  front = on.front;
  fewer = omega (arith, on.fewer);
  shorter = omega (arith, on.shorter, ap length same, length-append s (joined_sections ss), length-append t (joined_sections ts));
}

-- sections after none
sections_after_none : (t : List ℕ) (ts : List (List ℕ)) (rest more : List ℕ) → IsSection t → rest ≡ (t ++ joined_sections ts) ++ more → SectionsGoOn [] (t ∷ ts) rest
sections_after_none t ts rest more is same = record {
  front = record { section = t; rest = joined_sections ts ++ more; is = is; split = same ∙ append_assoc t (joined_sections ts) more };
  fewer = omega arith;
  shorter = omega (arith, is.head, length-append t (joined_sections ts));
}

-- two lists of sections at the front of the same bytes are one, or one of them goes on where the other ends
compare_sections : (ss ts : List (List ℕ)) (rest more : List ℕ) → AreSections ss → AreSections ts → joined_sections ss ++ rest ≡ joined_sections ts ++ more
    → ((ss ≡ ts) × (rest ≡ more)) ⊎ (SectionsGoOn ss ts rest ⊎ SectionsGoOn ts ss more)
compare_sections [] [] rest more first second same = inl (refl, same)
compare_sections [] (t ∷ ts) rest more first second same = inr (inl (sections_after_none t ts rest more second.0 same))
compare_sections (s ∷ ss) [] rest more first second same = inr (inr (sections_after_none s ss more rest first.0 (sym same)))
compare_sections (s ∷ ss) (t ∷ ts) rest more first second same =
    let front = one_section s t (joined_sections ss ++ rest) (joined_sections ts ++ more) first.0 second.0
    (sym (append_assoc s (joined_sections ss) rest) ∙ same ∙ append_assoc t (joined_sections ts) more) in
    elim (compare_sections ss ts rest more first.1 second.1 front.1) [
      | inl all ↦ inl (λ i. front.0 i ∷ all.0 i, all.1)
      | inr (inl on) ↦ inr (inl (section_before s t ss ts rest front.0 on))
      | inr (inr on) ↦ inr (inr (section_before t s ts ss more (sym front.0) on))
    ]

-- Containers go on where others end, before this rest: by a container, or, where one stands before, by a section.
pub record GoesOn (cs ds : List FileContainer) (rest : List ℕ) : Type 0 where
  pub next : EquivFront rest ⊎ (SectionFront rest × (0 < length cs) × (patches_in cs < patches_in ds))
  pub shorter : length (joined cs) < length (joined ds)

-- the bytes of a container and of those behind it, by their parts
parts : (c : FileContainer) (cs : List FileContainer) (rest : List ℕ) → joined (c ∷ cs) ++ rest ≡ c.equiv ++ (joined_sections c.sections ++ (joined cs ++ rest))
parts c cs rest =
    append_assoc (container_bytes c) (joined cs) rest ∙ append_assoc c.equiv (joined_sections c.sections) (joined cs ++ rest)

-- and their length
pub length_parts : (c : FileContainer) (cs : List FileContainer) → length (joined (c ∷ cs)) ≡ length c.equiv + length (joined_sections c.sections) + length (joined cs)
length_parts c cs = length-append (container_bytes c) (joined cs) ∙ ap (λ (n : ℕ). n + length (joined cs)) (length-append c.equiv (joined_sections c.sections))

-- containers after none
after_none : (d : FileContainer) (ds : List FileContainer) (rest more : List ℕ) → AreContainers (d ∷ ds) → rest ≡ joined (d ∷ ds) ++ more → GoesOn [] (d ∷ ds) rest
after_none d ds rest more each same = record {
  next = inl (record { equiv = d.equiv; rest = joined_sections d.sections ++ (joined ds ++ more); is = each.0.equiv; split = same ∙ parts d ds more });
  shorter = omega (arith, each.0.equiv.head, length_parts d ds);
}

-- one container more before both
container_before : (c d : FileContainer) (cs ds : List FileContainer) (rest : List ℕ) → c ≡ d → GoesOn cs ds rest → GoesOn (c ∷ cs) (d ∷ ds) rest
container_before c d cs ds rest same on =
    let counts : length c.sections ≡ length d.sections = ap (λ (b : FileContainer). length b.sections) same in
    let lengths : length (container_bytes c) ≡ length (container_bytes d) = ap (λ (b : FileContainer). length (container_bytes b)) same in
    record {
      next = elim on.next [ inl front ↦ inl front | inr (front, some, fewer) ↦ inr (front, omega arith, omega arith) ];
      shorter = omega (arith, on.shorter, length-append (container_bytes c) (joined cs), length-append (container_bytes d) (joined ds));
    }

-- Where the sections of one go on behind those of the other, no further container stands there.
section_next : (c d : FileContainer) (cs ds : List FileContainer) (rest : List ℕ) → AreContainers cs → length c.equiv ≡ length d.equiv → SectionsGoOn c.sections d.sections (joined cs ++ rest) → GoesOn (c ∷ cs) (d ∷ ds) rest
section_next c d [] ds rest each lengths on = record {
  next = inr (on.front, omega arith, omega (arith, on.fewer));
  shorter = omega (arith, on.shorter, length_parts c [], length_parts d ds);
}
section_next c d (b ∷ cs) ds rest each lengths on =
    absurd (not_both (joined (b ∷ cs) ++ rest) (record { equiv = b.equiv; rest = joined_sections b.sections ++ (joined cs ++ rest); is = each.0.equiv; split = parts b cs rest }) on.front)

-- two lists of containers at the front of the same bytes are one, or one of them goes on where the other ends
pub compare : (cs ds : List FileContainer) (rest more : List ℕ) → AreContainers cs → AreContainers ds → joined cs ++ rest ≡ joined ds ++ more
    → ((cs ≡ ds) × (rest ≡ more)) ⊎ (GoesOn cs ds rest ⊎ GoesOn ds cs more)
compare [] [] rest more first second same = inl (refl, same)
compare [] (d ∷ ds) rest more first second same = inr (inl (after_none d ds rest more second same))
compare (c ∷ cs) [] rest more first second same = inr (inr (after_none c cs more rest first (sym same)))
compare (c ∷ cs) (d ∷ ds) rest more first second same =
    let heads = one_equiv c.equiv d.equiv (joined_sections c.sections ++ (joined cs ++ rest)) (joined_sections d.sections ++ (joined ds ++ more)) first.0.equiv second.0.equiv
    (sym (parts c cs rest) ∙ same ∙ parts d ds more) in
    elim (compare_sections c.sections d.sections (joined cs ++ rest) (joined ds ++ more) first.0.sections second.0.sections heads.1) [
      | inr (inl on) ↦ inr (inl (section_next c d cs ds rest first.1 (ap length heads.0) on))
      | inr (inr on) ↦ inr (inr (section_next d c ds cs more second.1 (sym (ap length heads.0)) on))
      | inl sections ↦
          let same_first : c ≡ d = λ i. record { equiv = heads.0 i; sections = sections.0 i } in
          elim (compare cs ds rest more first.1 second.1 sections.1) [
            | inl all ↦ inl (λ i. same_first i ∷ all.0 i, all.1)
            | inr (inl on) ↦ inr (inl (container_before c d cs ds rest same_first on))
            | inr (inr on) ↦ inr (inr (container_before d c ds cs more (sym same_first) on))
          ]
    ]

-- the same bytes are the same containers
pub one_reading : (cs ds : List FileContainer) → AreContainers cs → AreContainers ds → joined cs ≡ joined ds → cs ≡ ds
one_reading cs ds first second same =
    elim (compare cs ds [] [] first second (ap (λ (l : List ℕ). l ++ []) same)) [
      | inl all ↦ all.0
      | inr (inl on) ↦ absurd (omega (arith, on.shorter, ap length same))
      | inr (inr on) ↦ absurd (omega (arith, on.shorter, ap length same))
    ]
