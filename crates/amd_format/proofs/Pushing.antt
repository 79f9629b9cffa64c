-- A list of containers grows at its end: by a container with no sections yet, or by a section of the last one.
use Rattle.std.proofs.Common.{◌≡◌, ℕ, ◌+◌, List, [], ◌∷◌, ◌++◌, length, sym, ◌∙◌, ap, arith, append-nil, append_assoc, length-append}
use Rattle.amd_format.specs.Equiv.{IsEquiv}
use Rattle.amd_format.specs.Patch.{IsSection}
use Rattle.amd_format.specs.File.{FileContainer, AreSections, joined_sections, IsContainer, AreContainers, container_bytes, joined, patches_in}

-- a container that has no sections yet
abbrev pub bare : List ℕ → FileContainer
bare e = record { equiv = e; sections = [] }

-- a container and one section more
abbrev pub with_section : FileContainer → List ℕ → FileContainer
with_section c s = record { equiv = c.equiv; sections = c.sections ++ s ∷ [] }

-- the bytes of containers and of one more
pub joined_push : (cs : List FileContainer) (c : FileContainer) → joined (cs ++ c ∷ []) ≡ joined cs ++ container_bytes c
joined_push [] c = append-nil (container_bytes c)
joined_push (b ∷ cs) c =
    ap (λ (l : List ℕ). container_bytes b ++ l) (joined_push cs c) ∙ sym (append_assoc (container_bytes b) (joined cs) (container_bytes c))

-- a container without sections adds its head and table
pub joined_push_bare : (cs : List FileContainer) (c : FileContainer) → c.sections ≡ [] → joined (cs ++ c ∷ []) ≡ joined cs ++ c.equiv
joined_push_bare cs c none =
    joined_push cs c ∙ ap (λ (ss : List (List ℕ)). joined cs ++ (c.equiv ++ joined_sections ss)) none ∙ ap (λ (l : List ℕ). joined cs ++ l) (append-nil c.equiv)

-- they are containers
pub each_push : (cs : List FileContainer) (c : FileContainer) → AreContainers cs → IsContainer c → AreContainers (cs ++ c ∷ [])
each_push [] c each is = (is, tt)
each_push (b ∷ cs) c each is = (each.0, each_push cs c each.1 is)

-- a head with its table is a container
pub bare_is : (e : List ℕ) → IsEquiv e → IsContainer (bare e)
bare_is e is = record { equiv = is; sections = tt }

-- their patches are those before and those of the one more
pub patches_push : (cs : List FileContainer) (c : FileContainer) → patches_in (cs ++ c ∷ []) ≡ patches_in cs + length c.sections
patches_push [] c = omega arith
patches_push (b ∷ cs) c = omega (arith, patches_push cs c)

-- the bytes of sections and of one more
pub joined_sections_push : (ss : List (List ℕ)) (s : List ℕ) → joined_sections (ss ++ s ∷ []) ≡ joined_sections ss ++ s
joined_sections_push [] s = append-nil s
joined_sections_push (t ∷ ss) s =
    ap (λ (l : List ℕ). t ++ l) (joined_sections_push ss s) ∙ sym (append_assoc t (joined_sections ss) s)

-- they are sections
pub sections_push : (ss : List (List ℕ)) (s : List ℕ) → AreSections ss → IsSection s → AreSections (ss ++ s ∷ [])
sections_push [] s each is = (is, tt)
sections_push (t ∷ ss) s each is = (each.0, sections_push ss s each.1 is)

-- the bytes of containers, of which the last has one section more
pub joined_push_section : (cs : List FileContainer) (c : FileContainer) (s : List ℕ) → joined (cs ++ with_section c s ∷ []) ≡ joined (cs ++ c ∷ []) ++ s
joined_push_section cs c s =
    joined_push cs (with_section c s)
    ∙ ap (λ (l : List ℕ). joined cs ++ (c.equiv ++ l)) (joined_sections_push c.sections s)
    ∙ ap (λ (l : List ℕ). joined cs ++ l) (sym (append_assoc c.equiv (joined_sections c.sections) s))
    ∙ sym (append_assoc (joined cs) (container_bytes c) s)
    ∙ ap (λ (l : List ℕ). l ++ s) (sym (joined_push cs c))

-- they are containers
pub each_push_section : (cs : List FileContainer) (c : FileContainer) (s : List ℕ) → AreContainers (cs ++ c ∷ []) → IsSection s → AreContainers (cs ++ with_section c s ∷ [])
each_push_section [] c s each is = (record { equiv = each.0.equiv; sections = sections_push c.sections s each.0.sections is }, tt)
each_push_section (b ∷ cs) c s each is = (each.0, each_push_section cs c s each.1 is)

-- they have one patch more
pub patches_push_section : (cs : List FileContainer) (c : FileContainer) (s : List ℕ) → patches_in (cs ++ with_section c s ∷ []) ≡ patches_in (cs ++ c ∷ []) + 1
patches_push_section [] c s = omega (arith, length-append c.sections (s ∷ []))
patches_push_section (b ∷ cs) c s = omega (arith, patches_push_section cs c s)
