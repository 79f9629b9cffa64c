-- What stands behind a unit that ends the bytes.
use Rattle.std.proofs.Common.{◌≡◌, ◌≢◌, ◌⊎◌, inl, inr, ℕ, ◌+◌, ◌-◌, ◌/◌, ◌%◌, ◌<◌, ◌≤◌, List, [], ◌∷◌, ◌++◌, length, drop, map, refl, sym, ◌∙◌, ap, subst, arith, append-nil, append_assoc, length-append, length-drop, IsTrue}
use Rattle.std.specs.Prelude.{◌↔◌}
use Rattle.std.proofs.lemmas.Bool.{cases_eq}
use Rattle.fault_rule.specs.Checks.{IsFirst}
use Rattle.std.proofs.lemmas.List.{map-append, drop_at}
use Rattle.uc_bytes.specs.Words.{word, half}
use Rattle.uc_bytes.specs.declared.causes.FileCause.{FileCause}
use Rattle.uc_bytes.specs.declared.causes.FileCause.TheVariants.{FamilySize, Chipset, TooMany}
use Rattle.uc_bytes.proofs.Fronts.{word-append, half-append}
use Rattle.amd_format.specs.Equiv.{IsEquiv, amd_magic, rows_of}
use Rattle.amd_format.specs.Patch.{IsSection, IsPatch, PastBound, patch_of, patch_family, patch_id, patch_rev, north_device, south_device}
use Rattle.amd_format.specs.File.{FileContainer, AreContainers, container_bytes, joined_sections, joined, patches_in}
use Rattle.amd_format.specs.Checks.{SectionFails, BeginsContainer, IsFirstFault, IsFirstEquivFault, IsFirstSectionFault, IsFault}
use Rattle.amd_format.specs.Settled.{IsCut}
use Rattle.amd_format.proofs.Pushing.{bare, with_section, joined_push, joined_push_bare, each_push, bare_is, patches_push, joined_push_section, each_push_section, patches_push_section}
use Rattle.amd_format.proofs.ReadingOrFault.{fault_of}
use Rattle.amd_file.specs.declared.part.AmdPart.{AmdPart}
use Rattle.amd_file.specs.declared.part.AmdPart.TheVariants.{Container, Row, Patch}
use Rattle.amd_file.specs.declared.container.AmdPatch.{AmdPatch}
use Rattle.amd_file.specs.Patches.{patch_at, patches_at}
use Rattle.amd_file.specs.declared.progress.PatchHeader.{PatchHeader}
use Rattle.amd_file.specs.Step.{IsAtEnd}
use Rattle.amd_file.specs.Parsing.{Came, IsTableFront, IsHeaderOf, IsInHead, IsInNext, IsInRows, IsInTail, IsInHeader, IsInBody, IsFailed, head_at, told_of_table, told_of}
use Rattle.amd_file.proofs.Coming.{came_as}
use Rattle.amd_file.proofs.Rows.{rows-none, rows-push, rows-stay}

-- ---- faults

module _ (bytes rest : List ℕ) (fed start patches : ℕ) (came : Came bytes fed start patches rest) (cause : FileCause) where
  -- the first check that fails of what stands behind the containers is the fault of the bytes
  pub fault_behind : (came.containers ≡ []) ⊎ (0 < length rest) → IsFirstFault came.containers rest cause → IsFault bytes start cause
  fault_behind left first =
      subst (λ (n : ℕ). IsFault bytes n cause) (sym came.place) (fault_of bytes came.containers rest cause came.split came.each came.few left first)

  -- and no further bytes undo it, where it does not say that they are cut off
  pub settled_behind : (IsCut cause → ⊥) → 0 < length rest → IsFirstFault came.containers rest cause → IsFailed bytes fed (record { offset = start; cause = cause })
  settled_behind uncut left first = record { all = came.all; settled = (fault_behind (inr left) first, uncut) }

-- ---- containers with one more at their end

-- they are told behind the others
told_push : (start : ℕ) (cs : List FileContainer) (c : FileContainer)
    → told_of start (cs ++ c ∷ []) ≡ told_of start cs ++ (told_of_table (start + length (joined cs)) (length (drop 12 c.equiv)) (rows_of c.equiv) ++ map Patch (patches_at (start + length (joined cs) + length c.equiv) c.sections))
told_push start [] c =
    ap (λ (n : ℕ). told_of_table n (length (drop 12 c.equiv)) (rows_of c.equiv) ++ (map Patch (patches_at (n + length c.equiv) c.sections) ++ [])) (omega arith)
    ∙ ap (λ (l : List AmdPart). told_of_table (start + 0) (length (drop 12 c.equiv)) (rows_of c.equiv) ++ l) (append-nil (map Patch (patches_at (start + 0 + length c.equiv) c.sections)))
told_push start (b ∷ cs) c =
    let head = told_of_table start (length (drop 12 b.equiv)) (rows_of b.equiv) in
    let patches = map Patch (patches_at (start + length b.equiv) b.sections) in
    let next = start + length (container_bytes b) in
    let added = λ (n : ℕ). told_of_table n (length (drop 12 c.equiv)) (rows_of c.equiv) ++ map Patch (patches_at (n + length c.equiv) c.sections) in
    let place : next + length (joined cs) ≡ start + length (joined (b ∷ cs)) = omega (arith, length-append (container_bytes b) (joined cs)) in
    ap (λ (l : List AmdPart). head ++ (patches ++ l)) (told_push next cs c ∙ ap (λ (n : ℕ). told_of next cs ++ added n) place)
    ∙ ap (λ (l : List AmdPart). head ++ l) (sym (append_assoc patches (told_of next cs) (added (start + length (joined (b ∷ cs))))))
    ∙ sym (append_assoc head (patches ++ told_of next cs) (added (start + length (joined (b ∷ cs)))))

-- one section more is one patch more
patches_push_at : (start : ℕ) (ss : List (List ℕ)) (s : List ℕ) → patches_at start (ss ++ s ∷ []) ≡ patches_at start ss ++ patch_at (start + length (joined_sections ss)) s ∷ []
patches_push_at start [] s = ap (λ (n : ℕ). patch_at n s ∷ []) (omega arith)
patches_push_at start (t ∷ ss) s =
    ap (λ (l : List AmdPatch). patch_at start t ∷ l)
    (patches_push_at (start + length t) ss s ∙ ap (λ (n : ℕ). patches_at (start + length t) ss ++ patch_at n s ∷ []) (omega (arith, length-append t (joined_sections ss))))

-- containers of which the last has one section more tell one patch more
told_push_section : (cs : List FileContainer) (c : FileContainer) (s : List ℕ)
    → told_of 0 (cs ++ with_section c s ∷ []) ≡ told_of 0 (cs ++ c ∷ []) ++ Patch (patch_at (length (joined (cs ++ c ∷ []))) s) ∷ []
told_push_section cs c s =
    let place = 0 + length (joined cs) in
    let table = told_of_table place (length (drop 12 c.equiv)) (rows_of c.equiv) in
    let old = map Patch (patches_at (place + length c.equiv) c.sections) in
    let last = λ (n : ℕ). Patch (patch_at n s) ∷ [] in
    let end : place + length c.equiv + length (joined_sections c.sections) ≡ length (joined (cs ++ c ∷ [])) =
    omega (arith, ap (λ (l : List ℕ). length l) (joined_push cs c), length-append (joined cs) (container_bytes c), length-append c.equiv (joined_sections c.sections)) in
    let more : map Patch (patches_at (place + length c.equiv) (c.sections ++ s ∷ [])) ≡ old ++ last (length (joined (cs ++ c ∷ []))) =
    ap (λ (l : List AmdPatch). map Patch l) (patches_push_at (place + length c.equiv) c.sections s)
    ∙ map-append Patch (patches_at (place + length c.equiv) c.sections) (patch_at (place + length c.equiv + length (joined_sections c.sections)) s ∷ [])
    ∙ ap (λ (n : ℕ). old ++ last n) end in
    told_push 0 cs (with_section c s)
    ∙ ap (λ (l : List AmdPart). told_of 0 cs ++ (table ++ l)) more
    ∙ ap (λ (l : List AmdPart). told_of 0 cs ++ l) (sym (append_assoc table old (last (length (joined (cs ++ c ∷ []))))))
    ∙ sym (append_assoc (told_of 0 cs) (table ++ old) (last (length (joined (cs ++ c ∷ [])))))
    ∙ ap (λ (l : List AmdPart). l ++ last (length (joined (cs ++ c ∷ [])))) (sym (told_push 0 cs c))

-- a list with an element at its end is not empty
some_push : (cs : List FileContainer) (c : FileContainer) → 0 < length (cs ++ c ∷ [])
some_push cs c = omega (arith, length-append cs (c ∷ []))

-- the last of some containers
last_of : (cs : List FileContainer) → 0 < length cs → (front : List FileContainer) × (last : FileContainer) × (cs ≡ front ++ last ∷ [])
last_of [] some = absurd (omega (arith, some))
last_of (c ∷ []) some = ([], c, refl)
last_of (c ∷ d ∷ cs) some =
    let found = last_of (d ∷ cs) (omega arith) in
    (c ∷ found.0, found.1, ap (λ (l : List FileContainer). c ∷ l) found.2)

-- what is not other than 0 is 0
zero_of : (n : ℕ) → (n ≢ 0 → ⊥) → n ≡ 0
zero_of n not = elim (cases_eq n 0) [ inl none ↦ none | inr other ↦ absurd (not other) ]

-- a section that came whole is one more of the last container
section_ends : (bytes s : List ℕ) (told : List AmdPart) (fed start patches : ℕ) (came : Came bytes fed start patches s) → IsSection s → patches < 65536
    → (front : List FileContainer) (c : FileContainer) → came.containers ≡ front ++ c ∷ [] → (header : PatchHeader) → told ≡ told_of 0 came.containers
    → header.len ≡ length (patch_of s) → header.rev ≡ patch_rev (patch_of s) → header.id ≡ patch_id (patch_of s)
    → IsInNext bytes (told ++ Patch (record { start = start + 8; len = header.len; rev = header.rev; id = header.id }) ∷ []) fed fed (patches + 1) []
section_ends bytes s told fed start patches came is few front c last header parts len rev id =
    let cs = front ++ with_section c s ∷ [] in
    let old = front ++ c ∷ [] in
    let place : start ≡ length (joined old) = came.place ∙ ap (λ (ds : List FileContainer). length (joined ds)) last in
    let joins : bytes ≡ joined cs = came.split ∙ ap (λ (ds : List FileContainer). joined ds ++ s) last ∙ sym (joined_push_section front c s) in
    let counts : patches ≡ patches_in old = came.counts ∙ ap (λ (ds : List FileContainer). patches_in ds) last in
    let same : Patch (record { start = start + 8; len = header.len; rev = header.rev; id = header.id }) ≡ Patch (patch_at (length (joined old)) s) =
    λ i. Patch (record { start = place i + 8; len = len i; rev = rev i; id = id i }) in
    record {
      came = record {
        containers = cs;
        split = joins ∙ sym (append-nil (joined cs));
        each = each_push_section front c s (subst AreContainers last came.each) is;
        few = omega (arith, few, counts, patches_push_section front c s);
        all = came.all;
        place = came.all ∙ ap (λ (l : List ℕ). length l) joins;
        counts = omega (arith, counts, patches_push_section front c s);
      };
      some = some_push front (with_section c s);
      parts = ap (λ (l : List AmdPart). l ++ Patch (record { start = start + 8; len = header.len; rev = header.rev; id = header.id }) ∷ []) (parts ∙ ap (λ (ds : List FileContainer). told_of 0 ds) last)
          ∙ ap (λ (p : AmdPart). told_of 0 old ++ p ∷ []) same
          ∙ sym (told_push_section front c s);
    }

-- ---- a container's head

module _ (bytes unit : List ℕ) (told : List AmdPart) (fed start patches : ℕ) (at : IsInHead bytes told fed start patches unit) (long : length unit ≡ 12) where
  pub head_fails : (cause : FileCause) → (IsCut cause → ⊥) → IsFirstEquivFault unit cause → IsFailed bytes fed (record { offset = start; cause = cause })
  head_fails cause uncut first = settled_behind bytes unit fed start patches at.came cause uncut (omega (arith, long)) (inl (at.begins, first))

  pub head_passes : (size : ℕ) → size ≡ word unit 8 → word unit 0 ≡ amd_magic → word unit 4 ≡ 0 → 16 ≤ size
      → IsInRows bytes (told ++ Container (head_at start size) ∷ []) fed start patches (size / 16 - 1) (size % 16) []
  head_passes size is magic kind some = record {
    front = unit;
    came = came_as bytes unit (unit ++ []) fed start patches (sym (append-nil unit)) at.came;
    table = record { count = 0; long = omega (arith, long); magic = magic; kind = kind; some_row = omega (arith, is, some) };
    size = omega (arith, long, is, some);
    short = omega arith;
    parts = ap (λ (l : List AmdPart). l ++ Container (head_at start size) ∷ []) at.parts
        ∙ ap (λ (n : ℕ). told_of 0 at.came.containers ++ Container (head_at start n) ∷ []) is
        ∙ ap (λ (rows : List (ℕ × ℕ)). told_of 0 at.came.containers ++ told_of_table start (word unit 8) rows) (sym (rows-none unit long));
  }

-- ---- what follows a table or a section

module _ (bytes unit : List ℕ) (told : List AmdPart) (fed start patches : ℕ) (at : IsInNext bytes told fed start patches unit) (long : length unit ≡ 8) where
  pub next_magic : word unit 0 ≡ amd_magic → IsInHead bytes told fed start patches unit
  next_magic magic = record { came = at.came; begins = inr (omega (arith, long), magic); parts = at.parts }

  -- no container begins here
  next_no_container : word unit 0 ≢ amd_magic → BeginsContainer at.came.containers unit → ⊥
  next_no_container other (inl none) = omega (arith, at.some, ap (λ (cs : List FileContainer). length cs) none)
  next_no_container other (inr magic) = other magic.1

  -- the section has a fault
  pub next_fails : (cause : FileCause) → (IsCut cause → ⊥) → word unit 0 ≢ amd_magic → ((before : ℕ) → IsFirstSectionFault before unit cause) → IsFailed bytes fed (record { offset = start; cause = cause })
  next_fails cause uncut other first =
      settled_behind bytes unit fed start patches at.came cause uncut (omega (arith, long)) (inr (next_no_container other, first (patches_in at.came.containers)))

  pub next_section : (size : ℕ) → size ≡ word unit 4 → word unit 0 ≡ 1 → 64 ≤ size → IsInHeader bytes told fed start patches size []
  next_section size is kind least = record {
    front = unit;
    came = came_as bytes unit (unit ++ []) fed start patches (sym (append-nil unit)) at.came;
    some = at.some;
    section = record { long = long; kind = kind; states = sym is; least = least };
    parts = at.parts;
  }

-- ---- a table

-- a table that came whole is one more container
table_ends : (bytes equiv : List ℕ) (told : List AmdPart) (fed start patches : ℕ) (came : Came bytes fed start patches equiv) → IsEquiv equiv
    → told ≡ told_of 0 came.containers ++ told_of_table start (word equiv 8) (rows_of equiv) → IsInNext bytes told fed fed patches []
table_ends bytes equiv told fed start patches came is parts =
    let cs = came.containers in
    let c : FileContainer = bare equiv in
    let joins : joined (cs ++ c ∷ []) ≡ joined cs ++ equiv = joined_push_bare cs c refl in
    let table_len : word equiv 8 ≡ length (drop 12 equiv) = omega (arith, is.whole, length-drop 12 equiv) in
    record {
      came = record {
        containers = cs ++ c ∷ [];
        split = came.split ∙ sym joins ∙ sym (append-nil (joined (cs ++ c ∷ [])));
        each = each_push cs c came.each (bare_is equiv is);
        few = omega (arith, came.few, patches_push cs c);
        all = came.all;
        place = came.all ∙ ap (λ (l : List ℕ). length l) (came.split ∙ sym joins);
        counts = omega (arith, came.counts, patches_push cs c);
      };
      some = some_push cs c;
      parts = parts
          ∙ ap (λ (n : ℕ). told_of 0 cs ++ told_of_table start n (rows_of equiv)) table_len
          ∙ ap (λ (n : ℕ). told_of 0 cs ++ told_of_table n (length (drop 12 equiv)) (rows_of equiv)) (omega (arith, came.place))
          ∙ ap (λ (l : List AmdPart). told_of 0 cs ++ l) (sym (append-nil (told_of_table (0 + length (joined cs)) (length (drop 12 equiv)) (rows_of equiv))))
          ∙ sym (told_push 0 cs c);
    }

-- rows behind a head, and then bytes that are no row
equiv_is : (front passed : List ℕ) → IsTableFront front → length front + length passed ≡ 12 + word front 8 → IsEquiv (front ++ passed)
equiv_is front passed table whole =
    let size : word (front ++ passed) 8 ≡ word front 8 = word-append front passed 8 (omega (arith, table.long)) in
    record {
      head = omega (arith, table.long, length-append front passed);
      magic = word-append front passed 0 (omega (arith, table.long)) ∙ table.magic;
      kind = word-append front passed 4 (omega (arith, table.long)) ∙ table.kind;
      some_row = subst (λ (n : ℕ). 16 ≤ n) (sym size) table.some_row;
      whole = omega (arith, whole, size, length-append front passed);
    }

module _ (bytes unit : List ℕ) (told : List AmdPart) (fed start patches more tail : ℕ) (at : IsInRows bytes told fed start patches more tail unit) (long : length unit ≡ 16) where
  -- what stands of the table with the row
  abbrev longer : List ℕ
  longer = at.front ++ unit

  size_stays : word longer 8 ≡ word at.front 8
  size_stays = word-append at.front unit 8 (omega (arith, at.table.long))

  table_grows : IsTableFront longer
  table_grows = record {
    count = at.table.count + 1;
    long = omega (arith, at.table.long, long, length-append at.front unit);
    magic = word-append at.front unit 0 (omega (arith, at.table.long)) ∙ at.table.magic;
    kind = word-append at.front unit 4 (omega (arith, at.table.long)) ∙ at.table.kind;
    some_row = subst (λ (n : ℕ). 16 ≤ n) (sym size_stays) at.table.some_row;
  }

  -- the row is told
  row_told : told ++ Row (word unit 0, half unit 12) ∷ [] ≡ told_of 0 at.came.containers ++ told_of_table start (word longer 8) (rows_of longer)
  row_told =
      let row : ℕ × ℕ = (word unit 0, half unit 12) in
      let old = told_of 0 at.came.containers in
      let rows = rows_of at.front in
      ap (λ (l : List AmdPart). l ++ Row row ∷ []) at.parts
      ∙ append_assoc old (told_of_table start (word at.front 8) rows) (Row row ∷ [])
      ∙ ap (λ (l : List AmdPart). old ++ (Container (head_at start (word at.front 8)) ∷ l)) (sym (map-append Row rows (row ∷ [])))
      ∙ ap (λ (l : List (ℕ × ℕ)). old ++ told_of_table start (word at.front 8) l) (sym (rows-push at.front unit at.table.count at.table.long long))
      ∙ ap (λ (n : ℕ). old ++ told_of_table start n (rows_of longer)) (sym size_stays)

  pub row_on : 0 < more → IsInRows bytes (told ++ Row (word unit 0, half unit 12) ∷ []) fed start patches (more - 1) tail []
  row_on some = record {
    front = longer;
    came = came_as bytes longer (longer ++ []) fed start patches (sym (append-nil longer)) at.came;
    table = table_grows;
    size = omega (arith, at.size, size_stays, long, length-append at.front unit, some);
    short = at.short;
    parts = row_told;
  }

  pub row_tail : more ≡ 0 → 0 < tail → IsInTail bytes (told ++ Row (word unit 0, half unit 12) ∷ []) fed start patches (tail - 1) []
  row_tail none some = record {
    front = longer;
    passed = [];
    came = came_as bytes longer ((longer ++ []) ++ []) fed start patches (sym (append-nil longer) ∙ sym (append-nil (longer ++ []))) at.came;
    table = table_grows;
    size = omega (arith, at.size, size_stays, long, length-append at.front unit, none, some);
    short = omega (arith, at.short, some);
    parts = row_told;
  }

  pub row_ends : more ≡ 0 → tail ≡ 0 → IsInNext bytes (told ++ Row (word unit 0, half unit 12) ∷ []) fed fed patches []
  row_ends none no_tail =
      let is : IsEquiv (longer ++ []) = equiv_is longer [] table_grows (omega (arith, at.size, size_stays, long, length-append at.front unit, none, no_tail)) in
      table_ends bytes longer (told ++ Row (word unit 0, half unit 12) ∷ []) fed start patches at.came (subst IsEquiv (append-nil longer) is) row_told

module _ (bytes unit : List ℕ) (told : List AmdPart) (fed start patches left : ℕ) (at : IsInTail bytes told fed start patches left unit) where
  pub tail_on : length unit ≤ left → IsInTail bytes told fed start patches (left - length unit) []
  tail_on inside =
      let rest = at.front ++ (at.passed ++ unit) in
      record {
        front = at.front;
        passed = at.passed ++ unit;
        came = came_as bytes ((at.front ++ at.passed) ++ unit) (rest ++ []) fed start patches (append_assoc at.front at.passed unit ∙ sym (append-nil rest)) at.came;
        table = at.table;
        size = omega (arith, at.size, inside, length-append at.passed unit);
        short = omega (arith, at.short, inside, length-append at.passed unit);
        parts = at.parts;
      }

  pub tail_ends : length unit ≡ left + 1 → IsInNext bytes told fed fed patches []
  tail_ends all =
      let passed = at.passed ++ unit in
      let equiv = at.front ++ passed in
      let is : IsEquiv equiv = equiv_is at.front passed at.table (omega (arith, at.size, all, length-append at.passed unit)) in
      let came : Came bytes fed start patches equiv = came_as bytes ((at.front ++ at.passed) ++ unit) equiv fed start patches (append_assoc at.front at.passed unit) at.came in
      let size : word at.front 8 ≡ word equiv 8 = sym (word-append at.front passed 8 (omega (arith, at.table.long))) in
      let rows : rows_of at.front ≡ rows_of equiv =
      sym (rows-stay at.front passed at.table.count at.table.long (omega (arith, at.short, all, length-append at.passed unit))) in
      table_ends bytes equiv told fed start patches (came_as bytes ((at.front ++ at.passed) ++ unit) equiv fed start patches (append_assoc at.front at.passed unit) at.came) is
      (at.parts
      ∙ ap (λ (n : ℕ). told_of 0 at.came.containers ++ told_of_table start n (rows_of at.front)) size
      ∙ ap (λ (l : List (ℕ × ℕ)). told_of 0 at.came.containers ++ told_of_table start (word equiv 8) l) rows)

-- ---- a patch

module _ (bytes unit : List ℕ) (told : List AmdPart) (fed start patches : ℕ) (header : PatchHeader) (at : IsInHeader bytes told fed start patches header.len unit) (long : length unit ≡ 64) (is : IsHeaderOf unit header) where
  pub header_on : 64 < header.len → IsInBody bytes told fed start patches header (header.len - 65) []
  header_on more = record {
    front = at.front;
    patch = unit;
    came = came_as bytes (at.front ++ unit) ((at.front ++ unit) ++ []) fed start patches (sym (append-nil (at.front ++ unit))) at.came;
    some = at.some;
    section = at.section;
    is_header = is;
    size = omega (arith, long, more);
    parts = at.parts;
  }

  pub header_ends : header.len ≤ 64 → IsAtEnd bytes told fed start patches header
  header_ends no_more = record {
    front = at.front;
    patch = unit;
    came = at.came;
    some = at.some;
    section = at.section;
    is_header = is;
    size = omega (arith, long, no_more, at.section.least);
    parts = at.parts;
  }

-- a header stands at the front of a patch whatever follows
header_stays : (patch more : List ℕ) (header : PatchHeader) → IsHeaderOf patch header → IsHeaderOf (patch ++ more) header
header_stays patch more header is =
    let north : north_device (patch ++ more) ≡ north_device patch = word-append patch more 16 (omega (arith, is.long)) in
    let south : south_device (patch ++ more) ≡ south_device patch = word-append patch more 20 (omega (arith, is.long)) in
    record {
      long = omega (arith, is.long, length-append patch more);
      rev = is.rev ∙ sym (word-append patch more 4 (omega (arith, is.long)));
      id = is.id ∙ sym (half-append patch more 24 (omega (arith, is.long)));
      for_chipset = subst (λ (n : ℕ). IsTrue header.for_chipset ↔ ((n ≢ 0) ⊎ (south_device (patch ++ more) ≢ 0))) (sym north) (subst (λ (n : ℕ). IsTrue header.for_chipset ↔ ((north_device patch ≢ 0) ⊎ (n ≢ 0))) (sym south) is.for_chipset);
    }

module _ (bytes unit : List ℕ) (told : List AmdPart) (fed start patches : ℕ) (header : PatchHeader) (left : ℕ) (at : IsInBody bytes told fed start patches header left unit) where
  pub body_on : length unit ≤ left → IsInBody bytes told fed start patches header (left - length unit) []
  body_on inside =
      let rest = at.front ++ (at.patch ++ unit) in
      record {
        front = at.front;
        patch = at.patch ++ unit;
        came = came_as bytes ((at.front ++ at.patch) ++ unit) (rest ++ []) fed start patches (append_assoc at.front at.patch unit ∙ sym (append-nil rest)) at.came;
        some = at.some;
        section = at.section;
        is_header = header_stays at.patch unit header at.is_header;
        size = omega (arith, at.size, inside, length-append at.patch unit);
        parts = at.parts;
      }

  pub body_ends : length unit ≡ left + 1 → IsAtEnd bytes told fed start patches header
  body_ends all = record {
    front = at.front;
    patch = at.patch ++ unit;
    came = came_as bytes ((at.front ++ at.patch) ++ unit) (at.front ++ (at.patch ++ unit)) fed start patches (append_assoc at.front at.patch unit) at.came;
    some = at.some;
    section = at.section;
    is_header = header_stays at.patch unit header at.is_header;
    size = omega (arith, at.size, all, length-append at.patch unit);
    parts = at.parts;
  }

module _ (bytes : List ℕ) (told : List AmdPart) (fed start patches : ℕ) (header : PatchHeader) (at : IsAtEnd bytes told fed start patches header) where
  abbrev whole : List ℕ
  whole = at.front ++ at.patch

  -- its head and header are those of the section
  kind_is : word whole 0 ≡ 1
  kind_is = word-append at.front at.patch 0 (omega (arith, at.section.long)) ∙ at.section.kind

  size_is : word whole 4 ≡ header.len
  size_is = word-append at.front at.patch 4 (omega (arith, at.section.long)) ∙ at.section.states

  patch_is : patch_of whole ≡ at.patch
  patch_is = drop_at at.front at.patch 8 at.section.long

  long_is : length whole ≡ 8 + header.len
  long_is = omega (arith, length-append at.front at.patch, at.section.long, at.size)

  -- no container begins there
  no_container : BeginsContainer at.came.containers whole → ⊥
  no_container (inl none) = omega (arith, at.some, ap (λ (cs : List FileContainer). length cs) none)
  no_container (inr magic) = omega (arith, magic.1, kind_is)

  -- the checks of its size pass, and one of the others is the first that fails
  pub end_fails : (cause : FileCause) → (IsCut cause → ⊥) → ((before : ℕ) → before ≡ patches → IsFirst (SectionFails before whole) (FamilySize ∷ Chipset ∷ TooMany ∷ []) cause) → IsFailed bytes fed (record { offset = start; cause = cause })
  end_fails cause uncut first =
      let before = patches_in at.came.containers in
      let later = first before (sym at.came.counts) in
      settled_behind bytes whole fed start patches at.came cause uncut (omega (arith, long_is)) (inr (no_container, inr (λ short. omega (arith, short, long_is), inr (λ other. other kind_is, inr (λ small. omega (arith, small, size_is, at.section.least), inr (λ cut. omega (arith, cut, size_is, long_is), later))))))

  past_bound : (before : ℕ) → PastBound (patch_family header.id) header.len → SectionFails before whole FamilySize
  past_bound before past =
      subst (λ (n : ℕ). PastBound (patch_family (patch_id (patch_of whole))) n) (sym size_is)
      (subst (λ (l : List ℕ). PastBound (patch_family (patch_id l)) header.len) (sym patch_is) (subst (λ (n : ℕ). PastBound (patch_family n) header.len) at.is_header.id past))

  within_bound : (before : ℕ) → (PastBound (patch_family header.id) header.len → ⊥) → SectionFails before whole FamilySize → ⊥
  within_bound before not past =
      not (subst (λ (n : ℕ). PastBound (patch_family n) header.len) (sym at.is_header.id)
      (subst (λ (l : List ℕ). PastBound (patch_family (patch_id l)) header.len) patch_is (subst (λ (n : ℕ). PastBound (patch_family (patch_id (patch_of whole))) n) size_is past)))

  for_chipset : (before : ℕ) → IsTrue header.for_chipset → SectionFails before whole Chipset
  for_chipset before device = subst (λ (l : List ℕ). (north_device l ≢ 0) ⊎ (south_device l ≢ 0)) (sym patch_is) (at.is_header.for_chipset.0 device)

  for_no_chipset : (before : ℕ) → (IsTrue header.for_chipset → ⊥) → SectionFails before whole Chipset → ⊥
  for_no_chipset before none fails = none (at.is_header.for_chipset.1 (subst (λ (l : List ℕ). (north_device l ≢ 0) ⊎ (south_device l ≢ 0)) patch_is fails))

  pub end_past : PastBound (patch_family header.id) header.len → IsFailed bytes fed (record { offset = start; cause = FamilySize })
  end_past past = end_fails FamilySize (λ cut. cut) (λ before is. inl (past_bound before past, refl))

  pub end_chipset : (PastBound (patch_family header.id) header.len → ⊥) → IsTrue header.for_chipset → IsFailed bytes fed (record { offset = start; cause = Chipset })
  end_chipset bounded device = end_fails Chipset (λ cut. cut) (λ before is. inr (within_bound before bounded, inl (for_chipset before device, refl)))

  pub end_many : (PastBound (patch_family header.id) header.len → ⊥) → (IsTrue header.for_chipset → ⊥) → 65536 ≤ patches → IsFailed bytes fed (record { offset = start; cause = TooMany })
  end_many bounded none many =
      end_fails TooMany (λ cut. cut) (λ before is. inr (within_bound before bounded, inr (for_no_chipset before none, inl (omega (arith, is, many), refl))))

  -- a device number that is not other than 0
  zero_by : (n m : ℕ) → ((n ≢ 0) ⊎ (m ≢ 0) → ⊥) → (n ≡ 0) × (m ≡ 0)
  zero_by n m not = (zero_of n (λ other. not (inl other)), zero_of m (λ other. not (inr other)))

  pub end_good : (PastBound (patch_family header.id) header.len → ⊥) → (IsTrue header.for_chipset → ⊥) → patches < 65536
      → IsInNext bytes (told ++ Patch (record { start = start + 8; len = header.len; rev = header.rev; id = header.id }) ∷ []) fed fed (patches + 1) []
  end_good bounded none few =
      let devices = zero_by (north_device at.patch) (south_device at.patch) (λ some. none (at.is_header.for_chipset.1 some)) in
      let patch : IsPatch at.patch = record {
        header = at.is_header.long;
        bounded = λ past. bounded (subst (λ (n : ℕ). PastBound (patch_family n) header.len) (sym at.is_header.id) (subst (λ (n : ℕ). PastBound (patch_family (patch_id at.patch)) n) at.size past));
        no_north = devices.0;
        no_south = devices.1;
      } in
      let section : IsSection whole = record {
        head = omega (arith, long_is);
        kind = kind_is;
        whole = omega (arith, long_is, size_is);
        patch = subst IsPatch (sym patch_is) patch;
      } in
      let last = last_of at.came.containers at.some in
      section_ends bytes whole told fed start patches at.came section few last.0 last.1 last.2 header at.parts (sym (ap (λ (l : List ℕ). length l) patch_is ∙ at.size)) (at.is_header.rev ∙ ap patch_rev (sym patch_is)) (at.is_header.id ∙ ap patch_id (sym patch_is))
