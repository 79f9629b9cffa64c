-- What the bytes are where no more come.
use Rattle.std.proofs.Common.{◌≡◌, ◌⊎◌, inl, inr, ℕ, ◌+◌, ◌<◌, ◌≤◌, List, [], ◌∷◌, ◌++◌, length, refl, ◌∙◌, ap, subst, arith, append-nil, append_assoc, length-append}
use Rattle.uc_bytes.specs.Words.{word}
use Rattle.uc_bytes.specs.declared.causes.FileCause.{FileCause}
use Rattle.uc_bytes.specs.declared.causes.FileCause.TheVariants.{EquivShort, TableCut, SectionShort, PatchCut}
use Rattle.uc_bytes.specs.declared.causes.FileFault.{FileFault}
use Rattle.uc_bytes.proofs.Fronts.{word-append}
use Rattle.amd_format.specs.Equiv.{amd_magic}
use Rattle.amd_format.specs.File.{FileContainer, AmdFile, joined}
use Rattle.amd_format.specs.Checks.{BeginsContainer, IsFault}
use Rattle.amd_format.specs.Settled.{IsCut, IsSettled}
use Rattle.amd_format.proofs.OneFault.{never_both, one_fault}
use Rattle.amd_file.specs.declared.part.AmdPart.{AmdPart}
use Rattle.amd_file.specs.declared.progress.PatchHeader.{PatchHeader}
use Rattle.amd_file.specs.declared.progress.Stage.{Stage}
use Rattle.amd_file.specs.declared.progress.Stage.TheVariants.{Head, Next, Rows, Tail, Header, Body, Failed}
use Rattle.amd_file.specs.Stage.{want}
use Rattle.amd_file.specs.Parsing.{Came, IsTableFront, IsSectionFront, IsInHead, IsInNext, IsInRows, IsInTail, IsInHeader, IsInBody, StandsAt, told_of}
use Rattle.fault_rule.proofs.Decided.{both, decided_le}
use Rattle.std.proofs.lemmas.Bool.{cases_eq}
use Rattle.amd_file.proofs.Coming.{came_as}
use Rattle.amd_file.proofs.Units.{fault_behind}

-- a list of length 0 is the empty one
pub empty_list : {A : Type 0} (l : List A) → length l ≡ 0 → l ≡ []
empty_list [] is = refl
empty_list (x ∷ l) is = absurd (omega (arith, is))

-- where a container begins, it is the first, or bytes are left
left_of : (cs : List FileContainer) (held : List ℕ) → BeginsContainer cs held → (cs ≡ []) ⊎ (0 < length held)
left_of cs held (inl none) = inl none
left_of cs held (inr magic) = inr (omega (arith, magic.0))

-- within a container's head it is cut off
pub head_short : (bytes held : List ℕ) (told : List AmdPart) (fed start patches : ℕ) → IsInHead bytes told fed start patches held → length held < 12 → IsFault bytes start EquivShort
head_short bytes held told fed start patches at short =
    fault_behind bytes held fed start patches at.came EquivShort (left_of at.came.containers held at.begins) (inl (at.begins, inl (short, refl)))

module _ (bytes held : List ℕ) (told : List AmdPart) (fed start patches : ℕ) (at : IsInNext bytes told fed start patches held) where
  -- with no bytes left they are a file
  pub file_whole : length held ≡ 0 → (cs : List FileContainer) × AmdFile bytes cs × (told ≡ told_of 0 cs)
  file_whole none = (
    at.came.containers,
    record {
      whole = at.came.split ∙ ap (λ (l : List ℕ). joined at.came.containers ++ l) (empty_list held none) ∙ append-nil (joined at.came.containers);
      some = at.some;
      each = at.came.each;
      few = at.came.few;
    },
    at.parts,
  )

  pub next_head_short : 4 ≤ length held → word held 0 ≡ amd_magic → length held < 12 → IsFault bytes start EquivShort
  next_head_short four magic short =
      fault_behind bytes held fed start patches at.came EquivShort (inr (omega (arith, four))) (inl (inr (four, magic), inl (short, refl)))

  pub section_short : ((4 ≤ length held) × (word held 0 ≡ amd_magic) → ⊥) → 0 < length held → length held < 8 → IsFault bytes start SectionShort
  section_short other some short =
      let none : BeginsContainer at.came.containers held → ⊥ =
      λ begins. elim begins [ inl empty ↦ omega (arith, at.some, ap (λ (cs : List FileContainer). length cs) empty) | inr magic ↦ other magic ] in
      fault_behind bytes held fed start patches at.came SectionShort (inr some) (inr (none, inl (short, refl)))

-- behind a table's head and within the table
table_cut : (bytes front more : List ℕ) (fed start patches : ℕ) → Came bytes fed start patches (front ++ more) → IsTableFront front → length front + length more < 12 + word front 8 → IsFault bytes start TableCut
table_cut bytes front more fed start patches came table short =
    let rest = front ++ more in
    let magic : word rest 0 ≡ amd_magic = word-append front more 0 (omega (arith, table.long)) ∙ table.magic in
    let kind : word rest 4 ≡ 0 = word-append front more 4 (omega (arith, table.long)) ∙ table.kind in
    let size : word rest 8 ≡ word front 8 = word-append front more 8 (omega (arith, table.long)) in
    let long : 12 ≤ length rest = omega (arith, table.long, length-append front more) in
    fault_behind bytes rest fed start patches came TableCut (inr (omega (arith, long))) (inl (inr (omega (arith, long), magic), inr (λ small. omega (arith, small, long), inr (λ other. other magic, inr (λ other. other kind, inr (λ small. omega (arith, small, size, table.some_row), inl (omega (arith, short, size, length-append front more), refl)))))))

pub rows_cut : (bytes held : List ℕ) (told : List AmdPart) (fed start patches more tail : ℕ) → IsInRows bytes told fed start patches more tail held → length held < 16 → IsFault bytes start TableCut
rows_cut bytes held told fed start patches more tail at short =
    table_cut bytes at.front held fed start patches at.came at.table (omega (arith, at.size, short))

pub tail_cut : (bytes held : List ℕ) (told : List AmdPart) (fed start patches left : ℕ) → IsInTail bytes told fed start patches left held → length held < 1 → IsFault bytes start TableCut
tail_cut bytes held told fed start patches left at short =
    table_cut bytes at.front (at.passed ++ held) fed start patches (came_as bytes ((at.front ++ at.passed) ++ held) (at.front ++ (at.passed ++ held)) fed start patches (append_assoc at.front at.passed held) at.came) at.table (omega (arith, at.size, short, length-append at.passed held))

-- behind a section's head and within its patch
patch_cut : (bytes front more : List ℕ) (fed start patches size : ℕ) (came : Came bytes fed start patches (front ++ more)) → 0 < length came.containers → IsSectionFront front size → length more < size → IsFault bytes start PatchCut
patch_cut bytes front more fed start patches size came some section short =
    let rest = front ++ more in
    let kind : word rest 0 ≡ 1 = word-append front more 0 (omega (arith, section.long)) ∙ section.kind in
    let states : word rest 4 ≡ size = word-append front more 4 (omega (arith, section.long)) ∙ section.states in
    let long : 8 ≤ length rest = omega (arith, section.long, length-append front more) in
    let none : BeginsContainer came.containers rest → ⊥ =
    λ begins. elim begins [ inl empty ↦ omega (arith, some, ap (λ (cs : List FileContainer). length cs) empty) | inr magic ↦ omega (arith, magic.1, kind) ] in
    fault_behind bytes rest fed start patches came PatchCut (inr (omega (arith, long))) (inr (none, inr (λ small. omega (arith, small, long), inr (λ other. other kind, inr (λ small. omega (arith, small, states, section.least), inl (omega (arith, short, states, section.long, length-append front more), refl))))))

pub header_cut : (bytes held : List ℕ) (told : List AmdPart) (fed start patches size : ℕ) → IsInHeader bytes told fed start patches size held → length held < 64 → IsFault bytes start PatchCut
header_cut bytes held told fed start patches size at short =
    patch_cut bytes at.front held fed start patches size at.came at.some at.section (omega (arith, short, at.section.least))

pub body_cut : (bytes held : List ℕ) (told : List AmdPart) (fed start patches : ℕ) (header : PatchHeader) (left : ℕ) → IsInBody bytes told fed start patches header left held → length held < 1 → IsFault bytes start PatchCut
body_cut bytes held told fed start patches header left at short =
    patch_cut bytes at.front (at.patch ++ held) fed start patches header.len (came_as bytes ((at.front ++ at.patch) ++ held) (at.front ++ (at.patch ++ held)) fed start patches (append_assoc at.front at.patch held) at.came) at.some at.section (omega (arith, at.size, short, length-append at.patch held))

-- ---- no fault is settled

-- a file has none
file_unsettled : (bytes : List ℕ) (cs : List FileContainer) (offset : ℕ) (cause : FileCause) → AmdFile bytes cs → IsSettled bytes offset cause → ⊥
file_unsettled bytes cs offset cause file settled = never_both bytes cs offset cause file settled.0

-- nor have bytes that are cut off
cut_unsettled : (bytes : List ℕ) (start offset : ℕ) (cut cause : FileCause) → IsFault bytes start cut → IsCut cut → IsSettled bytes offset cause → ⊥
cut_unsettled bytes start offset cut cause fault is settled =
    let same = one_fault bytes start offset cut cause fault settled.0 in
    settled.1 (subst IsCut same.1 is)

-- the first bytes of what follows, with or without a magic
magic_or_not : (held : List ℕ) → ((4 ≤ length held) × (word held 0 ≡ amd_magic)) ⊎ ((4 ≤ length held) × (word held 0 ≡ amd_magic) → ⊥)
magic_or_not held = both (decided_le _ _) (cases_eq _ _)

next_unsettled : (bytes held : List ℕ) (told : List AmdPart) (fed start patches offset : ℕ) (cause : FileCause) → IsInNext bytes told fed start patches held → length held < 8 → IsSettled bytes offset cause → ⊥
next_unsettled bytes held told fed start patches offset cause at short settled = elim (cases_eq (length held) 0) [
  | inl none ↦
      let whole = file_whole bytes held told fed start patches at none in
      file_unsettled bytes whole.0 offset cause whole.1 settled
  | inr some ↦ elim (magic_or_not held) [
    | inl magic ↦ cut_unsettled bytes start offset EquivShort cause (next_head_short bytes held told fed start patches at magic.0 magic.1 (omega (arith, short))) tt settled
    | inr other ↦ cut_unsettled bytes start offset SectionShort cause (section_short bytes held told fed start patches at other (omega arith) short) tt settled
  ]
]

-- where no fault was found, none is settled
pub unsettled : (stage : Stage) (bytes held : List ℕ) (told : List AmdPart) (fed start patches offset : ℕ) (cause : FileCause) → ((fault : FileFault) → stage ≡ Failed fault → ⊥)
    → StandsAt stage bytes told fed start patches held → length held < want stage → IsSettled bytes offset cause → ⊥
unsettled Head bytes held told fed start patches offset cause live at short settled =
    cut_unsettled bytes start offset EquivShort cause (head_short bytes held told fed start patches at short) tt settled
unsettled Next bytes held told fed start patches offset cause live at short settled =
    next_unsettled bytes held told fed start patches offset cause at short settled
unsettled (Rows more tail) bytes held told fed start patches offset cause live at short settled =
    cut_unsettled bytes start offset TableCut cause (rows_cut bytes held told fed start patches more tail at short) tt settled
unsettled (Tail left) bytes held told fed start patches offset cause live at short settled =
    cut_unsettled bytes start offset TableCut cause (tail_cut bytes held told fed start patches left at short) tt settled
unsettled (Header size) bytes held told fed start patches offset cause live at short settled =
    cut_unsettled bytes start offset PatchCut cause (header_cut bytes held told fed start patches size at short) tt settled
unsettled (Body header left) bytes held told fed start patches offset cause live at short settled =
    cut_unsettled bytes start offset PatchCut cause (body_cut bytes held told fed start patches header left at short) tt settled
unsettled (Failed fault) bytes held told fed start patches offset cause live at short settled = live fault refl
