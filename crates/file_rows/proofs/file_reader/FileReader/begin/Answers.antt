use Rattle.std.proofs.Common.{◌≡◌, ℕ, List, sym, ◌∙◌, ap}
use Rattle.uc_bytes.specs.Words.{word}
use Rattle.amd_format.specs.Equiv.{amd_magic}
use Rattle.file_rows.proofs.FileReads.{begun_as_updates, begun_as_patches}
use Rattle.file_rows.proofs.file_reader.FileReader.begin.Goals as goal

pub returns-then-word_at-eq-AMD_MAGIC-clause-begun : goal.returns-then-word_at-eq-AMD_MAGIC-clause-begun
returns-then-word_at-eq-AMD_MAGIC-clause-begun c =
    let head = c.args.self.now.head.items in
    let first : word head 0 ≡ amd_magic = ap (λ (l : List ℕ). word l 0) (sym c.as_slice.ensures.value) ∙ sym c.word_at.ensures ∙ c.if-word_at-eq-AMD_MAGIC.true in
    begun_as_patches c.begin_patches.result head c.args.rest.now c.begin_patches.new.self c.requires.four first c.begin_patches.ensures.begun

pub returns-else-word_at-eq-AMD_MAGIC-clause-begun : goal.returns-else-word_at-eq-AMD_MAGIC-clause-begun
returns-else-word_at-eq-AMD_MAGIC-clause-begun c =
    let head = c.args.self.now.head.items in
    let other : word head 0 ≡ amd_magic → ⊥ = λ magic. c.if-word_at-eq-AMD_MAGIC.false (c.word_at.ensures ∙ ap (λ (l : List ℕ). word l 0) c.as_slice.ensures.value ∙ magic) in
    begun_as_updates c.begin_updates.result head c.args.rest.now c.begin_updates.new.self c.requires.four other c.begin_updates.ensures.begun
