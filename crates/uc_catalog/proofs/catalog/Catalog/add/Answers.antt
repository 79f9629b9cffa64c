use Rattle.std.proofs.Common.{◌≡◌, ℕ, ◌<◌, Bool, true, false, None, List, [], ◌∷◌, ◌++◌, length, sym, ◌∙◌, ap, subst, arith}
use Rattle.std.specs.Prelude.{Vec}
use Rattle.std.specs.declared.alloc.Global.{Global}
use Rattle.std.proofs.lemmas.List.{length-map}
use Rattle.uc_catalog.specs.declared.file.KeptFile.{KeptFile}
use Rattle.uc_catalog.specs.Contents.{Contents, Adds, kept_bytes}
use Rattle.uc_catalog.specs.Files.{sum_of_rows, contents_of}
use Rattle.uc_catalog.proofs.Located.{counted_is, counted_same}
use Rattle.uc_catalog.proofs.Added.{adds, are_kept}
use Rattle.uc_catalog.proofs.catalog.Catalog.add.Goals as goal
use Rattle.uc_catalog.proofs.catalog.Catalog.add.Goals.{then-self, else-self}

pub returns-in_err-reserve-clause-counted : goal.returns-in_err-reserve-clause-counted
returns-in_err-reserve-clause-counted c = counted_same _ _ _ _ c.reserve.ensures.items c.self.invariant.0

pub returns-in-Err-clause-counted : goal.returns-in-Err-clause-counted
returns-in-Err-clause-counted c = counted_same _ _ _ _ c.reserve.ensures.items c.self.invariant.0

abbrev items_of : Vec ℕ Global → List ℕ
items_of v = v.items

-- the bytes, where they are kept
bytes_by : (keeps : Bool) (bytes : List ℕ) → keeps ≡ true → bytes ≡ kept_bytes keeps bytes
bytes_by keeps bytes is = ap (λ (k : Bool). kept_bytes k bytes) (sym is)

none_by : (keeps : Bool) (bytes : List ℕ) → keeps ≡ false → [] ≡ kept_bytes keeps bytes
none_by keeps bytes is = ap (λ (k : Bool). kept_bytes k bytes) (sym is)

-- the files with one more
pub invariant_of-self-2 : goal.invariant_of-self-2
invariant_of-self-2 c =
    let keeps = c.self.inside.keeps in
    let bytes : c.if-self.bytes2.items ≡ kept_bytes keeps c.args.bytes.items =
    elim c.if-self.branch [
      | then-self w ↦ ap items_of w.bytes2-is ∙ bytes_by keeps c.args.bytes.items w.if-self.true
      | else-self w ↦ ap items_of w.bytes2-is ∙ w.new-bytes.ensures.items ∙ none_by keeps c.args.bytes.items w.if-self.false
    ] in
    let behind = c.push_reserved.ensures.items ∙ ap (λ (l : List KeptFile). l ++ record { rows = c.in-Ok.rows; bytes = c.if-self.bytes2 } ∷ []) c.reserve.ensures.items in
    let room : length c.self.inside.files.items < 16 = omega (arith, subst (λ (v : Contents). length v.files < 16) (sym c.self.view_is) c.requires.room, length-map c.self.inside.files.items (λ (f : KeptFile). sum_of_rows f.rows)) in (
      are_kept keeps c.self.inside.files.items c.push_reserved.new.self.items (record { rows = c.in-Ok.rows; bytes = c.if-self.bytes2 }) None None c.as_slice.result.now c.in-Ok.ensures.0 (bytes ∙ ap (λ (l : List ℕ). kept_bytes keeps l) (sym c.as_slice.ensures.value)) behind c.in-Ok.ensures.1 room c.self.invariant.0,
      c.self.invariant.1,
    )

pub returns-clause-added : goal.returns-clause-added
returns-clause-added c =
    let keeps = c.self.inside.keeps in
    let coming = c.self.inside.coming in
    let bytes : c.if-self.bytes2.items ≡ kept_bytes keeps c.args.bytes.items =
    elim c.if-self.branch [
      | then-self w ↦ ap items_of w.bytes2-is ∙ bytes_by keeps c.args.bytes.items w.if-self.true
      | else-self w ↦ ap items_of w.bytes2-is ∙ w.new-bytes.ensures.items ∙ none_by keeps c.args.bytes.items w.if-self.false
    ] in
    let behind = c.push_reserved.ensures.items ∙ ap (λ (l : List KeptFile). l ++ record { rows = c.in-Ok.rows; bytes = c.if-self.bytes2 } ∷ []) c.reserve.ensures.items in (
      subst (λ (v : Contents). Adds v (contents_of keeps c.push_reserved.new.self.items coming) c.args.bytes.items) c.self.view_is
          (subst (λ (l : List ℕ). Adds (contents_of keeps c.self.inside.files.items coming) (contents_of keeps c.push_reserved.new.self.items coming) l) c.as_slice.ensures.value
          (adds keeps c.self.inside.files.items c.push_reserved.new.self.items (record { rows = c.in-Ok.rows; bytes = c.if-self.bytes2 }) coming coming c.as_slice.result.now c.in-Ok.ensures.0 (bytes ∙ ap (λ (l : List ℕ). kept_bytes keeps l) (sym c.as_slice.ensures.value)) behind)),
      ap (λ (v : Contents). v.coming) c.self.view_is,
    )

pub returns-clause-counted : goal.returns-clause-counted
returns-clause-counted c = counted_is _ _ _ (invariant_of-self-2 c).0
