-- The rows of an Intel file's updates stand for its entries.
use Rattle.std.proofs.Common.{◌≡◌, ℕ, zero, suc, ◌+◌, ◌≤◌, Bool, true, false, List, [], ◌∷◌, ◌++◌, length, take, map, refl, sym, ◌∙◌, ap, subst, arith, append_assoc, length-append}
use Rattle.uc_bytes.specs.declared.TheConstants.{FILE_LIMIT}
use Rattle.std.specs.Prelude.{All, IsTrue}
use Rattle.std.proofs.lemmas.List.{drop_at, take_at, append-nil}
use Rattle.std.proofs.lemmas.List.Elements.{All-nil, All-cons}
use Rattle.std.proofs.lemmas.Bool.{false≢true}
use Rattle.intel_format.specs.File.{FileUpdate, AreUpdates, IntelFile, joined}
use Rattle.entry_model.specs.Entry.{Entry, update_entry, entries_of_updates}
use Rattle.file_rows.specs.declared.updates.UpdateRow.{UpdateRow}
use Rattle.file_rows.specs.declared.updates.UpdateRows.{UpdateRows}
use Rattle.file_rows.specs.Kept.{kept, kept_bytes}
use Rattle.file_rows.specs.UpdateRows.{own_of, row_of, rows_of_updates, pairs_of_updates, entry_of_update, AreUpdateRows}
use Rattle.file_rows.specs.FileRows.{StandUpdates}

-- one more update has one more row, and its pairs
pub rows_push : (start at : ℕ) (us : List FileUpdate) (u : FileUpdate) → rows_of_updates start at (us ++ u ∷ []) ≡ rows_of_updates start at us ++ row_of (start + length (joined us)) (at + length (pairs_of_updates us)) u ∷ []
rows_push start at [] u =
    let begin : start ≡ start + 0 = omega arith in
    let pairs : at ≡ at + 0 = omega arith in
    λ i. row_of (begin i) (pairs i) u ∷ []
rows_push start at (v ∷ us) u =
    let begin : start + length v.bytes + length (joined us) ≡ start + length (v.bytes ++ joined us) = omega (arith, length-append v.bytes (joined us)) in
    let pairs : at + length v.pairs + length (pairs_of_updates us) ≡ at + length (v.pairs ++ pairs_of_updates us) = omega (arith, length-append v.pairs (pairs_of_updates us)) in
    ap (λ (l : List UpdateRow). row_of start at v ∷ l)
    (rows_push (start + length v.bytes) (at + length v.pairs) us u ∙ (λ i. rows_of_updates (start + length v.bytes) (at + length v.pairs) us ++ row_of (begin i) (pairs i) u ∷ []))

pub pairs_push : (us : List FileUpdate) (u : FileUpdate) → pairs_of_updates (us ++ u ∷ []) ≡ pairs_of_updates us ++ u.pairs
pairs_push [] u = append-nil u.pairs
pairs_push (v ∷ us) u = ap (λ (l : List (ℕ × ℕ)). v.pairs ++ l) (pairs_push us u) ∙ sym (append_assoc v.pairs (pairs_of_updates us) u.pairs)

-- what is taken of nothing is nothing
pub own_none : {X : Type 0} (start len : ℕ) → own_of {X = X} [] start len ≡ []
own_none zero zero = refl
own_none zero (suc len) = refl
own_none (suc start) zero = refl
own_none (suc start) (suc len) = refl

-- the bytes of an entry, where they are kept
pub own_kept : (keeps : Bool) (file own : List ℕ) (start len : ℕ) → own_of file start len ≡ own → own_of (kept_bytes keeps file) start len ≡ kept_bytes keeps own
own_kept true file own start len is = is
own_kept false file own start len is = own_none start len

module _ (number : ℕ) (keeps : Bool) (file : List ℕ) (pairs : List (ℕ × ℕ)) where
  -- a row stands for its entry
  entered : (front rest : List ℕ) (before behind : List (ℕ × ℕ)) (u : FileUpdate) (start at : ℕ) → file ≡ front ++ (u.bytes ++ rest) → length front ≡ start → pairs ≡ before ++ (u.pairs ++ behind) → length before ≡ at
      → entry_of_update number (kept_bytes keeps file) pairs (row_of start at u) ≡ kept keeps (update_entry number start u)
  entered front rest before behind u start at split place paired stand =
      let own : own_of file start (length u.bytes) ≡ u.bytes =
      ap (λ (l : List ℕ). own_of l start (length u.bytes)) split ∙ ap (λ (l : List ℕ). take (length u.bytes) l) (drop_at front (u.bytes ++ rest) start place) ∙ take_at u.bytes rest (length u.bytes) refl in
      let mine : own_of pairs at (length u.pairs) ≡ u.pairs =
      ap (λ (l : List (ℕ × ℕ)). own_of l at (length u.pairs)) paired ∙ ap (λ (l : List (ℕ × ℕ)). take (length u.pairs) l) (drop_at before (u.pairs ++ behind) at stand) ∙ take_at u.pairs behind (length u.pairs) refl in
      let bytes = own_kept keeps file u.bytes start (length u.bytes) own in
      λ i. record { facts = (update_entry number start u).facts; bytes = bytes i; pairs = (u.header.sig, u.header.flags) ∷ mine i; rows = [] }

  pub updates_entered : (front : List ℕ) (before : List (ℕ × ℕ)) (us : List FileUpdate) (start at : ℕ) → file ≡ front ++ joined us → length front ≡ start → pairs ≡ before ++ pairs_of_updates us → length before ≡ at
      → map (entry_of_update number (kept_bytes keeps file) pairs) (rows_of_updates start at us) ≡ map (kept keeps) (entries_of_updates number start us)
  updates_entered front before [] start at split place paired stand = refl
  updates_entered front before (u ∷ us) start at split place paired stand =
      let next : file ≡ (front ++ u.bytes) ++ joined us = split ∙ sym (append_assoc front u.bytes (joined us)) in
      let more : pairs ≡ (before ++ u.pairs) ++ pairs_of_updates us = paired ∙ sym (append_assoc before u.pairs (pairs_of_updates us)) in
      ap (λ (e : Entry). e ∷ map (entry_of_update number (kept_bytes keeps file) pairs) (rows_of_updates (start + length u.bytes) (at + length u.pairs) us)) (entered front (joined us) before (pairs_of_updates us) u start at split place paired stand)
      ∙ ap (λ (es : List Entry). kept keeps (update_entry number start u) ∷ es)
      (updates_entered (front ++ u.bytes) (before ++ u.pairs) us (start + length u.bytes) (at + length u.pairs) next (omega (arith, place, length-append front u.bytes)) more (omega (arith, stand, length-append before u.pairs)))

-- where rows of updates stand
pub many_rows : (start at : ℕ) (us : List FileUpdate) → length (rows_of_updates start at us) ≡ length us
many_rows start at [] = refl
many_rows start at (u ∷ us) = omega (arith, many_rows (start + length u.bytes) (at + length u.pairs) us)

all_paired : (start at n : ℕ) (us : List FileUpdate) → at + length (pairs_of_updates us) ≤ n → All (λ (row : UpdateRow). row.pairs_at + row.pairs ≤ n) (rows_of_updates start at us)
all_paired start at n [] within = All-nil (λ (row : UpdateRow). row.pairs_at + row.pairs ≤ n)
all_paired start at n (u ∷ us) within =
    All-cons (λ (row : UpdateRow). row.pairs_at + row.pairs ≤ n) (row_of start at u) (rows_of_updates (start + length u.bytes) (at + length u.pairs) us)
    (omega (arith, within, length-append u.pairs (pairs_of_updates us)))
    (all_paired (start + length u.bytes) (at + length u.pairs) n us (omega (arith, within, length-append u.pairs (pairs_of_updates us))))

all_inside : (start at n : ℕ) (us : List FileUpdate) → start + length (joined us) ≤ n → All (λ (row : UpdateRow). row.start + row.len ≤ n) (rows_of_updates start at us)
all_inside start at n [] within = All-nil (λ (row : UpdateRow). row.start + row.len ≤ n)
all_inside start at n (u ∷ us) within =
    All-cons (λ (row : UpdateRow). row.start + row.len ≤ n) (row_of start at u) (rows_of_updates (start + length u.bytes) (at + length u.pairs) us)
    (omega (arith, within, length-append u.bytes (joined us)))
    (all_inside (start + length u.bytes) (at + length u.pairs) n us (omega (arith, within, length-append u.bytes (joined us))))

all_long : (start at : ℕ) (us : List FileUpdate) → AreUpdates us → All (λ (row : UpdateRow). 48 ≤ row.len) (rows_of_updates start at us)
all_long start at [] each = All-nil (λ (row : UpdateRow). 48 ≤ row.len)
all_long start at (u ∷ us) each =
    All-cons (λ (row : UpdateRow). 48 ≤ row.len) (row_of start at u) (rows_of_updates (start + length u.bytes) (at + length u.pairs) us)
    (omega (arith, each.0.whole, each.0.sound.header_fits))
    (all_long (start + length u.bytes) (at + length u.pairs) us each.1)

inside_kept : (keeps : Bool) (file : List ℕ) (us : List FileUpdate) → file ≡ joined us → IsTrue keeps → All (λ (row : UpdateRow). row.start + row.len ≤ length (kept_bytes keeps file)) (rows_of_updates 0 0 us)
inside_kept true file us is keep = all_inside 0 0 (length file) us (omega (arith, ap (λ (l : List ℕ). length l) is))
inside_kept false file us is keep = absurd (false≢true keep)

-- so they do in a file
pub updates_stand : (keeps : Bool) (file : List ℕ) (us : List FileUpdate) (rows : UpdateRows) → length rows.pairs.items ≤ FILE_LIMIT → IntelFile file us → AreUpdateRows us rows → StandUpdates keeps (kept_bytes keeps file) rows
updates_stand keeps file us rows few is are = record {
  few_pairs = few;
  few = omega (arith, is.few, many_rows 0 0 us, ap (λ (l : List UpdateRow). length l) are.rows);
  pairs = subst (λ (l : List UpdateRow). All (λ (row : UpdateRow). row.pairs_at + row.pairs ≤ length rows.pairs.items) l) (sym are.rows)
      (all_paired 0 0 (length rows.pairs.items) us (omega (arith, ap (λ (l : List (ℕ × ℕ)). length l) are.pairs)));
  long = subst (λ (l : List UpdateRow). All (λ (row : UpdateRow). 48 ≤ row.len) l) (sym are.rows) (all_long 0 0 us is.each);
  inside = λ keep. subst (λ (l : List UpdateRow). All (λ (row : UpdateRow). row.start + row.len ≤ length (kept_bytes keeps file)) l) (sym are.rows) (inside_kept keeps file us is.whole keep);
}
