use Rattle.std.proofs.Common.{◌≡◌, ℕ, ◌+◌, ◌-◌, ◌≤◌, List, ◌++◌, length, take, drop, Option, Ok, ◌∙◌, ap, subst, arith, append_assoc, take-append-drop, length-take-le}
use Rattle.std.proofs.lemmas.Slice.{between_to_end}
use Rattle.uc_bytes.specs.declared.causes.Vendor.{Vendor}
use Rattle.file_rows.specs.FileReading.{ComesBy, IsBegun}
use Rattle.file_rows.proofs.Pieces.{was_ok}
use Rattle.file_rows.proofs.file_reader.FileReader.take_head.Goals as goal

pub returns-in-Ok-clause-come : goal.returns-in-Ok-clause-come
returns-in-Ok-clause-come c = λ bytes comes.
    let s = c.args.self.now in
    let piece = c.args.piece.now in
    let len = c.min-len.result in
    let head = c.try_extend_from_slice.new.self.items in
    let rest = take (length piece - len) (drop len piece) in
    let came = subst (λ (v : Option Vendor). ComesBy v s.head.items bytes s.updates s.patches) c.requires.unknown comes in
    let within : len ≤ length piece = omega (arith, c.min-len.ensures) in
    let fits : length s.head.items + length (take len piece) ≤ 4 = omega (arith, length-take-le len piece within, c.len-held.ensures.value, c.min-len.ensures) in
    let head_is : head ≡ s.head.items ++ take len piece = was_ok c.try_extend_from_slice.result (c.try_extend_from_slice.ensures.variant.1 fits) c.try_extend_from_slice.ensures.ok in
    let tail : rest ≡ drop len piece = between_to_end piece len (length piece) (omega arith) in
    let all : head ++ rest ≡ bytes ++ piece =
    ap (λ (l : List ℕ). l ++ rest) head_is
    ∙ ap (λ (l : List ℕ). (s.head.items ++ take len piece) ++ l) tail
    ∙ append_assoc s.head.items (take len piece) (drop len piece)
    ∙ ap (λ (l : List ℕ). s.head.items ++ l) (take-append-drop len piece)
    ∙ ap (λ (l : List ℕ). l ++ piece) came.0 in
    subst (λ (l : List ℕ). IsBegun l c.begin.new.self (Ok c.in-Ok.field-0)) all c.in-Ok.ensures.begun
