-- What stands behind bytes that are taken.
use Rattle.std.proofs.Common.{◌≡◌, ℕ, ◌+◌, ◌<◌, ◌≤◌, List, Result, Ok, Err, take-append-drop, append_assoc, ◌++◌, length, take, drop, sym, ◌∙◌, ap, subst, arith, length-take-le}
use Rattle.std.specs.Result.{IsOk, OnOk}
use Rattle.std.proofs.lemmas.List.{take_at}
use Rattle.amd_file.specs.declared.part.AmdPart.{AmdPart}
use Rattle.amd_file.specs.declared.progress.Stage.{Stage}
use Rattle.amd_file.specs.declared.progress.Stage.TheVariants.{Head, Next, Rows, Tail, Header, Body, Failed}
use Rattle.amd_file.specs.Stage.{want, most}
use Rattle.amd_file.specs.declared.progress.Progress.{Progress}
use Rattle.amd_file.specs.Parsing.{StandsAt, StandsWith}
use Rattle.amd_file.proofs.Coming.{stands_more}

-- what stands of bytes stands of those with some taken behind them, and of the held bytes with these
pub taken_on : (progress : Progress) (bytes held rest unit : List ℕ) (told : List AmdPart) (len fed : ℕ) → len ≤ length rest → fed ≡ progress.fed + len → unit ≡ held ++ take len rest
    → StandsWith bytes told progress held → StandsAt progress.stage (bytes ++ take len rest) told fed progress.start progress.patches unit
taken_on progress bytes held rest unit told len fed within is same at =
    let more : StandsAt progress.stage (bytes ++ take len rest) told (progress.fed + length (take len rest)) progress.start progress.patches (held ++ take len rest) =
    stands_more progress.stage bytes told progress.fed progress.start progress.patches held (take len rest) at in
    let fed_is : progress.fed + length (take len rest) ≡ fed = omega (arith, is, length-take-le len rest within) in
    subst (λ (n : ℕ). StandsAt progress.stage (bytes ++ take len rest) told n progress.start progress.patches unit) fed_is
    (subst (λ (l : List ℕ). StandsAt progress.stage (bytes ++ take len rest) told (progress.fed + length (take len rest)) progress.start progress.patches l) (sym same) more)

-- what is wanted or taken together fits the room for what is held
pub want_fits : (stage : Stage) → want stage ≤ 64
want_fits Head = omega arith
want_fits Next = omega arith
want_fits (Rows more tail) = omega arith
want_fits (Tail left) = omega arith
want_fits (Header size) = omega arith
want_fits (Body header left) = omega arith
want_fits (Failed fault) = omega arith

pub most_fits : (stage : Stage) (held : ℕ) → 0 < held → held < want stage → most stage ≤ 64
most_fits Head held some short = omega arith
most_fits Next held some short = omega arith
most_fits (Rows more tail) held some short = omega arith
most_fits (Tail left) held some short = absurd (omega (arith, some, short))
most_fits (Header size) held some short = omega arith
most_fits (Body header left) held some short = absurd (omega (arith, some, short))
most_fits (Failed fault) held some short = absurd (omega (arith, some, short))

-- what an answer says where it is Ok
pub was_ok : {T E : Type 0} {P : Type 0} (r : Result T E) → IsOk r → OnOk r P → P
was_ok (Ok x) is said = said
was_ok (Err e) is said = absurd (cc)

-- what stands before stays before
pub take_before : {A : Type 0} (xs ys zs : List A) (n m : ℕ) → take n ys ≡ xs → n ≡ length xs → take m zs ≡ ys → take n zs ≡ xs
take_before {A} xs ys zs n m first long second =
    let all : zs ≡ xs ++ (drop n ys ++ drop m zs) =
    sym (take-append-drop m zs)
    ∙ ap (λ (l : List A). l ++ drop m zs) (second ∙ sym (take-append-drop n ys) ∙ ap (λ (l : List A). l ++ drop n ys) first)
    ∙ append_assoc xs (drop n ys) (drop m zs) in
    ap (λ (l : List A). take n l) all ∙ take_at xs (drop n ys ++ drop m zs) n (sym long)
