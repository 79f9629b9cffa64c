use Rattle.std.proofs.Common.{◌≡◌, ℕ, ◌+◌, ◌<◌, ◌≤◌, List, [], ◌++◌, length, take, refl, sym, ◌∙◌, ap, arith, length-take-le}
use Rattle.arrayvec.specs.ArrayVec.{ArrayVec}
use Rattle.amd_file.proofs.Ending.{empty_list}
use Rattle.amd_file.proofs.Taking.{taken_on, want_fits, most_fits, was_ok}
use Rattle.amd_file.proofs.parser.AmdParser.take.Goals as goal

pub returns-then-held-len-clause-taken : goal.returns-then-held-len-clause-taken
returns-then-held-len-clause-taken c = λ bytes told at.
    let parser = c.args.self.now in
    let rest = c.args.rest.now in
    let len = c.min-len.result in
    let within : len ≤ length rest = omega (arith, c.min-len.ensures) in
    let fits : length parser.held.items + length (take len rest) ≤ 64 =
    omega (arith, length-take-le len rest within, c.if-held-len.true, c.len-held.ensures.value, c.want.ensures, want_fits parser.progress.stage) in
    let held : c.try_extend_from_slice.new.self.items ≡ parser.held.items ++ take len rest =
    was_ok c.try_extend_from_slice.result (c.try_extend_from_slice.ensures.variant.1 fits) c.try_extend_from_slice.ensures.ok in
    taken_on parser.progress bytes parser.held.items rest c.try_extend_from_slice.new.self.items told len (parser.progress.fed + len) within refl held at

pub returns-then-held-eq0-clause-taken : goal.returns-then-held-eq0-clause-taken
returns-then-held-eq0-clause-taken c = λ bytes told at.
    let parser = c.args.self.now in
    let rest = c.args.rest.now in
    let len = c.min-len.result in
    let within : len ≤ length rest = omega (arith, c.min-len.ensures) in
    let none : parser.held.items ≡ [] = empty_list parser.held.items (sym c.len-held.ensures.value ∙ c.if-held-eq0.true) in
    let unit : take len rest ≡ parser.held.items ++ take len rest = ap (λ (l : List ℕ). l ++ take len rest) (sym none) in
    c.advance.ensures.advanced (bytes ++ take len rest) told
    (taken_on parser.progress bytes parser.held.items rest (take len rest) told len (parser.progress.fed + len) within refl unit at)

pub returns-else-held-eq0-clause-taken : goal.returns-else-held-eq0-clause-taken
returns-else-held-eq0-clause-taken c = λ bytes told at.
    let parser = c.args.self.now in
    let rest = c.args.rest.now in
    let len = c.min-len.result in
    let within : len ≤ length rest = omega (arith, c.min-len.ensures) in
    let some : 0 < length parser.held.items = omega (arith, c.len-held.ensures.value, c.if-held-eq0.false) in
    let same : c.take-unit.result.items ≡ parser.held.items = ap (λ (v : ArrayVec ℕ). v.items) c.take-unit.ensures.value in
    let fits : length c.take-unit.result.items + length (take len rest) ≤ 64 =
    omega (arith, length-take-le len rest within, ap (λ (l : List ℕ). length l) same, parser.short, c.min-len.ensures, c.most.ensures, c.len-held.ensures.value, most_fits parser.progress.stage (length parser.held.items) some parser.short) in
    let unit : c.as_slice.result.now ≡ parser.held.items ++ take len rest =
    c.as_slice.ensures.value
    ∙ was_ok c.try_extend_from_slice-else-held-eq0.result (c.try_extend_from_slice-else-held-eq0.ensures.variant.1 fits) c.try_extend_from_slice-else-held-eq0.ensures.ok
    ∙ ap (λ (l : List ℕ). l ++ take len rest) same in
    c.advance-else-held-eq0.ensures.advanced (bytes ++ take len rest) told
    (taken_on parser.progress bytes parser.held.items rest c.as_slice.result.now told len (parser.progress.fed + len) within refl unit at)
