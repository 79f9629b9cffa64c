use Rattle.std.proofs.Common.{◌≡◌, ℕ, ◌-◌, refl, sym, subst, ap, ◌∙◌, arith}
use Rattle.uc_bytes.specs.Words.{word, half}
use Rattle.amd_file.specs.declared.part.AmdPart.{AmdPart}
use Rattle.amd_file.specs.declared.part.AmdPart.TheVariants.{Row}
use Rattle.amd_file.specs.declared.progress.Stage.TheVariants.{Rows, Tail}
use Rattle.amd_file.specs.declared.unit.Step.{Step}
use Rattle.amd_file.specs.Step.{IsStepFrom, onward_step, table_step}
use Rattle.amd_file.proofs.Units.{row_on, row_tail, row_ends}
use Rattle.amd_file.proofs.unit.after_row.Goals as goal

-- the row that was read
row_is : (a b x y : ℕ) → a ≡ x → b ≡ y → Row (a, b) ≡ Row (x, y)
row_is a b x y first second = λ i. Row (first i, second i)

pub returns-then-more-gt0 : goal.returns-then-more-gt0
returns-then-more-gt0 c =
    let progress = c.args.progress in
    let unit = c.args.unit.now in
    let read = row_is c.word_at.result c.half_at.result (word unit 0) (half unit 12) c.word_at.ensures c.half_at.ensures in
    let same : IsStepFrom (Rows c.args.more c.args.tail) progress unit (onward_step progress (Rows (c.args.more - 1) c.args.tail) (Row (word unit 0, half unit 12))) = record {
      fed = refl;
      begun = c.requires.begun;
      short = omega arith;
      inside = tt;
      told = λ bytes told at. row_on bytes unit told progress.fed progress.start progress.patches c.args.more c.args.tail at c.requires.unit c.if-more-gt0.true;
    } in
    subst (λ (s : Step). IsStepFrom (Rows c.args.more c.args.tail) progress unit s) (ap (λ (part : AmdPart). onward_step progress (Rows (c.args.more - 1) c.args.tail) part) (sym read) ∙ sym c.onward.ensures) same

pub returns-then-tail-gt0 : goal.returns-then-tail-gt0
returns-then-tail-gt0 c =
    let progress = c.args.progress in
    let unit = c.args.unit.now in
    let read = row_is c.word_at.result c.half_at.result (word unit 0) (half unit 12) c.word_at.ensures c.half_at.ensures in
    let same : IsStepFrom (Rows c.args.more c.args.tail) progress unit (onward_step progress (Tail (c.args.tail - 1)) (Row (word unit 0, half unit 12))) = record {
      fed = refl;
      begun = c.requires.begun;
      short = omega arith;
      inside = tt;
      told = λ bytes told at. row_tail bytes unit told progress.fed progress.start progress.patches c.args.more c.args.tail at c.requires.unit (omega (arith, c.if-more-gt0.false)) c.if-tail-gt0.true;
    } in
    subst (λ (s : Step). IsStepFrom (Rows c.args.more c.args.tail) progress unit s) (ap (λ (part : AmdPart). onward_step progress (Tail (c.args.tail - 1)) part) (sym read) ∙ sym c.onward-then-tail-gt0.ensures) same

pub returns-else-tail-gt0 : goal.returns-else-tail-gt0
returns-else-tail-gt0 c =
    let progress = c.args.progress in
    let unit = c.args.unit.now in
    let read = row_is c.word_at.result c.half_at.result (word unit 0) (half unit 12) c.word_at.ensures c.half_at.ensures in
    let same : IsStepFrom (Rows c.args.more c.args.tail) progress unit (table_step progress (Row (word unit 0, half unit 12))) = record {
      fed = refl;
      begun = omega arith;
      short = omega arith;
      inside = tt;
      told = λ bytes told at. row_ends bytes unit told progress.fed progress.start progress.patches c.args.more c.args.tail at c.requires.unit (omega (arith, c.if-more-gt0.false)) (omega (arith, c.if-tail-gt0.false));
    } in
    subst (λ (s : Step). IsStepFrom (Rows c.args.more c.args.tail) progress unit s) (ap (λ (part : AmdPart). table_step progress part) (sym read) ∙ sym c.table_end.ensures) same
