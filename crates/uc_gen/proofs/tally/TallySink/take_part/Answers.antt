use Rattle.std.proofs.Common.{◌≡◌, ℕ, ◌-◌, ◌^◌, List, ◌++◌, length, take, min, ap, ◌∙◌, sym, arith}
use Rattle.uc_gen.specs.Tally.{rest_of, unfinished}
use Rattle.uc_gen.proofs.Lists.{cut_more, take_within}
use Rattle.uc_gen.proofs.Lines.{part_unfinished, part_last, part_count}
use Rattle.uc_gen.proofs.tally.TallySink.take_part.Goals as goal

-- what fits behind what stands of a line
fits : (kept : ℕ) (rest all part : List ℕ) → rest ≡ take 128 all → kept ≡ min (length part) (128 - length rest) → rest ++ take kept part ≡ take 128 (all ++ part)
fits kept rest all part stands is =
    ap (λ (l : List ℕ). rest ++ l) (take_within (128 - length rest) kept part is)
    ∙ ap (λ (l : List ℕ). l ++ take (128 - length l) part) stands
    ∙ sym (cut_more 128 all part)

pub returns : goal.returns
returns c = λ text before.
    let part = c.args.part.now in
    let put = rw c.unwrap.ensures at c.try_extend_from_slice.ensures.ok in
    record {
      lines = before.lines ∙ ap (λ (n : ℕ). min n (2 ^ 64 - 1)) (sym (part_count text part c.requires));
      last = before.last ∙ ap (take 128) (sym (part_last text part c.requires));
      rest = put ∙ fits c.min-kept.result (rest_of c.args.self.now) (unfinished text) part before.rest (omega (arith, c.min-kept.ensures, c.len.ensures.value))
          ∙ ap (take 128) (sym (part_unfinished text part c.requires));
    }
