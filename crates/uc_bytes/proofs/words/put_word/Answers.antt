use Rattle.std.proofs.Common.{◌+◌, ◌-◌, ◌∙◌, ap, List, ℕ, length, drop, arith}
use Rattle.byteorder.specs.Endian.{little_bytes}
use Rattle.uc_bytes.specs.Words.{word}
use Rattle.uc_bytes.proofs.Puts.{put_behind, word_put}
use borrow.Rule.Slice.PartMut.{put_mid}
use Rattle.uc_bytes.proofs.words.put_word.Goals as goal

pub returns-clause-bytes : goal.returns-clause-bytes
returns-clause-bytes c =
    ap (λ (part : List ℕ). put_mid c.args.at (length c.args.bytes.now - c.args.at) c.args.bytes.now part) c.write_u32.ensures
    ∙ put_behind c.args.bytes.now (little_bytes 4 c.args.value) c.args.at

pub returns-clause-word : goal.returns-clause-word
returns-clause-word c =
    ap (λ (bytes : List ℕ). word bytes c.args.at) (returns-clause-bytes c)
    ∙ word_put c.args.bytes.now (drop (c.args.at + 4) c.args.bytes.now) c.args.at c.args.value (omega arith) (omega arith)
