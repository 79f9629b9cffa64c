use Rattle.std.proofs.Common.{◌≡◌, ◌+◌, ◌≤◌, drop}
use Rattle.tool_text.specs.Words.{may_name, wrong_word}
use Rattle.uc_cli.proofs.words.wrong_name.Given as goal

abbrev pub invariant-names : goal.invariant-names
invariant-names l = record {
  place : l.index ≡ l.first + l.word-index;
  within : l.index ≤ l.last + 1;
  same : wrong_word (may_name l.last) (l.first + 1) l.index (drop l.word-index l.words) ≡ wrong_word (may_name l.last) (l.first + 1) l.first l.words;
}
