use Rattle.std.proofs.Common.{◌≡◌, ◌+◌, List, [], ◌∷◌, ◌++◌, length, sym, ◌∙◌, ap, subst, arith}
use Rattle.intel_format.specs.File.{FileUpdate, joined}
use Rattle.intel_file.specs.declared.file.IntelUpdate.{IntelUpdate}
use Rattle.intel_file.specs.declared.walk.Ended.{Ended}
use Rattle.intel_file.specs.declared.walk.What.{What}
use Rattle.intel_file.specs.Reading.{listed}
use Rattle.intel_file.specs.Walk.{IsTaken, header_in}
use Rattle.intel_file.proofs.Walks.{as_listed, listed-push}
use Rattle.intel_file.proofs.stream.list_update.Goals as goal

pub returns-in_ok-push-in-Update-clause-listed : goal.returns-in_ok-push-in-Update-clause-listed
returns-in_ok-push-in-Update-clause-listed c = λ walk bytes us pairs header taken lists.
    let (own, stands, ended) = subst (λ (w : What). IsTaken bytes us pairs walk w) c.in-Update.is taken in
    let u : FileUpdate = record { bytes = own; header = header_in walk; pairs = pairs } in
    let item : IntelUpdate = record { start = c.from.result; len = c.from-in-Update.result; header = c.args.header.now; pairs = c.in-Update.ended.pairs } in
    let start : c.from.result ≡ 0 + length (joined us) = c.from.ensures ∙ ap (λ (e : Ended). e.start) ended ∙ omega arith in
    let len : c.from-in-Update.result ≡ length own = c.from-in-Update.ensures ∙ ap (λ (e : Ended). e.len) ended in
    let count : c.in-Update.ended.pairs ≡ length pairs = ap (λ (e : Ended). e.pairs) ended in
    let same : item ≡ as_listed (0 + length (joined us)) u = λ i. record { start = start i; len = len i; header = sym header i; pairs = count i } in
    record {
      updates = us ++ u ∷ [];
      pairs = [];
      stands = stands;
      lists =
          c.in_ok-push-in-Update.ensures.items ∙ ap (λ (l : List IntelUpdate). l ++ item ∷ []) lists ∙ ap (λ (x : IntelUpdate). listed 0 us ++ x ∷ []) same ∙ sym (listed-push 0 us u);
    }
