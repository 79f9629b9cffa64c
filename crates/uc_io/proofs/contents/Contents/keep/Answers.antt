use Rattle.std.proofs.Common.{◌≡◌, string_bytes, ap}
use Rattle.std.proofs.lemmas.Map.Text.{btree_map_updates_text}
use Rattle.std.proofs.lemmas.Result.{IfOk-at_ok}
use Rattle.std.specs.BTreeMap.{get_by_text}
use Rattle.uc_io.proofs.Putting.{Puts-update}
use Rattle.uc_io.proofs.contents.Contents.keep.Goals as goal

pub returns-clause-ok : goal.returns-clause-ok
returns-clause-ok c =
    let key_is_name = IfOk-at_ok (λ s. string_bytes s ≡ c.args.name.now) c.in_ok-key.was c.from_str.ensures.ok in
    let sets = btree_map_updates_text (string_bytes c.in_ok-key.key) c.args.self.now.by_name c.insert.new.self _ c.in_ok-insert.ensures.updates in
    let same = ap (λ bytes. bytes.items) (IfOk-at_ok (λ shared. shared.value ≡ c.args.bytes) c.in_ok-shared.was c.new.ensures.ok) in
    Puts-update (λ held. held.value.items) (get_by_text c.args.self.now.by_name) (get_by_text c.insert.new.self) c.args.name.now _ c.args.bytes.items same (rw key_is_name at sets)
