use Rattle.std.proofs.Common.{◌≡◌, ◌+◌, ◌++◌, [], arith, sym, ◌∙◌, ap, take, drop, take-append-drop}
use Rattle.std.specs.Option.{option_map_or}
use Rattle.std.proofs.lemmas.Grind.{common_steps}
use Rattle.uc_io.proofs.opened.Opened.take.Goals as goal

pub returns-clause-taken : goal.returns-clause-taken
returns-clause-taken c =
    let taken = c.min-taken.result in
    let at = c.self.inside.at in
    let bytes = c.in-Some.bytes.value.items in
    let rest = drop at bytes in
    let front : take taken (c.copy_from_slice.new.self ++ drop taken c.args.into.now) ≡ take taken rest = grind (arith, common_steps) in
    let behind : drop (at + taken) bytes ≡ drop taken rest = grind (arith, common_steps) in
    let seen = ap (λ shared. option_map_or (λ held. drop at held.value.items) shared []) c.in-Some.is in
    let left = ap (λ shared. option_map_or (λ held. drop (at + taken) held.value.items) shared []) c.in-Some.is in
    rw (front, left, behind) (sym (take-append-drop taken rest ∙ sym seen ∙ c.self.view_is))
