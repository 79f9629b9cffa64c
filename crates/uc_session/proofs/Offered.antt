-- Whether a load offers anything.
use Rattle.std.proofs.Common.{◌≡◌, ℕ, zero, suc, true, false, List, [], ◌∷◌, Option, Some, None, is_some, refl, arith}
use Rattle.std.specs.List.{list_any}
use Rattle.std.proofs.lemmas.Bool.{true≢false, false≢true}
use Rattle.session_steps.specs.Offers.{NothingOffered, SomethingOffered}

pub something : (offers : List (Option ℕ)) → list_any is_some offers ≡ true → SomethingOffered offers
something [] is = absurd (false≢true is)
something (Some entry ∷ offers) is = record { group = 0; entry = entry; is_offered = refl }
something (None ∷ offers) is =
    let rest : SomethingOffered offers = something offers is in
    record { group = suc rest.group; entry = rest.entry; is_offered = rest.is_offered }

pub nothing : (offers : List (Option ℕ)) → list_any is_some offers ≡ false → NothingOffered offers
nothing [] is g below = absurd (omega (arith, below))
nothing (Some entry ∷ offers) is g below = absurd (true≢false is)
nothing (None ∷ offers) is zero below = refl
nothing (None ∷ offers) is (suc g) below = nothing offers is g (omega (arith, below))
