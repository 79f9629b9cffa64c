use Rattle.std.proofs.Common.{◌≡◌, ℕ, ◌+◌, ◌<◌, length, List, [], get_or, take, sym, ◌∙◌, ap, arith}
use Rattle.std.proofs.lemmas.Grind.{take_at_read}
use Rattle.amd_file.specs.declared.container.AmdContainer.{AmdContainer}
use Rattle.amd_file.specs.declared.listing.Listed.{Listed}
use Rattle.amd_file.specs.Listing.{with_listed, grouped}
use Rattle.amd_file.proofs.Listings.{grouped-push}
use Rattle.amd_file.proofs.listing.containers_of.Goals as goal

-- the containers of the patches so far, with one more
one_more : (patches : List Listed) (i : ℕ) (d : Listed) (before after : List AmdContainer) → i < length patches → before ≡ grouped [] (take i patches) → after ≡ with_listed before (get_or patches i d)
    → after ≡ grouped [] (take (i + 1) patches)
one_more patches i d before after inside was is =
    is
    ∙ ap (λ (l : List AmdContainer). with_listed l (get_or patches i d)) was
    ∙ sym (grouped-push [] (take i patches) (get_or patches i d))
    ∙ ap (λ (l : List Listed). grouped [] l) (sym (take_at_read patches i d inside).1)

pub loop-listed-preserved : goal.loop-listed-preserved
loop-listed-preserved c =
    one_more c.args.patches.now c.loop-listed.listed-index _ c.loop-listed.containers.items c.add_listed.new.containers.items (omega (arith, c.loop-listed-test.true, c.loop-listed.auto.listed-index-end)) c.loop-listed.invariant c.in_ok-add_listed.ensures
