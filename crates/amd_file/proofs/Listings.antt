-- The patches that were told, and the containers that they make.
use Rattle.std.proofs.Common.{◌≡◌, ℕ, zero, suc, get_or, arith, ◌+◌, Bool, true, false, List, [], ◌∷◌, ◌++◌, length, drop, map, refl, sym, ◌∙◌, ap, append-nil, append_assoc}
use Rattle.std.proofs.Math.ListN.{set}
use Rattle.amd_format.specs.Equiv.{rows_of}
use Rattle.amd_format.specs.File.{FileContainer, container_bytes}
use Rattle.amd_file.specs.declared.part.AmdHead.{AmdHead}
use Rattle.amd_file.specs.declared.part.AmdPart.{AmdPart}
use Rattle.amd_file.specs.declared.part.AmdPart.TheVariants.{More, Container, Row, Patch, Fault}
use Rattle.amd_file.specs.declared.container.AmdPatch.{AmdPatch}
use Rattle.amd_file.specs.declared.container.AmdContainer.{AmdContainer}
use Rattle.amd_file.specs.declared.listing.Listed.{Listed}
use Rattle.amd_file.specs.declared.listing.Listing.{Listing}
use Rattle.amd_file.specs.Listings.{IsListing, IsAdded}
use Rattle.amd_file.specs.Patches.{patches_at}
use Rattle.amd_file.specs.Parsing.{head_at, told_of}
use Rattle.amd_file.specs.Reading.{listed_with, listed}
use Rattle.amd_file.specs.Listing.{patches_told, last_head, is_fresh, with_last, with_listed, grouped}

-- a patch with its container
abbrev pub in_container : AmdHead → Bool → AmdPatch → Listed
in_container head first patch = record { head = head; first = first; patch = patch }

-- ---- one part more at the end

-- a container more
pub told_container : (head : AmdHead) (fresh : Bool) (told : List AmdPart) (next : AmdHead)
    → (patches_told head fresh (told ++ Container next ∷ []) ≡ patches_told head fresh told) × (last_head head (told ++ Container next ∷ []) ≡ next) × (is_fresh fresh (told ++ Container next ∷ []) ≡ true)
told_container head fresh [] next = (refl, refl, refl)
told_container head fresh (More ∷ told) next = told_container head fresh told next
told_container head fresh (Container other ∷ told) next = told_container other true told next
told_container head fresh (Row row ∷ told) next = told_container head fresh told next
told_container head fresh (Patch patch ∷ told) next =
    let behind = told_container head false told next in
    (ap (λ (l : List Listed). in_container head fresh patch ∷ l) behind.0, behind.1, behind.2)
told_container head fresh (Fault fault ∷ told) next = told_container head fresh told next

-- a row more
pub told_row : (head : AmdHead) (fresh : Bool) (told : List AmdPart) (row : ℕ × ℕ)
    → (patches_told head fresh (told ++ Row row ∷ []) ≡ patches_told head fresh told) × (last_head head (told ++ Row row ∷ []) ≡ last_head head told) × (is_fresh fresh (told ++ Row row ∷ []) ≡ is_fresh fresh told)
told_row head fresh [] row = (refl, refl, refl)
told_row head fresh (More ∷ told) row = told_row head fresh told row
told_row head fresh (Container other ∷ told) row = told_row other true told row
told_row head fresh (Row before ∷ told) row = told_row head fresh told row
told_row head fresh (Patch patch ∷ told) row =
    let behind = told_row head false told row in
    (ap (λ (l : List Listed). in_container head fresh patch ∷ l) behind.0, behind.1, behind.2)
told_row head fresh (Fault fault ∷ told) row = told_row head fresh told row

-- a patch more
pub told_patch : (head : AmdHead) (fresh : Bool) (told : List AmdPart) (patch : AmdPatch)
    → (patches_told head fresh (told ++ Patch patch ∷ []) ≡ patches_told head fresh told ++ in_container (last_head head told) (is_fresh fresh told) patch ∷ [])
    × (last_head head (told ++ Patch patch ∷ []) ≡ last_head head told) × (is_fresh fresh (told ++ Patch patch ∷ []) ≡ false)
told_patch head fresh [] patch = (refl, refl, refl)
told_patch head fresh (More ∷ told) patch = told_patch head fresh told patch
told_patch head fresh (Container other ∷ told) patch = told_patch other true told patch
told_patch head fresh (Row row ∷ told) patch = told_patch head fresh told patch
told_patch head fresh (Patch before ∷ told) patch =
    let behind = told_patch head false told patch in
    (ap (λ (l : List Listed). in_container head fresh before ∷ l) behind.0, behind.1, behind.2)
told_patch head fresh (Fault fault ∷ told) patch = told_patch head fresh told patch

-- ---- the containers of all patches

-- one patch more is put in last
pub grouped-push : (containers : List AmdContainer) (patches : List Listed) (last : Listed) → grouped containers (patches ++ last ∷ []) ≡ with_listed (grouped containers patches) last
grouped-push containers [] last = refl
grouped-push containers (first ∷ patches) last = grouped-push (with_listed containers first) patches last

-- a container with some patches
abbrev with_all : AmdHead → List AmdPatch → AmdContainer
with_all head patches = record { start = head.start; table_len = head.table_len; patches = patches }

-- a patch more in the last of some containers
with_last-push : (containers : List AmdContainer) (head : AmdHead) (patches : List AmdPatch) (patch : AmdPatch)
    → with_last (containers ++ with_all head patches ∷ []) patch ≡ containers ++ with_all head (patches ++ patch ∷ []) ∷ []
with_last-push [] head patches patch = refl
with_last-push (c ∷ []) head patches patch = refl
with_last-push (c ∷ d ∷ cs) head patches patch = ap (λ (l : List AmdContainer). c ∷ l) (with_last-push (d ∷ cs) head patches patch)

-- rows are passed over
rows-passed : (head : AmdHead) (fresh : Bool) (rows : List (ℕ × ℕ)) (told : List AmdPart) → patches_told head fresh (map Row rows ++ told) ≡ patches_told head fresh told
rows-passed head fresh [] told = refl
rows-passed head fresh (row ∷ rows) told = rows-passed head fresh rows told

-- patches of a container that has some already
patches-added : (containers : List AmdContainer) (head : AmdHead) (some more : List AmdPatch) (told : List AmdPart)
    → grouped (containers ++ with_all head some ∷ []) (patches_told head false (map Patch more ++ told)) ≡ grouped (containers ++ with_all head (some ++ more) ∷ []) (patches_told head false told)
patches-added containers head some [] told =
    ap (λ (l : List AmdPatch). grouped (containers ++ with_all head l ∷ []) (patches_told head false told)) (sym (append-nil some))
patches-added containers head some (patch ∷ more) told =
    ap (λ (cs : List AmdContainer). grouped cs (patches_told head false (map Patch more ++ told))) (with_last-push containers head some patch)
    ∙ patches-added containers head (some ++ patch ∷ []) more told
    ∙ ap (λ (l : List AmdPatch). grouped (containers ++ with_all head l ∷ []) (patches_told head false told)) (append_assoc some (patch ∷ []) more)

-- one container: its patches, none or some, and then the others, of which this is known already
one-told : (containers : List AmdContainer) (head : AmdHead) (patches : List AmdPatch) (start : ℕ) (cs : List FileContainer)
    → ((others : List AmdContainer) (next : AmdHead) (fresh : Bool) → grouped others (patches_told next fresh (told_of start cs)) ≡ others ++ listed start cs)
    → grouped containers (patches_told head true (map Patch patches ++ told_of start cs)) ≡ containers ++ (listed_with head.start head.table_len patches ++ listed start cs)
one-told containers head [] start cs known = known containers head true
one-told containers head (patch ∷ patches) start cs known =
    ap (λ (l : List AmdContainer). grouped l (patches_told head false (map Patch patches ++ told_of start cs))) (with_last-push containers head [] patch)
    ∙ patches-added containers head (patch ∷ []) patches (told_of start cs)
    ∙ known (containers ++ with_all head (patch ∷ patches) ∷ []) head false
    ∙ append_assoc containers (with_all head (patch ∷ patches) ∷ []) (listed start cs)

-- the patches that are told of containers make those that have one
pub grouped-told : (cs : List FileContainer) (start : ℕ) (containers : List AmdContainer) (head : AmdHead) (fresh : Bool)
    → grouped containers (patches_told head fresh (told_of start cs)) ≡ containers ++ listed start cs
grouped-told [] start containers head fresh = sym (append-nil containers)
grouped-told (c ∷ cs) start containers head fresh =
    let next = head_at start (length (drop 12 c.equiv)) in
    let patches = patches_at (start + length c.equiv) c.sections in
    let place = start + length (container_bytes c) in
    ap (λ (l : List Listed). grouped containers l) (rows-passed next true (rows_of c.equiv) (map Patch patches ++ told_of place cs))
    ∙ one-told containers next patches place cs (grouped-told cs place)

-- ---- what the code does

-- a container with one patch more
abbrev with_patch : AmdContainer → AmdPatch → AmdContainer
with_patch c patch = record { start = c.start; table_len = c.table_len; patches = c.patches ++ patch ∷ [] }

-- the last container is written with one patch more
pub set_last-is : (items : List AmdContainer) (n : ℕ) (d : AmdContainer) (patch : AmdPatch) → length items ≡ n + 1 → set items n (with_patch (get_or items n d) patch) ≡ with_last items patch
set_last-is [] n d patch many = absurd (omega (arith, many))
set_last-is (c ∷ []) zero d patch many = refl
set_last-is (c ∷ []) (suc n) d patch many = absurd (omega (arith, many))
set_last-is (c ∷ e ∷ cs) zero d patch many = absurd (omega (arith, many))
set_last-is (c ∷ e ∷ cs) (suc n) d patch many =
    ap (λ (l : List AmdContainer). c ∷ l) (set_last-is (e ∷ cs) n d patch (omega (arith, many)))

-- the listing of one part more
module _ (listing : Listing) (told : List AmdPart) (at : IsListing told listing) where
  pub listed_container : (next : AmdHead) (after : Listing) → after.patches.items ≡ listing.patches.items → after.head ≡ next → after.fresh ≡ true → IsListing (told ++ Container next ∷ []) after
  listed_container next after patches head fresh =
      let behind = told_container (head_at 0 0) true told next in
      record {
        patches = patches ∙ at.patches ∙ sym behind.0;
        head = head ∙ sym behind.1;
        fresh = fresh ∙ sym behind.2;
      }

  pub listed_patch : (patch : AmdPatch) (after : Listing) → after.patches.items ≡ listing.patches.items ++ in_container listing.head listing.fresh patch ∷ [] → after.head ≡ listing.head → after.fresh ≡ false
      → IsListing (told ++ Patch patch ∷ []) after
  listed_patch patch after patches head fresh =
      let behind = told_patch (head_at 0 0) true told patch in
      record {
        patches = patches ∙ (λ i. at.patches i ++ in_container (at.head i) (at.fresh i) patch ∷ []) ∙ sym behind.0;
        head = head ∙ at.head ∙ sym behind.1;
        fresh = fresh ∙ sym behind.2;
      }

  -- other parts change nothing
  pub listed_other : (part : AmdPart) → ((head : AmdHead) → part ≡ Container head → ⊥) → ((patch : AmdPatch) → part ≡ Patch patch → ⊥) → IsAdded told part listing
  listed_other More no_container no_patch = at
  listed_other (Container head) no_container no_patch = absurd (no_container head refl)
  listed_other (Row row) no_container no_patch =
      let behind = told_row (head_at 0 0) true told row in
      record { patches = at.patches ∙ sym behind.0; head = at.head ∙ sym behind.1; fresh = at.fresh ∙ sym behind.2 }
  listed_other (Patch patch) no_container no_patch = absurd (no_patch patch refl)
  listed_other (Fault fault) no_container no_patch = at
