-- The control words, read from the table by their places.
use Rattle.std.specs.Prelude.{ℕ, ◌==◌, ◌||◌, Bool, List, if◌then◌else◌, slice_index, IsTrue}
use Rattle.rendezvous_steps.specs.declared.operations.Word.{Word}
use Rattle.rendezvous_steps.specs.declared.operations.Word.TheVariants.{Rev}
use Rattle.rendezvous_steps.specs.Plan.{Plan, offer_or_rev0}
use Rattle.ctl_words.specs.Places.{is_word, place_of}

-- what each word holds; what there is not holds 0
abbrev pub words_of : Plan → List ℕ → Word → ℕ
words_of plan row w = if is_word plan w then slice_index row (place_of plan w) else 0

-- n is the group's first revision, or its offer
abbrev pub is_first_or_offer : Plan → ℕ → ℕ → Bool
is_first_or_offer plan g n = (n == plan.rev0 g) || (n == offer_or_rev0 plan g)

-- each group's revision is its first, or its offer
abbrev pub RevisionsAre : Plan → (Word → ℕ) → Type 0
RevisionsAre plan words = (g : ℕ) → IsTrue (is_first_or_offer plan g (words (Rev g)))
