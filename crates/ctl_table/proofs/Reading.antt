-- The words of the table after a write, by their places.
use Rattle.std.proofs.Common.{◌≡◌, ℕ, ◌<◌, ◌≢◌, ◌==◌, Bool, true, false, if◌then◌else◌, IsTrue, List, length, slice_index, slice_set, refl, arith}
use Rattle.std.proofs.Math.Path.{fun_ext}
use Rattle.std.proofs.lemmas.Bool.Decides.{nat_tests}
use Rattle.std.proofs.lemmas.Grind.{common_steps}
use Rattle.rendezvous_steps.specs.declared.operations.Word.{Word}
use Rattle.rendezvous_steps.specs.declared.operations.Word.TheVariants.{Arrive, OffIn, Decide, Mode, Ctrl, Nmi, Rev, Res}
use Rattle.rendezvous_steps.specs.Plan.{Plan}
use Rattle.rendezvous_steps.specs.Words.{put_word}
use Rattle.ctl_words.specs.Places.{is_word, place_of, word_count}
use Rattle.ctl_table.specs.Words.{words_of}

-- a word that the plan has is read at its place
pub word_read : (plan : Plan) (row : List ℕ) (w : Word) → IsTrue (is_word plan w) → words_of plan row w ≡ slice_index row (place_of plan w)
word_read plan row w known = by (is_word plan w) known
  where
    by : (b : Bool) → IsTrue b → (if b then slice_index row (place_of plan w) else 0) ≡ slice_index row (place_of plan w)
    by true e = refl
    by false e = absurd cc

pub place_below : (plan : Plan) (w : Word) → IsTrue (is_word plan w) → place_of plan w < word_count plan
place_below plan Arrive known = omega arith
place_below plan OffIn known = omega arith
place_below plan Decide known = omega arith
place_below plan (Mode t) known = grind (arith, nat_tests)
place_below plan (Ctrl t) known = grind (arith, nat_tests)
place_below plan (Nmi t) known = grind (arith, nat_tests)
place_below plan (Rev g) known = grind (arith, nat_tests)
place_below plan (Res g) known = grind (arith, nat_tests)

-- a place after a write elsewhere, and after one in the same family
elsewhere : (b : Bool) (row : List ℕ) (i j v : ℕ) → (b ≡ true → j ≢ i) → (if b then slice_index (slice_set row i v) j else 0) ≡ (if b then slice_index row j else 0)
elsewhere false row i j v apart = refl
elsewhere true row i j v apart = let other : j ≢ i = apart refl in grind (arith, common_steps)

here : (b : Bool) (row : List ℕ) (i j v : ℕ) → i < length row → (c : Bool) → (c ≡ true → (j ≡ i) × (b ≡ true)) → (c ≡ false → b ≡ true → j ≢ i) → (if b then slice_index (slice_set row i v) j else 0) ≡ (if c then v else (if b then slice_index row j else 0))
here b row i j v below true same other = let at : j ≡ i = (same refl).0 in let known : b ≡ true = (same refl).1 in rw (known, at) (grind (arith, common_steps))
here b row i j v below false same other = elsewhere b row i j v (other refl)

set_at : (plan : Plan) (row : List ℕ) (w : Word) (v : ℕ) → IsTrue (is_word plan w) → place_of plan w < length row → (x : Word) → words_of plan (slice_set row (place_of plan w) v) x ≡ put_word (words_of plan row) w v x
set_at plan row Arrive v known below Arrive = here true row (place_of plan Arrive) (place_of plan Arrive) v below true (λ e. (refl, refl)) (λ e k. absurd cc)
set_at plan row Arrive v known below OffIn = elsewhere (is_word plan OffIn) row (place_of plan Arrive) (place_of plan OffIn) v (λ e. grind (arith, nat_tests))
set_at plan row Arrive v known below Decide = elsewhere (is_word plan Decide) row (place_of plan Arrive) (place_of plan Decide) v (λ e. grind (arith, nat_tests))
set_at plan row Arrive v known below (Mode u) = elsewhere (is_word plan (Mode u)) row (place_of plan Arrive) (place_of plan (Mode u)) v (λ e. grind (arith, nat_tests))
set_at plan row Arrive v known below (Ctrl u) = elsewhere (is_word plan (Ctrl u)) row (place_of plan Arrive) (place_of plan (Ctrl u)) v (λ e. grind (arith, nat_tests))
set_at plan row Arrive v known below (Nmi u) = elsewhere (is_word plan (Nmi u)) row (place_of plan Arrive) (place_of plan (Nmi u)) v (λ e. grind (arith, nat_tests))
set_at plan row Arrive v known below (Rev u) = elsewhere (is_word plan (Rev u)) row (place_of plan Arrive) (place_of plan (Rev u)) v (λ e. grind (arith, nat_tests))
set_at plan row Arrive v known below (Res u) = elsewhere (is_word plan (Res u)) row (place_of plan Arrive) (place_of plan (Res u)) v (λ e. grind (arith, nat_tests))
set_at plan row OffIn v known below Arrive = elsewhere (is_word plan Arrive) row (place_of plan OffIn) (place_of plan Arrive) v (λ e. grind (arith, nat_tests))
set_at plan row OffIn v known below OffIn = here true row (place_of plan OffIn) (place_of plan OffIn) v below true (λ e. (refl, refl)) (λ e k. absurd cc)
set_at plan row OffIn v known below Decide = elsewhere (is_word plan Decide) row (place_of plan OffIn) (place_of plan Decide) v (λ e. grind (arith, nat_tests))
set_at plan row OffIn v known below (Mode u) = elsewhere (is_word plan (Mode u)) row (place_of plan OffIn) (place_of plan (Mode u)) v (λ e. grind (arith, nat_tests))
set_at plan row OffIn v known below (Ctrl u) = elsewhere (is_word plan (Ctrl u)) row (place_of plan OffIn) (place_of plan (Ctrl u)) v (λ e. grind (arith, nat_tests))
set_at plan row OffIn v known below (Nmi u) = elsewhere (is_word plan (Nmi u)) row (place_of plan OffIn) (place_of plan (Nmi u)) v (λ e. grind (arith, nat_tests))
set_at plan row OffIn v known below (Rev u) = elsewhere (is_word plan (Rev u)) row (place_of plan OffIn) (place_of plan (Rev u)) v (λ e. grind (arith, nat_tests))
set_at plan row OffIn v known below (Res u) = elsewhere (is_word plan (Res u)) row (place_of plan OffIn) (place_of plan (Res u)) v (λ e. grind (arith, nat_tests))
set_at plan row Decide v known below Arrive = elsewhere (is_word plan Arrive) row (place_of plan Decide) (place_of plan Arrive) v (λ e. grind (arith, nat_tests))
set_at plan row Decide v known below OffIn = elsewhere (is_word plan OffIn) row (place_of plan Decide) (place_of plan OffIn) v (λ e. grind (arith, nat_tests))
set_at plan row Decide v known below Decide = here true row (place_of plan Decide) (place_of plan Decide) v below true (λ e. (refl, refl)) (λ e k. absurd cc)
set_at plan row Decide v known below (Mode u) = elsewhere (is_word plan (Mode u)) row (place_of plan Decide) (place_of plan (Mode u)) v (λ e. grind (arith, nat_tests))
set_at plan row Decide v known below (Ctrl u) = elsewhere (is_word plan (Ctrl u)) row (place_of plan Decide) (place_of plan (Ctrl u)) v (λ e. grind (arith, nat_tests))
set_at plan row Decide v known below (Nmi u) = elsewhere (is_word plan (Nmi u)) row (place_of plan Decide) (place_of plan (Nmi u)) v (λ e. grind (arith, nat_tests))
set_at plan row Decide v known below (Rev u) = elsewhere (is_word plan (Rev u)) row (place_of plan Decide) (place_of plan (Rev u)) v (λ e. grind (arith, nat_tests))
set_at plan row Decide v known below (Res u) = elsewhere (is_word plan (Res u)) row (place_of plan Decide) (place_of plan (Res u)) v (λ e. grind (arith, nat_tests))
set_at plan row (Mode t) v known below Arrive = elsewhere (is_word plan Arrive) row (place_of plan (Mode t)) (place_of plan Arrive) v (λ e. grind (arith, nat_tests))
set_at plan row (Mode t) v known below OffIn = elsewhere (is_word plan OffIn) row (place_of plan (Mode t)) (place_of plan OffIn) v (λ e. grind (arith, nat_tests))
set_at plan row (Mode t) v known below Decide = elsewhere (is_word plan Decide) row (place_of plan (Mode t)) (place_of plan Decide) v (λ e. grind (arith, nat_tests))
set_at plan row (Mode t) v known below (Mode u) = here (is_word plan (Mode u)) row (place_of plan (Mode t)) (place_of plan (Mode u)) v below (u == t) (λ e. (grind (arith, nat_tests), grind (arith, nat_tests))) (λ e k. grind (arith, nat_tests))
set_at plan row (Mode t) v known below (Ctrl u) = elsewhere (is_word plan (Ctrl u)) row (place_of plan (Mode t)) (place_of plan (Ctrl u)) v (λ e. grind (arith, nat_tests))
set_at plan row (Mode t) v known below (Nmi u) = elsewhere (is_word plan (Nmi u)) row (place_of plan (Mode t)) (place_of plan (Nmi u)) v (λ e. grind (arith, nat_tests))
set_at plan row (Mode t) v known below (Rev u) = elsewhere (is_word plan (Rev u)) row (place_of plan (Mode t)) (place_of plan (Rev u)) v (λ e. grind (arith, nat_tests))
set_at plan row (Mode t) v known below (Res u) = elsewhere (is_word plan (Res u)) row (place_of plan (Mode t)) (place_of plan (Res u)) v (λ e. grind (arith, nat_tests))
set_at plan row (Ctrl t) v known below Arrive = elsewhere (is_word plan Arrive) row (place_of plan (Ctrl t)) (place_of plan Arrive) v (λ e. grind (arith, nat_tests))
set_at plan row (Ctrl t) v known below OffIn = elsewhere (is_word plan OffIn) row (place_of plan (Ctrl t)) (place_of plan OffIn) v (λ e. grind (arith, nat_tests))
set_at plan row (Ctrl t) v known below Decide = elsewhere (is_word plan Decide) row (place_of plan (Ctrl t)) (place_of plan Decide) v (λ e. grind (arith, nat_tests))
set_at plan row (Ctrl t) v known below (Mode u) = elsewhere (is_word plan (Mode u)) row (place_of plan (Ctrl t)) (place_of plan (Mode u)) v (λ e. grind (arith, nat_tests))
set_at plan row (Ctrl t) v known below (Ctrl u) = here (is_word plan (Ctrl u)) row (place_of plan (Ctrl t)) (place_of plan (Ctrl u)) v below (u == t) (λ e. (grind (arith, nat_tests), grind (arith, nat_tests))) (λ e k. grind (arith, nat_tests))
set_at plan row (Ctrl t) v known below (Nmi u) = elsewhere (is_word plan (Nmi u)) row (place_of plan (Ctrl t)) (place_of plan (Nmi u)) v (λ e. grind (arith, nat_tests))
set_at plan row (Ctrl t) v known below (Rev u) = elsewhere (is_word plan (Rev u)) row (place_of plan (Ctrl t)) (place_of plan (Rev u)) v (λ e. grind (arith, nat_tests))
set_at plan row (Ctrl t) v known below (Res u) = elsewhere (is_word plan (Res u)) row (place_of plan (Ctrl t)) (place_of plan (Res u)) v (λ e. grind (arith, nat_tests))
set_at plan row (Nmi t) v known below Arrive = elsewhere (is_word plan Arrive) row (place_of plan (Nmi t)) (place_of plan Arrive) v (λ e. grind (arith, nat_tests))
set_at plan row (Nmi t) v known below OffIn = elsewhere (is_word plan OffIn) row (place_of plan (Nmi t)) (place_of plan OffIn) v (λ e. grind (arith, nat_tests))
set_at plan row (Nmi t) v known below Decide = elsewhere (is_word plan Decide) row (place_of plan (Nmi t)) (place_of plan Decide) v (λ e. grind (arith, nat_tests))
set_at plan row (Nmi t) v known below (Mode u) = elsewhere (is_word plan (Mode u)) row (place_of plan (Nmi t)) (place_of plan (Mode u)) v (λ e. grind (arith, nat_tests))
set_at plan row (Nmi t) v known below (Ctrl u) = elsewhere (is_word plan (Ctrl u)) row (place_of plan (Nmi t)) (place_of plan (Ctrl u)) v (λ e. grind (arith, nat_tests))
set_at plan row (Nmi t) v known below (Nmi u) = here (is_word plan (Nmi u)) row (place_of plan (Nmi t)) (place_of plan (Nmi u)) v below (u == t) (λ e. (grind (arith, nat_tests), grind (arith, nat_tests))) (λ e k. grind (arith, nat_tests))
set_at plan row (Nmi t) v known below (Rev u) = elsewhere (is_word plan (Rev u)) row (place_of plan (Nmi t)) (place_of plan (Rev u)) v (λ e. grind (arith, nat_tests))
set_at plan row (Nmi t) v known below (Res u) = elsewhere (is_word plan (Res u)) row (place_of plan (Nmi t)) (place_of plan (Res u)) v (λ e. grind (arith, nat_tests))
set_at plan row (Rev t) v known below Arrive = elsewhere (is_word plan Arrive) row (place_of plan (Rev t)) (place_of plan Arrive) v (λ e. grind (arith, nat_tests))
set_at plan row (Rev t) v known below OffIn = elsewhere (is_word plan OffIn) row (place_of plan (Rev t)) (place_of plan OffIn) v (λ e. grind (arith, nat_tests))
set_at plan row (Rev t) v known below Decide = elsewhere (is_word plan Decide) row (place_of plan (Rev t)) (place_of plan Decide) v (λ e. grind (arith, nat_tests))
set_at plan row (Rev t) v known below (Mode u) = elsewhere (is_word plan (Mode u)) row (place_of plan (Rev t)) (place_of plan (Mode u)) v (λ e. grind (arith, nat_tests))
set_at plan row (Rev t) v known below (Ctrl u) = elsewhere (is_word plan (Ctrl u)) row (place_of plan (Rev t)) (place_of plan (Ctrl u)) v (λ e. grind (arith, nat_tests))
set_at plan row (Rev t) v known below (Nmi u) = elsewhere (is_word plan (Nmi u)) row (place_of plan (Rev t)) (place_of plan (Nmi u)) v (λ e. grind (arith, nat_tests))
set_at plan row (Rev t) v known below (Rev u) = here (is_word plan (Rev u)) row (place_of plan (Rev t)) (place_of plan (Rev u)) v below (u == t) (λ e. (grind (arith, nat_tests), grind (arith, nat_tests))) (λ e k. grind (arith, nat_tests))
set_at plan row (Rev t) v known below (Res u) = elsewhere (is_word plan (Res u)) row (place_of plan (Rev t)) (place_of plan (Res u)) v (λ e. grind (arith, nat_tests))
set_at plan row (Res t) v known below Arrive = elsewhere (is_word plan Arrive) row (place_of plan (Res t)) (place_of plan Arrive) v (λ e. grind (arith, nat_tests))
set_at plan row (Res t) v known below OffIn = elsewhere (is_word plan OffIn) row (place_of plan (Res t)) (place_of plan OffIn) v (λ e. grind (arith, nat_tests))
set_at plan row (Res t) v known below Decide = elsewhere (is_word plan Decide) row (place_of plan (Res t)) (place_of plan Decide) v (λ e. grind (arith, nat_tests))
set_at plan row (Res t) v known below (Mode u) = elsewhere (is_word plan (Mode u)) row (place_of plan (Res t)) (place_of plan (Mode u)) v (λ e. grind (arith, nat_tests))
set_at plan row (Res t) v known below (Ctrl u) = elsewhere (is_word plan (Ctrl u)) row (place_of plan (Res t)) (place_of plan (Ctrl u)) v (λ e. grind (arith, nat_tests))
set_at plan row (Res t) v known below (Nmi u) = elsewhere (is_word plan (Nmi u)) row (place_of plan (Res t)) (place_of plan (Nmi u)) v (λ e. grind (arith, nat_tests))
set_at plan row (Res t) v known below (Rev u) = elsewhere (is_word plan (Rev u)) row (place_of plan (Res t)) (place_of plan (Rev u)) v (λ e. grind (arith, nat_tests))
set_at plan row (Res t) v known below (Res u) = here (is_word plan (Res u)) row (place_of plan (Res t)) (place_of plan (Res u)) v below (u == t) (λ e. (grind (arith, nat_tests), grind (arith, nat_tests))) (λ e k. grind (arith, nat_tests))

-- a write at a word's place changes that word and no other
pub word_set : (plan : Plan) (row : List ℕ) (w : Word) (v : ℕ) → IsTrue (is_word plan w) → length row ≡ word_count plan → words_of plan (slice_set row (place_of plan w) v) ≡ put_word (words_of plan row) w v
word_set plan row w v known wide = fun_ext (set_at plan row w v known (omega (arith, wide, place_below plan w known)))
