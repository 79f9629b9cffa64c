-- What a write to the lists does to the words that they hold.
use Rattle.std.proofs.Common.{◌≡◌, ℕ, ◌==◌, nat_lt, if◌then◌else◌, IsTrue, List, length, slice_index, slice_set, refl, ap, arith, length-set}
use Rattle.std.proofs.Math.Path.{fun_ext}
use Rattle.std.proofs.lemmas.Bool.Decides.{nat_tests}
use Rattle.std.proofs.lemmas.Grind.{common_steps}
use Rattle.rendezvous_steps.specs.declared.operations.Word.{Word}
use Rattle.rendezvous_steps.specs.declared.operations.Word.TheVariants.{Arrive, OffIn, Decide, Mode, Ctrl, Nmi, Rev, Res}
use Rattle.rendezvous_steps.specs.Words.{put_word}
use Rattle.ctl_words.specs.Lists.{Lists, has_word, word_of, with_word}

-- a place of a list after a write
place_written : (xs : List ℕ) (t v u : ℕ) → IsTrue (nat_lt t (length xs)) → slice_index (slice_set xs t v) u ≡ (if u == t then v else slice_index xs u)
place_written xs t v u h = grind (arith, nat_tests, common_steps)

-- a place that is written with what it holds
place_kept : (table : ℕ → ℕ) (t u : ℕ) → (if u == t then table t else table u) ≡ table u
place_kept table t u = grind (arith, nat_tests)

word_of-with_word_at : (l : Lists) (w : Word) (v : ℕ) → IsTrue (has_word l w) → (x : Word) → word_of (with_word l w v) x ≡ put_word (word_of l) w v x
word_of-with_word_at l Arrive v h Arrive = refl
word_of-with_word_at l OffIn v h OffIn = refl
word_of-with_word_at l Decide v h Decide = refl
word_of-with_word_at l (Mode t) v h (Mode u) = place_written l.mode t v u h
word_of-with_word_at l (Ctrl t) v h (Ctrl u) = place_written l.ctrl t v u h
word_of-with_word_at l (Nmi t) v h (Nmi u) = place_written l.nmi t v u h
word_of-with_word_at l (Rev t) v h (Rev u) = place_written l.rev t v u h
word_of-with_word_at l (Res t) v h (Res u) = place_written l.res t v u h
word_of-with_word_at l w v h x = refl

-- a write changes that one word
pub word_of-with_word : (l : Lists) (w : Word) (v : ℕ) → IsTrue (has_word l w) → word_of (with_word l w v) ≡ put_word (word_of l) w v
word_of-with_word l w v h = fun_ext (word_of-with_word_at l w v h)

put_word_kept_at : (words : Word → ℕ) (w x : Word) → put_word words w (words w) x ≡ words x
put_word_kept_at words Arrive Arrive = refl
put_word_kept_at words OffIn OffIn = refl
put_word_kept_at words Decide Decide = refl
put_word_kept_at words (Mode t) (Mode u) = place_kept (λ k. words (Mode k)) t u
put_word_kept_at words (Ctrl t) (Ctrl u) = place_kept (λ k. words (Ctrl k)) t u
put_word_kept_at words (Nmi t) (Nmi u) = place_kept (λ k. words (Nmi k)) t u
put_word_kept_at words (Rev t) (Rev u) = place_kept (λ k. words (Rev k)) t u
put_word_kept_at words (Res t) (Res u) = place_kept (λ k. words (Res k)) t u
put_word_kept_at words w x = refl

-- a word that is written with what it holds changes nothing
pub put_word_kept : (words : Word → ℕ) (w : Word) → put_word words w (words w) ≡ words
put_word_kept words w = fun_ext (put_word_kept_at words w)

has_word-with_word_at : (l : Lists) (w : Word) (v : ℕ) → (x : Word) → has_word (with_word l w v) x ≡ has_word l x
has_word-with_word_at l (Mode t) v (Mode u) = ap (nat_lt u) (length-set l.mode t v)
has_word-with_word_at l (Ctrl t) v (Ctrl u) = ap (nat_lt u) (length-set l.ctrl t v)
has_word-with_word_at l (Nmi t) v (Nmi u) = ap (nat_lt u) (length-set l.nmi t v)
has_word-with_word_at l (Rev t) v (Rev u) = ap (nat_lt u) (length-set l.rev t v)
has_word-with_word_at l (Res t) v (Res u) = ap (nat_lt u) (length-set l.res t v)
has_word-with_word_at l w v x = refl

-- a write keeps which words there are
pub has_word-with_word : (l : Lists) (w : Word) (v : ℕ) → has_word (with_word l w v) ≡ has_word l
has_word-with_word l w v = fun_ext (has_word-with_word_at l w v)
