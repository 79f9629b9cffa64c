-- The lists of a plan's words as they are made.
use Rattle.std.proofs.Common.{◌≡◌, ℕ, slice_index, replicate, refl, zero, suc}
use Rattle.std.proofs.Math.Path.{fun_ext}
use Rattle.rendezvous_steps.specs.declared.operations.Word.{Word}
use Rattle.rendezvous_steps.specs.declared.operations.Word.TheVariants.{Arrive, OffIn, Decide, Mode, Ctrl, Nmi, Rev, Res}
use Rattle.rendezvous_steps.specs.Plan.{Plan, online_count}
use Rattle.rendezvous_steps.specs.Words.{opening_words}
use Rattle.ctl_words.specs.Lists.{Lists, word_of}

pub slice_index-zeros : (n k : ℕ) → slice_index (replicate n 0) k ≡ 0
slice_index-zeros zero k = refl
slice_index-zeros (suc n) zero = refl
slice_index-zeros (suc n) (suc k) = slice_index-zeros n k

-- what the lists hold when a rendezvous begins
pub record Opens (plan : Plan) (l : Lists) : Type 0 where
  pub arrive : l.arrive ≡ online_count plan
  pub off_in : l.off_in ≡ 0
  pub decide : l.decide ≡ 0
  pub mode : (t : ℕ) → slice_index l.mode t ≡ 0
  pub ctrl : (t : ℕ) → slice_index l.ctrl t ≡ 0
  pub nmi : (t : ℕ) → slice_index l.nmi t ≡ 0
  pub rev : (g : ℕ) → slice_index l.rev g ≡ plan.rev0 g
  pub res : (g : ℕ) → slice_index l.res g ≡ 0

word_of-opening_at : (plan : Plan) (l : Lists) → Opens plan l → (w : Word) → word_of l w ≡ opening_words plan w
word_of-opening_at plan l h Arrive = h.arrive
word_of-opening_at plan l h OffIn = h.off_in
word_of-opening_at plan l h Decide = h.decide
word_of-opening_at plan l h (Mode t) = h.mode t
word_of-opening_at plan l h (Ctrl t) = h.ctrl t
word_of-opening_at plan l h (Nmi t) = h.nmi t
word_of-opening_at plan l h (Rev g) = h.rev g
word_of-opening_at plan l h (Res g) = h.res g

pub word_of-opening : (plan : Plan) (l : Lists) → Opens plan l → word_of l ≡ opening_words plan
word_of-opening plan l h = fun_ext (word_of-opening_at plan l h)
