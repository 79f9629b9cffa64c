-- Control words in plain lists.
use Rattle.std.specs.Prelude.{ℕ, Bool, true, List, length, nat_lt, slice_index, slice_set}
use Rattle.rendezvous_steps.specs.declared.operations.Word.{Word}
use Rattle.rendezvous_steps.specs.declared.operations.Word.TheVariants.{Arrive, OffIn, Decide, Mode, Ctrl, Nmi, Rev}
use Rattle.rendezvous_steps.specs.declared.operations.Word.TheVariants.{Res}

pub record Lists : Type 0 where
  pub arrive : ℕ
  pub off_in : ℕ
  pub decide : ℕ
  pub mode : List ℕ
  pub ctrl : List ℕ
  pub nmi : List ℕ
  pub rev : List ℕ
  pub res : List ℕ

-- which words there are
abbrev pub has_word : Lists → Word → Bool
has_word l Arrive = true
has_word l OffIn = true
has_word l Decide = true
has_word l (Mode t) = nat_lt t (length l.mode)
has_word l (Ctrl t) = nat_lt t (length l.ctrl)
has_word l (Nmi t) = nat_lt t (length l.nmi)
has_word l (Rev g) = nat_lt g (length l.rev)
has_word l (Res g) = nat_lt g (length l.res)

-- what each holds, and 0 for what there is not
abbrev pub word_of : Lists → Word → ℕ
word_of l Arrive = l.arrive
word_of l OffIn = l.off_in
word_of l Decide = l.decide
word_of l (Mode t) = slice_index l.mode t
word_of l (Ctrl t) = slice_index l.ctrl t
word_of l (Nmi t) = slice_index l.nmi t
word_of l (Rev g) = slice_index l.rev g
word_of l (Res g) = slice_index l.res g

-- the lists after a write of one word
abbrev pub with_word : Lists → Word → ℕ → Lists
with_word l Arrive v = record l { arrive = v }
with_word l OffIn v = record l { off_in = v }
with_word l Decide v = record l { decide = v }
with_word l (Mode t) v = record l { mode = slice_set l.mode t v }
with_word l (Ctrl t) v = record l { ctrl = slice_set l.ctrl t v }
with_word l (Nmi t) v = record l { nmi = slice_set l.nmi t v }
with_word l (Rev g) v = record l { rev = slice_set l.rev g v }
with_word l (Res g) v = record l { res = slice_set l.res g v }
