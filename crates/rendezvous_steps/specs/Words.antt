-- The control words, as a function of which word, and what an operation leaves of them.
use Rattle.std.specs.Prelude.{ℕ, ◌+◌, ◌-◌, ◌%◌, ◌^◌, ◌==◌, if◌then◌else◌}
use Rattle.rendezvous_steps.specs.declared.operations.Word.{Word}
use Rattle.rendezvous_steps.specs.declared.operations.Word.TheVariants.{Arrive, OffIn, Decide, Mode, Ctrl, Nmi, Rev}
use Rattle.rendezvous_steps.specs.declared.operations.Word.TheVariants.{Res}
use Rattle.rendezvous_steps.specs.declared.operations.Op.{Op}
use Rattle.rendezvous_steps.specs.declared.operations.Op.TheVariants.{Load, Store, Add, Sub, Cas}
use Rattle.rendezvous_steps.specs.Plan.{Plan, online_count}

-- the one word that an operation touches
abbrev pub touched : Op → Word
touched (Load w) = w
touched (Store w new) = w
touched (Add w by) = w
touched (Sub w by) = w
touched (Cas w expected new) = w

-- what that word holds afterwards, where it held old before. Sums wrap
abbrev pub written : Op → ℕ → ℕ
written (Load w) old = old
written (Store w new) old = new
written (Add w by) old = (old + by) % 2 ^ 64
written (Sub w by) old = (old + (2 ^ 64 - by)) % 2 ^ 64
written (Cas w expected new) old = if old == expected then new else old

-- the words with this one changed to v
abbrev pub put_word : (Word → ℕ) → Word → ℕ → Word → ℕ
put_word words Arrive v Arrive = v
put_word words OffIn v OffIn = v
put_word words Decide v Decide = v
put_word words (Mode t) v (Mode u) = if u == t then v else words (Mode u)
put_word words (Ctrl t) v (Ctrl u) = if u == t then v else words (Ctrl u)
put_word words (Nmi t) v (Nmi u) = if u == t then v else words (Nmi u)
put_word words (Rev g) v (Rev h) = if h == g then v else words (Rev h)
put_word words (Res g) v (Res h) = if h == g then v else words (Res h)
put_word words changed v w = words w

-- the words after an operation
abbrev pub words_after : (Word → ℕ) → Op → Word → ℕ
words_after words op = put_word words (touched op) (written op (words (touched op)))

-- the words when a rendezvous begins
abbrev pub opening_words : Plan → Word → ℕ
opening_words plan Arrive = online_count plan
opening_words plan (Rev g) = plan.rev0 g
opening_words plan w = 0

-- the same words, family by family
pub record Families : Type 0 where
  pub arrive : ℕ
  pub off_in : ℕ
  pub decide : ℕ
  pub mode : ℕ → ℕ
  pub ctrl : ℕ → ℕ
  pub nmi : ℕ → ℕ
  pub rev : ℕ → ℕ
  pub res : ℕ → ℕ

abbrev pub families : (Word → ℕ) → Families
families words =
    record {
      arrive = words Arrive;
      off_in = words OffIn;
      decide = words Decide;
      mode = λ t. words (Mode t);
      ctrl = λ t. words (Ctrl t);
      nmi = λ t. words (Nmi t);
      rev = λ g. words (Rev g);
      res = λ g. words (Res g);
    }
