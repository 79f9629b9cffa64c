use Rattle.std.proofs.Common.{◌≡◌, ◌≤◌, All, length}
use Rattle.main_parts.proofs.arguments.words.Given as goal

-- each word is within the room of the buffer, which stays
abbrev pub invariant-loop-place : goal.invariant-loop-place
invariant-loop-place g l =
    All (λ word. length word ≤ 131072) l.words.items × (length l.buffer.items ≡ 131072)
