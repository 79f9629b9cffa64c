-- Bytes that are gathered before they are handed on.
use Rattle.std.specs.Prelude.{◌≡◌, ℕ, ◌%◌, ◌<◌, List, ◌++◌, length, Option}
use Rattle.std.specs.Io.KnownBytes.{Appends}

-- behind the bytes that were held comes a piece: of all these the front, whole blocks of 65,536 bytes, is handed on, and
-- the rest, less than a block, is held
pub record Gathers (held piece done left : List ℕ) : Type 0 where
  pub split : held ++ piece ≡ done ++ left
  pub blocks : length done % 65536 ≡ 0
  pub few : length left < 65536

-- the same of a front of the piece, where not all could be handed on: what was not is held, in its order
pub record GathersFront (held piece left : List ℕ) (old new : Option (List ℕ)) : Type 0 where
  pub front : List ℕ
  pub rest : List ℕ
  pub done : List ℕ
  pub is_front : piece ≡ front ++ rest
  pub split : held ++ front ≡ done ++ left
  pub appended : Appends old new done
