-- An update at the front of bytes, by what holds of its header, its lengths, its sum and its table.
use Rattle.std.proofs.Common.{◌≡◌, ℕ, ◌+◌, ◌≤◌, List, length, take, drop, sym, ◌∙◌, ap, arith, take-append-drop, length-take}
use Rattle.std.proofs.lemmas.List.{take-append-le}
use Rattle.uc_bytes.specs.Words.{word_sum_of}
use Rattle.intel_format.specs.declared.header.IntelHeader.{IntelHeader}
use Rattle.intel_format.specs.Header.{header_of, data_len, total_len, header_triple}
use Rattle.intel_format.specs.Update.{IsIntelUpdate, IsTable, IsSoundHeader}
use Rattle.intel_format.specs.Checks.{table_of, head_and_data}
use Rattle.intel_format.proofs.Front.{header_of-append}

module _ (bytes : List ℕ) (pairs : List (ℕ × ℕ)) (sound : IsSoundHeader (header_of bytes)) (whole : total_len (header_of bytes) ≤ length bytes) where
  abbrev h : IntelHeader
  h = header_of bytes

  abbrev front : List ℕ
  front = take (total_len h) bytes

  front_long : length front ≡ total_len h
  front_long = simp length-take (omega (arith, whole))

  same_header : header_of front ≡ h
  same_header =
      sym (header_of-append front (drop (total_len h) bytes) (omega (arith, front_long, sound.header_fits))) ∙ ap header_of (take-append-drop (total_len h) bytes)

  same_data : take (48 + data_len h) front ≡ head_and_data bytes
  same_data =
      sym (take-append-le (48 + data_len h) front (drop (total_len h) bytes) (omega (arith, front_long, sound.data_fits))) ∙ ap (λ (l : List ℕ). take (48 + data_len h) l) (take-append-drop (total_len h) bytes)

  pub update_at_front : word_sum_of (head_and_data bytes) ≡ 0 → IsTable (header_triple h) (table_of bytes) pairs → IsIntelUpdate front h pairs
  update_at_front sum table = record { header = sym same_header; sound = sound; whole = front_long; sum = ap word_sum_of same_data ∙ sum; table = table }
