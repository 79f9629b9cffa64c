-- An entry with its bytes.
use Rattle.std.specs.Prelude.{ℕ, ◌+◌, ◌*◌, ◌/◌, List, ◌++◌, length, take, drop, map, flat_map, codes}
use Rattle.std.specs.List.{range_with_len}
use Rattle.hex.specs.Hex.{encode_lower}
use Rattle.entry_model.specs.Entry.{Entry}
use Rattle.report_text.specs.Listing.{entry_line}

-- the bytes 32 by 32, the last piece being what is left
abbrev pub rows_of_32 : List ℕ → List (List ℕ)
rows_of_32 bytes = map (λ i. take 32 (drop (32 * i) bytes)) (range_with_len 0 ((length bytes + 31) / 32))

-- bytes as pairs of hexadecimal digits
abbrev pub hex_line : List ℕ → List ℕ
hex_line bytes = encode_lower bytes ++ codes "\n"

-- the line of an entry, and then its bytes
abbrev pub show_text : (ℕ → List ℕ) → ℕ → Entry → List ℕ
show_text date_text number entry =
    entry_line date_text number entry.facts ++ flat_map hex_line (rows_of_32 entry.bytes)
