-- The header of an Intel update and the sizes that it states.
use Rattle.std.specs.Prelude.{ℕ, ◌+◌, ◌%◌, ◌^◌, ◌==◌, if◌then◌else◌, List}
use Rattle.uc_bytes.specs.Words.{word}
use Rattle.intel_format.specs.declared.header.IntelHeader.{IntelHeader}

-- the twelve words at the front
abbrev pub header_of : List ℕ → IntelHeader
header_of bytes = record {
  version = word bytes 0;
  rev = word bytes 4;
  date = word bytes 8;
  sig = word bytes 12;
  cksum = word bytes 16;
  loader = word bytes 20;
  flags = word bytes 24;
  size_field = word bytes 28;
  total_field = word bytes 32;
  meta = word bytes 36;
  min = word bytes 40;
  reserved = word bytes 44;
}

-- the length of the data: a size of 0 stands for 2,000 bytes
abbrev pub data_len : IntelHeader → ℕ
data_len h = if h.size_field == 0 then 2000 else h.size_field

-- the length of the whole update: beside a data size of 0 it is 2,048, whatever the total says
abbrev pub total_len : IntelHeader → ℕ
total_len h = if h.size_field == 0 then 2048 else h.total_field

-- what each entry of the extended signature table sums to
abbrev pub header_triple : IntelHeader → ℕ
header_triple h = (h.sig + h.flags + h.cksum) % 2 ^ 32
