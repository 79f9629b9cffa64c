-- A head and table at the front of bytes, by the length that was read there.
use Rattle.std.proofs.Common.{◌≡◌, ℕ, ◌+◌, ◌≤◌, List, length, take, drop, sym, subst, arith, take-append-drop}
use Rattle.uc_bytes.specs.Words.{word}
use Rattle.amd_format.specs.Equiv.{IsEquiv, amd_magic}
use Rattle.amd_format.proofs.Begins.{equiv_at_front}
use Rattle.amd_equiv.specs.Reading.{BeginsWithEquiv}

module _ (bytes : List ℕ) (table_len : ℕ) (long : table_len ≡ word bytes 8) (fits : 12 + table_len ≤ length bytes) (magic : word bytes 0 ≡ amd_magic) (kind : word bytes 4 ≡ 0) (some : 16 ≤ table_len) where
  -- the bytes up to the end of the table are a head and table
  pub equiv_read : IsEquiv (take (12 + table_len) bytes)
  equiv_read =
      subst (λ (n : ℕ). IsEquiv (take (12 + n) bytes)) (sym long) (equiv_at_front bytes magic kind (omega (arith, long, some)) (omega (arith, long, fits)))

  -- so the bytes begin with them
  pub begins_read : BeginsWithEquiv bytes (take (12 + table_len) bytes)
  begins_read = record {
    rest = drop (12 + table_len) bytes;
    is = equiv_read;
    split = sym (take-append-drop (12 + table_len) bytes);
  }
