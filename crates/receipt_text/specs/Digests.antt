-- For proofs: digests at the front of a text, read byte by byte as the code reads them. Grammar says by IsHexText which
-- texts they are.
use Rattle.std.specs.Prelude.{[], ℕ, ◌&&◌, ◌*◌, ◌+◌, ◌-◌, ◌∷◌, List, None, Option, Some, if◌then◌else◌, nat_le, suc}
use Rattle.std.specs.Prelude.{zero}
use Rattle.receipt_text.specs.Common.{◌>>=◌}

-- a lower-case hexadecimal digit has this value, and another byte has none
abbrev pub hex_value : ℕ → Option ℕ
hex_value c =
    if nat_le 48 c && nat_le c 57 then Some (c - 48)
    else (if nat_le 97 c && nat_le c 102 then Some (c - 97 + 10) else None)

-- two hexadecimal digits stand at the front and make this byte, and this text stands behind them
abbrev pub byte_at : List ℕ → Option (ℕ × List ℕ)
byte_at [] = None
byte_at (high ∷ []) = None
byte_at (high ∷ low ∷ rest) =
    hex_value high >>= (λ h. hex_value low >>= (λ l. Some (h * 16 + l, rest)))

-- `count` bytes stand at the front, with two hexadecimal digits each, and this text behind them
unfoldable pub bytes_at : (count : ℕ) → List ℕ → Option (List ℕ × List ℕ)
bytes_at zero text = Some ([], text)
bytes_at (suc count) text =
    byte_at text >>= (λ byte. bytes_at count byte.1 >>= (λ bytes. Some (byte.0 ∷ bytes.0, bytes.1)))

-- the 32 bytes of a digest stand at the front, and this text behind them
unfoldable pub digest_at : List ℕ → Option (List ℕ × List ℕ)
digest_at text = bytes_at 32 text
