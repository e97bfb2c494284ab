-- Rules: the bytes of a seal behind its slot's gate, in the order of its table. Numbers have their greatest byte first.
use Rattle.{std.specs.Int.{cast_unsigned, to_be_bytes, w16, w32, w64}, seal_record.specs.declared.seal.Seal.{Seal}}
use Rattle.std.specs.Prelude.{[], ℕ, ℤ, ◌++◌, ◌∷◌, List, flat_map, length, replicate}
use Rattle.seal_record.specs.{Common.{Double, Mode, Params, Single}, Limits.{longest_taxi}}
pub use Rattle.slot_bodies.specs.Bodies.{padded}

-- an offset has twelve bytes: its second, and the offset itself
abbrev pub offset_size : ℕ
offset_size = 12

-- the offsets have 384 bytes, which are the room of 32
abbrev pub offsets_size : ℕ
offsets_size = 384

-- behind the decimals 57 bytes are spare
abbrev pub spare_size : ℕ
spare_size = 57

-- a signed number is written in four bytes, in two's complement
abbrev pub signed_bytes : ℤ → List ℕ
signed_bytes n = to_be_bytes w32 (cast_unsigned w32 n)

-- the byte of a mode is 0 for mode S and 1 for mode D
abbrev pub mode_byte : Mode → ℕ
mode_byte Single = 0
mode_byte Double = 1

-- a pair of the offsets has eight bytes for its second and four for its offset
abbrev pub pair_bytes : ℕ × ℤ → List ℕ
pair_bytes pair = to_be_bytes w64 pair.0 ++ signed_bytes pair.1

-- the settings are the constant in four bytes, the mode in one and the hold time in two
abbrev pub settings_bytes : Params → List ℕ
settings_bytes params = to_be_bytes w32 params.constant ++ (mode_byte params.mode ∷ to_be_bytes w16 params.hold_time)

-- the offsets are how many pairs there are, in one byte, and the room of 32 pairs, before the bytes behind them
abbrev pub offset_bytes : List (ℕ × ℤ) → List ℕ → List ℕ
offset_bytes offsets rest = length offsets ∷ (padded offsets_size (flat_map pair_bytes offsets) ++ rest)

-- the end is the decimals, 57 zeros, and the layout, which is 1
abbrev pub end_bytes : (decimals : ℕ) → List ℕ
end_bytes decimals = decimals ∷ (replicate spare_size 0 ++ 1 ∷ [])

-- the 511 bytes behind the gate spell the seal
abbrev pub spelling : Seal → List ℕ
spelling seal =
    to_be_bytes w64 seal.seal_number
    ++ (padded longest_taxi seal.params.taxi.items
    ++ (settings_bytes seal.params
    ++ (seal.digest
    ++ (signed_bytes seal.params.secured
    ++ offset_bytes seal.params.offsets (end_bytes seal.decimals)))))
