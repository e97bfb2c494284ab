-- By law: the bytes of a seal as a table that is made of parts, and the seal that bytes are read as. The law
-- seals_are_read_by_their_table says which it is. A place is one less here than in the slot.
use Rattle.std.{specs.Int.{cast_signed, cast_unsigned, w32}, proofs.Common.{◌∙◌, Bool, ap, refl, subst}}
use Rattle.std.specs.Prelude.{[], ℕ, ℤ, ⊤, ◌++◌, ◌-◌, ◌==◌, ◌∷◌, ◌≡◌, ◌≢◌, FitsSigned, List, Option, if◌then◌else◌}
use Rattle.std.{specs.Prelude.{length, replicate, suc, zero}, proofs.lemmas.List.Elements.{All-head, All-tail}}
use Rattle.std.proofs.{Math.Facts.{Fits-of_z}, lemmas.{Bool.{false≢true, ne_eqb}, Int.{to_z-of_z}}}
use Rattle.{taxi_units.specs.PartedBytes.{HasNone}, slot_bodies.specs.Codec.{length-padded, made, two_bytes, zeros}}
use Rattle.{slot_bodies.specs.{BytesAt.{four_at}, ReadBack.{read_back}}, seal_record.specs.Lines.{before}}
use Rattle.slot_bodies.specs.Codec.{◌⊗◌, ◌⊙◌, Codec, always, byte, bytes, counted, eight_bytes, fitting, four_bytes}
use Rattle.seal_record.specs.{Common.{Double, IsIdentifierCharacter, Mode, Params, Single}, declared.seal.Seal.{Seal}}
use Rattle.seal_record.specs.{Limits.{digest_size, longest_taxi}, RangeTests.{character_test, seal_test}}
use Rattle.seal_record.specs.{Ranges.{IsTaxi}, Spelling.{mode_byte, offsets_size, padded, spare_size, spelling}}
pub use Rattle.seal_record.specs.Ranges.{seal_number_of}

-- ---- the parts of the table

-- the signed number in the four bytes from a place on
abbrev pub signed_at : List ℕ → ℕ → ℤ
signed_at bytes place = cast_signed w32 (four_at bytes place)

-- the mode of a byte is D if the byte is 1, and else S
abbrev pub mode_in : ℕ → Mode
mode_in byte = if byte == 1 then Double else Single

-- a mode is read again
pub mode_again : (mode : Mode) → mode_in (mode_byte mode) ≡ mode
mode_again Single = refl
mode_again Double = refl

-- one byte is a mode
abbrev pub one_mode : Codec Mode
one_mode = fitting (λ (mode : Mode). ⊤) (made byte mode_byte mode_in) (λ mode fits. (tt, mode_again mode))

-- four bytes are a signed number
abbrev pub four_signed_bytes : Codec ℤ
four_signed_bytes = fitting (λ (n : ℤ). FitsSigned w32 n) (made four_bytes (cast_unsigned w32) (cast_signed w32))
    (λ n fits. ((Fits-of_z {w = w32} fits).fits, to_z-of_z w32 n fits))

-- twelve bytes are an offset with the second from which on it is in force
abbrev pub pair_table : Codec (ℕ × ℤ)
pair_table = eight_bytes ⊗ four_signed_bytes

-- bytes without a zero stand before the zeros behind them
pub before_zeros : (text : List ℕ) (count : ℕ) → HasNone 0 text → before 0 (text ++ replicate count 0) ≡ text
before_zeros [] zero none = refl
before_zeros [] (suc count) none = refl
before_zeros (c ∷ cs) count none =
    ap (λ (is : Bool). if is then [] else c ∷ before 0 (cs ++ replicate count 0))
    (ne_eqb c 0 (All-head (λ b. b ≢ 0) c cs none))
    ∙ ap (λ (xs : List ℕ). c ∷ xs) (before_zeros cs count (All-tail (λ b. b ≢ 0) c cs none))

-- a character of taxi identifiers isn't zero
pub no_zero : (c : ℕ) → IsIdentifierCharacter c → c ≢ 0
no_zero c is zero_is = false≢true ((character_test 0).decides.1 (subst IsIdentifierCharacter zero_is is))

-- sixteen bytes are a taxi identifier, with zeros behind it
abbrev pub taxi_table : Codec (List ℕ)
taxi_table = fitting IsTaxi (made (bytes longest_taxi) (padded longest_taxi) (before 0))
    (λ text is. (
      length-padded longest_taxi text is.few,
      before_zeros text (longest_taxi - length text) (λ k d within. no_zero _ (is.characters k d within)),
    ))

-- ---- the table

-- the bytes of a seal
abbrev pub seal_table : Codec Seal
seal_table = made
    (eight_bytes ⊗ taxi_table ⊗ four_bytes ⊗ one_mode ⊗ two_bytes ⊗ bytes digest_size ⊗ four_signed_bytes
    ⊗ counted offsets_size pair_table ⊗ byte ⊗ zeros spare_size ⊗ always 1)
    (λ (s : Seal).
    s.seal_number ⊙ s.params.taxi.items ⊙ s.params.constant ⊙ s.params.mode ⊙ s.params.hold_time ⊙ s.digest
    ⊙ s.params.secured ⊙ s.params.offsets ⊙ s.decimals ⊙ tt ⊙ tt)
    (λ (seal_number, (taxi, (constant, (mode, (hold_time, (digest, (secured, (offsets, (decimals, ends))))))))).
    record {
      seal_number = seal_number;
      params = record {
        taxi = record { items = taxi };
        constant = constant;
        mode = mode;
        hold_time = hold_time;
        offsets = offsets;
        secured = secured;
      };
      digest = digest;
      decimals = decimals;
    })

-- the seal whose fields stand in the bytes at their places, whatever they are
abbrev pub decoded : List ℕ → Seal
decoded bytes = seal_table.read bytes 0

-- its parameters
abbrev pub params_in : List ℕ → Params
params_in bytes = (decoded bytes).params

-- bytes are read as the seal of their fields if each field is in its range and the bytes are the seal's own
unfoldable pub reads : List ℕ → Option Seal
reads bytes = read_back seal_test spelling decoded bytes
