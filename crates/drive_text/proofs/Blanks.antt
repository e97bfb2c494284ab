-- Bytes that are parted at a byte, and the fields of a line.
use Rattle.std.{specs.{List.{slice_split}, Option.{option_map_or}}, proofs.Common.{eqb, false, length, refl}}
use Rattle.std.proofs.Common.{[], ℕ, ◌++◌, ◌<◌, ◌∙◌, ◌∷◌, ◌≡◌, All, List, MatchOption, None, Option, Some, ap, arith}
use Rattle.std.proofs.lemmas.{Bool.{ne_eqb}, List.Splits.{length-slice_split, slice_split_at, slice_split_none}}
use Rattle.drive_text.specs.{Fields.{run_of_fields}, Lines.{HasNone}}

-- no test for this byte holds
pub none_tests : (byte : ℕ) (bytes : List ℕ) → HasNone byte bytes → All (λ b. eqb b byte ≡ false) bytes
none_tests byte bytes h = λ k d lt. ne_eqb _ byte (h k d lt)

-- the first field ends at the first blank, or is all
pub first_field_by : {R : Type 0} (now : R → List ℕ) (bytes field : List ℕ) (rest : Option R) → HasNone 32 field
    → MatchOption rest (bytes ≡ field) (λ r. bytes ≡ field ++ 32 ∷ now r)
    → slice_split (λ b. eqb b 32) bytes ≡ field ∷ option_map_or (λ r. slice_split (λ b. eqb b 32) (now r)) rest []
first_field_by now bytes field None none whole =
    ap (slice_split (λ b. eqb b 32)) whole ∙ slice_split_none (λ b. eqb b 32) field (none_tests 32 field none)
first_field_by now bytes field (Some r) none parts = ap (slice_split (λ b. eqb b 32)) parts
    ∙ slice_split_at (λ b. eqb b 32) field 32 (now r) (none_tests 32 field none) refl

too_many_by : (name first second : List ℕ) (parts : List (List ℕ)) → 0 < length parts
    → run_of_fields (name ∷ first ∷ second ∷ parts) ≡ None
too_many_by name first second [] some = absurd (omega arith)
too_many_by name first second (p ∷ ps) some = refl

-- more than three fields mean nothing
pub too_many : (name first second rest : List ℕ)
    → run_of_fields (name ∷ first ∷ second ∷ slice_split (λ b. eqb b 32) rest) ≡ None
too_many name first second rest = too_many_by name first second (slice_split (λ b. eqb b 32) rest)
    (omega (arith, length-slice_split (λ b. eqb b 32) rest))
