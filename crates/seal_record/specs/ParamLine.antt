-- Rules: what one line of a parameter text says, in words that share nothing with how it is read.
use Rattle.std.specs.Prelude.{[], ℕ, ℤ, ◌++◌, ◌∷◌, ◌≡◌, List, None, Some, codes}
use Rattle.seal_record.specs.{Common.{IsNumberIn, IsOffsetList, Mode}, Forms.{IsDateText, IsModeText, IsPairText}}
use Rattle.seal_record.specs.{Limits.{greatest_constant, least_constant, longest_hold}, ParamsSoFar.{ParamsSoFar}}
use Rattle.seal_record.specs.{Ranges.{IsTaxi}, TextParts.{IsParted}}

-- a line is silent if it is empty, or a comment, which begins with #
pub data IsSilent : List ℕ → Type 0 where
  empty : IsSilent []
  comment : (rest : List ℕ) → IsSilent (35 ∷ rest)

-- a line says nothing, or a parameter that has not been said before, or one more offset if the list with it is
-- lawful
pub data LineAddsParam (said : ParamsSoFar) : (line : List ℕ) → (more : ParamsSoFar) → Type 0 where
  silent : (line : List ℕ) → IsSilent line → LineAddsParam said line said
  taxi_said : (line value : List ℕ) → IsParted line (codes "taxi") value → said.taxi ≡ None → IsTaxi value
      → LineAddsParam said line (record said { taxi = Some value })
  constant_said : (line value : List ℕ) (n : ℕ) → IsParted line (codes "constant") value → said.constant ≡ None
      → IsNumberIn least_constant greatest_constant value n
      → LineAddsParam said line (record said { constant = Some n })
  mode_said : (line value : List ℕ) (mode : Mode) → IsParted line (codes "mode") value → said.mode ≡ None
      → IsModeText value mode → LineAddsParam said line (record said { mode = Some mode })
  hold_said : (line value : List ℕ) (n : ℕ) → IsParted line (codes "hold") value → said.hold_time ≡ None
      → IsNumberIn 0 longest_hold value n → LineAddsParam said line (record said { hold_time = Some n })
  offset_said : (line value : List ℕ) (pair : ℕ × ℤ) → IsParted line (codes "offset") value → IsPairText value pair
      → IsOffsetList (said.offsets ++ pair ∷ [])
      → LineAddsParam said line (record said { offsets = said.offsets ++ pair ∷ [] })
  secured_said : (line value : List ℕ) (day : ℤ) → IsParted line (codes "secured") value → said.secured ≡ None
      → IsDateText value day → LineAddsParam said line (record said { secured = Some day })
