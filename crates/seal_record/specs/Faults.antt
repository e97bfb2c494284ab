-- Rules: what is wrong with a line of a parameter text, in words that share nothing with how it is read.
use Rattle.std.specs.Prelude.{ℕ, ℤ, ◌≡◌, ◌≢◌, List, Some, codes}
use Rattle.seal_record.specs.Common.{BadValue, Constant, Hold, Mode, Name, Offset, ParamFault, Secured, Taxi, Twice}
use Rattle.seal_record.specs.{Common.{Unknown}, ParamLine.{IsSilent, LineAddsParam}, ParamsSoFar.{ParamsSoFar}}
use Rattle.seal_record.specs.TextParts.{IsParted}
use Rattle.seal_record.specs.declared.params.Name.TheVariants as name

-- the key of a parameter is its name in small letters
abbrev pub key_of : Name → List ℕ
key_of Taxi = codes "taxi"
key_of Constant = codes "constant"
key_of name.Mode = codes "mode"
key_of Hold = codes "hold"
key_of Offset = codes "offset"
key_of Secured = codes "secured"

-- a parameter was said if an earlier line has said it, and is one that only one line may say; an offset may be said
-- again
pub data HasParamAlready (said : ParamsSoFar) : Name → Type 0 where
  taxi_was : (value : List ℕ) → said.taxi ≡ Some value → HasParamAlready said Taxi
  constant_was : (n : ℕ) → said.constant ≡ Some n → HasParamAlready said Constant
  mode_was : (mode : Mode) → said.mode ≡ Some mode → HasParamAlready said name.Mode
  hold_was : (n : ℕ) → said.hold_time ≡ Some n → HasParamAlready said Hold
  secured_was : (day : ℤ) → said.secured ≡ Some day → HasParamAlready said Secured

-- a line is bad by the first of three faults that it has: its key is no parameter's; it says a parameter a second time;
-- its value says nothing
pub data IsBad (said : ParamsSoFar) (number : ℕ) (line : List ℕ) : ParamFault → Type 0 where
  unknown_key : (key value : List ℕ) → ¬ (IsSilent line) → IsParted line key value
      → ((which : Name) → key ≢ key_of which) → IsBad said number line (Unknown number)
  said_twice : (which : Name) (value : List ℕ) → IsParted line (key_of which) value → HasParamAlready said which
      → IsBad said number line (Twice which)
  bad_value : (which : Name) (value : List ℕ) → IsParted line (key_of which) value → ¬ (HasParamAlready said which)
      → ((more : ParamsSoFar) → ¬ (LineAddsParam said line more)) → IsBad said number line (BadValue number)
