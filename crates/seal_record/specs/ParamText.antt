-- Rules: what a whole text of parameters says, in words that share nothing with how it is read.
use Rattle.std.specs.Prelude.{[], ℕ, ◌<◌, ◌∷◌, ◌≡◌, ◌≤◌, List, None, Some, length}
use Rattle.seal_record.specs.{Common.{Constant, Hold, Name, Offset, Params, Secured, Taxi}, ParamLine.{LineAddsParam}}
use Rattle.seal_record.specs.{Limits.{longest_text}, ParamsSoFar.{ParamsSoFar, no_params_yet}, TextParts.{AreLines}}
use Rattle.seal_record.specs.declared.params.Name.TheVariants as name

-- lines say on, from what was said to what is said then, if each of them says more in its turn
pub data LinesAddParams : ParamsSoFar → (lines : List (List ℕ)) → ParamsSoFar → Type 0 where
  no_line : (said : ParamsSoFar) → LinesAddParams said [] said
  one_line : (said more after : ParamsSoFar) (line : List ℕ) (lines : List (List ℕ)) → LineAddsParam said line more
      → LinesAddParams more lines after → LinesAddParams said (line ∷ lines) after

-- parameters are said if each of them has been, and the offsets are the whole list
pub record AreAllParams (said : ParamsSoFar) (params : Params) : Type 0 where
  pub taxi : said.taxi ≡ Some params.taxi.items
  pub constant : said.constant ≡ Some params.constant
  pub mode : said.mode ≡ Some params.mode
  pub hold_time : said.hold_time ≡ Some params.hold_time
  pub some : 1 ≤ length params.offsets
  pub offsets : said.offsets ≡ params.offsets
  pub secured : said.secured ≡ Some params.secured

-- a text says parameters if it has at most 65,536 bytes, and its lines, from the first to the last, say each of them
pub record IsTextOfParams (text : List ℕ) (params : Params) : Type 0 where
  pub few : length text ≤ longest_text
  pub lines : List (List ℕ)
  pub said : ParamsSoFar
  pub are_lines : AreLines text lines
  pub say : LinesAddParams no_params_yet lines said
  pub all : AreAllParams said params

-- a parameter is unsaid if no line has said it yet
abbrev pub IsParamMissing : ParamsSoFar → Name → Type 0
IsParamMissing said Taxi = said.taxi ≡ None
IsParamMissing said Constant = said.constant ≡ None
IsParamMissing said name.Mode = said.mode ≡ None
IsParamMissing said Hold = said.hold_time ≡ None
IsParamMissing said Offset = said.offsets ≡ []
IsParamMissing said Secured = said.secured ≡ None

-- the row of a parameter is its place in the table of the format, counted from 0
abbrev pub row_of : Name → ℕ
row_of Taxi = 0
row_of Constant = 1
row_of name.Mode = 2
row_of Hold = 3
row_of Offset = 4
row_of Secured = 5

-- a text lacks a parameter first if it has at most 65,536 bytes, all its lines are good, and the parameter is the
-- first of the table that they don't say
pub record LacksFirst (text : List ℕ) (which : Name) : Type 0 where
  pub few : length text ≤ longest_text
  pub lines : List (List ℕ)
  pub said : ParamsSoFar
  pub are_lines : AreLines text lines
  pub say : LinesAddParams no_params_yet lines said
  pub unsaid : IsParamMissing said which
  pub earlier : (other : Name) → row_of other < row_of which → ¬ (IsParamMissing said other)
