-- Rules: what a text of rules says.
use Rattle.std.specs.Prelude.{[], ℕ, ℤ, ◌++◌, ◌<◌, ◌∷◌, ◌≡◌, ◌≢◌, ◌≤◌, Err, List, Ok, Result, codes, length}
use Rattle.offset_rules.specs.{Common.{BadLine, RuleFault, SameMonth, TooLong}, Rule.{Change, Rule}}
use Rattle.offset_rules.specs.Forms.{IsChangeText, IsNamedLine, IsSeconds}

-- a text says a rule if it is four lines, each ended by an LF, that say the rule's parts in their order
pub record AreLinesOf (text : List ℕ) (rule : Rule) : Type 0 where
  pub first : List ℕ
  pub second : List ℕ
  pub third : List ℕ
  pub fourth : List ℕ
  pub text_is : text ≡ first ++ 10 ∷ (second ++ 10 ∷ (third ++ 10 ∷ (fourth ++ 10 ∷ [])))
  pub standard : IsNamedLine IsSeconds (codes "standard ") first rule.standard
  pub summer : IsNamedLine IsSeconds (codes "summer ") second rule.summer
  pub begin : IsNamedLine IsChangeText (codes "begin ") third rule.begin
  pub end : IsNamedLine IsChangeText (codes "end ") fourth rule.end

-- a line has the form of a `standard` line if it says some offset by that name
abbrev pub IsStandard : List ℕ → Type 0
IsStandard line = (offset : ℤ) × IsNamedLine IsSeconds (codes "standard ") line offset

-- a line has the form of a `summer` line if it says some offset by that name
abbrev pub IsSummer : List ℕ → Type 0
IsSummer line = (offset : ℤ) × IsNamedLine IsSeconds (codes "summer ") line offset

-- a line has the form of a `begin` line if it says some change by that name
abbrev pub IsBegin : List ℕ → Type 0
IsBegin line = (change : Change) × IsNamedLine IsChangeText (codes "begin ") line change

-- a line has the form of an `end` line if it says some change by that name
abbrev pub IsEnd : List ℕ → Type 0
IsEnd line = (change : Change) × IsNamedLine IsChangeText (codes "end ") line change

-- a line of a form stands first in a text if the text is that line, an LF, and then the rest
abbrev pub StandsFirst : (Form : List ℕ → Type 0) → (text rest : List ℕ) → Type 0
StandsFirst Form text rest = (line : List ℕ) × (text ≡ line ++ 10 ∷ rest) × Form line

-- a text lacks a form if no line of that form stands first in it
abbrev pub Lacks : (Form : List ℕ → Type 0) → (text : List ℕ) → Type 0
Lacks Form text = (rest : List ℕ) → ¬ (StandsFirst Form text rest)

-- a text breaks at the first of its lines 1 to 4 that doesn't have its form or is absent; or at line 5, if all four
-- have their forms and bytes follow them
pub data BreaksAt : (text : List ℕ) → (line : ℕ) → Type 0 where
  at_first : (text : List ℕ) → Lacks IsStandard text → BreaksAt text 1
  at_second : (text a : List ℕ) → StandsFirst IsStandard text a → Lacks IsSummer a → BreaksAt text 2
  at_third : (text a b : List ℕ) → StandsFirst IsStandard text a → StandsFirst IsSummer a b → Lacks IsBegin b
      → BreaksAt text 3
  at_fourth : (text a b c : List ℕ) → StandsFirst IsStandard text a → StandsFirst IsSummer a b
      → StandsFirst IsBegin b c → Lacks IsEnd c → BreaksAt text 4
  after_them : (text a b c d : List ℕ) → StandsFirst IsStandard text a → StandsFirst IsSummer a b
      → StandsFirst IsBegin b c → StandsFirst IsEnd c d → d ≢ [] → BreaksAt text 5

-- the answer to a text is TooLong above 4,096 bytes; else the line at which it breaks; else SameMonth if it says a
-- rule with both changes in one month; and else the rule that it says
abbrev pub IsReadAs : (text : List ℕ) → Result Rule RuleFault → Type 0
IsReadAs text (Ok rule) = (length text ≤ 4096) × AreLinesOf text rule × (rule.begin.month ≢ rule.end.month)
IsReadAs text (Err TooLong) = 4096 < length text
IsReadAs text (Err (BadLine line)) = (length text ≤ 4096) × BreaksAt text line
IsReadAs text (Err SameMonth) =
    (length text ≤ 4096) × ((rule : Rule) × AreLinesOf text rule × (rule.begin.month ≡ rule.end.month))
