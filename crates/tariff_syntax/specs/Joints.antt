-- For proofs: how the parts of a condition are joined, by the value of the program that stands for it. The law
-- texts_are_parsed_as_they_read says what the answers mean.
use Rattle.{std.specs.Prelude.{ℕ, List, codes}, tariff_syntax.specs.declared.conditions.Joint.TheVariants.{And, Or}}
use Rattle.tariff_syntax.specs.Common.{Condition}
use Rattle.tariff_syntax.specs.{Grammar.{Reader, and_joined, or_joined}, declared.conditions.Joint.{Joint}}

-- parts are joined by `or` if they are terms, and by `and` if they are factors
abbrev pub word_of : Joint → List ℕ
word_of Or = codes "or"
word_of And = codes "and"

-- what stands to the left, joined by `or` to the term that stands first, or by `and` to the factor
abbrev pub joined_by : Joint → (factors : Reader) → Condition → Reader
joined_by Or factors = or_joined factors
joined_by And factors = and_joined factors
