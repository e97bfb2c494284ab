-- For proofs: the rules for a line and for an atom, as the code names them. Lines says what each rule is.
use Rattle.std.specs.Prelude.{[], ℕ, ◌∷◌, Bool, List, None, Option, Some}
use Rattle.tariff_check.specs.Common.{AmountTooBig, BadDate, CheckFault, Condition, Duplicate, LineAfterDefault}
use Rattle.tariff_check.specs.{Common.{MeasureZero, TooManyLines, UnknownNumber}, Lines.{names_unknown}}
use Rattle.tariff_check.specs.Lines.{LineTest, has_bad_date, has_great_amount, has_measure_zero, is_after_default}
use Rattle.tariff_check.specs.Lines.{is_after_nothing, is_duplicate, is_one_too_many, is_undated, is_unknown}
use Rattle.tariff_check.specs.declared.{atoms.AtomRule.{AtomRule}, rules.LineRule.{LineRule}}
use Rattle.tariff_check.specs.declared.atoms.AtomRule.TheVariants as atom
use Rattle.tariff_check.specs.declared.rules.LineRule.TheVariants as line

-- a test whether an atom breaks a rule
abbrev pub breaks_atom_rule : AtomRule → Condition → Bool
breaks_atom_rule (atom.Known highest_position highest_zone) = is_unknown highest_position highest_zone
breaks_atom_rule atom.Dated = is_undated
breaks_atom_rule atom.AfterSome = is_after_nothing

-- a test whether a line breaks a rule, with the lines before it
abbrev pub breaks_rule : LineRule → LineTest
breaks_rule line.Once = is_duplicate
breaks_rule line.Few = is_one_too_many
breaks_rule (line.Known highest_position highest_zone) = names_unknown highest_position highest_zone
breaks_rule line.NotAfterDefault = is_after_default
breaks_rule line.Dated = has_bad_date
breaks_rule line.Moderate = has_great_amount
breaks_rule line.Measured = has_measure_zero

-- the fault of a line that breaks a rule, with the line's number
abbrev pub fault_of_rule : LineRule → (line : ℕ) → CheckFault
fault_of_rule line.Once = Duplicate
fault_of_rule line.Few = TooManyLines
fault_of_rule (line.Known highest_position highest_zone) = UnknownNumber
fault_of_rule line.NotAfterDefault = LineAfterDefault
fault_of_rule line.Dated = BadDate
fault_of_rule line.Moderate = AmountTooBig
fault_of_rule line.Measured = MeasureZero

-- the list of two cuts that are each there or not
abbrev pub cut_list : Option ℕ × Option ℕ → List ℕ
cut_list (None, None) = []
cut_list (Some a, None) = a ∷ []
cut_list (None, Some b) = b ∷ []
cut_list (Some a, Some b) = a ∷ b ∷ []
