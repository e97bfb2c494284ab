-- A sound tariff has its parts in their ranges.
use Rattle.std.{specs.{List.{list_any}, Option.{is_none, unwrap_or}}, proofs.Math.Nat.{mul-pos}}
use Rattle.std.proofs.Common.{[], ℕ, ◌<◌, ◌^◌, ◌≡◌, ◌≤◌, All, Bool, List, None, Option, Some, ap, arith, cond, false}
use Rattle.std.proofs.{Common.{length, refl, subst, true}, lemmas.{Bool.{eqb-false, ltb-false}, List.{length-map}}}
use Rattle.tariff_check.specs.{Cells.{bands_between, cells_of}, Kinds.{IsSoundSaid, Said, is_great, part_of, said_by}}
use Rattle.tariff_check.specs.Common.{AmountTooBig, BadDate, Choice, ChoiceKind, Dimension, Distance, Entry, IsFromTo}
use Rattle.tariff_check.specs.Common.{IsWritable, Line, MeasureZero, Minute, MonthDay, NoCommonMeasure, NoStep}
use Rattle.tariff_check.specs.Common.{Rounding, StepZero, Supplement, Time, TooManyCells, TooManyLines, Tree, choices}
use Rattle.tariff_check.{specs.Common.{largest_display_step}, proofs.LineFacts.{supplement_fact, zones_fact}}
use Rattle.tariff_check.specs.{Counted.{HasNumbers}, Parts.{positions_part, step_of, step_part, zones_of, zones_part}}
use Rattle.tariff_check.specs.{Cuts.{count_of, most_cuts}, Sound.{HasSoundParts, IsSoundHoliday, IsSoundSupplement}}
use Rattle.tariff_check.specs.{Faults.{IsSound, cuts_fault, faults_of, is_step_zero}, Measure.{measure_of, measures_of}}
use Rattle.tariff_check.specs.Lines.{atoms_in, first_line, has_bad_date, has_great_amount, has_measure_zero}
use Rattle.tariff_check.specs.Lines.{is_after_nothing, is_for_nothing, is_no_holiday, is_one_too_many, is_undated}
use Rattle.tariff_check.specs.Parts.{first_part, has_holidays, holiday_part, numbered_supplement, parts, positions_of}
use Rattle.tariff_check.{specs.SoundTariff.{AreChoices}, proofs.FirstLine.{never}}
use Rattle.tariff_check.{specs.declared.numbers.Numbers.{Numbers}, proofs.DefaultLines.{default_initial, default_rate}}
use Rattle.tariff_check.proofs.{ChoiceLaws.{values_are}, FaultStages.{AreNone, faults_none, not_if, nowhere, or_false}}
use Rattle.tariff_check.proofs.{CommonMeasure.{sound_measures}, MeasureLaws.{common_grows}, Supplements.{numbered_has}}
use Rattle.tariff_check.proofs.LineFacts.{IsGoodEntry, choice_fact, good_atoms, holiday_fact, positions_fact, step_fact}
use Rattle.tariff_check.proofs.PartLaws.{Gives, choices_alike, few, first_part_has, holidays_alike, parts_all}

-- each line is good
abbrev IsGoodLine : Line → Type 0
IsGoodLine l = IsGoodEntry l.entry

lines_good : (t : Tree) → IsWritable t → IsSound t → All IsGoodLine t.lines
lines_good t w h =
    let ls = t.lines in
    let none = faults_none t h in
    let bad_date = nowhere BadDate (first_line has_bad_date ls) (assumption none) in
    let great = nowhere AmountTooBig (first_line has_great_amount ls) (assumption none) in
    let zero_measure = nowhere MeasureZero (first_line has_measure_zero ls) (assumption none) in
    let holidays = never has_bad_date is_no_holiday (λ before x e. (or_false _ _ e).0) [] ls bad_date in
    let dates = never has_bad_date (λ (x : Entry). list_any is_undated (atoms_in x))
    (λ before x e. (or_false _ _ e).1) [] ls bad_date in
    let amounts = never has_great_amount is_great (λ before x e. e) [] ls great in
    let measures = never has_measure_zero is_for_nothing (λ before x e. (or_false _ _ e).0) [] ls zero_measure in
    let afters = never has_measure_zero (λ (x : Entry). list_any is_after_nothing (atoms_in x))
    (λ before x e. (or_false _ _ e).1) [] ls zero_measure in
    λ (k : ℕ) (d : Line) within. record {
      writable = w.lines k d within;
      moderate = amounts k d within;
      measured = measures k d within;
      holiday = holidays k d within;
      dated = dates k d within;
      after_some = afters k d within;
    }

-- what a fact of entries says of parts
given : {A : Type 0} (part : Entry → Option A) (P : A → Type 0) (ls : List Line)
    → ((x : Entry) → IsGoodEntry x → (y : A) → part x ≡ Some y → P y) → All IsGoodLine ls → All (Gives part P) ls
given part P ls fact good = λ (k : ℕ) (d : Line) within. fact _ (good k d within)

-- the choices of a kind are sound, and no more than there may be
choices_sound : (kind : ChoiceKind) (ls : List Line) → All IsGoodLine ls → first_line is_one_too_many ls ≡ None
    → All (IsSoundSaid kind) (said_by kind ls) × (length (said_by kind ls) ≤ 64)
choices_sound kind ls good many =
    let part = part_of kind in
    rw (values_are part ls) (
      parts_all part (IsSoundSaid kind) ls (given part (IsSoundSaid kind) ls (choice_fact kind) good),
      few part 64 (choices_alike kind) [] ls (omega arith) many,
    )

-- a number of 1 to 9, or 1 without a line
number_or_one : (o : Option ℕ) → ((n : ℕ) → o ≡ Some n → IsFromTo 1 9 n) → IsFromTo 1 9 (unwrap_or o 1)
number_or_one None h = (omega arith, omega arith)
number_or_one (Some n) h = h n refl

-- a step that is there and isn't 0
step_there : (o : Option (ℕ × Rounding)) → is_none o ≡ false → is_step_zero o ≡ false
    → ((s : ℕ × Rounding) → o ≡ Some s → s.0 ≤ largest_display_step)
    → (s : ℕ × Rounding) × (o ≡ Some s) × IsFromTo 1 largest_display_step s.0
step_there None there some most = absurd cc
step_there (Some s) there some most =
    let apart = eqb-false s.0 0 some in
    (s, refl, (omega arith, most s refl))

cuts_few : (ls : List Line) (dimension : Dimension) → cuts_fault ls dimension ≡ None
    → count_of dimension ls ≤ most_cuts dimension
cuts_few ls dimension h = ltb-false (most_cuts dimension) (count_of dimension ls) (not_if _ _ h)

all_cuts_few : (ls : List Line) → AreNone (faults_of ls) → (dimension : Dimension)
    → count_of dimension ls ≤ most_cuts dimension
all_cuts_few ls none MonthDay = cuts_few ls MonthDay (assumption none)
all_cuts_few ls none Minute = cuts_few ls Minute (assumption none)
all_cuts_few ls none Distance = cuts_few ls Distance (assumption none)
all_cuts_few ls none Time = cuts_few ls Time (assumption none)

kinds_some : (b : Bool) → 0 < cond b 2 1
kinds_some true = omega arith
kinds_some false = omega arith

cells_some : (ls : List Line) → 1 ≤ positions_of ls → 1 ≤ zones_of ls → 1 ≤ cells_of ls
cells_some ls p z =
    let bands : 0 < bands_between ls =
    mul-pos (mul-pos (mul-pos (omega arith) (omega arith)) (omega arith)) (omega arith) in
    mul-pos (mul-pos (mul-pos (mul-pos p z) (omega arith)) (kinds_some (has_holidays ls))) bands

-- a sound tariff has its parts in their ranges
pub sound_parts : (t : Tree) → IsWritable t → IsSound t → HasSoundParts t
sound_parts t w h =
    let ls = t.lines in
    let none = faults_none t h in
    let good = lines_good t w h in
    let many = nowhere TooManyLines (first_line is_one_too_many ls) (assumption none) in
    let positions = number_or_one (first_part positions_part ls) (λ (n : ℕ) e. first_part_has positions_part
    (IsFromTo 1 9) ls n (given positions_part (IsFromTo 1 9) ls positions_fact good) e) in
    let zones = number_or_one (first_part zones_part ls) (λ (n : ℕ) e. first_part_has zones_part (IsFromTo 1 9) ls n
    (given zones_part (IsFromTo 1 9) ls zones_fact good) e) in
    record {
      decimals = w.decimals;
      step = step_there (step_of ls) (not_if _ NoStep (assumption none)) (not_if _ StepZero (assumption none))
          (λ (s : ℕ × Rounding) e. first_part_has step_part (λ (s : ℕ × Rounding). s.0 ≤ largest_display_step) ls s
          (given step_part (λ (s : ℕ × Rounding). s.0 ≤ largest_display_step) ls step_fact good) e);
      positions = positions;
      zones = zones;
      choices = λ (kind : ChoiceKind). (choices_sound kind ls good many).0;
      choice_count = λ (kind : ChoiceKind). (choices_sound kind ls good many).1;
      default_rate = default_rate t h;
      default_initial = default_initial t h;
      supplements = λ (number : ℕ) (s : Supplement) e. numbered_has IsSoundSupplement (parts numbered_supplement ls)
          number s (parts_all numbered_supplement (λ (x : ℕ × Supplement). IsSoundSupplement x.1) ls
          (given numbered_supplement (λ (x : ℕ × Supplement). IsSoundSupplement x.1) ls supplement_fact good)) e;
      holidays = parts_all holiday_part IsSoundHoliday ls (given holiday_part IsSoundHoliday ls holiday_fact good);
      holiday_count = few holiday_part 255 holidays_alike [] ls (omega arith) many;
      atoms = λ (k : ℕ) (d : Line) within. good_atoms _ (good k d within);
      measure = (
        common_grows 1 (measures_of ls) (omega arith) (sound_measures t h),
        ltb-false (10 ^ 18) (measure_of ls) (not_if _ NoCommonMeasure (assumption none)),
      );
      cuts = all_cuts_few ls none;
      cells = (
        cells_some ls positions.0 zones.0,
        ltb-false 64512 (cells_of ls) (not_if _ (TooManyCells (cells_of ls)) (assumption none)),
      );
    }

-- the program has no more choices of a kind than there may be
pub own_few : (kind : ChoiceKind) (t : Tree) (own : List (Choice (Said kind))) → HasSoundParts t
    → AreChoices t.lines own (choices (part_of kind) t.lines) → length own ≤ 64
own_few kind t own parts are =
    omega (
      arith,
      parts.choice_count kind,
      ap (λ (said : List (Said kind)). length said) are.values,
      length-map own (λ (c : Choice (Said kind)). c.value),
    )

-- and the step that the program keeps is in its range
pub step_range : (t : Tree) (n : Numbers) → HasSoundParts t → HasNumbers t.lines n
    → IsFromTo 1 largest_display_step n.step
step_range t n parts h =
    let found : step_of t.lines ≡ Some parts.step.0 = parts.step.1 in
    let read : step_of t.lines ≡ Some (n.step, n.rounding) = h.step in
    let same : parts.step.0 ≡ (n.step, n.rounding) = cc in
    subst (λ (s : ℕ × Rounding). IsFromTo 1 largest_display_step s.0) same parts.step.2
