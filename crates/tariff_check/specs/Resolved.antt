-- For proofs: the parts of a tariff as the program keeps them. SoundTariff says what they are.
use Rattle.{std.specs.List.{cons_option, slice_get}, tariff_check.specs.Kinds.{kept_of, kind_of, part_of}}
use Rattle.std.specs.{Option.{option_and_then, option_map}, Prelude.{[], ℕ, ◌+◌, ◌∷◌, ◌≡◌, List, Option, length}}
use Rattle.tariff_check.specs.{ChoiceLines.{choice_lines}, SoundTariff.{numbered_supplement}}
use Rattle.tariff_check.specs.Common.{Choice, ChoiceKind, ChoiceLine, Choices, Entry, Line, Parts}
use Rattle.tariff_check.specs.Parts.{holidays_of, parts}

-- the choice of the program that a line at a place gives
abbrev pub placed : {V : Type 0} → (Entry → Option V) → (place : ℕ) → Line → Option (Choice V)
placed {V} part place l =
    option_map (λ (value : V). record { value = value; line = l.line; place = place }) (part l.entry)

-- the choices of the program that lines give, of which the first stands at a place
abbrev pub placed_from : {V : Type 0} → (Entry → Option V) → (place : ℕ) → List Line → List (Choice V)
placed_from part place [] = []
placed_from part place (l ∷ ls) = cons_option (placed part place l) (placed_from part (place + 1) ls)

-- the line of the program's choice at a place, if there is one, is the line at the place that the choice keeps
abbrev pub line_of_own : {V : Type 0} → List Line → List (Choice V) → (place : ℕ) → Option Line
line_of_own {V} lines own place = option_and_then (λ (c : Choice V). slice_get lines c.place) (slice_get own place)

-- the choice that a line gives, of any kind, by how many of each kind stand before it
abbrev pub counted_choice : (ChoiceKind → ℕ) → Line → Option ChoiceLine
counted_choice count l =
    option_map (λ (kind : ChoiceKind). record { kind = kind; place_in_kind = count kind; line = l.line })
    (kind_of l.entry)

-- how many choices of a kind the program keeps
abbrev pub count_in : Choices → ChoiceKind → ℕ
count_in kept kind = length (kept_of kind kept)

-- the choices that the program keeps are those of lines
abbrev pub AreKept : List Line → Choices → Type 0
AreKept lines kept = (kind : ChoiceKind) → kept_of kind kept ≡ placed_from (part_of kind) 0 lines

-- the parts of the program are those of lines
pub record HasParts (lines : List Line) (p : Parts) : Type 0 where
  pub holidays : p.holidays.items ≡ holidays_of lines
  pub supplements : p.supplements.items ≡ parts numbered_supplement lines
  pub choices : AreKept lines p.choices
  pub choice_lines : p.choice_lines.items ≡ choice_lines lines
