-- Rules: which choices the lines of a tariff give, over all kinds.
use Rattle.{std.specs.{List.{cons_option}, Option.{is_some}}, tariff_check.specs.Kinds.{is_of, kind_of}}
use Rattle.std.specs.Prelude.{[], ℕ, ◌++◌, ◌∷◌, Bool, List, Option, count_by, false, filter, map, option_map, true}
use Rattle.tariff_check.specs.Common.{ChoiceKind, ChoiceLine, Entry, Initial, Line, Minimum, Rate}

-- the place of a line among those of a kind is how many of them stand before it
abbrev pub place_behind : ChoiceKind → (before : List Line) → ℕ
place_behind kind before = count_by (λ (l : Line). is_of kind l.entry) before

-- the choice that a line behind others gives, if it is of such a kind, is the kind, its place among the choices of the
-- kind, and the line's number
abbrev pub choice_behind : (before : List Line) → Line → Option ChoiceLine
choice_behind before l =
    option_map (λ (kind : ChoiceKind). record {
      kind = kind;
      place_in_kind = place_behind kind before;
      line = l.line;
    }) (kind_of l.entry)

-- the choices that lines behind others give are that of each line that gives one, in order
abbrev pub choices_behind : (before : List Line) → List Line → List ChoiceLine
choices_behind before [] = []
choices_behind before (l ∷ ls) = cons_option (choice_behind before l) (choices_behind (before ++ l ∷ []) ls)

-- the choices that lines give, of all kinds, stand in the order of the lines
abbrev pub choice_lines : List Line → List ChoiceLine
choice_lines lines = choices_behind [] lines

-- ---- what the law choices_stand_at_their_lines says of them

-- the test `may_have_condition` is true if an entry is of a kind whose first line that holds counts
abbrev pub may_have_condition : Entry → Bool
may_have_condition entry = is_some (kind_of entry)

-- the test `is_same_kind` is true if two kinds are the same
abbrev pub is_same_kind : ChoiceKind → ChoiceKind → Bool
is_same_kind Rate Rate = true
is_same_kind Initial Initial = true
is_same_kind Minimum Minimum = true
is_same_kind _ _ = false

-- the places of a kind among choices are those of each choice of this kind, in order
abbrev pub places_of : ChoiceKind → List ChoiceLine → List ℕ
places_of kind all =
    map (λ (c : ChoiceLine). c.place_in_kind) (filter (λ (c : ChoiceLine). is_same_kind kind c.kind) all)
