-- Rules: the kinds of lines of which the first that holds counts: which one counts in a context, which one a cell
-- names, what two tariffs differ in there, and the words of a kind.
use Rattle.std.specs.{Option.{unwrap_or}, Prelude.{get_or, if◌then◌else◌, not}}
use Rattle.std.specs.Prelude.{[], ℕ, ◌&&◌, ◌*◌, ◌-◌, ◌==◌, ◌||◌, ◌∷◌, Bool, List, None, Option, Some, codes, find}
use Rattle.{tariff_tree.specs.Meaning.{rate_place}, tariff_check.specs.Amounts.{initial_by}}
use Rattle.tariff_compare.specs.Common.{CellLines, ChoiceKind, Context, Initial, MeterContext, Minimum, Rate}
use Rattle.tariff_compare.specs.{Common.{RateNumbers, Tree, rates_of}, Contexts.{context_at}}
use Rattle.tariff_check.specs.declared.values.Initial as fees
pub use Rattle.{tariff_check.specs.Kinds.{is_asked_amid}, tariff_compile.specs.Tables.{place_at}}

-- a context of a meter is one at a hiring if no tick and no pulse of the trip has passed
abbrev pub is_hiring : MeterContext → Bool
is_hiring m = (m.ticks == 0) && (m.pulses == 0)

-- the test `is_asked` is true if a line of a kind can count in a context of a meter: the kind counts amid a trip, or
-- the context is one at a hiring
abbrev pub is_asked : ChoiceKind → MeterContext → Bool
is_asked kind m = is_asked_amid kind || is_hiring m

-- the place of a number from 1 on, and none for 0
abbrev pub place_before : (number : ℕ) → Option ℕ
place_before number = if number == 0 then None else Some (number - 1)

-- the line of a kind that the lines of a cell name, if they name one, is told by its place
abbrev pub place_in : ChoiceKind → CellLines → Option ℕ
place_in Rate lines = Some lines.rate
place_in Initial lines = Some lines.initial
place_in Minimum lines = place_before lines.minimum

-- a line of a kind has the word with which it begins
abbrev pub kind_word : ChoiceKind → List ℕ
kind_word Rate = codes "rate"
kind_word Initial = codes "initial"
kind_word Minimum = codes "minimum"

-- a kind of lines has its word in capitals if lines of it differ
abbrev pub part_word : ChoiceKind → List ℕ
part_word Rate = codes "RATE "
part_word Initial = codes "INITIAL "
part_word Minimum = codes "MINIMUM "

-- two rates cost the same if distance does, and time does, whatever the measures: a per b is as much as a' per b' if a
-- times b' is a' times b
abbrev pub cost_same : RateNumbers → RateNumbers → Bool
cost_same r s = (r.a * s.b == s.a * r.b) && (r.c * s.e == s.c * r.e)

-- the rate of a context is the first one that holds in it
abbrev pub rate_in : Tree → Context → RateNumbers
rate_in t x = get_or (rates_of t.lines) (unwrap_or (rate_place t x) 0) (record { a = 0; b = 0; c = 0; e = 0 })

-- two hirings have the same fee if its amount and its cover are the same
abbrev pub have_same_fee : (one other : fees.Initial) → Bool
have_same_fee one other = (one.amount == other.amount) && (one.covers == other.covers)

-- two hirings have the same minimum fare if its amount is the same; none is one of 0
abbrev pub have_same_minimum : (one other : fees.Initial) → Bool
have_same_minimum one other = one.minimum == other.minimum

-- what is in force in a context is the rate, and what a hiring there begins with
pub record InForce : Type 0 where
  pub rate : RateNumbers
  pub hiring : fees.Initial

-- what is in force in a context by a tariff is the first rate that holds in it, and what a hiring in it begins with
abbrev pub in_force : Tree → Context → InForce
in_force t x = record { rate = rate_in t x; hiring = initial_by t x }

-- the test `is_same_of` is true if what is in force here and there is the same in a kind: rates that cost the same, or
-- hirings with the same fee or the same minimum fare
abbrev pub is_same_of : ChoiceKind → (one other : InForce) → Bool
is_same_of Rate one other = cost_same one.rate other.rate
is_same_of Initial one other = have_same_fee one.hiring other.hiring
is_same_of Minimum one other = have_same_minimum one.hiring other.hiring

-- two tariffs are compared in the initial hire fee, then in the minimum fare, and then in the rate
abbrev pub compared_kinds : List ChoiceKind
compared_kinds = Initial ∷ Minimum ∷ Rate ∷ []

-- the test `is_other` is true if a line of a kind can count in a context of a meter, and what is in force here and
-- there isn't the same in the kind
abbrev pub is_other : MeterContext → (one other : InForce) → ChoiceKind → Bool
is_other m one other kind = is_asked kind m && not (is_same_of kind one other)

-- what differs between what is in force here and there is the first of the compared kinds that does, or nothing
unfoldable pub differing_kind : MeterContext → (one other : InForce) → Option ChoiceKind
differing_kind m one other = find (is_other m one other) compared_kinds

-- what differs between two tariffs in a context of a meter is what differs between what is in force in it by both
abbrev pub difference_at : (t u : Tree) (k : ℕ) → MeterContext → Option ChoiceKind
difference_at t u k m = differing_kind m (in_force t (context_at t k m)) (in_force u (context_at u k m))
