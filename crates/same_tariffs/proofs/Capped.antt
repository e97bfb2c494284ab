-- More pulses than any tariff can name change no line that holds.
use Rattle.{std.specs.List.{cons_option, position_from}, tariff_tree.specs.Meaning.{holds, holds_if}}
use Rattle.std.proofs.Common.{[], ℕ, ◌&&◌, ◌*◌, ◌+◌, ◌<◌, ◌||◌, ◌∙◌, ◌∷◌, ◌≡◌, ◌≤◌, All, Bool, List, None, Option, Some}
use Rattle.std.proofs.Common.{ap, arith, false, if◌then◌else◌, min, nat_le, not, refl, sym, true}
use Rattle.std.proofs.lemmas.{Grind.{common_steps}, List.Elements.{All-cons, All-head, All-nil, All-tail}, Nat.{mul-le}}
use Rattle.tariff_tree.specs.Choices.{Choice, RateNumbers, choice_in, choices, conditions_of, rate_part}
use Rattle.tariff_tree.specs.{Condition.{Condition}, Tree.{Entry, Line}}
use Rattle.tariff_tree.specs.Writable.{IsWritableCondition, IsWritableEntry, IsWritableIf, greatest}
use Rattle.same_tariffs.specs.Common.{Context, IsWritable, Tree, most_pulses, rate_place}
use Rattle.tariff_tree.specs.Condition as tree
use Rattle.tariff_tree.specs.Part as part
use Rattle.tariff_tree.specs.Tree as entries

-- a context with no more pulses than a distance can be
abbrev pub capped : Context → Context
capped x = record x { pulses = min x.pulses most_pulses }

-- a context with the most pulses
abbrev full : Context → Context
full x = record x { pulses = most_pulses }

reached : (most n : ℕ) → most ≤ n → nat_le most n ≡ true
reached most n is = grind (arith, common_steps)

full-distance : (x : Context) (decimetres : ℕ) → x.constant ≤ 200000 → most_pulses ≤ x.pulses → decimetres ≤ greatest
    → nat_le (x.constant * decimetres) (10000 * x.pulses) ≡ nat_le (x.constant * decimetres) (10000 * most_pulses)
full-distance x decimetres small many short =
    let far : x.constant * decimetres ≤ 200000 * 1000000000000 = mul-le x.constant decimetres 200000 1000000000000 small
    short in
    reached (x.constant * decimetres) (10000 * x.pulses) (omega (arith, far, many))
    ∙ sym (reached (x.constant * decimetres) (10000 * most_pulses) (omega (arith, far)))

full-holds : (c : Condition) (x : Context) → IsWritableCondition c → x.constant ≤ 200000 → most_pulses ≤ x.pulses
    → holds c x ≡ holds c (full x)
full-holds (tree.and left right) x can small many =
    ap (λ (b : Bool). b && holds right x) (full-holds left x can.0 small many)
    ∙ ap (λ (b : Bool). holds left (full x) && b) (full-holds right x can.1 small many)
full-holds (tree.or left right) x can small many =
    ap (λ (b : Bool). b || holds right x) (full-holds left x can.0 small many)
    ∙ ap (λ (b : Bool). holds left (full x) || b) (full-holds right x can.1 small many)
full-holds (tree.not inner) x can small many = ap not (full-holds inner x can small many)
full-holds (tree.position number) x can small many = refl
full-holds (tree.zone number) x can small many = refl
full-holds (tree.time from to) x can small many = refl
full-holds (tree.day from to) x can small many = refl
full-holds (tree.date from_month from_date to_month to_date) x can small many = refl
full-holds tree.holiday x can small many = refl
full-holds (tree.after_distance decimetres) x can small many = full-distance x decimetres small many can
full-holds (tree.after_time tenths) x can small many = refl

full-holds_if : (c : Option Condition) (x : Context) → IsWritableIf c → x.constant ≤ 200000 → most_pulses ≤ x.pulses
    → holds_if x c ≡ holds_if (full x) c
full-holds_if None x can small many = refl
full-holds_if (Some c) x can small many = full-holds c x can small many

full-position : (n : ℕ) (cs : List (Option Condition)) (x : Context) → All IsWritableIf cs → x.constant ≤ 200000
    → most_pulses ≤ x.pulses
    → position_from (holds_if x) n cs ≡ position_from (holds_if (full x)) n cs
full-position n [] x can small many = refl
full-position n (c ∷ cs) x can small many =
    ap (λ (b : Bool). if b then Some n else position_from (holds_if x) (n + 1) cs)
    (full-holds_if c x (All-head IsWritableIf c cs can) small many)
    ∙ ap (λ (o : Option ℕ). if holds_if (full x) c then Some n else o)
    (full-position (n + 1) cs x (All-tail IsWritableIf c cs can) small many)

-- the conditions of rates that a text can have are ones that it can have
more-conditions : (line : ℕ) (e : Entry) (cs : List (Choice RateNumbers)) → IsWritableEntry e
    → All IsWritableIf (conditions_of cs)
    → All IsWritableIf (conditions_of (cons_option (choice_in rate_part (record { line = line; entry = e })) cs))
more-conditions line (entries.rate a b c e when) cs can each =
    All-cons IsWritableIf when (conditions_of cs) (can 9 part.comma (omega arith)) each
more-conditions line (entries.step amount rounding) cs can each = each
more-conditions line e cs can each = each

conditions : (lines : List Line) → All (λ (l : Line). IsWritableEntry l.entry) lines
    → All IsWritableIf (conditions_of (choices rate_part lines))
conditions [] can = All-nil IsWritableIf
conditions (l ∷ lines) can =
    more-conditions l.line l.entry (choices rate_part lines)
    (All-head (λ (k : Line). IsWritableEntry k.entry) l lines can)
    (conditions lines (All-tail (λ (k : Line). IsWritableEntry k.entry) l lines can))

capped-by : (b : Bool) (t : Tree) (x : Context) → nat_le most_pulses x.pulses ≡ b → IsWritable t → x.constant ≤ 200000
    → rate_place t x ≡ rate_place t (capped x)
capped-by true t x is writable small =
    let many : most_pulses ≤ x.pulses = grind (arith, common_steps) in
    let least : most_pulses ≡ min x.pulses most_pulses = omega (arith, many) in
    full-position 0 (conditions_of (choices rate_part t.lines)) x (conditions t.lines writable.lines) small many
    ∙ ap (λ (p : ℕ). rate_place t (record x { pulses = p })) least
capped-by false t x is writable small =
    let few : x.pulses < most_pulses = grind (arith, common_steps) in
    let least : x.pulses ≡ min x.pulses most_pulses = omega (arith, few) in
    ap (λ (p : ℕ). rate_place t (record x { pulses = p })) least

pub rate-capped : (t : Tree) (x : Context) → IsWritable t → x.constant ≤ 200000
    → rate_place t x ≡ rate_place t (capped x)
rate-capped t x writable small = capped-by (nat_le most_pulses x.pulses) t x refl writable small
