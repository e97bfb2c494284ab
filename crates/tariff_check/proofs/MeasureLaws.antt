-- The common measure of more than two measures.
use Rattle.std.proofs.Common.{[], ℕ, ◌<◌, ◌==◌, ◌||◌, ◌∙◌, ◌∷◌, ◌≡◌, ◌≤◌, All, List, ap, arith, drop, drop-cons, false}
use Rattle.std.proofs.{Common.{get_or, length, map, refl, subst, suc, sym}, lemmas.Bool.Decides.{nat_tests}}
use Rattle.std.proofs.lemmas.{List.{drop-map, get_or-map, length-map}, Nat.Gcd.{le_of_dvd}}
use Rattle.std.proofs.lemmas.List.Elements.{All-cons, All-drop, All-head, All-nil, All-same, All-tail}
use Rattle.tariff_tree.specs.declared.tariff.{Item.TheVariants.{Rate}, RateLine.{RateLine}}
use Rattle.tariff_check.specs.{Common.{Entry, Line, TariffLine, entry_of, line_of, rate}, Lines.{is_for_nothing}}
use Rattle.tariff_check.specs.Measure.{common_with, lcm_of, measures_of}
use Rattle.tariff_check.proofs.LeastMultiples.{divides, lcm_is_least}

-- a line is no rate with a measure of 0
abbrev pub IsMeasured : Line → Type 0
IsMeasured l = is_for_nothing l.entry ≡ false

-- a number above 0
abbrev pub IsSome : ℕ → Type 0
IsSome n = 0 < n

pub lcm_grows : (a b : ℕ) → 0 < a → 0 < b → a ≤ lcm_of a b
lcm_grows a b first second =
    let least = lcm_is_least a b first second in
    le_of_dvd least.positive (divides (lcm_of a b) a least.of_first)

pub lcm_some : (a b : ℕ) → 0 < a → 0 < b → 0 < lcm_of a b
lcm_some a b first second = (lcm_is_least a b first second).positive

-- with more measures it is no smaller
pub common_grows : (first : ℕ) (ns : List ℕ) → 0 < first → All IsSome ns → first ≤ common_with first ns
common_grows first [] some all = omega arith
common_grows first (n ∷ ns) some all =
    let here : 0 < n = All-head IsSome n ns all in
    let grown = lcm_grows first n some here in
    let rest = common_grows (lcm_of first n) ns (lcm_some first n some here) (All-tail IsSome n ns all) in
    omega arith

-- a rate with no measure of 0
pub both_some : (b e : ℕ) → ((b == 0) || (e == 0)) ≡ false → (0 < b) × (0 < e)
both_some b e h = grind (arith, nat_tests)

-- the measures of such lines are above 0
measures_by : (number : ℕ) (x : Entry) (ls : List Line) → is_for_nothing x ≡ false → All IsSome (measures_of ls)
    → All IsSome (measures_of (record { line = number; entry = x } ∷ ls))
measures_by number (rate a b c e when) ls h rest =
    let some = both_some b e h in
    All-cons IsSome b (e ∷ measures_of ls) some.0 (All-cons IsSome e (measures_of ls) some.1 rest)
measures_by number x ls h rest = rest

pub measures_some : (ls : List Line) → All IsMeasured ls → All IsSome (measures_of ls)
measures_some [] all = All-nil IsSome
measures_some (l ∷ ls) all =
    measures_by l.line l.entry ls (All-head IsMeasured l ls all) (measures_some ls (All-tail IsMeasured l ls all))

-- a rate of the code among such lines
pub rate_some : (lines : List TariffLine) (i : ℕ) (l : TariffLine) (r : RateLine) → All IsMeasured (map line_of lines)
    → i < length lines → l ≡ get_or lines i l → l.item ≡ Rate r → (0 < r.b) × (0 < r.e)
rate_some lines i l r all within at is =
    let line : IsMeasured (get_or (map line_of lines) i (line_of l)) =
    all i (line_of l) (omega (arith, length-map lines line_of)) in
    let there : get_or (map line_of lines) i (line_of l) ≡ line_of l =
    get_or-map line_of lines i l (line_of l) within ∙ ap line_of (sym at) in
    let measured = subst IsMeasured there line in
    let named = ap (λ item. is_for_nothing (entry_of item)) is in
    both_some r.b r.e (sym named ∙ measured)

-- if the common measure of a rate and those before it is too great, so is that of all
pub no_smaller : (lines : List TariffLine) (i : ℕ) (l : TariffLine) (r : RateLine) (common total : ℕ)
    → All IsMeasured (map line_of lines) → i < length lines → l ≡ get_or lines i l → l.item ≡ Rate r → 0 < common
    → common_with common (measures_of (map line_of (drop i lines))) ≡ total → lcm_of (lcm_of common r.b) r.e ≤ total
no_smaller lines i l r common total all within at is first same =
    let some = rate_some lines i l r all within at is in
    let tail = drop (suc i) lines in
    let rest : All IsMeasured (map line_of tail) = All-same IsMeasured (map line_of tail) (drop (suc i)
    (map line_of lines)) (sym (drop-map line_of (suc i) lines)) (All-drop IsMeasured (suc i) (map line_of lines) all) in
    let here : drop i lines ≡ l ∷ tail = drop-cons lines i l within ∙ ap (λ (m : TariffLine). m ∷ tail) (sym at) in
    let measures : measures_of (map line_of (drop i lines)) ≡ r.b ∷ r.e ∷ measures_of (map line_of tail) =
    rw (here, is) refl in
    let joined = lcm_of (lcm_of common r.b) r.e in
    let whole : common_with joined (measures_of (map line_of tail)) ≡ total = rw measures at same in
    let above : 0 < joined = lcm_some (lcm_of common r.b) r.e (lcm_some common r.b first some.0) some.1 in
    subst (λ (n : ℕ). joined ≤ n) whole
    (common_grows joined (measures_of (map line_of tail)) above (measures_some (map line_of tail) rest))
