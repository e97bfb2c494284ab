-- Fares of even speeds are shown nearly, over several rates.
use Rattle.std.{specs.List.{flat_map, fold, sum_by}, proofs.lemmas.List.Sorted.{sum_by-IsPermutation}}
use Rattle.std.proofs.Common.{[], ℕ, ◌*◌, ◌+◌, ◌-◌, ◌/◌, ◌<◌, ◌∙◌, ◌∷◌, ◌≡◌, ◌≤◌, List, arith, map, subst, sum, sym}
use Rattle.std.proofs.{Math.Nat.{div-mul-le_self}, lemmas.Nat.{le-div, mul-le}}
use Rattle.std.proofs.lemmas.List.{Elements.{All-head, All-tail}, Sums.{sum-map, sum_by-append, sum_by-cons}}
use Rattle.drive_modes.specs.{Charge.{charge_of}, Common.{Ahead, Behind, Meterage, Mode, Rounding, Single, Weights}}
use Rattle.drive_modes.specs.Fare.{Opening, above_cover, added, opening_of, quotient, shown_fare, steps_above, steps_of}
use Rattle.drive_modes.specs.{Speeds.{IsEvenSpeed, charged}, Stretches.{least_charge, most_charge, stretch_charge}}
use Rattle.drive_modes.specs.Stretches.{AreEvenSpeeds, AreOfStretches, Interval, Stretch, interval_charge, intervals_in}
use Rattle.drive_modes.proofs.{Charged.{as_one_least, charged_cons}, Coarseness.{most_even}, Sums.{shown-sum}}

-- the interval of a stretch with some pulses
abbrev interval_of : Weights → ℕ → Interval
interval_of w p = record { weights = w; pulses = p }

-- the intervals of one stretch are charged what the stretch is
sum_of_stretch : (mode : Mode) (w : Weights) (pulses : List ℕ)
    → sum_by (interval_charge mode) (map (λ (p : ℕ). interval_of w p) pulses) ≡ charged mode w pulses
sum_of_stretch mode w [] = omega arith
sum_of_stretch mode w (p ∷ pulses) =
    let rest = sum_of_stretch mode w pulses in
    let more : sum_by (interval_charge mode) (map (λ (q : ℕ). interval_of w q) (p ∷ pulses))
    ≡ charge_of mode w p + sum_by (interval_charge mode) (map (λ (q : ℕ). interval_of w q) pulses) =
    sum_by-cons (interval_charge mode) (interval_of w p) (map (λ (q : ℕ). interval_of w q) pulses) in
    omega (arith, rest, more, charged_cons mode w p pulses)

-- and those of all stretches what these are together
sum_of_all : (mode : Mode) (stretches : List Stretch)
    → sum_by (interval_charge mode) (flat_map intervals_in stretches) ≡ sum_by (stretch_charge mode) stretches
sum_of_all mode [] = omega arith
sum_of_all mode (s ∷ stretches) =
    let one : sum_by (interval_charge mode) (intervals_in s) ≡ stretch_charge mode s =
    sum_of_stretch mode s.weights s.pulses in
    let rest = sum_of_all mode stretches in
    let parts : sum_by (interval_charge mode) (flat_map intervals_in (s ∷ stretches))
    ≡ sum_by (interval_charge mode) (intervals_in s) + sum_by (interval_charge mode) (flat_map intervals_in stretches) =
    sum_by-append (interval_charge mode) (intervals_in s) (flat_map intervals_in stretches) in
    omega (arith, one, rest, parts, sum_by-cons (stretch_charge mode) s stretches)

-- in whatever order they were driven
pub stretches_sum : (mode : Mode) (stretches : List Stretch) (intervals : List Interval)
    → AreOfStretches stretches intervals
    → sum (map (interval_charge mode) intervals) ≡ sum_by (stretch_charge mode) stretches
stretches_sum mode stretches intervals are =
    sum-map (interval_charge mode) intervals
    ∙ (sum_by-IsPermutation (interval_charge mode) (flat_map intervals_in stretches) intervals are
    ∙ sum_of_all mode stretches)

-- the bounds of the stretches add up
pub stretches_least : (stretches : List Stretch)
    → sum_by least_charge stretches ≤ sum_by (stretch_charge Single) stretches
stretches_least [] = omega arith
stretches_least (s ∷ stretches) =
    let one : least_charge s ≤ stretch_charge Single s = as_one_least s.weights s.pulses in
    let rest = stretches_least stretches in
    omega (arith, one, rest, sum_by-cons least_charge s stretches, sum_by-cons (stretch_charge Single) s stretches)

pub stretches_most : (stretches : List Stretch) → AreEvenSpeeds stretches
    → sum_by (stretch_charge Single) stretches ≤ sum_by most_charge stretches
stretches_most [] even = omega arith
stretches_most (s ∷ stretches) even =
    let is = λ (t : Stretch). IsEvenSpeed t.low t.pulses in
    let one : stretch_charge Single s ≤ most_charge s =
    most_even s.weights s.low s.pulses (All-head is s stretches even) in
    let rest = stretches_most stretches (All-tail is s stretches even) in
    omega (arith, one, rest, sum_by-cons most_charge s stretches, sum_by-cons (stretch_charge Single) s stretches)

-- of more there are no fewer steps
div_rises : (x z y : ℕ) → 0 < y → x ≤ z → x / y ≤ z / y
div_rises x z y some more = le-div (x / y) z y some (omega (arith, div-mul-le_self x y))

quotient_rises : (rounding : Rounding) (x z y : ℕ) → 0 < y → x ≤ z → quotient rounding x y ≤ quotient rounding z y
quotient_rises Behind x z y some more = div_rises x z y some more
quotient_rises Ahead x z y some more = div_rises (x + (y - 1)) (z + (y - 1)) y some (omega arith)

-- so a greater charge shows no smaller fare
pub fare_rises : (initial minimum step : ℕ) (rounding : Rounding) (opening : Opening) (less more : ℕ)
    → 0 < opening.modulus → less ≤ more
    → shown_fare initial minimum step (steps_above rounding opening less)
    ≤ shown_fare initial minimum step (steps_above rounding opening more)
fare_rises initial minimum step rounding opening less more some upto =
    let above : above_cover opening less ≤ above_cover opening more = omega arith in
    let steps : steps_above rounding opening less ≤ steps_above rounding opening more =
    quotient_rises rounding (above_cover opening less) (above_cover opening more) opening.modulus some above in
    let value : step * steps_above rounding opening less ≤ step * steps_above rounding opening more =
    mul-le step (steps_above rounding opening less) step (steps_above rounding opening more) (omega arith) steps in
    omega (arith, value)

-- and a meterage that is kept from charge to charge shows a fare between those of the bounds
pub shown_least : (initial minimum step modulus : ℕ) (rounding : Rounding) (m : Meterage) (stretches : List Stretch)
    (intervals : List Interval) → m.rest < modulus → AreOfStretches stretches intervals
    → let later = fold (added modulus) m (map (interval_charge Single) intervals) in
    shown_fare initial minimum step (steps_above rounding (opening_of modulus m) (sum_by least_charge stretches))
    ≤ shown_fare initial minimum step (steps_of rounding later)
shown_least initial minimum step modulus rounding m stretches intervals below are =
    let charges = map (interval_charge Single) intervals in
    let opening = opening_of modulus m in
    let least = sum_by least_charge stretches in
    let some : 0 < modulus = omega (arith, below) in
    let upto : least ≤ sum charges =
    omega (arith, stretches_least stretches, stretches_sum Single stretches intervals are) in
    let rises = fare_rises initial minimum step rounding opening least (sum charges) some upto in
    let same = (shown-sum initial minimum step modulus rounding m charges below).1 in
    subst (λ (fare : ℕ). shown_fare initial minimum step (steps_above rounding opening least) ≤ fare) (sym same) rises

pub shown_most : (initial minimum step modulus : ℕ) (rounding : Rounding) (m : Meterage) (stretches : List Stretch)
    (intervals : List Interval) → m.rest < modulus → AreOfStretches stretches intervals → AreEvenSpeeds stretches
    → let later = fold (added modulus) m (map (interval_charge Single) intervals) in
    shown_fare initial minimum step (steps_of rounding later)
    ≤ shown_fare initial minimum step (steps_above rounding (opening_of modulus m) (sum_by most_charge stretches))
shown_most initial minimum step modulus rounding m stretches intervals below are even =
    let charges = map (interval_charge Single) intervals in
    let opening = opening_of modulus m in
    let most = sum_by most_charge stretches in
    let some : 0 < modulus = omega (arith, below) in
    let upto : sum charges ≤ most =
    omega (arith, stretches_most stretches even, stretches_sum Single stretches intervals are) in
    let rises = fare_rises initial minimum step rounding opening (sum charges) most some upto in
    let same = (shown-sum initial minimum step modulus rounding m charges below).1 in
    subst (λ (fare : ℕ). fare ≤ shown_fare initial minimum step (steps_above rounding opening most)) (sym same) rises
