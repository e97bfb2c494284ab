-- What the fare of a trip depends on.
use Rattle.std.proofs.Common.{[], ℕ, ◌%◌, ◌*◌, ◌++◌, ◌+◌, ◌/◌, ◌∙◌, ◌∷◌, ◌≡◌, Bool, List, ap, arith, map, refl, sum}
use Rattle.std.proofs.{Common.{sym}, Math.Nat.{div-add-mod, mul_comm}, lemmas.Grind.{common_steps}}
use Rattle.{drive_modes.specs.Fare.{above_cover, opening_of, quotient}, meter_model.specs.Common.{saved}}
use Rattle.meter_model.specs.{KeptTrip.{hired_in, with_parts}, Trip.{fare_of, held_trip, steps_shown, trip_of}}
use Rattle.meter_model.specs.{Setting.{Setting, modulus_of, rounding_of}, declared.core_trip.Fees.{Fees}}
use Rattle.meter_model.specs.Trip.{InHired, InStopped, MeterTrip, Part, Rest, charge_in, charges_of, fare_by_fees}
use Rattle.drive_modes.specs.Fare as fares
use Rattle.meter_model.specs.Trip as model

-- intervals outside Hired cost nothing
hired-charges : (s : Setting) (parts : List Part)
    → sum (map (charge_in s) (hired_in parts)) ≡ sum (map (charge_in s) parts)
hired-charges s [] = refl
hired-charges s (InHired p x ∷ parts) = grind (arith, common_steps, hired-charges s parts)
hired-charges s (InStopped p ∷ parts) = grind (arith, common_steps, hired-charges s parts)
hired-charges s (Rest p ∷ parts) = grind (arith, common_steps, hired-charges s parts)

pub fare-by : (s : Setting) (t u : MeterTrip) → t.fees ≡ u.fees
    → t.opening.cover ≡ u.opening.cover → t.opening.above ≡ u.opening.above
    → hired_in t.parts ≡ hired_in u.parts → fare_of s t ≡ fare_of s u
fare-by s t u fees cover above parts =
    let charges : charges_of s t ≡ charges_of s u = sym (hired-charges s t.parts)
    ∙ ap (λ (ps : List Part). sum (map (charge_in s) ps)) parts ∙ hired-charges s u.parts in
    let steps : steps_shown s t ≡ steps_shown s u = cc in
    ap (λ (f : Fees). fare_by_fees f s.tariff.step.0 (steps_shown s t)) fees
    ∙ ap (fare_by_fees u.fees s.tariff.step.0) steps

-- over two lists what each element counts adds up
pub sum-lists : {A : Type 0} (f : A → ℕ) (xs ys : List A) → sum (map f (xs ++ ys)) ≡ sum (map f xs) + sum (map f ys)
sum-lists f [] ys = omega arith
sum-lists f (x ∷ xs) ys = grind (arith, common_steps, sum-lists f xs ys)

-- from a saved state charges go on as from the opening
pub above-more : (o : fares.Opening) (a b : ℕ)
    → above_cover (opening_of o.modulus (saved o a)) b ≡ above_cover o (a + b)
above-more o a b =
    let whole = above_cover o a in
    let parted : o.modulus * (whole / o.modulus) + whole % o.modulus ≡ whole = div-add-mod whole o.modulus in
    let turned : whole / o.modulus * o.modulus ≡ o.modulus * (whole / o.modulus) =
    mul_comm (whole / o.modulus) o.modulus in
    omega arith

-- a trip that is opened from its saved form has the fare of the whole trip after any further intervals
pub fare-resumed : (s : Setting) (t : MeterTrip) (parts : List Part) (second : ℕ) (stopped : Bool) (position zone : ℕ)
    → fare_of s (with_parts parts (trip_of s (held_trip s second stopped position zone t)))
    ≡ fare_of s (with_parts parts t)
fare-resumed s t parts second stopped position zone =
    let o = model.opening_of s t in
    let both : charges_of s (with_parts parts t) ≡ charges_of s t + sum (map (charge_in s) parts) =
    sum-lists (charge_in s) t.parts parts in
    let more = above-more o (charges_of s t) (sum (map (charge_in s) parts)) in
    ap (λ (n : ℕ). fare_by_fees t.fees s.tariff.step.0 (quotient (rounding_of s) n (modulus_of s)))
    (more ∙ ap (above_cover o) (sym both))
