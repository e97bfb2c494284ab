-- Each explanation has the fees that were in force as its trip was hired, with their lines.
use Rattle.std.{specs.Option.{unwrap_or}, proofs.lemmas.List.Elements.{All-weaker}}
use Rattle.std.proofs.Common.{[], ℕ, ◌+◌, ◌<◌, ◌∙◌, ◌∷◌, ◌≡◌, ◌⊎◌, All, List, None, Option, Some, ap, arith, get_or}
use Rattle.std.proofs.{Common.{inl, inr, length, map, refl, slice_get, subst, suc, sym, zero}, lemmas.List.{length-map}}
use Rattle.tariff_check.specs.{Amounts.{place_number}, Parts.{InitialNumbers, initials_of, minimums_of}}
use Rattle.tariff_check.specs.declared.choice.ChoiceKind.TheVariants.{Minimum}
use Rattle.{meter_model.specs.declared.core_trip.Fees.{Fees}, verify_bench.proofs.DriveTrips.{explained_are_of_trips}}
use Rattle.verify_bench.specs.{ClosedTrips.{hiring_meter}, TripExplanations.{Explanation, explanations_of}}
use Rattle.verify_bench.specs.Common.{Choice, Context, Event, IsSound, Setting, SoundTariff, Tree, at_hiring}
use Rattle.verify_bench.specs.Common.{context_now, fees_in_force, lines_of, place_in_force, sound_of, values_of}
use Rattle.verify_bench.specs.{Fees.{fees_of_hiring, line_at_place}, Wholes.{HasFees, HasMinimum, IsInForce, IsOfTrip}}
use Rattle.tariff_check.proofs.Laws as check

-- what is made of the element at a place
pub mapped_there : {A B : Type 0} (f : A → B) (all : List A) (place : ℕ) (c : A) (d : B)
    → slice_get all place ≡ Some c → get_or (map f all) place d ≡ f c
mapped_there f [] place c d there = absurd cc
mapped_there f (x ∷ xs) zero c d there = let same : x ≡ c = cc in ap f same
mapped_there f (x ∷ xs) (suc place) c d there = mapped_there f xs place c d there

-- an element is at each place below the length
some_there : {A : Type 0} (all : List A) (place : ℕ) → place < length all → (c : A) × (slice_get all place ≡ Some c)
some_there [] place below = absurd (omega arith)
some_there (x ∷ xs) zero below = (x, refl)
some_there (x ∷ xs) (suc place) below = some_there xs place (omega arith)

-- the initial hire fee
initial_at : (t : Tree) (x : Context) → IsSound t
    → (fee : Choice InitialNumbers) × IsInForce (sound_of t).initials (at_hiring x) fee
initial_at t x sound =
    let holds = check.lines_that_hold_are_there-initial t x sound in
    let many : length (initials_of t.lines) ≡ length (sound_of t).initials =
    length-map (sound_of t).initials (λ (c : Choice InitialNumbers). c.value) in
    let found = some_there (sound_of t).initials holds.0 (omega (arith, holds.2, many)) in
    (found.0, record { place = holds.0; first = holds.1; there = found.1 })

-- the minimum fare
minimum_by : (t : Tree) (x : Context) (o : Option ℕ) → place_in_force (sound_of t).minimums (at_hiring x) ≡ o
    → HasMinimum (sound_of t).minimums (at_hiring x) (fees_of_hiring (sound_of t) x)
minimum_by t x None is = inl (
  is,
  ap (λ (o : Option ℕ). line_at_place (lines_of (sound_of t).minimums) o) is,
  ap (λ (o : Option ℕ). get_or (0 ∷ values_of (sound_of t).minimums) (place_number o) 0) is,
)
minimum_by t x (Some place) is =
    let all = (sound_of t).minimums in
    let below = check.lines_that_hold_are_there-there Minimum t (at_hiring x) place is in
    let many : length (minimums_of t.lines) ≡ length all = length-map all (λ (c : Choice ℕ). c.value) in
    let found = some_there all place (omega (arith, below, many)) in
    let next : place + 1 ≡ suc place = omega arith in
    inr (
      found.0,
      record { place = place; first = is; there = found.1 },
      ap (λ (o : Option ℕ). line_at_place (lines_of all) o) is
          ∙ ap (λ (n : ℕ). Some n) (mapped_there (λ (c : Choice ℕ). c.line) all place found.0 0 found.1),
      ap (λ (o : Option ℕ). get_or (0 ∷ values_of all) (place_number o) 0) is
          ∙ (ap (λ (n : ℕ). get_or (0 ∷ values_of all) n 0) next
          ∙ mapped_there (λ (c : Choice ℕ). c.value) all place found.0 0 found.1),
    )

minimum_at : (t : Tree) (s : Setting) → s.tariff ≡ sound_of t → (x : Context)
    → HasMinimum s.tariff.minimums (at_hiring x) (fees_of_hiring s.tariff x)
minimum_at t s tariff x =
    subst (λ (p : SoundTariff). HasMinimum p.minimums (at_hiring x) (fees_of_hiring p x)) (sym tariff)
    (minimum_by t x (place_in_force (sound_of t).minimums (at_hiring x)) refl)

fee_at : (t : Tree) (s : Setting) → IsSound t → s.tariff ≡ sound_of t → (x : Context)
    → (fee : Choice InitialNumbers) × IsInForce s.tariff.initials (at_hiring x) fee
fee_at t s sound tariff x = subst
    (λ (p : SoundTariff). (fee : Choice InitialNumbers) × IsInForce p.initials (at_hiring x) fee) (sym tariff)
    (initial_at t x sound)

one_has_fees : (t : Tree) (s : Setting) (events : List Event) → IsSound t → s.tariff ≡ sound_of t → (e : Explanation)
    → IsOfTrip s events e → HasFees s events e
one_has_fees t s events sound tariff e is_of =
    let x = context_now s (hiring_meter s events is_of.of) in
    let found = fee_at t s sound tariff x in
    let fee = found.0 in
    let all = s.tariff.initials in
    let value = λ (c : Choice InitialNumbers). c.value in
    let none : InitialNumbers = record { amount = 0; covers = 0 } in
    let valued : get_or (values_of all) (unwrap_or (place_in_force all (at_hiring x)) 0) none ≡ fee.value =
    ap (λ (o : Option ℕ). get_or (values_of all) (unwrap_or o 0) none) found.1.first
    ∙ mapped_there value all found.1.place fee none found.1.there in
    record {
      of = is_of;
      fee = fee;
      first = found.1;
      line = ap (λ (e : Explanation). e.fees.initial_line) is_of.is
          ∙ (ap (λ (o : Option ℕ). get_or (lines_of all) (unwrap_or o 0) 0) found.1.first
          ∙ mapped_there (λ (c : Choice InitialNumbers). c.line) all found.1.place fee 0 found.1.there);
      amount = ap (λ (e : Explanation). e.fees.amounts.amount) is_of.is ∙ ap (λ (v : InitialNumbers). v.amount) valued;
      covers = ap (λ (e : Explanation). e.fees.amounts.covers) is_of.is ∙ ap (λ (v : InitialNumbers). v.covers) valued;
      minimum = subst (λ (e : Explanation). HasMinimum s.tariff.minimums (at_hiring x) e.fees) (sym is_of.is)
          (minimum_at t s tariff x);
      initial = ap (λ (e : Explanation). e.receipt.initial) is_of.is
          ∙ (ap (λ (f : Fees). f.initial) is_of.began.fees
          ∙ sym (ap (λ (e : Explanation). e.fees.amounts.amount) is_of.is));
      least = ap (λ (e : Explanation). e.receipt.minimum) is_of.is
          ∙ (ap (λ (f : Fees). f.minimum) is_of.began.fees
          ∙ sym (ap (λ (e : Explanation). e.fees.amounts.minimum) is_of.is));
    }

pub all_have_fees : (t : Tree) (s : Setting) (events : List Event) → IsSound t → s.tariff ≡ sound_of t
    → All (HasFees s events) (explanations_of s events)
all_have_fees t s events sound tariff =
    All-weaker (IsOfTrip s events) (HasFees s events) (one_has_fees t s events sound tariff) (explanations_of s events)
    (explained_are_of_trips s events)
