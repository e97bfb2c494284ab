-- What the core keeps of a trip is its saved form.
use Rattle.std.proofs.Common.{[], ℕ, ◌*◌, ◌++◌, ◌+◌, ◌-◌, ◌∙◌, ◌∷◌, ◌≡◌, ◌≤◌, List, None, Option, Some, ap, arith}
use Rattle.std.proofs.{Common.{get_or, option_map, set, sum, sym}, lemmas.{Grind.{common_steps}, Option.{same_Some}}}
use Rattle.{tariff_check.specs.declared.values.Initial.{Initial}, meter_model.specs.Supplements.{amounts_of, counts_of}}
use Rattle.meter_model.specs.{Interval.{with_interval}, Setting.{unit_of}, Trip.{Part, begun}}
use Rattle.meter_states.specs.Common.{Context, CoreTrip, InHired, Meter, MeterTrip, Meterage, Setting, TableParts}
use Rattle.meter_states.specs.Common.{amount_in, charge_at, charges_of, core_trip_of, modulus_of, opening_of, saved}
use Rattle.meter_states.specs.{Common.{supplement_numbered, times, with_extra, with_part}, Core.{CoreData, core_of}}
use Rattle.meter_states.{specs.Setting.{IsTariffOf}, proofs.Counts.{counts-at, counts-more, counts-none}}
use Rattle.meter_states.proofs.Settings.{unit-is}

-- a trip that begins
pub begun-saved : (s : Setting) (p : TableParts) (fee : Initial) (second roam : ℕ) (m : Meterage) → IsTariffOf s p
    → m ≡ saved (record { cover = fee.covers * p.measure; above = 0; modulus = modulus_of s }) 0
    → record (core_trip_of s (begun s fee second roam)) {
      meterage = m;
      extras = 0 ∷ 0 ∷ 0 ∷ 0 ∷ 0 ∷ 0 ∷ 0 ∷ 0 ∷ 0 ∷ 0 ∷ 0 ∷ 0 ∷ 0 ∷ 0 ∷ 0 ∷ 0 ∷ [];
    } ≡ core_trip_of s (begun s fee second roam)
begun-saved s p fee second roam m is e =
    let begins = core_trip_of s (begun s fee second roam) in
    let none = 0 ∷ 0 ∷ 0 ∷ 0 ∷ 0 ∷ 0 ∷ 0 ∷ 0 ∷ 0 ∷ 0 ∷ 0 ∷ 0 ∷ 0 ∷ 0 ∷ 0 ∷ 0 ∷ [] in
    let whole : m ≡ saved (record { cover = fee.covers * unit_of s; above = 0; modulus = modulus_of s }) 0 =
    e ∙ ap (λ (unit : ℕ). saved (record { cover = fee.covers * unit; above = 0; modulus = modulus_of s }) 0)
    (unit-is s p is) in
    ap (λ (x : Meterage). record begins { meterage = x; extras = none }) whole
    ∙ ap (λ (counts : List ℕ). record begins { extras = counts }) (sym counts-none)

-- an interval in Hired
pub hired-saved : (s : Setting) (t : MeterTrip) (p : ℕ) (context : Context) (x : CoreTrip) (m : Meterage)
    → x ≡ core_trip_of s t → m ≡ saved (opening_of s t) (charges_of s t + charge_at s context p)
    → record x { pulses = x.pulses + p; ticks = x.ticks + 1; meterage = m }
    ≡ core_trip_of s (with_part (InHired p context) t)
hired-saved s t p context x m is e = grind (arith, common_steps)

-- a supplement more
pub extra-saved : (s : Setting) (t : MeterTrip) (n amount : ℕ) (x : CoreTrip) → 1 ≤ n → n ≤ 16
    → amount ≡ amount_in (supplement_numbered s.tariff.supplements n) → x ≡ core_trip_of s t
    → record x { extras = set x.extras (n - 1) (get_or x.extras (n - 1) 0 + 1); extras_sum = x.extras_sum + amount }
    ≡ core_trip_of s (with_extra n t)
extra-saved s t n amount x least most is e =
    let place : n ≡ 1 + (n - 1) = omega arith in
    let at : get_or (counts_of t.extras) (n - 1) 0 ≡ times n t.extras =
    counts-at 16 1 (n - 1) t.extras (omega arith) ∙ ap (λ (k : ℕ). times k t.extras) (sym place) in
    let more = counts-more 16 1 (n - 1) n t.extras (omega arith) place in
    let counts : set x.extras (n - 1) (get_or x.extras (n - 1) 0 + 1) ≡ counts_of (t.extras ++ n ∷ []) =
    ap (λ (y : CoreTrip). set y.extras (n - 1) (get_or y.extras (n - 1) 0 + 1)) e
    ∙ ap (λ (k : ℕ). set (counts_of t.extras) (n - 1) (k + 1)) at ∙ more in
    let sum : x.extras_sum ≡ amounts_of s.tariff t.extras = ap (λ (y : CoreTrip). y.extras_sum) e in
    let amounts : x.extras_sum + amount ≡ amounts_of s.tariff (t.extras ++ n ∷ []) = grind (arith, common_steps) in
    let other = ap (λ (y : CoreTrip).
    record y { extras = counts_of (t.extras ++ n ∷ []); extras_sum = amounts_of s.tariff (t.extras ++ n ∷ []) }) e in
    let whole : record x {
      extras = set x.extras (n - 1) (get_or x.extras (n - 1) 0 + 1);
      extras_sum = x.extras_sum + amount;
    } ≡ record x { extras = counts_of (t.extras ++ n ∷ []); extras_sum = amounts_of s.tariff (t.extras ++ n ∷ []) } =
    cc in
    whole ∙ other

trip-taken : (s : Setting) (trip : Option MeterTrip) (part : Part) (t u : CoreTrip)
    → option_map (core_trip_of s) trip ≡ Some t
    → ((x : MeterTrip) → t ≡ core_trip_of s x → u ≡ core_trip_of s (with_part part x))
    → Some u ≡ option_map (core_trip_of s) (option_map (with_part part) trip)
trip-taken s None part t u is saved = absurd (cc)
trip-taken s (Some x) part t u is saved = ap Some (saved x (sym (same_Some (core_trip_of s x) t is)))

-- a core whose trip takes the pulses of the interval as a part
pub interval-taken : (s : Setting) (m : Meter) (core : CoreData) (part : ℕ → Part) (pulses gate : ℕ) (t u : CoreTrip)
    → core ≡ core_of s m → core.trip ≡ Some t → pulses ≡ core.gate → gate ≡ 0
    → ((x : MeterTrip) → t ≡ core_trip_of s x → u ≡ core_trip_of s (with_part (part pulses) x))
    → record core { gate = gate; trip = Some u } ≡ core_of s (with_interval (part (sum m.taken)) m)
interval-taken s m core part pulses gate t u stands has all none saved =
    let there = sym (ap (λ (c : CoreData). c.trip) stands) ∙ has in
    let counted : pulses ≡ sum m.taken = all ∙ ap (λ (c : CoreData). c.gate) stands in
    ap (λ (c : CoreData). record c { gate = gate; trip = Some u }) stands
    ∙ ap (λ (n : ℕ). record (core_of s m) { gate = n; trip = Some u }) none
    ∙ ap (λ (x : Option CoreTrip). record (core_of s m) { gate = 0; trip = x })
    (trip-taken s m.trip (part pulses) t u there saved)
    ∙ ap (λ (n : ℕ). core_of s (with_interval (part n) m)) counted
