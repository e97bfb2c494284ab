-- Equal intervals in each operating position.
use Rattle.std.proofs.Common.{[], ℕ, ◌*◌, ◌+◌, ◌-◌, ◌<◌, ◌^◌, ◌∙◌, ◌≡◌, ◌≢◌, ◌≤◌, ◌⊎◌, None, Option, Some, ap, arith}
use Rattle.std.proofs.{Common.{inl, inr, option_map, refl, rules, subst, suc, sum, sym}, Math.Nat.{mul-le-mul_right}}
use Rattle.{std.proofs.lemmas.Grind.{common_steps}, tariff_compile.specs.declared.parts.Lasting.{Lasting}}
use Rattle.drive_modes.specs.declared.meterage.Rounding.TheVariants.{Ahead, Behind}
use Rattle.meter_model.specs.{Interval.{pulses_so_far, roaming_with, with_interval}, Trip.{InStopped, Part}}
use Rattle.meter_states.specs.Common.{Cache, CachedRate, Context, CoreTrip, Display, ForHire, Hired, InHired}
use Rattle.meter_states.specs.Common.{IsInRangeFor, IsNear, Meter, MeterTrip, Meterage, Mode, Off, Operating, Rounding}
use Rattle.meter_states.specs.Common.{Seal, Setting, Stopped, TableParts, Weights, added, charge_at, charge_of}
use Rattle.meter_states.specs.Common.{charges_of, context_of, context_on, core_trip_of, counted_in, fare_by_fees}
use Rattle.meter_states.specs.Common.{local_at, longest_trip, modulus_of, opening_of, roaming_between, run, saved}
use Rattle.meter_states.{specs.Common.{steps_of, ticks_so_far, weights_in_force, with_part}, proofs.Charges.{charge-at}}
use Rattle.meter_states.specs.{Core.{ComesToOutcome, CoreData, core_of}, Lawful.{IsBetweenEvents, IsTripBeside}}
use Rattle.meter_states.{specs.EqualStages.{HasTaken, LastsFrom, charged, passed, unfilled}, proofs.Trips.{hired-saved}}
use Rattle.meter_states.specs.Equals.{IsStill, MayBeCharged, MayGo, MayGoIn, display_by, intervals_of, roams, spare_of}
use Rattle.meter_states.specs.Setting.{IsSettingOf, IsTariffOf}
use Rattle.meter_states.proofs.{Meterages.{added-less, sum-added}, Quiet.{interval-follows, intervals-follow, ticks_by}}

on_in : (operating other : Operating) → operating ≡ other → other ≢ Off → operating ≢ Off
on_in operating other is on off = on (sym is ∙ off)

-- ---- for hire

roaming-more : (p : ℕ) (n : Meter) → sum (roaming_with p n) ≡ sum n.roaming + roams n.durable.number p
roaming-more p n = grind (arith, common_steps)

hire-counted : (s : Setting) (p i : ℕ) (n : Meter) (c : CoreData) → n.operating ≡ ForHire → c.gate ≡ 0
    → c.began ≡ c.clock → record c { roam = c.roam + i * roams c.number p } ≡ core_of s n
    → record c { roam = c.roam + suc i * roams c.number p }
    ≡ core_of s (record (counted_in s n.operating p n) { began = (counted_in s n.operating p n).clock })
hire-counted s p i n c hire gate began e =
    let q = roams c.number p in
    let before : c.roam + i * q ≡ sum n.roaming = ap (λ (c : CoreData). c.roam) e in
    let number : c.number ≡ n.durable.number = ap (λ (c : CoreData). c.number) e in
    let same : q ≡ roams n.durable.number p = ap (λ (x : ℕ). roams x p) number in
    let after : c.roam + suc i * q ≡ sum (roaming_with p n) = omega (arith, before, same, roaming-more p n) in
    ap (λ (g : ℕ). record c { gate = g; roam = c.roam + suc i * q }) gate
    ∙ ap (λ (b : ℕ). record c { began = b; gate = 0; roam = c.roam + suc i * q }) began
    ∙ ap (λ (d : CoreData). record d { began = d.clock; gate = 0; roam = c.roam + suc i * q }) e
    ∙ ap (λ (x : ℕ). record (core_of s n) { began = n.clock; gate = 0; roam = x }) after
    ∙ ap (λ (o : Operating). core_of s (record (counted_in s o p n) { began = (counted_in s o p n).clock })) (sym hire)

times-fewer : (i k q most : ℕ) → i < k → k * q ≤ most → suc i * q ≤ most
times-fewer i k q most below few =
    let less : suc i * q ≤ k * q = mul-le-mul_right q below in
    omega (arith, less, few)

below-roam : (roam q i k : ℕ) → i < k → roam + k * q ≤ roaming_between → roam + suc i * q ≤ roaming_between
below-roam roam q i k below few =
    let less : suc i * q ≤ k * q = mul-le-mul_right q below in
    omega (arith, less, few)

pub hire-equal : (s : Setting) (tables : TableParts) (p k : ℕ) (m : Meter) (c : CoreData) → IsTariffOf s tables
    → 0 < modulus_of s → p ≤ 2000 → c ≡ core_of s m → c.operating ≡ ForHire → c.trip ≡ None → IsStill tables c
    → c.roam + k * roams c.number p ≤ roaming_between
    → ComesToOutcome s (record c { roam = c.roam + k * roams c.number p }) [] [] (run s (intervals_of p k) m)
hire-equal s tables p k m c is some most e hire none still few =
    let q = roams c.number p in
    let start : record c { roam = c.roam + 0 * q } ≡ c = ap (λ (x : ℕ). record c { roam = x }) (omega arith) in
    intervals-follow s p k (λ i. record c { roam = c.roam + i * q }) m
    (λ i n below same.
    let operating : n.operating ≡ ForHire = sym (ap (λ (c : CoreData). c.operating) same) ∙ hire in
    let taken : sum n.taken ≡ 0 = sym (ap (λ (c : CoreData). c.gate) same) ∙ still.gate in
    let short : ticks_by c.trip ≤ 8639999 = rw none (omega arith) in
    interval-follows s tables p n (record c { roam = c.roam + suc i * q }) is some
    (on_in n.operating ForHire operating (λ off. absurd cc)) taken most
    (record { latch = still.latch; gate = still.gate; began = still.began; shown = still.shown }) short
    (below-roam c.roam q i k below few) (hire-counted s p i n c operating still.gate still.began same))
    (start ∙ e)

-- ---- in a trip

-- a core that is still, and whose trip takes an interval
trip-counted : (s : Setting) (part : Part) (n : Meter) (c : CoreData) (x y : CoreTrip) → c.gate ≡ 0
    → c.began ≡ c.clock → record c { trip = Some x } ≡ core_of s n
    → Some y ≡ option_map (core_trip_of s) (option_map (with_part part) n.trip)
    → record c { trip = Some y }
    ≡ core_of s (record (with_interval part n) { began = (with_interval part n).clock })
trip-counted s part n c x y gate began e trip =
    ap (λ (g : ℕ). record c { gate = g; trip = Some y }) gate
    ∙ ap (λ (b : ℕ). record c { began = b; gate = 0; trip = Some y }) began
    ∙ ap (λ (d : CoreData). record d { began = d.clock; gate = 0; trip = Some y }) e
    ∙ ap (λ (t : Option CoreTrip). record (core_of s n) { began = n.clock; gate = 0; trip = t }) trip

-- ---- Stopped

stopped-saved : (s : Setting) (t : MeterTrip) (p : ℕ) (x : CoreTrip) → x ≡ core_trip_of s t
    → record x { pulses = x.pulses + p; ticks = x.ticks + 1 } ≡ core_trip_of s (with_part (InStopped p) t)
stopped-saved s t p x e = grind (arith, common_steps)

stopped-trip : (s : Setting) (trip : Option MeterTrip) (p : ℕ) (x : CoreTrip)
    → Some x ≡ option_map (core_trip_of s) trip
    → Some (record x { pulses = x.pulses + p; ticks = x.ticks + 1 })
    ≡ option_map (core_trip_of s) (option_map (with_part (InStopped p)) trip)
stopped-trip s None p x e = absurd cc
stopped-trip s (Some t) p x e = ap (λ (y : CoreTrip). Some y) (stopped-saved s t p x cc)

passed-more : (p i : ℕ) (t : CoreTrip)
    → passed p (suc i) t ≡ record t { pulses = t.pulses + i * p + p; ticks = t.ticks + i + 1 }
passed-more p i t =
    let pulses : t.pulses + suc i * p ≡ t.pulses + i * p + p = omega arith in
    let ticks : t.ticks + suc i ≡ t.ticks + i + 1 = omega arith in
    cc

none-passed : (p : ℕ) (t : CoreTrip) → passed p 0 t ≡ t
none-passed p t =
    let pulses : t.pulses + 0 * p ≡ t.pulses = omega arith in
    let ticks : t.ticks + 0 ≡ t.ticks = omega arith in
    ap (λ (x : ℕ). record t { pulses = x; ticks = t.ticks + 0 }) pulses ∙ ap (λ (x : ℕ). record t { ticks = x }) ticks

stopped-counted : (s : Setting) (p i : ℕ) (n : Meter) (c : CoreData) (t : CoreTrip) → n.operating ≡ Stopped → c.gate ≡ 0
    → c.began ≡ c.clock → record c { trip = Some (passed p i t) } ≡ core_of s n
    → record c { trip = Some (passed p (suc i) t) }
    ≡ core_of s (record (counted_in s n.operating p n) { began = (counted_in s n.operating p n).clock })
stopped-counted s p i n c t stopped gate began e =
    let trip = stopped-trip s n.trip p (passed p i t) (ap (λ (c : CoreData). c.trip) e) in
    ap (λ (t : CoreTrip). record c { trip = Some t }) (passed-more p i t)
    ∙ trip-counted s (InStopped p) n c (passed p i t) _ gate began e trip
    ∙ ap
    (λ (o : Operating). core_of s (record (counted_in s o p n) { began = (counted_in s o p n).clock })) (sym stopped)

pub stopped-equal : (s : Setting) (tables : TableParts) (p k : ℕ) (m : Meter) (c : CoreData) (t : CoreTrip)
    → IsTariffOf s tables → 0 < modulus_of s → p ≤ 2000 → c ≡ core_of s m → c.operating ≡ Stopped → c.trip ≡ Some t
    → IsStill tables c
    → c.roam ≤ roaming_between → t.ticks + k ≤ 8639999
    → ComesToOutcome s (record c { trip = Some (passed p k t) }) [] [] (run s (intervals_of p k) m)
stopped-equal s tables p k m c t is some most e stopped has still roam short =
    let start : record c { trip = Some (passed p 0 t) } ≡ c = ap (λ (x : CoreTrip). record c { trip = Some x })
    (none-passed p t) ∙ ap (λ (x : Option CoreTrip). record c { trip = x }) (sym has) in
    let shown : c.shown ≡ Some (display_by tables (record c { trip = Some t })) =
    still.shown ∙ ap (λ (x : Option CoreTrip). Some (display_by tables (record c { trip = x }))) has in
    intervals-follow s p k (λ i. record c { trip = Some (passed p i t) }) m
    (λ i n below same.
    let operating : n.operating ≡ Stopped = sym (ap (λ (c : CoreData). c.operating) same) ∙ stopped in
    let taken : sum n.taken ≡ 0 = sym (ap (λ (c : CoreData). c.gate) same) ∙ still.gate in
    interval-follows s tables p n (record c { trip = Some (passed p (suc i) t) }) is some
    (on_in n.operating Stopped operating (λ off. absurd cc)) taken most
    (record { latch = still.latch; gate = still.gate; began = still.began; shown = shown })
    (omega (arith, short, below)) roam (stopped-counted s p i n c t operating still.gate still.began same))
    (start ∙ e)

-- ---- charges that fill no display step

pub unfilled-below : (rounding : Rounding) (modulus q i : ℕ) (m : Meterage) → m.rest < modulus
    → i * q ≤ spare_of rounding modulus m → m.rest + (i * q - m.cover_left) < modulus
unfilled-below Behind modulus q i m below spare = omega (arith, below, spare)
unfilled-below Ahead modulus q i m below spare = grind (arith, common_steps)

unfilled-steps : (rounding : Rounding) (modulus q i : ℕ) (m : Meterage) → i * q ≤ spare_of rounding modulus m
    → steps_of rounding (unfilled q i m) ≡ steps_of rounding m
unfilled-steps Behind modulus q i m spare = refl
unfilled-steps Ahead modulus q i m spare = grind (arith, common_steps)

unfilled-more : (modulus q i : ℕ) (m : Meterage) → m.rest + (suc i * q - m.cover_left) < modulus
    → unfilled q (suc i) m ≡ added modulus (unfilled q i m) q
unfilled-more modulus q i m below =
    let above : m.rest + (i * q - m.cover_left) + (q - (m.cover_left - i * q)) ≡ m.rest + (suc i * q - m.cover_left) =
    omega arith in
    let cover : m.cover_left - suc i * q ≡ m.cover_left - i * q - q = omega arith in
    ap (λ (n : ℕ). record m { cover_left = n; rest = m.rest + (suc i * q - m.cover_left) }) cover
    ∙ ap (λ (n : ℕ). record m { cover_left = m.cover_left - i * q - q; rest = n }) (sym above)
    ∙ added-less modulus q (unfilled q i m) (omega (arith, above, below))

-- ---- Hired

hired-trip : (s : Setting) (trip : Option MeterTrip) (p q : ℕ) (y : Context) (x : CoreTrip) (m : Meterage)
    → 0 < modulus_of s → Some x ≡ option_map (core_trip_of s) trip → charge_at s y p ≡ q
    → m ≡ added (modulus_of s) x.meterage q
    → Some (record x { pulses = x.pulses + p; ticks = x.ticks + 1; meterage = m })
    ≡ option_map (core_trip_of s) (option_map (with_part (InHired p y)) trip)
hired-trip s None p q y x m some e charge is = absurd cc
hired-trip s (Some u) p q y x m some e charge is =
    let same : x ≡ core_trip_of s u = cc in
    let meterage = is ∙ ap (λ (x : CoreTrip). added (modulus_of s) x.meterage q) same ∙ sum-added (opening_of s u)
    (charges_of s u) q some ∙ ap (λ (n : ℕ). saved (opening_of s u) (charges_of s u + n)) (sym charge) in
    ap (λ (x : CoreTrip). Some x) (hired-saved s u p y x m same meterage)

pulses-by : (s : Setting) (trip : Option MeterTrip) (x : CoreTrip) → Some x ≡ option_map (core_trip_of s) trip
    → pulses_so_far trip ≡ x.pulses
pulses-by s None x e = absurd cc
pulses-by s (Some t) x e =
    let same : core_trip_of s t ≡ x = cc in
    ap (λ (x : CoreTrip). x.pulses) same

ticks-by : (s : Setting) (trip : Option MeterTrip) (x : CoreTrip) → Some x ≡ option_map (core_trip_of s) trip
    → ticks_so_far trip ≡ x.ticks
ticks-by s None x e = absurd cc
ticks-by s (Some t) x e =
    let same : core_trip_of s t ≡ x = cc in
    ap (λ (x : CoreTrip). x.ticks) same

-- the context of a later interval, that of an earlier one being known
pub context-later : (s : Setting) (m n : Meter) (c : CoreData) (t x : CoreTrip) → c ≡ core_of s m → c.trip ≡ Some t
    → record c { trip = Some x } ≡ core_of s n
    → context_of s n ≡ record (context_of s m) { pulses = x.pulses; ticks = x.ticks }
context-later s m n c t x e has is =
    let position : n.position ≡ m.position =
    sym (ap (λ (c : CoreData). c.position) is) ∙ ap (λ (c : CoreData). c.position) e in
    let zone : n.zone ≡ m.zone = sym (ap (λ (c : CoreData). c.zone) is) ∙ ap (λ (c : CoreData). c.zone) e in
    let began : n.began ≡ m.began = sym (ap (λ (c : CoreData). c.began) is) ∙ ap (λ (c : CoreData). c.began) e in
    let pulses : pulses_so_far n.trip ≡ x.pulses = pulses-by s n.trip x (ap (λ (c : CoreData). c.trip) is) in
    let ticks : ticks_so_far n.trip ≡ x.ticks = ticks-by s n.trip x (ap (λ (c : CoreData). c.trip) is) in
    let base = context_on s (local_at s n.began) n in
    ap (λ (k : ℕ). record base { pulses = k }) pulses
    ∙ ap (λ (k : ℕ). record base { pulses = x.pulses; ticks = k }) ticks
    ∙ ap (λ (k : ℕ). record base { position = k; pulses = x.pulses; ticks = x.ticks }) position
    ∙ ap (λ (k : ℕ). record base { position = m.position; zone = k; pulses = x.pulses; ticks = x.ticks }) zone
    ∙ ap (λ (k : ℕ). record (context_on s (local_at s k) m) { pulses = x.pulses; ticks = x.ticks }) began

charged-more : (p q i : ℕ) (t : CoreTrip) → charged p q (suc i) t
    ≡ record t { pulses = t.pulses + i * p + p; ticks = t.ticks + i + 1; meterage = unfilled q (suc i) t.meterage }
charged-more p q i t = ap (λ (x : CoreTrip). record x { meterage = unfilled q (suc i) t.meterage }) (passed-more p i t)

none-charged : (p q : ℕ) (t : CoreTrip) → charged p q 0 t ≡ t
none-charged p q t =
    let cover : t.meterage.cover_left - 0 * q ≡ t.meterage.cover_left = omega arith in
    let rest : t.meterage.rest + (0 * q - t.meterage.cover_left) ≡ t.meterage.rest = omega arith in
    ap (λ (x : CoreTrip). record x { meterage = unfilled q 0 t.meterage }) (none-passed p t)
    ∙ ap (λ (x : ℕ). record t { meterage = record (unfilled q 0 t.meterage) { cover_left = x } }) cover
    ∙ ap (λ (x : ℕ). record t { meterage = record t.meterage { rest = x } }) rest

hired-counted : (s : Setting) (p q i : ℕ) (n : Meter) (c : CoreData) (t : CoreTrip) → 0 < modulus_of s
    → n.operating ≡ Hired → c.gate ≡ 0 → c.began ≡ c.clock
    → t.meterage.rest + (suc i * q - t.meterage.cover_left) < modulus_of s → charge_at s (context_of s n) p ≡ q
    → record c { trip = Some (charged p q i t) } ≡ core_of s n → record c { trip = Some (charged p q (suc i) t) }
    ≡ core_of s (record (counted_in s n.operating p n) { began = (counted_in s n.operating p n).clock })
hired-counted s p q i n c t some hired gate began below charge e =
    let x = charged p q i t in
    let trip = hired-trip s n.trip p q (context_of s n) x (unfilled q (suc i) t.meterage) some
    (ap (λ (c : CoreData). c.trip) e) charge (unfilled-more (modulus_of s) q i t.meterage below) in
    ap (λ (t : CoreTrip). record c { trip = Some t }) (charged-more p q i t)
    ∙ trip-counted s (InHired p (context_of s n)) n c x _ gate began e trip
    ∙ ap (λ (o : Operating). core_of s (record (counted_in s o p n) { began = (counted_in s o p n).clock })) (sym hired)

abbrev display_at : TableParts → CoreData → CoreTrip → (steps : ℕ) → Display
display_at tables c t n = record {
  operating = c.operating;
  position = c.position;
  zone = c.zone;
  fare = fare_by_fees t.fees tables.step n;
  supplements = t.extras_sum;
  decimals = tables.decimals;
}

pub hired-equal : (s : Setting) (tables : TableParts) (p q k : ℕ) (m : Meter) (c : CoreData) (t : CoreTrip) → IsTariffOf
    s tables → 0 < modulus_of s → p ≤ 2000 → c ≡ core_of s m → c.operating ≡ Hired → c.trip ≡ Some t → IsStill tables c
    → c.roam ≤ roaming_between → t.ticks + k ≤ 8639999 → t.meterage.rest < modulus_of s
    → k * q ≤ spare_of tables.rounding (modulus_of s) t.meterage
    → ((i : ℕ) (n : Meter) → i < k → record c { trip = Some (charged p q i t) } ≡ core_of s n
    → charge_at s (context_of s n) p ≡ q)
    → ComesToOutcome s (record c { trip = Some (charged p q k t) }) [] [] (run s (intervals_of p k) m)
hired-equal s tables p q k m c t is some most e hired has still roam short rest spare charge =
    let start : record c { trip = Some (charged p q 0 t) } ≡ c = ap (λ (x : CoreTrip). record c { trip = Some x })
    (none-charged p q t) ∙ ap (λ (x : Option CoreTrip). record c { trip = x }) (sym has) in
    let shown : c.shown ≡ Some (display_by tables (record c { trip = Some t })) =
    still.shown ∙ ap (λ (x : Option CoreTrip). Some (display_by tables (record c { trip = x }))) has in
    intervals-follow s p k (λ i. record c { trip = Some (charged p q i t) }) m
    (λ i n below same.
    let operating : n.operating ≡ Hired = sym (ap (λ (c : CoreData). c.operating) same) ∙ hired in
    let taken : sum n.taken ≡ 0 = sym (ap (λ (c : CoreData). c.gate) same) ∙ still.gate in
    let fewer = times-fewer i k q (spare_of tables.rounding (modulus_of s) t.meterage) below spare in
    let steps = unfilled-steps tables.rounding (modulus_of s) q (suc i) t.meterage fewer in
    let as_before : c.shown ≡ Some (display_by tables (record c { trip = Some (charged p q (suc i) t) })) =
    shown ∙ ap (λ (n : ℕ). Some (display_at tables c t n)) (sym steps) in
    interval-follows s tables p n (record c { trip = Some (charged p q (suc i) t) }) is some
    (on_in n.operating Hired operating (λ off. absurd cc)) taken most
    (record { latch = still.latch; gate = still.gate; began = still.began; shown = as_before })
    (omega (arith, short, below)) roam
    (hired-counted s p q i n c t some operating still.gate still.began
    (unfilled-below tables.rounding (modulus_of s) q (suc i) t.meterage rest fewer) (charge i n below same) same))
    (start ∙ e)

-- ---- the charge of each

-- the weights of a context give its charge
pub charge-by-weights : (s : Setting) (tables : TableParts) (seal : Seal) (y : Context) (p : ℕ) (w : Weights)
    → IsSettingOf s tables seal → w ≡ weights_in_force s.tariff tables.constant y
    → charge_of seal.params.mode w p ≡ charge_at s y p
charge-by-weights s tables seal y p w is by =
    ap (λ (mode : Mode). charge_of mode w p) is.secured.mode
    ∙ ap (λ (w : Weights). charge_of s.mode w p) by
    ∙ ap (λ (k : ℕ). charge_of s.mode (weights_in_force s.tariff k y) p) is.tariff.constant
    ∙ charge-at s tables y p is.tariff

-- the context of an interval after i further ones is near that of the first
pub near-later : (s : Setting) (m : Meter) (t : CoreTrip) (p i further longer : ℕ)
    → Some t ≡ option_map (core_trip_of s) m.trip → i * p ≤ further → i ≤ longer
    → IsNear further longer (context_of s m)
    (record (context_of s m) { pulses = t.pulses + i * p; ticks = t.ticks + i })
near-later s m t p i further longer has far long =
    let pulses = pulses-by s m.trip t has in
    let ticks = ticks-by s m.trip t has in
    record {
      position = refl;
      zone = refl;
      weekday = refl;
      month_day = refl;
      holiday = refl;
      minute = refl;
      pulses = (omega (arith, pulses), omega (arith, pulses, far));
      ticks = (omega (arith, ticks), omega (arith, ticks, long));
    }

-- and is one that a trip may have
pub range-later : (tables : TableParts) (x : Context) (pulses ticks : ℕ) → IsInRangeFor tables x → pulses ≤ 5 * 10 ^ 18
    → ticks ≤ longest_trip → IsInRangeFor tables (record x { pulses = pulses; ticks = ticks })
range-later tables x pulses ticks x_in few short = search rules

-- ---- no more may go

-- what is left to charge without a further display step, after charges that filled none
spare-after : (rounding : Rounding) (modulus q n : ℕ) (m : Meterage) → m.rest < modulus → n * q
    ≤ spare_of rounding modulus m → spare_of rounding modulus (unfilled q n m) + n * q ≡ spare_of rounding modulus m
spare-after Behind modulus q n m below spare = omega (arith, below, spare)
spare-after Ahead modulus q n m below spare = grind (arith, common_steps)

-- what is true of the intervals so far if one more may be charged at once behind them
record OneMore (tables : TableParts) (p q n : ℕ) (t : CoreTrip) (lasting : Lasting) : Type 0 where
  pub short : t.ticks + n + 1 < longest_trip
  pub further : (n + 1) * p ≤ lasting.further
  pub longer : n + 1 ≤ lasting.longer
  pub spare : (n + 1) * q ≤ spare_of tables.rounding (tables.step * tables.measure) t.meterage

one-more : (tables : TableParts) (seal : Seal) (cache : Cache) (p q n : ℕ) (c : CoreData) (t x : CoreTrip)
    (lasting : Lasting) → c.trip ≡ Some x → x ≡ charged p q n t → q ≡ charge_of seal.params.mode lasting.weights p
    → ((rate : CachedRate) → cache.rate ≡ Some rate → LastsFrom rate t.pulses t.ticks lasting) → t.meterage.rest
    < tables.step * tables.measure → n * q ≤ spare_of tables.rounding (tables.step * tables.measure) t.meterage
    → MayBeCharged tables seal cache p c → OneMore tables p q n t lasting
one-more tables seal cache p q n c t x lasting has is charge lasts rest spare may =
    let modulus = tables.step * tables.measure in
    let u = may.outlasts.trip in
    let same : Some u ≡ Some x = sym may.outlasts.has ∙ has in
    let one_trip : u ≡ x = cc in
    let u_is : u ≡ charged p q n t = one_trip ∙ is in
    let ticks : u.ticks ≡ t.ticks + n = ap (λ (t : CoreTrip). t.ticks) u_is in
    let pulses : u.pulses ≡ t.pulses + n * p = ap (λ (t : CoreTrip). t.pulses) u_is in
    let rate = may.serve.rate in
    let last = lasts rate may.serve.keeps_rate in
    let weights : charge_of seal.params.mode rate.lasting.weights p ≡ q =
    ap (λ (w : Weights). charge_of seal.params.mode w p) (sym last.weights) ∙ sym charge in
    let left : spare_of tables.rounding modulus u.meterage ≡ spare_of tables.rounding modulus
    (unfilled q n t.meterage) = ap (λ (t : CoreTrip). spare_of tables.rounding modulus t.meterage) u_is in
    let after = spare-after tables.rounding modulus q n t.meterage rest spare in
    let one : q ≤ spare_of tables.rounding modulus (unfilled q n t.meterage) =
    subst (λ (k : ℕ). k ≤ spare_of tables.rounding modulus (unfilled q n t.meterage)) weights
    (subst (λ (k : ℕ). charge_of seal.params.mode rate.lasting.weights p ≤ k) left may.spare) in
    record {
      short = omega (arith, may.outlasts.short, ticks);
      further = omega (arith, may.further, pulses, last.further);
      longer = omega (arith, may.longer, ticks, last.longer);
      spare = omega (arith, one, after);
    }

-- either all were charged, or one more may not be
pub charged-full : (tables : TableParts) (seal : Seal) (cache : Cache) (p q n near longest few count : ℕ) (c : CoreData)
    (t x : CoreTrip) (lasting : Lasting) → c.trip ≡ Some x → x ≡ charged p q n t
    → q ≡ charge_of seal.params.mode lasting.weights p
    → ((rate : CachedRate) → cache.rate ≡ Some rate → LastsFrom rate t.pulses t.ticks lasting) → t.meterage.rest
    < tables.step * tables.measure → n * q ≤ spare_of tables.rounding (tables.step * tables.measure) t.meterage
    → (few ≡ count) ⊎ (longest_trip ≤ t.ticks + few + 1) → (longest ≡ few) ⊎ (lasting.longer < (longest + 1) * 1)
    → (near ≡ longest) ⊎ (lasting.further < (near + 1) * p)
    → (n ≡ near) ⊎ (spare_of tables.rounding (tables.step * tables.measure) t.meterage < (n + 1) * q)
    → (n ≡ count) ⊎ ¬ MayBeCharged tables seal cache p c
charged-full tables seal cache p q n near longest few count c t x lasting has is charge lasts rest spare = by
  where
    more : MayBeCharged tables seal cache p c → OneMore tables p q n t lasting
    more may = one-more tables seal cache p q n c t x lasting has is charge lasts rest spare may

    by : (few ≡ count) ⊎ (longest_trip ≤ t.ticks + few + 1) → (longest ≡ few) ⊎ (lasting.longer < (longest + 1) * 1)
        → (near ≡ longest) ⊎ (lasting.further < (near + 1) * p)
        → (n ≡ near) ⊎ (spare_of tables.rounding (tables.step * tables.measure) t.meterage < (n + 1) * q)
        → (n ≡ count) ⊎ ¬ MayBeCharged tables seal cache p c
    by a b d (inr over) = inr (λ may. absurd (omega (arith, over, (more may).spare)))
    by a b (inr over) (inl n_is) = inr (λ may. absurd (let over' : lasting.further < (n + 1) * p =
        subst (λ (k : ℕ). lasting.further < (k + 1) * p) (sym n_is) over in omega (arith, over', (more may).further)))
    by a (inr over) (inl near_is) (inl n_is) =
        inr (λ may. absurd (omega (arith, over, n_is, near_is, (more may).longer)))
    by (inr over) (inl longest_is) (inl near_is) (inl n_is) =
        inr (λ may. absurd (omega (arith, over, longest_is, n_is, near_is, (more may).short)))
    by (inl few_is) (inl longest_is) (inl near_is) (inl n_is) = inl (n_is ∙ near_is ∙ longest_is ∙ few_is)

-- a core that takes none
pub taken-none : {p : TableParts} {inside core : CoreData} (count : ℕ) → inside ≡ core → IsBetweenEvents p core
    → HasTaken p count core inside 0
taken-none {p} {inside} {core} count view on = record {
  lawful = subst (IsBetweenEvents p) (sym view) on;
  most = omega arith;
  same = (ap (λ (c : CoreData). c.operating) view, ap (λ (c : CoreData). c.number) view);
}

-- the pulses of a trip
pub pulses-few : {p : TableParts} {number : ℕ} {t : CoreTrip} → IsTripBeside p (number + 0) 8639999 t
    → number ≤ 2000000000000001 → t.pulses ≤ 5000000000000000000
pulses-few beside few = omega (arith, beside.pulses, beside.range.ticks, few)

-- a core stops at the count, or if no further interval may go in its operating position
pub full-in : (tables : TableParts) (seal : Seal) (cache : Cache) (p : ℕ) (core : CoreData) (o : Operating)
    (taken count : ℕ) (Stop : Type 0) → core.operating ≡ o
    → (Stop → MayGoIn tables seal cache p core o → ⊥) → (taken ≡ count) ⊎ Stop → (taken ≡ count)
    ⊎ ¬ MayGo tables seal cache p core
full-in tables seal cache p core o taken count Stop at ends (inl is) = inl is
full-in tables seal cache p core o taken count Stop at ends (inr stop) = inr (λ may. ends stop (subst
    (MayGoIn tables seal cache p core) at may.goes))
