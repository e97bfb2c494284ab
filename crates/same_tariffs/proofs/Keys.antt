-- What each act of a key comes to at two meters that stand alike.
use Rattle.std.proofs.Common.{ℕ, ◌∙◌, ◌≡◌, ◌≤◌, Bool, List, None, Option, Some, ap, arith, if◌then◌else◌, nat_le, subst}
use Rattle.{std.proofs.{Common.{sum, true}, lemmas.Grind.{common_steps}}, taxi_units.specs.Limits.{hirings_end}}
use Rattle.{tariff_check.specs.declared.values.Supplement.{Supplement}, meter_model.specs.Supplements.{times}}
use Rattle.meter_model.specs.Keys.{act_done, act_of, extra_added, extra_added_to, hired, hiring, is_among}
use Rattle.meter_model.specs.{Keys.{latch_pressed, position_set, zone_set}, declared.key_act.KeyAct.{KeyAct}}
use Rattle.meter_model.specs.Trip.{with_extra}
use Rattle.same_tariffs.{specs.Alike.{AreTripsAlike, AreTripsOfBothAlike, with_trips}, proofs.Trips.{begun-alike}}
use Rattle.same_tariffs.specs.Common.{IsFromTo, Key, Meter, MeterTrip, Setting, Trip, begun, context_now, fees_in_force}
use Rattle.same_tariffs.specs.Common.{last_tick, local_at, quiet, refused, supplement_numbered, ticks_so_far}
use Rattle.same_tariffs.proofs.MetersAlike.{ComeAlike, IsBeside, closed-alike, context-same, either-alike, having}
use Rattle.same_tariffs.proofs.MetersAlike.{placed_at, quiet-alike, refused-alike}
use Rattle.taxi_units.specs.declared.event.Why.TheVariants as why
use Rattle.taxi_units.specs.declared.receipt.Kind.TheVariants as kinds
use Rattle.meter_model.specs.declared.key_act.KeyAct.TheVariants as key_acts

-- a number that is among those of the positions or of the zones
among : (most n : ℕ) → is_among most n ≡ true → IsFromTo 1 most n
among most n is = grind (arith, common_steps)

-- trips with a supplement more
extra-alike : (s t : Setting) (n : ℕ) (a b : MeterTrip) → AreTripsAlike s t a b → AreTripsAlike s t (with_extra n a)
    (with_extra n b)
extra-alike s t n a b same = record {
  others = ap (with_extra n) same.others;
  pulses = same.pulses;
  ticks = same.ticks;
  cover = same.cover;
  above = same.above;
  charges = same.charges;
}

module _ {s t : Setting} where
  hiring-alike : (m : Meter) (trip : Option MeterTrip) (hold : Option Trip) → IsBeside s t last_tick m trip hold
      → ComeAlike s t last_tick (hiring s m) (hiring t (with_trips trip hold m))
  hiring-alike m trip hold x =
      let one = fees_in_force s.tariff (context_now s m) in
      let other = fees_in_force t.tariff (context_now t (with_trips trip hold m)) in
      let fees : one ≡ other =
      x.agree.hirings m x.placed
      ∙ ap (fees_in_force t.tariff) (context-same s t (local_at t m.clock) m trip hold x.trips) in
      either-alike (nat_le hirings_end m.durable.number) (λ is. refused-alike why.Ended m trip hold x)
      (λ is. quiet-alike (hired s m) (Some (begun t other m.clock (sum m.roaming))) hold
      (having x (begun-alike s t one other m.clock (sum m.roaming) fees) (omega arith)))

  -- a number that is set if it is among those that there are
  set-alike : (b c : Bool) → b ≡ c → (m k : Meter) (trip : Option MeterTrip) (hold : Option Trip)
      → IsBeside s t last_tick m trip hold → (b ≡ true → IsBeside s t last_tick k trip hold)
      → ComeAlike s t last_tick (if b then quiet k else refused why.NoSuch m)
      (if c then quiet (with_trips trip hold k) else refused why.NoSuch (with_trips trip hold m))
  set-alike b c is m k trip hold x y =
      subst (λ (c : Bool). ComeAlike s t last_tick (if b then quiet k else refused why.NoSuch m)
      (if c then quiet (with_trips trip hold k) else refused why.NoSuch (with_trips trip hold m))) is
      (either-alike b (λ there. quiet-alike k trip hold (y there)) (λ absent. refused-alike why.NoSuch m trip hold x))

  position-alike : (n : ℕ) (m : Meter) (trip : Option MeterTrip) (hold : Option Trip)
      → IsBeside s t last_tick m trip hold
      → ComeAlike s t last_tick (position_set s n m) (position_set t n (with_trips trip hold m))
  position-alike n m trip hold x =
      set-alike (is_among s.tariff.positions n) (is_among t.tariff.positions n)
      (ap (λ (most : ℕ). is_among most n) x.agree.positions) m (record m { position = n }) trip hold x
      (λ is. placed_at x (record {
        set = record { position_in = among s.tariff.positions n is; zone_in = x.placed.set.zone_in };
        clock_in = x.placed.clock_in;
        began_in = x.placed.began_in;
      }))

  zone-alike : (n : ℕ) (m : Meter) (trip : Option MeterTrip) (hold : Option Trip)
      → IsBeside s t last_tick m trip hold
      → ComeAlike s t last_tick (zone_set s n m) (zone_set t n (with_trips trip hold m))
  zone-alike n m trip hold x =
      set-alike (is_among s.tariff.zones n) (is_among t.tariff.zones n)
      (ap (λ (most : ℕ). is_among most n) x.agree.zones) m (record m { zone = n }) trip hold x
      (λ is. placed_at x (record {
        set = record { position_in = x.placed.set.position_in; zone_in = among s.tariff.zones n is };
        clock_in = x.placed.clock_in;
        began_in = x.placed.began_in;
      }))

  added-alike : (n : ℕ) (supplement : Supplement) (a b : Option MeterTrip) (m : Meter) (trip : Option MeterTrip)
      (hold : Option Trip) → AreTripsOfBothAlike s t a b → ticks_so_far a ≤ last_tick
      → IsBeside s t last_tick m trip hold → ComeAlike s t last_tick (extra_added_to n supplement a m)
      (extra_added_to n supplement b (with_trips trip hold m))
  added-alike n supplement None None m trip hold trips short x = quiet-alike m trip hold x
  added-alike n supplement None (Some b) m trip hold trips short x = absurd trips
  added-alike n supplement (Some a) None m trip hold trips short x = absurd trips
  added-alike n supplement (Some a) (Some b) m trip hold trips short x =
      let o = with_trips trip hold m in
      subst (λ (xs : List ℕ). ComeAlike s t last_tick (extra_added_to n supplement (Some a) m)
      (if nat_le supplement.max (times n xs) then refused why.AtMost o else quiet
      (record o { trip = Some (with_extra n b) })))
      (ap (λ (x : MeterTrip). x.extras) trips.others)
      (either-alike (nat_le supplement.max (times n a.extras)) (λ is. refused-alike why.AtMost m trip hold x)
      (λ is. quiet-alike (record m { trip = Some (with_extra n a) }) (Some (with_extra n b)) hold
      (having x (extra-alike s t n a b trips) short)))

  supplement-alike : (n : ℕ) (supplement : Option Supplement) (m : Meter) (trip : Option MeterTrip)
      (hold : Option Trip) → IsBeside s t last_tick m trip hold
      → ComeAlike s t last_tick (extra_added n supplement m) (extra_added n supplement (with_trips trip hold m))
  supplement-alike n None m trip hold x = refused-alike why.NoSuch m trip hold x
  supplement-alike n (Some supplement) m trip hold x =
      added-alike n supplement m.trip trip m trip hold x.trips x.ticks x

  extra-key : (n : ℕ) (m : Meter) (trip : Option MeterTrip) (hold : Option Trip)
      → IsBeside s t last_tick m trip hold
      → ComeAlike s t last_tick (extra_added n (supplement_numbered s.tariff.supplements n) m)
      (extra_added n (supplement_numbered t.tariff.supplements n) (with_trips trip hold m))
  extra-key n m trip hold x =
      let one = supplement_numbered s.tariff.supplements n in
      subst (λ (o : Option Supplement). ComeAlike s t last_tick (extra_added n one m)
      (extra_added n o (with_trips trip hold m))) (x.agree.supplements n)
      (supplement-alike n one m trip hold x)

  -- each act of a key
  act-alike : (act : KeyAct) (m : Meter) (trip : Option MeterTrip) (hold : Option Trip)
      → IsBeside s t last_tick m trip hold
      → ComeAlike s t last_tick (act_done s act m) (act_done t act (with_trips trip hold m))
  act-alike key_acts.Hire m trip hold x = hiring-alike m trip hold x
  act-alike (key_acts.Move to) m trip hold x = quiet-alike (record m { operating = to }) trip hold x
  act-alike key_acts.Clear m trip hold x = closed-alike kinds.Closed m.clock m trip hold x
  act-alike (key_acts.Position n) m trip hold x = position-alike n m trip hold x
  act-alike (key_acts.Zone n) m trip hold x = zone-alike n m trip hold x
  act-alike (key_acts.Extra n) m trip hold x = extra-key n m trip hold x
  act-alike key_acts.Refuse m trip hold x = refused-alike why.NotNow m trip hold x

  -- the key that waits, if one does
  pub press-alike : (latch : Option Key) (m : Meter) (trip : Option MeterTrip) (hold : Option Trip)
      → IsBeside s t last_tick m trip hold
      → ComeAlike s t last_tick (latch_pressed s latch m) (latch_pressed t latch (with_trips trip hold m))
  press-alike None m trip hold x = quiet-alike m trip hold x
  press-alike (Some key) m trip hold x =
      act-alike (act_of key m.operating) (record m { latch = None }) trip hold x
