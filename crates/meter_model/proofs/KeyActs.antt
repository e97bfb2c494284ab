-- What accepted keys do, key by key.
use Rattle.std.proofs.Common.{[], ℕ, ◌<◌, ◌≡◌, ◌≤◌, ◌⊎◌, None, Some, arith, inl, inr, refl, sum}
use Rattle.{std.proofs.lemmas.Grind.{common_steps}, meter_model.specs.Trip.{MeterTrip, begun, with_extra}}
use Rattle.meter_model.specs.{ClosedTrip.{closed}, Interval.{context_now}, Keys.{act_of, latch_pressed}}
use Rattle.meter_model.specs.Common.{Closed, ForHire, Hired, Key, NotNow, Off, Operating, Stopped, Supplement}
use Rattle.meter_model.specs.{Common.{fees_in_force, hirings_end, supplement_numbered}, Meter.{Meter, quiet, refused}}
use Rattle.meter_model.specs.{KeyTable.{MayAct}, Setting.{Setting}, Supplements.{times}}
use Rattle.taxi_units.specs.declared.event.Key.TheVariants as keys
use Rattle.meter_model.specs.declared.key_act.KeyAct.TheVariants as key_acts

pub hires : (s : Setting) (m : Meter) → m.operating ≡ ForHire → m.durable.number < hirings_end
    → latch_pressed s (Some keys.Hire) m ≡ quiet (record m {
      operating = Hired;
      trip = Some (begun s (fees_in_force s.tariff (context_now s m)) m.clock (sum m.roaming));
      roaming = [];
      latch = None;
    })
hires s m is room = grind (arith, common_steps)

pub stops : (s : Setting) (m : Meter) → m.operating ≡ Hired
    → latch_pressed s (Some keys.Stop) m ≡ quiet (record m { operating = Stopped; latch = None })
stops s m is = rw is refl

pub goes_on : (s : Setting) (m : Meter) → m.operating ≡ Stopped
    → latch_pressed s (Some keys.Hire) m ≡ quiet (record m { operating = Hired; latch = None })
goes_on s m is = rw is refl

pub clears : (s : Setting) (m : Meter) → m.operating ≡ Stopped
    → latch_pressed s (Some keys.Clear) m ≡ closed s Closed m.clock (record m { latch = None })
clears s m is = rw is refl

pub sets_position : (s : Setting) (m : Meter) (n : ℕ) → (m.operating ≡ ForHire) ⊎ (m.operating ≡ Hired) → 1 ≤ n
    → n ≤ s.tariff.positions
    → latch_pressed s (Some (keys.Position n)) m ≡ quiet (record m { position = n; latch = None })
sets_position s m n is least most = grind (arith, common_steps)

pub sets_zone : (s : Setting) (m : Meter) (n : ℕ) → (m.operating ≡ ForHire) ⊎ (m.operating ≡ Hired) → 1 ≤ n
    → n ≤ s.tariff.zones
    → latch_pressed s (Some (keys.Zone n)) m ≡ quiet (record m { zone = n; latch = None })
sets_zone s m n is least most = grind (arith, common_steps)

pub adds : (s : Setting) (m : Meter) (n : ℕ) (t : MeterTrip) (supplement : Supplement)
    → (m.operating ≡ Hired) ⊎ (m.operating ≡ Stopped) → m.trip ≡ Some t
    → supplement_numbered s.tariff.supplements n ≡ Some supplement → times n t.extras < supplement.max
    → latch_pressed s (Some (keys.Extra n)) m ≡ quiet (record m { trip = Some (with_extra n t); latch = None })
adds s m n t supplement is has there fewer = grind (arith, common_steps)

-- a key that may not act does nothing
idle : (key : Key) (operating : Operating) → (MayAct key operating → ⊥) → act_of key operating ≡ key_acts.Refuse
idle keys.Hire Off not = refl
idle keys.Hire ForHire not = absurd (not (inl refl))
idle keys.Hire Hired not = refl
idle keys.Hire Stopped not = absurd (not (inr refl))
idle keys.Stop Off not = refl
idle keys.Stop ForHire not = refl
idle keys.Stop Hired not = absurd (not refl)
idle keys.Stop Stopped not = refl
idle keys.Clear Off not = refl
idle keys.Clear ForHire not = refl
idle keys.Clear Hired not = refl
idle keys.Clear Stopped not = absurd (not refl)
idle (keys.Position n) Off not = refl
idle (keys.Position n) ForHire not = absurd (not (inl refl))
idle (keys.Position n) Hired not = absurd (not (inr refl))
idle (keys.Position n) Stopped not = refl
idle (keys.Zone n) Off not = refl
idle (keys.Zone n) ForHire not = absurd (not (inl refl))
idle (keys.Zone n) Hired not = absurd (not (inr refl))
idle (keys.Zone n) Stopped not = refl
idle (keys.Extra n) Off not = refl
idle (keys.Extra n) ForHire not = refl
idle (keys.Extra n) Hired not = absurd (not (inl refl))
idle (keys.Extra n) Stopped not = absurd (not (inr refl))

pub refuses : (s : Setting) (m : Meter) (key : Key) → (MayAct key m.operating → ⊥)
    → latch_pressed s (Some key) m ≡ refused NotNow (record m { latch = None })
refuses s m key not = rw (idle key m.operating not) refl
