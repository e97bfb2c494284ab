-- What two settings agree on, so that their meters do the same.
use Rattle.std.proofs.Common.{ℕ, ◌<◌, ◌≡◌, ◌≤◌}
use Rattle.same_tariffs.specs.Alike.{IsSameMoney}
use Rattle.same_tariffs.specs.Common.{Meter, Setting, charge_at, context_now, context_of, fees_in_force, last_tick}
use Rattle.same_tariffs.specs.{Common.{supplement_numbered, ticks_so_far, unit_of}, Reached.{AreSet, IsPlaced}}

pub record Agree (s t : Setting) : Type 0 where
  pub hold : s.hold_time ≡ t.hold_time
  pub constant : s.constant ≡ t.constant
  pub offsets : s.offsets ≡ t.offsets
  pub decimals : s.tariff.decimals ≡ t.tariff.decimals
  pub step : s.tariff.step ≡ t.tariff.step
  pub positions : s.tariff.positions ≡ t.tariff.positions
  pub zones : s.tariff.zones ≡ t.tariff.zones
  pub supplements : (n : ℕ) → supplement_numbered s.tariff.supplements n ≡ supplement_numbered t.tariff.supplements n
  pub first : AreSet s.tariff 1 1
  pub some_step : 0 < s.tariff.step.0
  pub some_unit : 0 < unit_of s
  pub also_unit : 0 < unit_of t
  pub rates : (m : Meter) → IsPlaced s m → ticks_so_far m.trip ≤ last_tick → (p : ℕ)
      → IsSameMoney (unit_of s) (unit_of t) (charge_at s (context_of s m) p) (charge_at t (context_of t m) p)
  pub hirings : (m : Meter) → IsPlaced s m
      → fees_in_force s.tariff (context_now s m) ≡ fees_in_force t.tariff (context_now t m)
