-- The days and minutes that a meter has.
use Rattle.std.proofs.Common.{ℕ, ℤ, ◌%◌, ◌*◌, ◌+ℤ◌, ◌+◌, ◌-◌, ◌/◌, ◌<◌, ◌∙◌, ◌≡◌, ◌≢◌, ◌≤◌, ap, arith, inl, inr, neg_ℤ}
use Rattle.{std.proofs.Common.{negsuc, pos, refl, suc, sym, true}, taxi_units.specs.Time.{IsSecond}}
use Rattle.std.proofs.lemmas.{Bool.{cases_eq, eq-eqb, le-leb, leb-true, lt-ltb, ltb-true, ne_eqb}, Int.{ints}}
use Rattle.interval_clock.specs.{LocalTime.{day_of, minute_of_day}, Offsets.{IsOffset}}
use Rattle.tariff_compare.specs.{Common.{IsFromTo}, Contexts.{IsMeterTime}, Grids.{is_meter_time}}

-- the local second of a second under an offset
local_of : (second : ℕ) (offset : ℤ) → IsSecond second → IsOffset offset
    → (local : ℕ) × (pos second +ℤ offset ≡ pos local) × (second ≤ local + 50400) × (local ≤ second + 50400)
local_of second (pos a) s o = (second + a, omega (arith, ints), omega arith, omega (arith, ints, o.1))
local_of second (negsuc a) s o =
    let small : suc a ≤ 50400 = omega (arith, ints, o.0) in
    (second - suc a, omega (arith, ints, small, s.0), omega (arith, small, s.0), omega arith)

-- the day and the minute of a local second
day_is : (local : ℕ) → day_of (pos local) ≡ pos (local / 86400)
day_is local = omega (arith, ints)

minute_is : (local : ℕ) → minute_of_day (pos local) ≡ local % 86400 / 60
minute_is local = omega (arith, ints)

-- a day and a minute that a meter has
pub record IsLocalTime (local day minute : ℕ) : Type 0 where
  pub from : 946634400 ≤ local
  pub to : local ≤ 7258168799
  pub whole : local / 86400 ≡ day
  pub part : local % 86400 / 60 ≡ minute

local_time : (day minute : ℕ) → IsMeterTime day minute → (local : ℕ) × IsLocalTime local day minute
local_time day minute time =
    let at = local_of time.second time.offset time.second_in time.offset_in in
    let day_there : pos (at.0 / 86400) ≡ pos day = sym (ap day_of at.1 ∙ day_is at.0) ∙ time.day_is in (
      at.0,
      record {
        from = omega (arith, at.2, time.second_in.0);
        to = omega (arith, at.3, time.second_in.1);
        whole = omega (arith, ints, day_there);
        part = sym (ap minute_of_day at.1 ∙ minute_is at.0) ∙ time.minute_is;
      },
    )

-- the test of a day and a minute
pub time_test : (day minute : ℕ) → (day ≡ 10956 → 600 ≤ minute) → (day ≡ 84006 → minute < 840)
    → is_meter_time day minute ≡ true
time_test day minute first last =
    elim (cases_eq day 10956) [
      | inl e ↦ rw (eq-eqb day 10956 e) (le-leb 600 minute (first e))
      | inr n ↦ elim (cases_eq day 84006) [
        | inl e ↦ rw (ne_eqb day 10956 n, eq-eqb day 84006 e) (lt-ltb minute 840 (last e))
        | inr o ↦ rw (ne_eqb day 10956 n, ne_eqb day 84006 o) refl
      ]
    ]

pub tested_first : (day minute : ℕ) → is_meter_time day minute ≡ true → day ≡ 10956 → 600 ≤ minute
tested_first day minute is e = leb-true 600 minute (rw (eq-eqb day 10956 e) at is)

pub tested_last : (day minute : ℕ) → is_meter_time day minute ≡ true → day ≡ 84006 → minute < 840
tested_last day minute is e =
    let other : day ≢ 10956 = λ f. omega (arith, e, f) in
    ltb-true minute 840 (rw (ne_eqb day 10956 other, eq-eqb day 84006 e) at is)

-- a meter has the days from 1999-12-31 to 2200-01-01
pub days_within : (day minute : ℕ) → IsMeterTime day minute → IsFromTo 10956 84006 day
days_within day minute time =
    let at = local_time day minute time in
    (omega (arith, at.1.from, at.1.whole), omega (arith, at.1.to, at.1.whole))

pub minutes_within : (day minute : ℕ) → IsMeterTime day minute → minute ≤ 1439
minutes_within day minute time =
    let at = local_time day minute time in
    omega (arith, at.1.part)

-- and meets the test
pub time_tested : (day minute : ℕ) → IsMeterTime day minute → is_meter_time day minute ≡ true
time_tested day minute time =
    let at = local_time day minute time in
    let from = at.1.from in
    let to = at.1.to in
    let day_there = at.1.whole in
    let minute_there = at.1.part in
    time_test day minute (λ e. omega (arith, from, day_there, minute_there, e))
    (λ e. omega (arith, to, day_there, minute_there, e))

-- what meets it is a time of a meter
time_from : (day minute second : ℕ) (offset : ℤ) → IsSecond second → IsOffset offset → minute ≤ 1439
    → pos second +ℤ offset ≡ pos (day * 86400 + minute * 60) → IsMeterTime day minute
time_from day minute second offset s o le is = record {
  second = second;
  offset = offset;
  second_in = s;
  offset_in = o;
  day_is = ap day_of is ∙ (day_is (day * 86400 + minute * 60) ∙ ap pos (whole day minute le));
  minute_is = ap minute_of_day is ∙ (minute_is (day * 86400 + minute * 60) ∙ part day minute le);
}
  where
    whole : (day minute : ℕ) → minute ≤ 1439 → (day * 86400 + minute * 60) / 86400 ≡ day
    whole day minute le = omega arith

    part : (day minute : ℕ) → minute ≤ 1439 → (day * 86400 + minute * 60) % 86400 / 60 ≡ minute
    part day minute le = omega arith

pub time_there : (day minute : ℕ) → IsFromTo 10956 84006 day → minute ≤ 1439 → is_meter_time day minute ≡ true
    → IsMeterTime day minute
time_there day minute days le is =
    elim (cases_eq day 10956) [
      | inl e ↦
          let late = tested_first day minute is e in
          time_from day minute 946684800 (neg_ℤ (pos (86400 - minute * 60))) (omega arith, omega arith)
          (omega (arith, ints, late), omega (arith, ints)) le (omega (arith, ints, e, le))
      | inr n ↦ elim (cases_eq day 84006) [
        | inl e ↦
            let early = tested_last day minute is e in
            time_from day minute 7258118399 (pos (1 + minute * 60)) (omega arith, omega arith)
            (omega (arith, ints), omega (arith, ints, early)) le (omega (arith, ints, e))
        | inr o ↦ time_from day minute (day * 86400 + minute * 60) (pos 0)
            (omega (arith, days.0, n), omega (arith, days.1, o, le)) (omega (arith, ints), omega (arith, ints)) le
            (omega (arith, ints))
      ]
    ]
