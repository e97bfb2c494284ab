use Rattle.std.specs.{BTreeSet.{insert_key}, Ordering.{nat_cmp}, Prelude.{Err, Ok, OnOk, Result}, Result.{is_err}}
use Rattle.std.proofs.Common.{ℕ, ◌∙◌, ◌≡◌, Bool, None, Option, Some, ap, false, if◌then◌else◌, rules, true}
use Rattle.{taxi_units.specs.Calendar.{is_date}, tariff_calendar.specs.Lists.{day_of}}
use Rattle.tariff_calendar.proofs.collecting.add.Goals as goal

-- what holds on success holds if there is no error
on_success : {T E P : Type 0} (r : Result T E) → is_err r ≡ false → OnOk r P → P
on_success (Ok x) none p = p
on_success (Err e) none p = absurd cc

-- the day that is found for a date is the date's
day_found : (is : Bool) (found : Option ℕ) (value day : ℕ) → is ≡ true → found ≡ (if is then Some value else None)
    → found ≡ Some day → day ≡ value
day_found true found value day there same is = cc
day_found false found value day there same is = absurd cc

pub returns : goal.returns
returns c =
    let d = c.args.holiday in
    let none : is_err c.insert.result ≡ false = search rules in
    on_success c.insert.result none c.insert.ensures.keys
    ∙ ap (insert_key nat_cmp c.args.days.now.keys) (day_found (is_date d.year d.month d.date) c.day_number.result
    (day_of d) c.unwrap-day.result c.requires.date c.day_number.ensures.value c.unwrap-day.ensures)
