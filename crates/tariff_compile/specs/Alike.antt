-- For proofs: what contexts have in common, so that a condition is asked once for all of them.
use Rattle.std.specs.{List.{slice_get}, Prelude.{ℕ, ◌≡◌, Bool, List, Some, false, true}}
use Rattle.tariff_compile.specs.{Common.{Condition, Context}, declared.alike.Alike.{Alike}}
use Rattle.tariff_tree.specs.Condition as tree

-- two contexts agree if each part that is named alike is the same in both
pub record Agree (alike : Alike) (x y : Context) : Type 0 where
  pub position : alike.position ≡ true → x.position ≡ y.position
  pub zone : alike.zone ≡ true → x.zone ≡ y.zone
  pub weekday : alike.weekday ≡ true → x.weekday ≡ y.weekday
  pub month_day : alike.month_day ≡ true → x.month_day ≡ y.month_day
  pub holiday : alike.holiday ≡ true → x.holiday ≡ y.holiday
  pub minute : alike.minute ≡ true → x.minute ≡ y.minute
  pub distance : alike.distance ≡ true → (x.constant ≡ y.constant) × (x.pulses ≡ y.pulses)
  pub time : alike.time ≡ true → x.ticks ≡ y.ticks

-- contexts all agree if each agrees with the first of them
abbrev pub AllAgree : Alike → List Context → Type 0
AllAgree alike xs =
    (first : Context) → slice_get xs 0 ≡ Some first → (place : ℕ) (x : Context) → slice_get xs place ≡ Some x
    → Agree alike first x

-- the test `asks_alike` is true if a condition is an atom that asks for a part named alike
abbrev pub asks_alike : Alike → Condition → Bool
asks_alike alike (tree.and left right) = false
asks_alike alike (tree.or left right) = false
asks_alike alike (tree.not inner) = false
asks_alike alike (tree.position number) = alike.position
asks_alike alike (tree.zone number) = alike.zone
asks_alike alike (tree.time from to) = alike.minute
asks_alike alike (tree.day from to) = alike.weekday
asks_alike alike (tree.date from_month from_date to_month to_date) = alike.month_day
asks_alike alike tree.holiday = alike.holiday
asks_alike alike (tree.after_distance decimetres) = alike.distance
asks_alike alike (tree.after_time tenths) = alike.time
