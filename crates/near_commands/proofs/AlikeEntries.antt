-- What stays of an entry if the numbers of a rate are others.
use Rattle.std.specs.{Option.{is_some, option_map}, Prelude.{is_none, not}}
use Rattle.std.proofs.Common.{[], ℕ, ◌&&◌, ◌||◌, ◌∙◌, ◌∷◌, ◌≡◌, Bool, List, None, Option, Some, ap, refl}
use Rattle.tariff_tree.specs.Tree.{holiday, positions, step, supplement, zones}
use Rattle.tariff_check.specs.Lines.{atoms_if, excludes, is_alike, is_default_for, is_no_holiday, most_alike}
use Rattle.tariff_check.specs.Parts.{holiday_part, numbered_supplement, positions_part, step_part, zones_part}
use Rattle.near_commands.specs.Common.{Condition, Entry, Line, RateNumbers, atoms_in, initial, initial_part, minimum}
use Rattle.near_commands.{specs.Common.{rate, rate_part, when_part}, proofs.AlikeLines.{condition_part}}
use Rattle.near_commands.specs.NearTariff.{with_rate}

module _ (f : RateNumbers → RateNumbers) where
  pub when_same : (x : Entry) → when_part (with_rate f x) ≡ when_part x
  when_same (rate a b c e when) = refl
  when_same x = refl

  pub atoms_same : (x : Entry) → atoms_in (with_rate f x) ≡ atoms_in x
  atoms_same x = ap atoms_if (when_same x)

  pub step_same : (x : Entry) → step_part (with_rate f x) ≡ step_part x
  step_same (rate a b c e when) = refl
  step_same x = refl

  pub positions_same : (x : Entry) → positions_part (with_rate f x) ≡ positions_part x
  positions_same (rate a b c e when) = refl
  positions_same x = refl

  pub zones_same : (x : Entry) → zones_part (with_rate f x) ≡ zones_part x
  zones_same (rate a b c e when) = refl
  zones_same x = refl

  pub holiday_same : (x : Entry) → holiday_part (with_rate f x) ≡ holiday_part x
  holiday_same (rate a b c e when) = refl
  holiday_same x = refl

  pub rate_when_same : (x : Entry) → condition_part rate_part (with_rate f x) ≡ condition_part rate_part x
  rate_when_same (rate a b c e when) = refl
  rate_when_same x = refl

  pub initial_when_same : (x : Entry)
      → condition_part initial_part (with_rate f x) ≡ condition_part initial_part x
  initial_when_same (rate a b c e when) = refl
  initial_when_same x = refl

  pub no_holiday_same : (x : Entry) → is_no_holiday (with_rate f x) ≡ is_no_holiday x
  no_holiday_same (rate a b c e when) = refl
  no_holiday_same x = refl

  pub most_same : (x : Entry) → most_alike (with_rate f x) ≡ most_alike x
  most_same (rate a b c e when) = refl
  most_same x = refl

  pub excludes_same : (x y : Entry) → excludes (with_rate f x) (with_rate f y) ≡ excludes x y
  excludes_same (rate a b c e when) y = refl
  excludes_same x (rate a b c e when) = refl
  excludes_same x y = refl

  pub alike_same : (x y : Entry) → is_alike (with_rate f x) (with_rate f y) ≡ is_alike x y
  alike_same (rate a b c e when) (rate a₂ b₂ c₂ e₂ when₂) = refl
  alike_same (rate a b c e when) y = refl
  alike_same x (rate a b c e when) = refl
  alike_same x y = refl

  pub default_same : (x y : Entry) → is_default_for (with_rate f x) (with_rate f y) ≡ is_default_for x y
  default_same (rate a b c e when) (rate a₂ b₂ c₂ e₂ when₂) = refl
  default_same (rate a b c e when) y = refl
  default_same x (rate a b c e when) = refl
  default_same x y = refl
