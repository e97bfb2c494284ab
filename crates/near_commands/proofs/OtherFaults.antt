-- The faults of lines that are alike but for the numbers of their rates, one by one.
use Rattle.std.specs.{List.{flat_map, list_any, slice_get}, Option.{unwrap_or}}
use Rattle.std.{specs.Prelude.{count_by, is_none, nat_le, nat_lt, not}, proofs.Common.{length, refl, sym, true}}
use Rattle.std.proofs.Common.{[], ℕ, ◌&&◌, ◌*◌, ◌+◌, ◌||◌, ◌∙◌, ◌∷◌, ◌≡◌, Bool, List, None, Option, Some, ap, cond}
use Rattle.tariff_check.specs.{Cells.{bands_between, cells_of, day_kinds}, declared.fault.Dimension.{Dimension}}
use Rattle.tariff_check.specs.{Cuts.{all_cuts, atom_cuts, count_of, with_each}, Parts.{step_part, zones_of, zones_part}}
use Rattle.tariff_check.specs.Faults.{has_default}
use Rattle.tariff_check.specs.Lines.{excludes, has_bad_date, is_after_default, is_alike, is_default_for, is_duplicate}
use Rattle.tariff_check.specs.Lines.{is_no_holiday, is_one_too_many, is_undated, is_unknown, most_alike, names_unknown}
use Rattle.tariff_check.specs.Parts.{first_part, has_holidays, holiday_part, parts, positions_of, positions_part}
use Rattle.near_commands.specs.Common.{Condition, Distance, Entry, Line, Minute, MonthDay, RateNumbers, Time, atoms_in}
use Rattle.near_commands.specs.Common.{choices, conditions_of, first_line, initial_part, rate_part, step_of}
use Rattle.near_commands.{specs.NearTariff.{with_rate}, proofs.AlikeEntries.{rate_when_same, step_same, zones_same}}
use Rattle.near_commands.proofs.AlikeEntries.{alike_same, atoms_same, default_same, excludes_same, holiday_same}
use Rattle.near_commands.proofs.AlikeEntries.{initial_when_same, most_same, no_holiday_same, positions_same}
use Rattle.near_commands.proofs.AlikeLines.{AreAlike, AreTold, any_alike, condition_part, conditions_are_parts}
use Rattle.near_commands.proofs.AlikeLines.{count_alike, first_alike, flat_alike, parts_alike}

module _ (f : RateNumbers → RateNumbers) (N : ℕ → ℕ → Type 0) (ls ms : List Line) (alike : AreAlike f N ls ms) where
  pub alike_step : step_of ms ≡ step_of ls
  alike_step = ap (λ xs. slice_get xs 0) (parts_alike f N step_part (step_same f) ls ms alike)

  pub alike_positions : positions_of ms ≡ positions_of ls
  alike_positions =
      ap (λ xs. unwrap_or (slice_get xs 0) 1) (parts_alike f N positions_part (positions_same f) ls ms alike)

  pub alike_zones : zones_of ms ≡ zones_of ls
  alike_zones = ap (λ xs. unwrap_or (slice_get xs 0) 1) (parts_alike f N zones_part (zones_same f) ls ms alike)

  pub alike_holidays : has_holidays ms ≡ has_holidays ls
  alike_holidays = ap (list_any (λ d. true)) (parts_alike f N holiday_part (holiday_same f) ls ms alike)

  pub alike_duplicate : AreTold f N (first_line is_duplicate ls) (first_line is_duplicate ms)
  alike_duplicate =
      first_alike f N is_duplicate is_duplicate (λ before before' sofar x. any_alike f N (λ y. excludes x y)
      (λ y. excludes (with_rate f x) y) (λ y. excludes_same f x y) before before' sofar) [] [] ls ms tt alike

  pub alike_too_many : AreTold f N (first_line is_one_too_many ls) (first_line is_one_too_many ms)
  alike_too_many =
      first_alike f N is_one_too_many is_one_too_many (λ before before' sofar x.
      let most = most_same f x in
      let count = count_alike f N (λ y. is_alike x y) (λ y. is_alike (with_rate f x) y) (λ y. alike_same f x y)
      before before' sofar in
      rw (most, count) refl) [] [] ls ms tt alike

  pub alike_unknown : AreTold f N (first_line (names_unknown (positions_of ls) (zones_of ls)) ls)
      (first_line (names_unknown (positions_of ms) (zones_of ms)) ms)
  alike_unknown =
      first_alike f N (names_unknown (positions_of ls) (zones_of ls)) (names_unknown (positions_of ms) (zones_of ms))
      (λ before before' sofar x. rw (alike_positions, alike_zones, atoms_same f x) refl) [] [] ls ms tt alike

  pub alike_rate : has_default rate_part ms ≡ has_default rate_part ls
  alike_rate =
      ap (list_any is_none) (conditions_are_parts rate_part ms
      ∙ parts_alike f N (condition_part rate_part) (rate_when_same f) ls ms alike
      ∙ sym (conditions_are_parts rate_part ls))

  pub alike_initial : has_default initial_part ms ≡ has_default initial_part ls
  alike_initial =
      ap (list_any is_none) (conditions_are_parts initial_part ms
      ∙ parts_alike f N (condition_part initial_part) (initial_when_same f) ls ms alike
      ∙ sym (conditions_are_parts initial_part ls))

  pub alike_after : AreTold f N (first_line is_after_default ls) (first_line is_after_default ms)
  alike_after =
      first_alike f N is_after_default is_after_default (λ before before' sofar x.
      any_alike f N (λ y. is_default_for x y) (λ y. is_default_for (with_rate f x) y) (λ y. default_same f x y)
      before before' sofar) [] [] ls ms tt alike

  pub alike_date : AreTold f N (first_line has_bad_date ls) (first_line has_bad_date ms)
  alike_date =
      first_alike f N has_bad_date has_bad_date
      (λ before before' sofar x. rw (no_holiday_same f x, atoms_same f x) refl) [] [] ls ms tt alike

  pub alike_count : (d : Dimension) → count_of d ms ≡ count_of d ls
  alike_count d =
      ap (λ cuts. length (with_each [] cuts)) (flat_alike f N (λ x. flat_map (atom_cuts d) (atoms_in x))
      (λ x. ap (flat_map (atom_cuts d)) (atoms_same f x)) ls ms alike)

  pub alike_cells : cells_of ms ≡ cells_of ls
  alike_cells =
      rw (
        alike_positions,
        alike_zones,
        alike_holidays,
        alike_count MonthDay,
        alike_count Minute,
        alike_count Distance,
        alike_count Time,
      ) refl
