use Rattle.{std.proofs.Common.{refl}, offset_rules.proofs.ReadOn.{found_then, gives_none, none_in_range, not_found}}
use Rattle.offset_rules.specs.Reading.{change_at}
use Rattle.offset_rules.proofs.fields.change.Goals as goal

pub returns-in_err-number-clause-value : goal.returns-in_err-number-clause-value
unfolding change_at
returns-in_err-number-clause-value c =
    gives_none _ c.from_residual.result _ c.from_residual.ensures
    (not_found _ _ c.in_err-number.ensures.value)

pub returns-in_err-number-clause-ranges : goal.returns-in_err-number-clause-ranges
returns-in_err-number-clause-ranges c = none_in_range _ c.from_residual.result c.from_residual.ensures

pub returns-in_err-rest-clause-value : goal.returns-in_err-rest-clause-value
unfolding change_at
returns-in_err-rest-clause-value c =
    gives_none _ c.from_residual-in_err-rest.result _ c.from_residual-in_err-rest.ensures
    (found_then _ _ _ _ c.in_ok-number.ensures.value
    (not_found _ _ c.in_err-rest.ensures))

pub returns-in_err-rest-clause-ranges : goal.returns-in_err-rest-clause-ranges
returns-in_err-rest-clause-ranges c =
    none_in_range _ c.from_residual-in_err-rest.result c.from_residual-in_err-rest.ensures

pub returns-in_err-weekday-clause-value : goal.returns-in_err-weekday-clause-value
unfolding change_at
returns-in_err-weekday-clause-value c =
    gives_none _ c.from_residual-in_err-weekday.result _ c.from_residual-in_err-weekday.ensures
    (found_then _ _ _ _ c.in_ok-number.ensures.value
    (found_then _ _ _ _ c.in_ok-rest.ensures
    (not_found _ _ c.in_err-weekday.ensures.value)))

pub returns-in_err-weekday-clause-ranges : goal.returns-in_err-weekday-clause-ranges
returns-in_err-weekday-clause-ranges c =
    none_in_range _ c.from_residual-in_err-weekday.result c.from_residual-in_err-weekday.ensures

pub returns-in_err-rest-2-clause-value : goal.returns-in_err-rest-2-clause-value
unfolding change_at
returns-in_err-rest-2-clause-value c =
    gives_none _ c.from_residual-in_err-rest-2.result _ c.from_residual-in_err-rest-2.ensures
    (found_then _ _ _ _ c.in_ok-number.ensures.value
    (found_then _ _ _ _ c.in_ok-rest.ensures
    (found_then _ _ _ _ c.in_ok-weekday.ensures.value
    (not_found _ _ c.in_err-rest-2.ensures))))

pub returns-in_err-rest-2-clause-ranges : goal.returns-in_err-rest-2-clause-ranges
returns-in_err-rest-2-clause-ranges c =
    none_in_range _ c.from_residual-in_err-rest-2.result c.from_residual-in_err-rest-2.ensures

pub returns-in_err-month-clause-value : goal.returns-in_err-month-clause-value
unfolding change_at
returns-in_err-month-clause-value c =
    gives_none _ c.from_residual-in_err-month.result _ c.from_residual-in_err-month.ensures
    (found_then _ _ _ _ c.in_ok-number.ensures.value
    (found_then _ _ _ _ c.in_ok-rest.ensures
    (found_then _ _ _ _ c.in_ok-weekday.ensures.value
    (found_then _ _ _ _ c.in_ok-rest-2.ensures
    (not_found _ _ c.in_err-month.ensures.value)))))

pub returns-in_err-month-clause-ranges : goal.returns-in_err-month-clause-ranges
returns-in_err-month-clause-ranges c =
    none_in_range _ c.from_residual-in_err-month.result c.from_residual-in_err-month.ensures

pub returns-in_err-rest-3-clause-value : goal.returns-in_err-rest-3-clause-value
unfolding change_at
returns-in_err-rest-3-clause-value c =
    gives_none _ c.from_residual-in_err-rest-3.result _ c.from_residual-in_err-rest-3.ensures
    (found_then _ _ _ _ c.in_ok-number.ensures.value
    (found_then _ _ _ _ c.in_ok-rest.ensures
    (found_then _ _ _ _ c.in_ok-weekday.ensures.value
    (found_then _ _ _ _ c.in_ok-rest-2.ensures
    (found_then _ _ _ _ c.in_ok-month.ensures.value
    (not_found _ _ c.in_err-rest-3.ensures))))))

pub returns-in_err-rest-3-clause-ranges : goal.returns-in_err-rest-3-clause-ranges
returns-in_err-rest-3-clause-ranges c =
    none_in_range _ c.from_residual-in_err-rest-3.result c.from_residual-in_err-rest-3.ensures

pub returns-in_err-minute-clause-value : goal.returns-in_err-minute-clause-value
unfolding change_at
returns-in_err-minute-clause-value c =
    gives_none _ c.from_residual-in_err-minute.result _ c.from_residual-in_err-minute.ensures
    (found_then _ _ _ _ c.in_ok-number.ensures.value
    (found_then _ _ _ _ c.in_ok-rest.ensures
    (found_then _ _ _ _ c.in_ok-weekday.ensures.value
    (found_then _ _ _ _ c.in_ok-rest-2.ensures
    (found_then _ _ _ _ c.in_ok-month.ensures.value
    (found_then _ _ _ _ c.in_ok-rest-3.ensures
    (not_found _ _ c.in_err-minute.ensures.value)))))))

pub returns-in_err-minute-clause-ranges : goal.returns-in_err-minute-clause-ranges
returns-in_err-minute-clause-ranges c =
    none_in_range _ c.from_residual-in_err-minute.result c.from_residual-in_err-minute.ensures

pub returns-clause-value : goal.returns-clause-value
unfolding change_at
returns-clause-value c =
    found_then _ _ _ _ c.in_ok-number.ensures.value
    (found_then _ _ _ _ c.in_ok-rest.ensures
    (found_then _ _ _ _ c.in_ok-weekday.ensures.value
    (found_then _ _ _ _ c.in_ok-rest-2.ensures
    (found_then _ _ _ _ c.in_ok-month.ensures.value
    (found_then _ _ _ _ c.in_ok-rest-3.ensures
    (found_then _ _ _ _ c.in_ok-minute.ensures.value refl))))))
