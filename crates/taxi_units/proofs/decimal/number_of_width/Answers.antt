use Rattle.taxi_units.proofs.Numbers.{wide_is_small}
use Rattle.taxi_units.proofs.decimal.number_of_width.Goals as goal

pub returns-then-bytes-width-clause-small : goal.returns-then-bytes-width-clause-small
returns-then-bytes-width-clause-small c =
    wide_is_small c.args.bytes.now c.in_ok-number.rest.now c.in_ok-number.number c.args.width c.in_ok-number.ensures
    c.if-bytes-width.true
