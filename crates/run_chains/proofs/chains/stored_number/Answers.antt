use Rattle.std.proofs.Common.{◌∙◌, Ok, ap, arith}
use Rattle.{totals_record.specs.Reading.{reads}, meter_store.specs.Stored.{state_number_of}}
use Rattle.run_chains.{specs.Common.{found_at}, proofs.ChainScan.{number_at, number_fails, number_not}}
use Rattle.run_chains.proofs.chains.stored_number.Goals as goal

pub returns-in-Latest : goal.returns-in-Latest
returns-in-Latest g c = λ d has.
    number_at c.args.image.now d c.scan.result has (λ e. omega (arith, c.scan.ensures.cause.rose e))
    (λ good. c.scan.ensures.exact tt good ∙ ap (found_at reads state_number_of 0) c.new-board.ensures) _ _
    (c.in-Ok.is ∙ ap Ok c.in-Latest.is)

pub returns-in-Blank : goal.returns-in-Blank
returns-in-Blank g c = λ d has.
    absurd (number_not c.args.image.now d c.scan.result has (λ e. omega (arith, c.scan.ensures.cause.rose e))
    (λ good. c.scan.ensures.exact tt good ∙ ap (found_at reads state_number_of 0) c.new-board.ensures)
    (c.in-Ok.is ∙ ap Ok c.in-Blank.is))

pub returns-in-Err : goal.returns-in-Err
returns-in-Err g c = λ d has.
    absurd (number_fails c.args.image.now d c.scan.result has (λ e. omega (arith, c.scan.ensures.cause.rose e))
    (λ good. c.scan.ensures.exact tt good ∙ ap (found_at reads state_number_of 0) c.new-board.ensures) _ c.in-Err.is)
