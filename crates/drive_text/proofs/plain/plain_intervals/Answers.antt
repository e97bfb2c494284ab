use Rattle.std.proofs.Common.{◌≡◌, get_or}
use Rattle.drive_text.proofs.PlainLines.{one_interval_line}
use Rattle.drive_text.proofs.plain.plain_intervals.Goals as goal

pub returns-in-32 : goal.returns-in-32
returns-in-32 c =
    let blank : get_or c.in_ok-pulses.rest.now 0 0 ≡ 32 = cc in
    let one : get_or c.in_ok-pulses.rest.now 1 0 ≡ 49 = cc in
    let lf : get_or c.in_ok-pulses.rest.now 2 0 ≡ 10 = cc in
    one_interval_line c.args.bytes.now c.in_ok-pulses.rest.now c.in_ok-pulses.pulses c.in_ok-pulses.ensures
    c.in-32.len_at_least blank one lf c.if-pulses-gt65535.false
