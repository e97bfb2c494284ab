use Rattle.verify_bench.proofs.Lines.{loud_events, quiet_events}
use Rattle.verify_bench.proofs.writing.events_of.Goals as goal

pub returns-then-pulses-eq0-clause-count : goal.returns-then-pulses-eq0-clause-count
returns-then-pulses-eq0-clause-count c = quiet_events c.args.pulses c.args.count c.if-pulses-eq0.true

pub returns-else-pulses-eq0-clause-count : goal.returns-else-pulses-eq0-clause-count
returns-else-pulses-eq0-clause-count c = loud_events c.args.pulses c.args.count c.if-pulses-eq0.false
