use Rattle.{std.proofs.Common.{arith}, rate_commands.proofs.RateLines.{sound_at}}
use Rattle.rate_commands.proofs.constants.is_fine.Goals as goal

pub weights_under-requires-clause-sound : goal.weights_under-requires-clause-sound
weights_under-requires-clause-sound c =
    sound_at c.args.rates.now c.loop-rate.rate-index _ c.loop-rate-test.true c.requires.sound
