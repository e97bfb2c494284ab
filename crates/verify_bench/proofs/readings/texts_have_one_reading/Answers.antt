use Rattle.verify_bench.proofs.OneReading.{one_reading}
use Rattle.verify_bench.proofs.readings.texts_have_one_reading.Goals as goal

pub returns : goal.returns
returns c = one_reading
