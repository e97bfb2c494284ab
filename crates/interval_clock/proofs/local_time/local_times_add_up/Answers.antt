use Rattle.interval_clock.proofs.LocalTimes.{local_time_sum, minute_sum, second_within}
use Rattle.interval_clock.proofs.local_time.local_times_add_up.Goals as goal

pub returns : goal.returns
returns c = record { sum = local_time_sum; within = second_within; minute = minute_sum }
