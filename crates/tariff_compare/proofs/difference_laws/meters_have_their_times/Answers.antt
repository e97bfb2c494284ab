use Rattle.tariff_compare.{specs.Contexts.{IsMeterTime, IsTimeOf}, proofs.MeterTimes.{time_tested, time_there}}
use Rattle.tariff_compare.proofs.MeterTimes.{days_within, minutes_within, tested_first, tested_last, time_test}
use Rattle.tariff_compare.proofs.difference_laws.meters_have_their_times.Goals as goal

pub returns : goal.returns
returns c = λ day minute. (
  (λ (time : IsMeterTime day minute). record {
    days = days_within day minute time;
    minutes = minutes_within day minute time;
    first = tested_first day minute (time_tested day minute time);
    last = tested_last day minute (time_tested day minute time);
  }),
  (λ (is : IsTimeOf day minute). time_there day minute is.days is.minutes (time_test day minute is.first is.last)),
)
