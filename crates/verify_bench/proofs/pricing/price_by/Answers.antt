use Rattle.std.proofs.Common.{◌∙◌, sym}
use Rattle.verify_bench.proofs.ChargeRange.{both_bound, both_few, both_fits, distance_bound, distance_few}
use Rattle.verify_bench.proofs.ChargeRange.{distance_fits, double_charge, double_way, fast_charge, fast_way, pulse_fits}
use Rattle.verify_bench.proofs.ChargeRange.{rise_fits, share_fits, slow_charge, slow_way, time_bound, time_few}
use Rattle.verify_bench.proofs.ChargeRange.{time_fits}
use Rattle.verify_bench.proofs.pricing.price_by.Goals as goal

pub nonzero_div-pulse : goal.nonzero_div-pulse
nonzero_div-pulse c = c.requires.rate.distance.0

pub overflow_cast-pulse-2 : goal.overflow_cast-pulse-2
overflow_cast-pulse-2 c = share_fits c.args.common c.args.rate.b c.requires.common

pub overflow_mul-pulse-2 : goal.overflow_mul-pulse-2
overflow_mul-pulse-2 c =
    pulse_fits c.args.rate.a c.args.common c.args.rate.b c.requires.rate.distance_amount c.requires.common

pub overflow_mul-distance : goal.overflow_mul-distance
overflow_mul-distance c = distance_fits c.args.rate.a c.args.common c.args.rate.b c.requires.rate.distance_amount
    c.requires.common c.args.pulses c.requires.pulses

pub overflow_mul-time : goal.overflow_mul-time
overflow_mul-time c =
    rise_fits c.args.rate.c c.get.result c.args.common c.args.rate.e c.requires.rate.time_amount c.get.ensures.most

pub nonzero_div-time : goal.nonzero_div-time
nonzero_div-time c = c.requires.rate.time.0

pub overflow_cast-time-3 : goal.overflow_cast-time-3
overflow_cast-time-3 c = share_fits c.args.common c.args.rate.e c.requires.common

pub overflow_mul-time-2 : goal.overflow_mul-time-2
overflow_mul-time-2 c = time_fits c.args.rate.c c.get.result c.args.common c.args.rate.e c.requires.rate.time_amount
    c.get.ensures.most c.requires.common

pub is_slow-requires-clause-rate : goal.is_slow-requires-clause-rate
is_slow-requires-clause-rate c = c.requires.rate

pub is_slow-requires-clause-pulses : goal.is_slow-requires-clause-pulses
is_slow-requires-clause-pulses c = c.requires.pulses

pub overflow_add-distance : goal.overflow_add-distance
overflow_add-distance c =
    both_fits c.args.rate.a c.args.rate.c c.get.result c.args.common c.args.rate.b c.args.rate.e c.args.pulses
    c.requires.rate.distance_amount c.requires.rate.time_amount c.get.ensures.most c.requires.common c.requires.pulses

pub returns-then-is_slow-clause-price : goal.returns-then-is_slow-clause-price
returns-then-is_slow-clause-price c = record {
  way = c.charged.ensures.way ∙ slow_way c.args.mode c.args.k c.get.result c.args.common c.args.rate c.args.pulses
      c.get.ensures.value c.is_slow.result c.in-Single.is c.is_slow.ensures c.if-is_slow.true;
  charge = c.charged.ensures.charge ∙ slow_charge c.args.mode c.args.k c.get.result c.args.common c.args.rate
      c.args.pulses c.get.ensures.value c.is_slow.result c.in-Single.is c.is_slow.ensures c.if-is_slow.true;
  few = rw (c.charged.ensures.charge, sym c.get.ensures.value)
      (time_few c.get.result c.args.common c.get.ensures.least c.args.rate.c c.args.rate.e c.requires.rate.time_amount);
}

pub returns-then-is_slow-clause-bound : goal.returns-then-is_slow-clause-bound
returns-then-is_slow-clause-bound c = rw c.charged.ensures.charge (time_bound c.args.rate.c c.get.result c.args.common
    c.args.rate.e c.requires.rate.time_amount c.get.ensures.most c.requires.common)

pub returns-else-is_slow-clause-price : goal.returns-else-is_slow-clause-price
returns-else-is_slow-clause-price c = record {
  way = c.charged-else-is_slow.ensures.way ∙ fast_way c.args.mode c.args.k c.get.result c.args.common c.args.rate
      c.args.pulses c.get.ensures.value c.is_slow.result c.in-Single.is c.is_slow.ensures c.if-is_slow.false;
  charge =
      c.charged-else-is_slow.ensures.charge ∙ fast_charge c.args.mode c.args.k c.get.result c.args.common c.args.rate
      c.args.pulses c.get.ensures.value c.is_slow.result c.in-Single.is c.is_slow.ensures c.if-is_slow.false;
  few = rw (c.charged-else-is_slow.ensures.charge, sym c.get.ensures.value) (distance_few c.get.result c.args.common
      c.get.ensures.least c.args.rate.a c.args.rate.b c.args.pulses c.requires.rate.distance_amount c.requires.pulses);
}

pub returns-else-is_slow-clause-bound : goal.returns-else-is_slow-clause-bound
returns-else-is_slow-clause-bound c = rw c.charged-else-is_slow.ensures.charge (distance_bound c.args.rate.a
    c.args.common c.args.rate.b c.requires.rate.distance_amount c.requires.common c.args.pulses c.requires.pulses)

pub returns-in-Double-clause-price : goal.returns-in-Double-clause-price
returns-in-Double-clause-price c = record {
  way = c.charged-in-Double.ensures.way ∙ double_way c.args.mode c.args.k c.get.result c.args.common c.args.rate
      c.args.pulses c.get.ensures.value c.in-Double.is;
  charge = c.charged-in-Double.ensures.charge ∙ double_charge c.args.mode c.args.k c.get.result c.args.common
      c.args.rate c.args.pulses c.get.ensures.value c.in-Double.is;
  few = rw (c.charged-in-Double.ensures.charge, sym c.get.ensures.value)
      (both_few c.get.result c.args.common c.get.ensures.least c.args.rate.a c.args.rate.c c.args.rate.b c.args.rate.e
      c.args.pulses c.requires.rate.distance_amount c.requires.rate.time_amount c.requires.pulses);
}

pub returns-in-Double-clause-bound : goal.returns-in-Double-clause-bound
returns-in-Double-clause-bound c = rw c.charged-in-Double.ensures.charge
    (both_bound c.args.rate.a c.args.rate.c c.get.result c.args.common c.args.rate.b c.args.rate.e c.args.pulses
    c.requires.rate.distance_amount c.requires.rate.time_amount c.get.ensures.most c.requires.common c.requires.pulses)
