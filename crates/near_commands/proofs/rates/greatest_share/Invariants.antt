use Rattle.std.{specs.Prelude.{max, true}, proofs.Common.{◌≡◌, drop}}
use Rattle.near_commands.specs.NearTariff.{fit, greatest_share, numbers_of}
use Rattle.near_commands.proofs.rates.greatest_share.Given as goal

-- the greatest so far, and of those that are left, which fit
abbrev pub invariant-loop-rate : goal.invariant-loop-rate
invariant-loop-rate l = record {
  share : max l.greatest (greatest_share l.measures (numbers_of (drop l.rate-index l.rates)))
      ≡ greatest_share l.measures (numbers_of l.rates);
  fits : fit l.measures (numbers_of (drop l.rate-index l.rates)) ≡ true;
}
