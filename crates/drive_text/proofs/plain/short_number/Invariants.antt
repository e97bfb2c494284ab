use Rattle.std.{specs.Str.Parse.{AllDigits, digits_value}, proofs.Common.{◌-◌, ◌≡◌, ◌≤◌, length, take}}
use Rattle.drive_text.proofs.plain.short_number.Given as goal

abbrev pub invariant-loop-count : goal.invariant-loop-count
invariant-loop-count l = record {
  within : l.count ≤ length l.bytes;
  few : l.count ≤ 5;
  digits : AllDigits 10 (take l.count l.bytes);
  value : digits_value 10 (take l.count l.bytes) ≡ l.number;
}

abbrev pub decreases-loop-count : goal.decreases-loop-count
decreases-loop-count l = 5 - l.count
