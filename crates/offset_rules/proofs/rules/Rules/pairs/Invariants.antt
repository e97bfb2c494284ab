use Rattle.std.proofs.Common.{◌*◌, ◌+◌, ◌-◌, ◌≡◌, ◌≤◌}
use Rattle.{arrayvec.specs.ArrayVec.{array_vec_len}, offset_rules.proofs.Listed.{so_far}}
use Rattle.offset_rules.proofs.rules.Rules.pairs.Given as goal

abbrev pub invariant-loop-year : goal.invariant-loop-year
invariant-loop-year l = record {
  order : l.from ≤ l.year;
  items : l.pairs.items
      ≡ so_far (record { standard = l.self.standard; summer = l.self.summer; begin = l.self.begin; end = l.self.end })
      l.from (l.year - l.from);
  few : array_vec_len l.pairs ≤ 1 + 2 * (l.year - l.from);
}
