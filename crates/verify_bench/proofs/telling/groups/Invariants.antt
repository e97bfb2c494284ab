use Rattle.std.proofs.Common.{◌++◌, ◌≡◌, List, drop}
use Rattle.verify_bench.specs.{Common.{Part, Setting, own_lines}, Gathered.{IsTableOf}, Groups.{groups_from}}
use Rattle.verify_bench.proofs.telling.groups.Given as goal

abbrev pub invariant-loop-place : goal.invariant-loop-place
invariant-loop-place l =
    (s : Setting) (parts : List Part) → IsTableOf s parts l.table
    → l.groups.items ++ groups_from s parts l.place (own_lines (drop l.place l.rates))
    ≡ groups_from s parts 0 (own_lines l.rates)
