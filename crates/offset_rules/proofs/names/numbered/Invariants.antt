use Rattle.std.proofs.Common.{◌+◌, ◌≡◌, drop, map}
use Rattle.offset_rules.specs.Reading.{numbered_at}
use Rattle.offset_rules.proofs.names.numbered.Given as goal

abbrev pub invariant-loop-place : goal.invariant-loop-place
invariant-loop-place l = numbered_at (map (λ x. x.now) (drop l.place l.names)) (l.place + 1) l.text
    ≡ numbered_at (map (λ x. x.now) l.names) 1 l.text
