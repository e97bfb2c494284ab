use Rattle.std.{specs.List.{AllWithin, HoldsAt}, proofs.lemmas.Iterator.{IsFirst-from_position, YieldsList-from_slice}}
use Rattle.std.proofs.Common.{ℕ, ◌++◌, ◌+◌, ◌-◌, ◌<◌, ◌∙◌, ◌∷◌, ◌≡◌, ◌≢◌, List, add-one, arith, drop, drop-cons, length}
use Rattle.{std.proofs.Common.{length-drop, refl, rules, sym, take, tests}, taxi_units.specs.PartedBytes.{HasNone}}
use Rattle.std.proofs.lemmas.List.{get_or-take, length-take, take-append-drop, take_all}
use Rattle.taxi_units.proofs.parting.split_at_byte.Goals as goal

-- the place that was found is the first one with this byte
is_first : (c : goal.After-result-1) → (c.in-Some.at < length c.args.bytes.now)
    × HoldsAt (λ other. other ≡ c.args.byte) c.args.bytes.now c.in-Some.at
    × AllWithin (λ other. other ≢ c.args.byte) c.args.bytes.now 0 c.in-Some.at
is_first c = rw c.in-Some.is at (IsFirst-from_position _ _ c.position.result (λ other. other ≡ c.args.byte)
    (λ other. other ≢ c.args.byte) c.position.ensures.ran (YieldsList-from_slice c.args.bytes.now cc)
    (λ x q k. search (rules, tests)) (λ x q k. search (rules, tests)))

none_before : (bytes : List ℕ) (byte at : ℕ) → AllWithin (λ other. other ≢ byte) bytes 0 at
    → HasNone byte (take at bytes)
none_before bytes byte at before place other within same =
    let less : place < at = omega (arith, length-take at bytes) in
    before place other (omega arith) less (sym (get_or-take at bytes place other less) ∙ same)

parted_at : (bytes : List ℕ) (byte at : ℕ) → at < length bytes → HoldsAt (λ other. other ≡ byte) bytes at
    → bytes ≡ take at bytes ++ byte ∷ take (length bytes - (at + 1)) (drop (at + 1) bytes)
parted_at bytes byte at within here =
    let from : drop at bytes ≡ byte ∷ drop (at + 1) bytes =
    drop-cons bytes at byte within ∙ rw (here byte, add-one at) refl in
    let rest : take (length bytes - (at + 1)) (drop (at + 1) bytes) ≡ drop (at + 1) bytes =
    take_all (length bytes - (at + 1)) (drop (at + 1) bytes) (omega (arith, length-drop (at + 1) bytes)) in
    sym (take-append-drop at bytes) ∙ rw (rest, from) refl

pub returns-in-Some-clause-before : goal.returns-in-Some-clause-before
returns-in-Some-clause-before c = none_before c.args.bytes.now c.args.byte c.in-Some.at (is_first c).2

pub returns-in-Some-clause-after : goal.returns-in-Some-clause-after
returns-in-Some-clause-after c =
    let first = is_first c in
    parted_at c.args.bytes.now c.args.byte c.in-Some.at first.0 first.1
