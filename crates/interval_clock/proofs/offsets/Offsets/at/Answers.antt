use Rattle.std.proofs.Common.{ℕ, ℤ, ◌-◌, ◌∙◌, ◌≡◌, FitsSigned, List, arith, pos, subst, sym, w32}
use Rattle.{std.proofs.lemmas.Int.{to_z-of_z}, jiff_core.proofs.SignedLemmas.{signed_arith}}
use Rattle.interval_clock.specs.Offsets.{IsInForce, IsOffsetList, offset_at, offset_of}
use Rattle.interval_clock.proofs.OffsetLists.{found_in_force, offset_from-in_force, parted}
use Rattle.interval_clock.proofs.offsets.Offsets.at.Goals as goal

pub at_most-found-requires : goal.at_most-found-requires
at_most-found-requires g c =
    let same : c.of.result ≡ c.args.self.now = c.of.ensures ∙ c.pairs.ensures.value in
    let list : IsOffsetList c.of.result = rw same c.pairs.ensures.lawful in
    parted c.of.result c.args.second list

pub returns-in-Some : goal.returns-in-Some
returns-in-Some g c =
    let same : c.of.result ≡ c.args.self.now = c.of.ensures ∙ c.pairs.ensures.value in
    let list : IsOffsetList c.of.result = rw same c.pairs.ensures.lawful in
    let place = c.at_most-found.result.count - 1 in
    let found = found_in_force c.of.result c.args.second c.at_most-found.result.count c.at_most-found.result.last
    c.in-Some.pair list c.requires c.at_most-found.ensures.count c.at_most-found.ensures.point
    c.at_most-found.ensures.last c.in-Some.is in
    let range = (list.in_range place found.0.within).1 in
    let fits : FitsSigned w32 c.in-Some.pair.1 = omega (arith, signed_arith, found.1, range) in
    let kept = to_z-of_z w32 c.in-Some.pair.1 fits in
    let value : c.in-Some.pair.1 ≡ offset_at c.of.result c.args.second =
    found.1 ∙ sym (offset_from-in_force c.of.result (pos 0) c.args.second place found.0) in
    record {
      value = kept ∙ subst (λ (pairs : List (ℕ × ℤ)). c.in-Some.pair.1 ≡ offset_at pairs c.args.second) same value;
      in_force = (
        place,
        subst (λ (pairs : List (ℕ × ℤ)). IsInForce pairs c.args.second place) same found.0,
        kept ∙ subst (λ (pairs : List (ℕ × ℤ)). c.in-Some.pair.1 ≡ offset_of pairs place) same found.1,
      );
      in_range = omega (arith, signed_arith, kept, found.1, range);
      steps = c.at_most-found.ensures.steps.most 6 (omega (arith, list.few));
      read = c.at_most-found.ensures.steps.least (omega (arith, list.some));
    }
