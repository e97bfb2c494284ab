use Rattle.std.proofs.Common.{ℕ, ◌++◌, ◌<◌, ◌∙◌, ◌≡◌, ◌≤◌, ap, arith, eqb, false, inl, inr, length, rules, subst, sym}
use Rattle.std.proofs.{Common.{take}, lemmas.{Bool.{eqb-false}, Result.{err_from_is_err_and}}}
use Rattle.data_port.specs.Reading.{HasSense, HasTaken, Standing, TakesTo}
use Rattle.data_port.{specs.State.{standing_of}, proofs.PieceBytes.{feeds_sense, feeds_taken, feeds_to, next_range}}
use Rattle.data_port.proofs.PieceBytes.{breaks_count, breaks_in, breaks_taken, failed_stays, feeds_more, feeds_range}
use Rattle.data_port.proofs.port.Port.feed.Goals as goal

-- what is known of the fields is known of the port
sense_of : {view inside : Standing} → inside ≡ view → HasSense inside → HasSense view
sense_of is h = (h.0, subst (λ (s : Standing). HasTaken s h.0) is h.1)

not_full : (n : ℕ) → eqb n 64 ≡ false → n ≤ 64 → n < 64
not_full n other few = let e = eqb-false n 64 other in omega (arith, e, few)

pub returns-then-self-clause-failed : goal.returns-then-self-clause-failed
returns-then-self-clause-failed c = λ b h. failed_stays c.args.self.now b c.args.piece.now h
    (sym (ap (λ (s : Standing). s.failed) c.self.view_is) ∙ c.if-self.true)

pub invariant_of-self : goal.invariant_of-self
invariant_of-self c = feeds_sense c.loop-place.invariant (sense_of c.self.view_is c.self.invariant)

pub invariant_of-self-then-is_full : goal.invariant_of-self-then-is_full
invariant_of-self-then-is_full c = feeds_sense c.loop-place.invariant (sense_of c.self.view_is c.self.invariant)

pub take-requires-clause-sense : goal.take-requires-clause-sense
take-requires-clause-sense c = feeds_sense c.loop-place.invariant (sense_of c.self.view_is c.self.invariant)

pub returns-then-is_full-clause-taken : goal.returns-then-is_full-clause-taken
returns-then-is_full-clause-taken c = λ b h. feeds_taken c.loop-place.invariant b h

pub returns-then-is_full-clause-requests : goal.returns-then-is_full-clause-requests
returns-then-is_full-clause-requests c = λ b h.
    let full : length c.loop-place.out.items ≡ 64 = search rules in
    feeds_to c.loop-place.invariant (omega (arith, c.loop-place-test.true)) (inr full) b h

pub returns-then-is_full-clause-range : goal.returns-then-is_full-clause-range
returns-then-is_full-clause-range c = feeds_range c.loop-place.invariant (sense_of c.self.view_is c.self.invariant)

pub invariant_of-self-in_err-take : goal.invariant_of-self-in_err-take
invariant_of-self-in_err-take c =
    let sense = sense_of c.self.view_is c.self.invariant in (
      sense.0 ++ c.args.piece.now,
      breaks_taken c.loop-place.invariant c.loop-place-test.true c.take.ensures.state c.in_err-take.ensures.err.0
          sense.0 sense.1,
    )

pub returns-in_err-take-clause-failed : goal.returns-in_err-take-clause-failed
returns-in_err-take-clause-failed c =
    let p = err_from_is_err_and c.from_residual.result c.from_residual.ensures.1 in
    rw (p.1) (λ b h. breaks_taken c.loop-place.invariant c.loop-place-test.true c.take.ensures.state
    c.in_err-take.ensures.err.0 b h)

pub returns-in_err-take-clause-bad : goal.returns-in_err-take-clause-bad
returns-in_err-take-clause-bad c =
    let p = err_from_is_err_and c.from_residual.result c.from_residual.ensures.1 in
    let room : length c.loop-place.out.items < 64 = not_full (length c.loop-place.out.items)
    (sym c.is_full.ensures.value ∙ c.if-is_full.false) c.is_full.ensures.fits in
    rw (p.1, p.2) (λ going b h. breaks_in c.loop-place.invariant c.loop-place-test.true c.take.ensures.state
    c.in_err-take.ensures.err.0 c.take.ensures.out room c.in_err-take.ensures.err.1 b h)

pub returns-in_err-take-clause-range : goal.returns-in_err-take-clause-range
returns-in_err-take-clause-range c =
    next_range c.loop-place.invariant (sense_of c.self.view_is c.self.invariant) c.loop-place-test.true
    c.take.ensures.out

pub returns-in_err-take-clause-at_most : goal.returns-in_err-take-clause-at_most
returns-in_err-take-clause-at_most c =
    breaks_count c.loop-place.invariant c.loop-place-test.true c.take.ensures.state c.in_err-take.ensures.err.0

pub loop-place-preserved : goal.loop-place-preserved
loop-place-preserved c =
    let room : length c.loop-place.out.items < 64 = not_full (length c.loop-place.out.items)
    (sym c.is_full.ensures.value ∙ c.if-is_full.false) c.is_full.ensures.fits in
    feeds_more c.loop-place.invariant c.loop-place-test.true room c.take.ensures.state c.take.ensures.out
    c.in_ok-take.ensures.ok

pub returns-clause-taken : goal.returns-clause-taken
returns-clause-taken c = λ b h.
    let all : c.loop-place.place ≡ length c.args.piece.now =
    omega (arith, c.loop-place-test.false, c.loop-place.auto.place-end) in
    subst (λ (n : ℕ). HasTaken (standing_of c.loop-place.self-inside.state) (b ++ take n c.args.piece.now)) all
    (feeds_taken c.loop-place.invariant b h)

pub returns-clause-requests : goal.returns-clause-requests
returns-clause-requests c = λ b h.
    let all : c.loop-place.place ≡ length c.args.piece.now =
    omega (arith, c.loop-place-test.false, c.loop-place.auto.place-end) in
    subst (λ (n : ℕ). TakesTo b c.args.piece.now c.args.out.now.items c.loop-place.out.items n) all (feeds_to
    c.loop-place.invariant (omega (arith, all)) (inl all) b h)

pub returns-clause-range : goal.returns-clause-range
returns-clause-range c = feeds_range c.loop-place.invariant (sense_of c.self.view_is c.self.invariant)
