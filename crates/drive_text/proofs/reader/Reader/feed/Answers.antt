use Rattle.std.proofs.Common.{ℕ, ◌++◌, ◌+◌, ◌-◌, ◌<◌, ◌∙◌, ◌≡◌, ◌≤◌, List, ap, arith, eqb, false, inl, inr, length}
use Rattle.std.proofs.{Common.{length-append, rules, subst, sym}, lemmas.Result.{err_from_is_err_and}}
use Rattle.{std.proofs.lemmas.Bool.{eqb-false}, drive_text.specs.Reading.{HasTaken, Reading}}
use Rattle.drive_text.proofs.ReaderPieces.{Feeds, breaks_in, breaks_reader, feeds_more, feeds_none, feeds_range}
use Rattle.drive_text.proofs.{ReaderPieces.{feeds_reader, shorter, some_taken, takes_to}, ReaderPlaces.{failed_stays}}
use Rattle.drive_text.proofs.reader.Reader.feed.Goals as goal

not_full : (n : ℕ) → eqb n 64 ≡ false → n ≤ 64 → n < 64
not_full n other few = let e = eqb-false n 64 other in omega (arith, e, few)

left : (piece done rest : List ℕ) → piece ≡ done ++ rest → length piece - length rest + length rest ≡ length piece
left piece done rest split = omega (arith, ap length split, length-append done rest)

pub returns-then-self-clause-failed : goal.returns-then-self-clause-failed
returns-then-self-clause-failed c = λ b h. failed_stays c.args.self.now b c.args.piece.now h
    (sym (ap (λ (r : Reading). r.failed) c.self.view_is) ∙ c.if-self.true)

pub loop-rest-init : goal.loop-rest-init
loop-rest-init c =
    let going : c.args.self.now.failed ≡ false =
    sym (ap (λ (r : Reading). r.failed) c.self.view_is) ∙ c.if-self.false in
    subst (λ (r : Reading). Feeds c.args.self.now r c.args.piece.now c.args.piece.now c.args.out.now.items
    c.args.out.now.items) (sym c.self.view_is) (feeds_none c.args.self.now c.args.piece.now c.args.out.now.items going)

pub returns-then-is_full-clause-taken : goal.returns-then-is_full-clause-taken
returns-then-is_full-clause-taken c =
    let f = c.loop-rest.invariant in
    feeds_reader f _ (left c.args.piece.now f.done c.loop-rest.rest.now f.split)

pub returns-then-is_full-clause-runs : goal.returns-then-is_full-clause-runs
returns-then-is_full-clause-runs c =
    let f = c.loop-rest.invariant in
    let full : length c.loop-rest.out.items ≡ 64 = search rules in
    takes_to f _ (left c.args.piece.now f.done c.loop-rest.rest.now f.split) (inr full)

pub returns-then-is_full-clause-some : goal.returns-then-is_full-clause-some
returns-then-is_full-clause-some c = λ room piece.
    let full : length c.loop-rest.out.items ≡ 64 = search rules in
    some_taken c.loop-rest.invariant full room

pub returns-then-is_full-clause-range : goal.returns-then-is_full-clause-range
returns-then-is_full-clause-range c = feeds_range c.loop-rest.invariant

-- some bytes that were taken
sense : (c : goal.After-from_residual) → (b : List ℕ) × HasTaken c.args.self.now b
sense c = (c.self.invariant.0, subst (λ (r : Reading). HasTaken r c.self.invariant.0) c.self.view_is c.self.invariant.1)

pub invariant_of-self-in_err-rest : goal.invariant_of-self-in_err-rest
invariant_of-self-in_err-rest c =
    let b = sense c in
    (b.0 ++ c.args.piece.now, breaks_reader c.loop-rest.invariant c.in_err-rest.ensures.err b.0 b.1)

pub returns-in_err-rest-clause-failed : goal.returns-in_err-rest-clause-failed
returns-in_err-rest-clause-failed c =
    let p = err_from_is_err_and c.from_residual.result c.from_residual.ensures.1 in
    rw (p.1) (breaks_reader c.loop-rest.invariant c.in_err-rest.ensures.err)

pub returns-in_err-rest-clause-bad : goal.returns-in_err-rest-clause-bad
returns-in_err-rest-clause-bad c =
    let p = err_from_is_err_and c.from_residual.result c.from_residual.ensures.1 in
    let same = c.in_err-rest.ensures.out in
    let room : length c.loop-rest.out.items < 64 =
    not_full (length c.loop-rest.out.items) (sym c.is_full.ensures.value ∙ c.if-is_full.false) c.is_full.ensures.fits in
    rw (p.1, p.2, same) (λ going b h. breaks_in c.loop-rest.invariant c.in_err-rest.ensures.err room b h)

pub returns-in_err-rest-clause-range : goal.returns-in_err-rest-clause-range
returns-in_err-rest-clause-range c =
    let same = c.in_err-rest.ensures.out in
    rw same (feeds_range c.loop-rest.invariant)

pub loop-rest-preserved : goal.loop-rest-preserved
loop-rest-preserved c =
    let room : length c.loop-rest.out.items < 64 =
    not_full (length c.loop-rest.out.items) (sym c.is_full.ensures.value ∙ c.if-is_full.false) c.is_full.ensures.fits in
    feeds_more c.loop-rest.invariant room (search rules)

none_left : (rest : List ℕ) → length rest ≡ 0 → (n : ℕ) → n + length rest ≡ n
none_left rest none n = omega arith

pub returns-clause-taken : goal.returns-clause-taken
returns-clause-taken c =
    let none : length c.loop-rest.rest.now ≡ 0 = search rules in
    feeds_reader c.loop-rest.invariant _ (none_left c.loop-rest.rest.now none (length c.args.piece.now))

pub returns-clause-runs : goal.returns-clause-runs
returns-clause-runs c =
    let none : length c.loop-rest.rest.now ≡ 0 = search rules in
    takes_to c.loop-rest.invariant _ (none_left c.loop-rest.rest.now none (length c.args.piece.now)) (inl none)

pub overflow_sub-result : goal.overflow_sub-result
overflow_sub-result c =
    let f = c.loop-rest.invariant in
    omega (arith, ap length f.split, length-append f.done c.loop-rest.rest.now)

pub loop-rest-smaller : goal.loop-rest-smaller
loop-rest-smaller c = shorter c.in_ok-rest.ensures.ok

pub returns-clause-range : goal.returns-clause-range
returns-clause-range c = feeds_range c.loop-rest.invariant
