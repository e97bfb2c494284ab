use Rattle.std.specs.Str.Lines.{strip_carriage_return}
use Rattle.std.proofs.Common.{◌++◌, ◌+◌, ◌∙◌, ◌≡◌, arith, false, length, length-append, ltb, refl, sym, true}
use Rattle.drive_text.{specs.Lines.{is_comment}, proofs.ReaderPieces.{fails_bytes, refused_many, takes_bytes}}
use Rattle.drive_text.{specs.Part.{reading_of}, proofs.Endings.{long_by_test, many_fail, short_by_test}}
use Rattle.drive_text.proofs.ReaderPlaces.{comment_begins, comment_goes_on, kept_plain, line_goes_on, number_small}
use Rattle.drive_text.proofs.state.State.add_part.Goals as goal

pub begins_comment-requires : goal.begins_comment-requires
begins_comment-requires c =
    kept_plain (reading_of c.args.self.now) c.requires.sense.0 c.requires.sense.1 c.requires.going c.if-self.false

pub returns-then-self-clause-ok : goal.returns-then-self-clause-ok
returns-then-self-clause-ok c = λ runs.
    let r = reading_of c.args.self.now in
    takes_bytes r r c.args.part.now c.requires.one c.requires.some c.requires.going (omega arith)
    (λ b h. comment_goes_on r b c.args.part.now c.requires.one c.requires.going c.if-self.true h) runs

pub returns-then-begins_comment-clause-ok : goal.returns-then-begins_comment-clause-ok
returns-then-begins_comment-clause-ok c = λ runs.
    let r = reading_of c.args.self.now in
    takes_bytes r _ c.args.part.now c.requires.one c.requires.some c.requires.going
    (omega (arith, c.number-number.ensures, number_small r))
    (λ b h. comment_begins r _ b c.args.part.now c.requires.one
    (sym c.begins_comment.ensures ∙ c.if-begins_comment.true) c.requires.going c.if-self.false c.number-number.ensures
    refl refl c.requires.going h) runs

pub returns-in-Err-clause-err : goal.returns-in-Err-clause-err
returns-in-Err-clause-err c =
    let r = reading_of c.args.self.now in
    let whole = r.kept ++ c.args.part.now in
    let plain : is_comment whole ≡ false = sym c.begins_comment.ensures ∙ c.if-begins_comment.false in
    let many = refused_many c.try_extend_from_slice.result c.in-Err.field-0
    (length r.kept + length c.args.part.now) c.in-Err.is c.try_extend_from_slice.ensures.variant.1 in
    fails_bytes r (reading_of c.fail.new.self) c.args.part.now c.number-number.result c.fail.result.line c.requires.one
    (many_fail whole (omega (arith, many, length-append r.kept c.args.part.now)) plain) c.requires.going c.if-self.false
    c.number-number.ensures c.fail.ensures.line c.fail.ensures.failed

pub returns-then-is_long-clause-err : goal.returns-then-is_long-clause-err
returns-then-is_long-clause-err c =
    let r = reading_of c.args.self.now in
    let whole = r.kept ++ c.args.part.now in
    let plain : is_comment whole ≡ false = sym c.begins_comment.ensures ∙ c.if-begins_comment.false in
    let long : ltb 80 (length (strip_carriage_return whole)) ≡ true =
    rw (← c.in-Ok.ensures.ok, ← c.as_slice.ensures.value, ← c.without_carriage_return.ensures)
    (sym c.is_long.ensures ∙ c.if-is_long.true) in
    fails_bytes r (reading_of c.fail-then-is_long.new.self) c.args.part.now c.number-number.result
    c.fail-then-is_long.result.line c.requires.one
    (long_by_test whole long plain) c.requires.going c.if-self.false c.number-number.ensures
    c.fail-then-is_long.ensures.line c.fail-then-is_long.ensures.failed

pub returns-else-is_long-clause-ok : goal.returns-else-is_long-clause-ok
returns-else-is_long-clause-ok c = λ runs.
    let r = reading_of c.args.self.now in
    let whole = r.kept ++ c.args.part.now in
    let plain : is_comment whole ≡ false = sym c.begins_comment.ensures ∙ c.if-begins_comment.false in
    let short : ltb 80 (length (strip_carriage_return whole)) ≡ false =
    rw (← c.in-Ok.ensures.ok, ← c.as_slice.ensures.value, ← c.without_carriage_return.ensures)
    (sym c.is_long.ensures ∙ c.if-is_long.false) in
    takes_bytes r _ c.args.part.now c.requires.one c.requires.some c.requires.going
    (omega (arith, c.number-number.ensures, number_small r))
    (λ b h. line_goes_on r _ b c.args.part.now c.requires.one c.requires.some plain (short_by_test whole short)
    c.requires.going c.if-self.false c.number-number.ensures c.in-Ok.ensures.ok c.if-self.false c.requires.going h) runs
