use Rattle.std.proofs.Common.{[], ◌++◌, ◌∙◌, ◌∷◌, ◌≡◌, append_assoc, length, rules, sym}
use Rattle.{std.proofs.lemmas.Result.{err_from_is_err_and}, drive_text.proofs.ReaderPieces.{fails_before, split_of}}
use Rattle.drive_text.{specs.Part.{reading_of}, proofs.PlainLines.{takes_before, takes_plain, takes_whole}}
use Rattle.drive_text.proofs.state.State.take.Goals as goal

pub returns-clause-ok : goal.returns-clause-ok
returns-clause-ok c =
    let none : length c.args.self.now.kept.items ≡ 0 = search rules in
    takes_plain (reading_of c.args.self.now) _ c.args.piece.now c.in-Some.rest.now c.in-Some.run' c.args.out.now.items
    c.push.new.self.items c.in-Some.ensures none c.requires.going c.if-not-self.true (search rules) c.push.ensures.items

pub returns-in_err-end_line-in-Some-rest-clause-err : goal.returns-in_err-end_line-in-Some-rest-clause-err
returns-in_err-end_line-in-Some-rest-clause-err c =
    let parts : c.args.piece.now ≡ c.split_at_byte.result.0.now ++ 10 ∷ c.in-Some-rest.rest.now =
    split_of (λ r. r.now) c.args.piece.now c.split_at_byte.result.0.now c.split_at_byte.result.1 c.in-Some-rest.rest
    c.in-Some-rest.is c.split_at_byte.ensures.after in
    let p = err_from_is_err_and c.from_residual.result c.from_residual.ensures.1 in
    rw (p.1, p.2) (fails_before (reading_of c.args.self.now) (reading_of c.end_line.new.self)
    (c.split_at_byte.result.0.now ++ 10 ∷ []) c.args.piece.now c.in-Some-rest.rest.now _
    (parts ∙ sym (append_assoc c.split_at_byte.result.0.now (10 ∷ []) c.in-Some-rest.rest.now))
    c.in_err-end_line-in-Some-rest.ensures.err)

pub returns-in_ok-end_line-in-Some-rest-clause-ok : goal.returns-in_ok-end_line-in-Some-rest-clause-ok
returns-in_ok-end_line-in-Some-rest-clause-ok c =
    let line = c.split_at_byte.result.0.now in
    let rest = c.in-Some-rest.rest.now in
    let found = c.split_at_byte.result.1 in
    let parts = split_of (λ r. r.now) c.args.piece.now line found c.in-Some-rest.rest c.in-Some-rest.is
    c.split_at_byte.ensures.after in
    takes_before (reading_of c.args.self.now) _ (line ++ 10 ∷ []) c.args.piece.now rest c.args.out.now.items
    c.end_line.new.out.items (parts ∙ sym (append_assoc line (10 ∷ []) rest)) c.in_ok-end_line-in-Some-rest.ensures.ok

pub returns-in_ok-add_part-in-None-clause-ok : goal.returns-in_ok-add_part-in-None-clause-ok
returns-in_ok-add_part-in-None-clause-ok c =
    let whole = rw c.in-None.is at c.split_at_byte.ensures.after in
    takes_whole (reading_of c.args.self.now) _ c.args.piece.now c.split_at_byte.result.0.now c.args.out.now.items whole
    (c.in_ok-add_part-in-None.ensures.ok c.args.out.now.items)
