use Rattle.std.proofs.{Common.{[], ◌++◌, ◌∙◌, ◌≡◌, ap, arith, refl, sym}, lemmas.List.{append-nil, Elements.{All-nil}}}
use Rattle.drive_text.specs.{Content.{runs_of}, Part.{reading_of}, Reading.{Reading}}
use Rattle.drive_text.{specs.{Ranges.{IsRunInRange}, declared.fields.Content.{Content}}, proofs.Ranges.{runs_in_range}}
use Rattle.drive_text.proofs.{ReaderPieces.{fails_line, takes_line}, ReaderPlaces.{number_small}}
use Rattle.drive_text.proofs.ReaderPlaces.{comment_ends, comment_runs, kept_plain, line_gives, line_is_good}
use Rattle.drive_text.proofs.state.State.end_line.Goals as goal

pub content_with-requires : goal.content_with-requires
content_with-requires c =
    kept_plain (reading_of c.args.self.now) c.requires.sense.0 c.requires.sense.1 c.requires.going c.if-self.false

pub returns-then-self-clause-ok : goal.returns-then-self-clause-ok
returns-then-self-clause-ok c =
    let r = reading_of c.args.self.now in
    takes_line r _ c.args.line.now c.args.out.now.items c.args.out.now.items [] c.requires.one
    (sym (append-nil c.args.out.now.items)) (All-nil IsRunInRange) c.requires.going (omega arith)
    (λ b h.
    comment_ends r _ b c.args.line.now c.requires.one c.requires.going c.if-self.true refl refl refl c.requires.going h)
    (λ b h. comment_runs r b c.args.line.now c.requires.one c.requires.going c.if-self.true h)

pub returns-in-None-clause-err : goal.returns-in-None-clause-err
returns-in-None-clause-err c =
    fails_line (reading_of c.args.self.now)
    (reading_of c.fail.new.self) c.args.line.now c.number-number.result c.fail.result.line c.requires.one
    c.in-None.ensures.content c.requires.going c.if-self.false c.number-number.ensures c.fail.ensures.line
    c.fail.ensures.failed

pub returns-in-Some-Nothing-clause-ok : goal.returns-in-Some-Nothing-clause-ok
returns-in-Some-Nothing-clause-ok c =
    let r = reading_of c.args.self.now in
    let run = c.in-Some-Nothing.field-0 in
    let state = c.content_with.ensures.state in
    let kept = ap (λ (x : Reading). x.kept) state in
    let comment = ap (λ (x : Reading). x.comment) state ∙ c.if-self.false in
    let failed = ap (λ (x : Reading). x.failed) state ∙ c.requires.going in
    let none : c.args.out.now.items ≡ c.args.out.now.items ++ runs_of run = sym (ap (λ (o : Content).
    c.args.out.now.items ++ runs_of o) c.in-Some-Nothing.field-0-is ∙ append-nil c.args.out.now.items) in
    takes_line r _ c.args.line.now c.args.out.now.items c.args.out.now.items (runs_of run) c.requires.one none
    (runs_in_range (r.kept ++ c.args.line.now) (runs_of run) c.in-Some-Nothing.ensures.content) failed
    (omega (arith, c.number-number.ensures, number_small r))
    (λ b h. line_is_good r _ b c.args.line.now (runs_of run) c.requires.one c.requires.going c.if-self.false
    c.in-Some-Nothing.ensures.content c.number-number.ensures kept comment failed h)
    (λ b h. line_gives r b c.args.line.now
    (runs_of run) c.requires.one c.requires.going c.if-self.false c.in-Some-Nothing.ensures.content h)

pub returns-in-Some-One-clause-ok : goal.returns-in-Some-One-clause-ok
returns-in-Some-One-clause-ok c =
    let r = reading_of c.args.self.now in
    let run = c.in-Some-One.field-0 in
    let state = c.content_with.ensures.state in
    let kept = ap (λ (x : Reading). x.kept) state in
    let comment = ap (λ (x : Reading). x.comment) state ∙ c.if-self.false in
    let failed = ap (λ (x : Reading). x.failed) state ∙ c.requires.going in
    let one : c.push.new.self.items ≡ c.args.out.now.items ++ runs_of run =
    c.push.ensures.items ∙ sym (ap (λ (o : Content). c.args.out.now.items ++ runs_of o) c.in-Some-One.field-0-is) in
    takes_line r _ c.args.line.now c.args.out.now.items c.push.new.self.items (runs_of run) c.requires.one one
    (runs_in_range (r.kept ++ c.args.line.now) (runs_of run) c.in-Some-One.ensures.content) failed
    (omega (arith, c.number-number.ensures, number_small r))
    (λ b h. line_is_good r _ b c.args.line.now (runs_of run) c.requires.one c.requires.going c.if-self.false
    c.in-Some-One.ensures.content c.number-number.ensures kept comment failed h)
    (λ b h. line_gives r b c.args.line.now
    (runs_of run) c.requires.one c.requires.going c.if-self.false c.in-Some-One.ensures.content h)
