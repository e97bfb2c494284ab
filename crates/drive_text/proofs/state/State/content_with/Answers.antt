use Rattle.std.proofs.Common.{◌++◌, ◌+◌, ◌∙◌, arith, length, length-append, rules}
use Rattle.drive_text.proofs.{Endings.{comment-append, line_runs-long, many_fail}, ReaderPieces.{refused_many}}
use Rattle.drive_text.proofs.state.State.content_with.Goals as goal

pub returns-in-Err-clause-content : goal.returns-in-Err-clause-content
returns-in-Err-clause-content c =
    let kept = c.args.self.now.kept.items in
    let whole = kept ++ c.args.line.now in
    let many = refused_many c.try_extend_from_slice.result c.in-Err.field-0
    (length kept + length c.args.line.now) c.in-Err.is c.try_extend_from_slice.ensures.variant.1 in
    line_runs-long whole (many_fail whole (omega (arith, many, length-append kept c.args.line.now))
    (comment-append kept c.args.line.now (search rules) ∙ c.requires))
