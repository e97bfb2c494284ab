use Rattle.{std.proofs.Common.{refl}, log_commands.proofs.{Causes.{err_later}, Tails.{files_passed}}}
use Rattle.log_commands.proofs.tail.file_one.Goals as goal

pub returns-in_err-append_one-in-Appended-clause-cause : goal.returns-in_err-append_one-in-Appended-clause-cause
returns-in_err-append_one-in-Appended-clause-cause g c =
    err_later _ _ (g.G.Printer.faults c.args.log.now) _ refl c.in_err-append_one-in-Appended.ensures.cause
    c.from_residual.result c.from_residual.ensures.1

pub returns-in-Passed-clause-passed : goal.returns-in-Passed-clause-passed
returns-in-Passed-clause-passed g c = λ is. (
  files_passed g.G.Printer g.G.Printer.tells_image c.args.log.now c.args.tail.now (λ told image text left.
      (g.met.G.Printer.only_now c.args.log.now image text left).bytes) c.args.receipt c.in-Passed.ensures,
  refl,
)
