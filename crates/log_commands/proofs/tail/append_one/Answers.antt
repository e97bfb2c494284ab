use Rattle.{std.proofs.Common.{arith, refl}, log_commands.proofs.Tails.{files_appended, moments_one, place_below}}
use Rattle.log_commands.proofs.tail.append_one.Goals as goal

pub append-requires-clause-place : goal.append-requires-clause-place
append-requires-clause-place g c = place_below c.args.tail.now.last c.args.tail.now.newest c.args.receipt
    c.requires.last c.requires.newer c.requires.receipt

pub returns-in_err-append-clause-any_moment : goal.returns-in_err-append-clause-any_moment
returns-in_err-append-clause-any_moment g c =
    moments_one g.G.Printer g.G.Printer.tells_image c.args.log.now c.append.new.log c.args.tail.now c.args.tail.now
    c.args.receipt c.requires.receipt c.requires.newer c.append.ensures.any_moment

pub returns-clause-last : goal.returns-clause-last
returns-clause-last g c = (
  c.requires.receipt,
  omega (
    arith,
    place_below c.args.tail.now.last c.args.tail.now.newest c.args.receipt c.requires.last c.requires.newer
        c.requires.receipt,
  ),
)

pub returns-clause-files : goal.returns-clause-files
returns-clause-files g c =
    files_appended g.G.Printer g.G.Printer.tells_image c.args.log.now c.append.new.log c.args.tail.now _ c.args.receipt
    c.requires.receipt c.requires.newer c.append.ensures.any_moment c.in_ok-append.ensures.ready refl refl refl refl

pub returns-clause-any_moment : goal.returns-clause-any_moment
returns-clause-any_moment g c =
    moments_one g.G.Printer g.G.Printer.tells_image c.args.log.now c.append.new.log c.args.tail.now c.args.tail.now
    c.args.receipt c.requires.receipt c.requires.newer c.append.ensures.any_moment
