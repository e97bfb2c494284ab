use Rattle.std.proofs.Common.{◌∙◌, ◌≡◌, None, Option, Some, arith, refl, sym}
use Rattle.log_commands.{specs.Record.{Record}, proofs.NewestFound.{newest_told, none_newest}}
use Rattle.log_commands.proofs.finding.read_newest.Goals as goal

pub returns-then-last-eq0-clause-newest : goal.returns-then-last-eq0-clause-newest
returns-then-last-eq0-clause-newest g c told records ends =
    none_newest (g.G.Printer.image c.args.log.now) c.args.last records (omega (arith, c.if-last-eq0.true)) ends

pub returns-in-Some-clause-newest : goal.returns-in-Some-clause-newest
returns-in-Some-clause-newest g c told records ends =
    let it = newest_told (g.G.Printer.image c.args.log.now) c.args.last records
    (omega (arith, c.if-last-eq0.false)) ends c.in_ok-content.content (c.in_ok-content.ensures.content told) in
    it.2 ∙ sym (c.in-Some.ensures.record it.0 it.1)

pub returns-in-None-clause-bad : goal.returns-in-None-clause-bad
returns-in-None-clause-bad g c slot err told = λ stands.
    let it = newest_told (g.G.Printer.image c.args.log.now) c.args.last stands.0
    (omega (arith, c.if-last-eq0.false)) stands.1 c.in_ok-content.content (c.in_ok-content.ensures.content told) in
    let none : ◌≡◌ {A = Option Record} None (Some it.0) = c.in-None.ensures.record it.0 it.1 in
    absurd cc

pub returns-in-Some-clause-cause : goal.returns-in-Some-clause-cause
returns-in-Some-clause-cause g c = record { kept = λ _. c.in_ok-content.ensures.cause.kept refl; rose = λ e. absurd cc }
