use Rattle.{std.proofs.Common.{refl}, log_commands.proofs.Scans.{bad_is, entry_told, not_failed}}
use Rattle.log_commands.proofs.entries.read_entry.Goals as goal

pub returns-clause-entry : goal.returns-clause-entry
returns-clause-entry g c told = entry_told (g.G.Printer.image c.args.log.now) c.args.slot c.in_ok-content.content
    c.entry_of.result (c.in_ok-content.ensures.content told) c.entry_of.ensures

pub returns-clause-bad : goal.returns-clause-bad
returns-clause-bad g c other err =
    bad_is (g.G.Printer.image c.args.log.now) c.args.slot other g.G.Printer.tells_image c.in_ok-content.content
    c.entry_of.result c.in_ok-content.ensures.content c.entry_of.ensures err

pub returns-clause-cause : goal.returns-clause-cause
returns-clause-cause g c = record {
  kept = λ _. c.in_ok-content.ensures.cause.kept refl;
  rose = λ err. absurd (not_failed c.args.slot c.in_ok-content.content c.entry_of.result c.entry_of.ensures err);
}
