use Rattle.log_commands.proofs.{ReadOnlyCalls.{reads_once}, Scans.{content_read}}
use Rattle.log_commands.proofs.scanning.read_slot.Goals as goal

pub returns-clause-content : goal.returns-clause-content
returns-clause-content g c told =
    content_read (g.G.Printer.image c.args.log.now) _ c.args.slot
    (c.in_ok-read.ensures.bytes told) c.content_in.result c.content_in.ensures

pub returns-in_err-read-clause-reads : goal.returns-in_err-read-clause-reads
returns-in_err-read-clause-reads g c =
    reads_once g.G.Printer c.args.log.now c.read.new.self (g.met.G.Printer.only_now c.args.log.now) c.read.ensures.image
    c.read.ensures.flight c.read.ensures.text c.read.ensures.time

pub returns-clause-reads : goal.returns-clause-reads
returns-clause-reads g c =
    reads_once g.G.Printer c.args.log.now c.read.new.self (g.met.G.Printer.only_now c.args.log.now) c.read.ensures.image
    c.read.ensures.flight c.read.ensures.text c.read.ensures.time
