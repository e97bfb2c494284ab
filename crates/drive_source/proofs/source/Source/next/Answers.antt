use Rattle.{std.proofs.{Common.{List, subst, sym}, lemmas.Option.{IfSome_then}}, outside.proofs.Laws.{may_rise_not}}
use Rattle.drive_source.specs.Common.{Run}
use Rattle.drive_source.{specs.Source.{StopsBy}, proofs.SourceSteps.{gives_filled, not_some, stops_filled}}
use Rattle.drive_source.proofs.source.Source.next.Goals as goal

pub feed-requires-clause-given : goal.feed-requires-clause-given
feed-requires-clause-given g c =
    (c.requires.given.0, (c.fill.ensures.filled c.in_default.is).stands c.requires.given.0 c.requires.given.1)

pub feed-requires-clause-some : goal.feed-requires-clause-some
feed-requires-clause-some g c = (c.fill.ensures.filled c.in_default.is).some

pub returns : goal.returns
returns g c = record {
  more = λ none given h.
      let filled = c.fill.ensures.filled c.in_default.is in
      let rest = g.F.Files.rest c.fill.new.files c.args.word in
      gives_filled g.F.Files.tells c.args.self.now c.fill.new.self c.feed.new.self
      (g.F.Files.rest c.args.files.now c.args.word) rest given c.feed.new.runs.items filled
      (c.feed.ensures.more none given rest (filled.stands given h));
  stops =
      let filled = c.fill.ensures.filled c.in_default.is in
      let rest = g.F.Files.rest c.fill.new.files c.args.word in
      IfSome_then c.feed.result c.feed.ensures.stops (λ stop stops given h.
      stops_filled g.F.Files.tells c.args.self.now c.fill.new.self (g.F.Files.rest c.args.files.now c.args.word) rest
      given c.feed.new.runs.items stop filled (stops given rest (filled.stands given h)));
  range = c.feed.ensures.range;
  others = c.fill.ensures.others;
  read_fault = λ fault. absurd (c.feed.ensures.no_fault fault);
  counts = λ other. may_rise_not ((c.fill.ensures.counts other).kept
      (λ fault. not_some c.fill.result _ c.in_default.is fault));
}

pub returns-in-Some-clause-stops : goal.returns-in-Some-clause-stops
returns-in-Some-clause-stops g c = λ given h.
    subst (λ (runs : List Run). StopsBy g.F.Files.tells c.args.self.now (g.F.Files.rest c.args.files.now c.args.word)
    (g.F.Files.rest c.fill.new.files c.args.word) given runs c.in-Some.stop) (sym c.clear.ensures)
    (c.in-Some.ensures.stops given h)

pub returns-in-Some-clause-others : goal.returns-in-Some-clause-others
returns-in-Some-clause-others g c = c.fill.ensures.others

pub returns-in-Some-clause-read_fault : goal.returns-in-Some-clause-read_fault
returns-in-Some-clause-read_fault g c = c.in-Some.ensures.read_fault

pub returns-in-Some-clause-counts : goal.returns-in-Some-clause-counts
returns-in-Some-clause-counts g c = c.in-Some.ensures.counts
