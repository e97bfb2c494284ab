use Rattle.std.proofs.Common.{◌-◌, ◌∙◌, ap, arith, drop, length, length-take, sym}
use Rattle.drive_source.{specs.Source.{Progress}, proofs.SourceSteps.{ahead_after, fed_last, fed_more, few_fed}}
use Rattle.drive_source.proofs.source.Source.feed.Goals as goal

pub feed-requires : goal.feed-requires
feed-requires c = record {
  few = few_fed c.args.self.now c.self.inside.reader c.part-ahead.result.now c.requires.given.0 c.requires.given.1
      (ap (λ (p : Progress). p.reading) c.self.view_is)
      (c.part-ahead.ensures ∙ ap (λ (p : Progress). p.ahead) c.self.view_is);
}

pub invariant_of-self : goal.invariant_of-self
invariant_of-self c =
    let inside = c.self.inside in (
      omega (
        arith,
        c.in-Ok.ensures.within,
        ap length c.part-ahead.ensures,
        length-take (inside.to - inside.from) (drop inside.from inside.piece),
        c.self.invariant.0,
      ),
      c.self.invariant.1,
    )

pub returns-in-Ok-clause-more : goal.returns-in-Ok-clause-more
returns-in-Ok-clause-more c = λ none given rest h.
    let inside = c.self.inside in
    let n = c.in-Ok.taken in
    let is = c.part-ahead.ensures in
    let place_is = is ∙ ap (λ (p : Progress). p.ahead) c.self.view_is in
    fed_more c.args.self.now _ inside.reader c.part-ahead.result.now c.args.runs.now.items c.feed.new.out.items given
    rest n h (ap (λ (p : Progress). p.reading) c.self.view_is) place_is c.requires.none
    (c.in-Ok.ensures.some (omega (arith, ap length c.requires.none))
    (omega (arith, c.requires.some, ap length place_is))) c.in-Ok.ensures.runs c.in-Ok.ensures.taken
    c.in-Ok.ensures.stands.2
    (ahead_after inside.from inside.to n inside.piece (invariant_of-self c).0 ∙ ap (drop n) (sym is))
    (ap (λ (p : Progress). p.left) c.self.view_is)

pub returns-in-Err-clause-stops : goal.returns-in-Err-clause-stops
returns-in-Err-clause-stops c = λ given rest h.
    fed_last c.args.self.now c.self.inside.reader c.part-ahead.result.now c.args.runs.now.items c.feed.new.out.items
    given rest c.in-Err.bad.line h (ap (λ (p : Progress). p.reading) c.self.view_is)
    (c.part-ahead.ensures ∙ ap (λ (p : Progress). p.ahead) c.self.view_is) c.requires.none c.in-Err.ensures.bad
