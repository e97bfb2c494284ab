use Rattle.std.proofs.Common.{ℕ, ℤ, ◌+◌, ◌-◌, ◌∙◌, List, ap, arith, refl, subst, sym}
use Rattle.offset_rules.{specs.{Common.{IsOffsetList, offset_at}, Pairs.{IsListOf}}, proofs.Lawful.{lists_are_lawful}}
use Rattle.offset_rules.proofs.{Bounds.{from_the_first, to_the_last, year_after}, Members.{lists_have_each_change}}
use Rattle.offset_rules.proofs.{Follows.{lists_follow}, Listed.{all_years, grown}}
use Rattle.offset_rules.proofs.rules.Rules.pairs.Goals as goal

pub at-requires : goal.at-requires
at-requires c =
    let from = from_the_first c.args.from c.requires.first in
    let to =
    to_the_last c.args.from (omega (arith, c.requires.first)) (omega (arith, c.requires.order, c.requires.last)) in
    let next = year_after c.args.from (omega (arith, c.requires.first)) in
    omega (arith, from, to, next, c.first_second_of.ensures)

pub loop-year-preserved : goal.loop-year-preserved
loop-year-preserved c = record {
  order = omega (arith, c.loop-year.invariant.order);
  items = grown c.args.self.now c.args.from (c.loop-year.year - c.args.from)
      (c.loop-year.year + 1 - c.args.from) c.loop-year.year c.changes.result _ _ _
      (omega (arith, c.loop-year.invariant.order)) (omega (arith, c.loop-year.invariant.order)) c.changes.ensures
      c.loop-year.invariant.items c.push_later.ensures.items c.push_later-in-loop-year.ensures.items;
  few = omega (
    arith,
    c.loop-year.invariant.order,
    c.loop-year.invariant.few,
    c.push_later.ensures.few,
    c.push_later-in-loop-year.ensures.few,
  );
}

pub returns-2-clause-value : goal.returns-2-clause-value
returns-2-clause-value c =
    grown c.args.self.now c.args.from (c.loop-year.year - c.args.from)
    (c.args.to + 1 - c.args.from) c.loop-year.year c.changes.result _ _ _ (omega (arith, c.loop-year.invariant.order))
    (omega (arith, c.loop-year.invariant.order, c.requires.order)) c.changes.ensures c.loop-year.invariant.items
    c.push_later.ensures.items c.push_later-in-loop-year.ensures.items
    ∙ sym (all_years c.args.self.now c.args.from c.args.to (c.args.to + 1 - c.args.from) refl)

pub returns-2-clause-meaning : goal.returns-2-clause-meaning
returns-2-clause-meaning c =
    subst (IsListOf c.args.self.now c.args.from c.args.to) (sym (returns-2-clause-value c))
    (lists_have_each_change c.args.self.now c.args.from c.args.to c.at.ensures.lawful c.requires)

pub returns-2-clause-list : goal.returns-2-clause-list
returns-2-clause-list c =
    subst IsOffsetList (sym (returns-2-clause-value c))
    (lists_are_lawful c.args.self.now c.args.from c.args.to c.at.ensures.lawful c.requires).list

pub returns-2-clause-follows : goal.returns-2-clause-follows
returns-2-clause-follows c second low high =
    ap (λ (pairs : List (ℕ × ℤ)). offset_at pairs second) (returns-2-clause-value c)
    ∙ lists_follow c.args.self.now c.args.from c.args.to second c.at.ensures.lawful c.requires low high
