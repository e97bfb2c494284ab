use Rattle.std.proofs.Common.{ℕ, ◌∙◌, Option, Some, ap, arith, option_map, sym}
use Rattle.tariff_compare.specs.{Common.{MeterContext}, Grids.{day_in}, Searches.{context_count, context_of, is_found}}
use Rattle.tariff_compare.specs.Sides.{is_met_by}
use Rattle.tariff_compare.proofs.{Found.{found_here, found_later, found_none, numbered}, GridIs.{asked_at, day_of}}
use Rattle.tariff_compare.proofs.search.in_grid.Goals as goal

pub count-number-end-requires : goal.count-number-end-requires
count-number-end-requires c = c.requires.short

pub context-requires : goal.context-requires
context-requires c = record {
  number = numbered c.args.grid.now c.loop-number.number
      (omega (arith, c.loop-number-test.true, c.count-number-end.ensures));
  minutes = c.requires.minutes;
  ticks = c.requires.ticks;
}

pub is_found-requires : goal.is_found-requires
is_found-requires c =
    let one = c.args.one.now.tables in
    let other = c.args.other.now.tables in
    let grid = c.args.grid.now in
    let number = numbered grid c.loop-number.number
    (omega (arith, c.loop-number-test.true, c.count-number-end.ensures)) in
    let day = day_of one other grid c.loop-number.number c.context.result.0 c.requires number c.context.ensures.day in
    record {
      day = day.1.is ∙ ap (day_in one other) (day.0 ∙ sym (ap (λ (m : MeterContext). m.day) c.context.ensures.value));
      asked = rw c.context.ensures.value (asked_at one other grid c.loop-number.number c.context.result.0 c.requires
          number c.context.ensures.day);
    }

pub returns-then-is_found : goal.returns-then-is_found
returns-then-is_found c =
    let grid = c.args.grid.now in
    let met = is_met_by c.args.one.now c.args.other.now c.args.question in
    let number = numbered grid c.loop-number.number
    (omega (arith, c.loop-number-test.true, c.count-number-end.ensures)) in
    let here = found_here (λ number. is_found met (context_of grid number)) c.loop-number.number (context_count grid)
    (omega (arith, c.loop-number-test.true, c.count-number-end.ensures))
    (ap (is_found met) (sym c.context.ensures.value) ∙ sym c.is_found.ensures ∙ c.if-is_found.true) in
    record {
      value = ap Some c.context.ensures.value
          ∙ ap (λ (r : Option ℕ). option_map (context_of grid) r) (sym here ∙ c.loop-number.invariant);
      there = rw c.context.ensures.value (asked_at c.args.one.now.tables c.args.other.now.tables grid
          c.loop-number.number c.context.result.0 c.requires number c.context.ensures.day);
    }

pub loop-number-preserved : goal.loop-number-preserved
loop-number-preserved c =
    let grid = c.args.grid.now in
    let met = is_met_by c.args.one.now c.args.other.now c.args.question in
    sym (found_later (λ number. is_found met (context_of grid number)) c.loop-number.number (context_count grid)
    (omega (arith, c.loop-number-test.true, c.count-number-end.ensures))
    (ap (is_found met) (sym c.context.ensures.value) ∙ sym c.is_found.ensures ∙ c.if-is_found.false))
    ∙ c.loop-number.invariant

pub returns-clause-value : goal.returns-clause-value
returns-clause-value c =
    let grid = c.args.grid.now in
    let met = is_met_by c.args.one.now c.args.other.now c.args.question in
    ap (λ (r : Option ℕ). option_map (context_of grid) r)
    (sym (found_none (λ number. is_found met (context_of grid number)) c.loop-number.number (context_count grid)
    (omega (arith, c.loop-number-test.false, c.count-number-end.ensures))) ∙ c.loop-number.invariant)
