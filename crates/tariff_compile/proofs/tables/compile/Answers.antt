use Rattle.{std.proofs.{Common.{arith}, lemmas.Grind.{common_steps}}, tariff_compile.proofs.Compiled.{tables_fit}}
use Rattle.tariff_check.proofs.Laws.{sound_tariffs_have_sound_parts-parts}
use Rattle.tariff_compile.specs.{Common.{Rate, tree_of}, Tables.{IsCompiled, IsFit, TableParts}}
use Rattle.tariff_compile.proofs.tables.compile.Goals as goal

pub all_weights-requires-clause-rates : goal.all_weights-requires-clause-rates
all_weights-requires-clause-rates c =
    let t = tree_of c.args.checked.now in
    let parts = sound_tariffs_have_sound_parts-parts t c.rates.ensures.writable c.rates.ensures.sound in
    rw c.rates.ensures.value.values (parts.choices Rate)

pub all_weights-requires-clause-measure : goal.all_weights-requires-clause-measure
all_weights-requires-clause-measure c =
    c.measure.ensures.range.1

pub all_cells-requires-clause-parts : goal.all_cells-requires-clause-parts
all_cells-requires-clause-parts c =
    sound_tariffs_have_sound_parts-parts (tree_of c.args.checked.now) c.rates.ensures.writable c.rates.ensures.sound

-- what is compiled is fit too
abbrev with_fit : (tables : TableParts) → IsCompiled tables → IsCompiled tables × IsFit tables
with_fit tables compiled = (compiled, tables_fit tables compiled)

pub invariant_of-result : goal.invariant_of-result
invariant_of-result c = with_fit _ (
  tree_of c.args.checked.now,
  record {
    writable = c.rates.ensures.writable;
    sound = c.rates.ensures.sound;
    constant = (rw (← c.get.ensures.value) c.get.ensures.least, rw (← c.get.ensures.value) c.get.ensures.most);
    parts = grind (arith, common_steps);
  },
)

pub returns-clause-fit : goal.returns-clause-fit
returns-clause-fit c = (invariant_of-result c).1

pub returns-clause-value : goal.returns-clause-value
unfolding invariant_of-result
returns-clause-value c = (invariant_of-result c).0.1.parts

pub returns-clause-tables : goal.returns-clause-tables
unfolding invariant_of-result
returns-clause-tables c = (invariant_of-result c).0.1
