use Rattle.std.{specs.List.{range_with_len}, proofs.lemmas.List.FromFn.{length-map-range_with_len}}
use Rattle.std.proofs.Common.{ℕ, ◌++◌, ◌+◌, ◌-◌, ◌∙◌, ◌≡◌, List, ap, arith, map, refl, subst, sym}
use Rattle.tariff_compile.{specs.Cells.{IsBelow, IsNarrow, bands_of, cell_count, context_in}, proofs.LowCuts.{low_cuts}}
use Rattle.tariff_compile.specs.{Common.{Bands, Context, tree_of}, Tables.{context_of_cell, lines_at, sizes_in}}
use Rattle.tariff_compile.proofs.Blocks.{block_more}
use Rattle.tariff_compile.proofs.Compiled.{bands_in-below, bands_in-narrow, cell_count-cells_of, sizes_checked}
use Rattle.tariff_compile.proofs.cells.all_cells.Goals as goal

pub contexts_of-requires-clause-low : goal.contexts_of-requires-clause-low
contexts_of-requires-clause-low c = rw c.requires.cuts (low_cuts (tree_of c.args.checked.now) c.args.k c.requires.parts)

pub contexts_of-requires-clause-below : goal.contexts_of-requires-clause-below
contexts_of-requires-clause-below c = λ cell small.
    subst (λ (s : Bands). IsBelow s (bands_of s cell))
    (sym (c.sizes_of-sizes.ensures ∙ sizes_checked (tree_of c.args.checked.now) c.args.k c.positions.result
    c.zones.result c.args.cuts.now c.positions.ensures.value c.zones.ensures.value c.requires.cuts))
    (bands_in-below (tree_of c.args.checked.now) c.args.k cell c.requires.parts
    (omega (arith, small, c.min-end.ensures, c.cells-count.ensures.value)))

pub contexts_of-requires-clause-narrow : goal.contexts_of-requires-clause-narrow
contexts_of-requires-clause-narrow c = λ cell small.
    subst (λ (s : Bands). IsNarrow (bands_of s cell))
    (sym (c.sizes_of-sizes.ensures ∙ sizes_checked (tree_of c.args.checked.now) c.args.k c.positions.result
    c.zones.result c.args.cuts.now c.positions.ensures.value c.zones.ensures.value c.requires.cuts))
    (bands_in-narrow (tree_of c.args.checked.now) c.args.k cell c.requires.parts
    (omega (arith, small, c.min-end.ensures, c.cells-count.ensures.value)))

pub push_lines-requires : goal.push_lines-requires
push_lines-requires c =
    let context = λ (cell : ℕ). context_in c.args.k c.args.cuts.now (bands_of c.sizes_of-sizes.result cell) in
    let long = length-map-range_with_len context c.loop-first.first (c.min-end.result - c.loop-first.first) in
    rw (c.as_slice.ensures.value, c.in_ok-contexts.ensures, long) (omega (arith, c.min-end.ensures))

pub loop-first-preserved : goal.loop-first-preserved
loop-first-preserved c =
    let t = tree_of c.args.checked.now in
    let k = c.args.k in
    let first = c.loop-first.first in
    let some = c.min-end.result - first in
    let all = λ (n : ℕ). map (λ (cell : ℕ). lines_at t (context_of_cell t k cell)) (range_with_len 0 n) in
    let end : first + some ≡ c.min-end.result = omega (arith, c.min-end.ensures, c.loop-first-test.true) in
    let sizes : c.sizes_of-sizes.result ≡ sizes_in t k = c.sizes_of-sizes.ensures
    ∙ sizes_checked t k c.positions.result c.zones.result c.args.cuts.now c.positions.ensures.value
    c.zones.ensures.value c.requires.cuts in
    let block : c.as_slice.result.now ≡ map (context_of_cell t k) (range_with_len first some) =
    c.as_slice.ensures.value ∙ (c.in_ok-contexts.ensures ∙ rw (c.requires.cuts, sizes) refl) in
    record {
      within = omega (arith, c.min-end.ensures);
      so_far = c.in_ok-push_lines.ensures
          ∙ (ap (λ xs. xs ++ map (lines_at t) c.as_slice.result.now) c.loop-first.invariant.so_far
          ∙ (ap (λ (xs : List Context). all first ++ map (lines_at t) xs) block
          ∙ (block_more (context_of_cell t k) (lines_at t) first some ∙ ap all end)));
    }

pub returns : goal.returns
returns c =
    let t = tree_of c.args.checked.now in
    let k = c.args.k in
    let whole : c.loop-first.first ≡ cell_count (sizes_in t k) = omega (
      arith,
      c.loop-first.invariant.within,
      c.loop-first-test.false,
      c.cells-count.ensures.value,
      cell_count-cells_of t k,
    ) in
    c.loop-first.invariant.so_far
    ∙ ap (λ (n : ℕ). map (λ (cell : ℕ). lines_at t (context_of_cell t k cell)) (range_with_len 0 n)) whole
