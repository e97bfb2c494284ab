use Rattle.std.proofs.Common.{[], ℕ, ◌++◌, ◌+◌, ◌<◌, ◌∙◌, ◌∷◌, ◌≡◌, ◌≤◌, List, Option, Some, ap, arith, length, map}
use Rattle.std.proofs.{Common.{sym, take}, lemmas.{List.{length-map, map-append}, Option.{slice_get_within}}}
use Rattle.{std.proofs.lemmas.Grind.{common_steps}, tariff_tree.proofs.Laws.{first_lines_hold-conditions}}
use Rattle.tariff_compile.specs.Common.{Choice, Context, Line, own_conditions, place_number, place_of, tree_of, when_at}
use Rattle.tariff_compile.proofs.{Blocks.{at_place}, Marked.{first_holds}}
use Rattle.tariff_compile.proofs.cells.first_numbers.Goals as goal

-- places of choices are small
place_few : {V : Type 0} (lines : List Line) (own : List (Choice V)) (x : Context) (found : Option ℕ) (place : ℕ)
    → length own ≤ 64 → found ≡ place_of x (own_conditions lines own) → found ≡ Some place → place < 255
place_few {V} lines own x found place few first is =
    let there = (first_lines_hold-conditions x (own_conditions lines own) (Some place)).0 (sym first ∙ is) in
    omega (
      arith,
      few,
      slice_get_within (own_conditions lines own) place there.0 there.1,
      length-map own (λ (c : Choice V). when_at lines c.place),
    )

pub place_number-requires : goal.place_number-requires
place_number-requires g c = λ place found.
    let lines = (tree_of c.args.checked.now).lines in
    let own = c.args.choices.now in
    let here = at_place c.args.contexts.now c.loop-place.place c.loop-place-test.true in
    let first = first_holds (own_conditions lines own) c.args.contexts.now _ _ c.loop-place.place here.0
    c.first_marked-first.result c.in_ok-marks.ensures c.as_slice.ensures.value here.1 c.first_marked-first.ensures in
    place_few lines own here.0 c.first_marked-first.result place c.requires.choices first found

pub loop-place-preserved : goal.loop-place-preserved
loop-place-preserved g c =
    let conditions = own_conditions (tree_of c.args.checked.now).lines c.args.choices.now in
    let number = λ (x : Context). place_number (place_of x conditions) in
    let place = c.loop-place.place in
    let here = at_place c.args.contexts.now place c.loop-place-test.true in
    let first = first_holds conditions c.args.contexts.now _ _ place here.0 c.first_marked-first.result
    c.in_ok-marks.ensures c.as_slice.ensures.value here.1 c.first_marked-first.ensures in
    let put : c.place_number.result ≡ number here.0 = c.place_number.ensures ∙ ap place_number first in
    let more : map number (take (place + 1) c.args.contexts.now)
    ≡ map number (take place c.args.contexts.now) ++ number here.0 ∷ [] =
    ap (map number) here.2 ∙ map-append number (take place c.args.contexts.now) (here.0 ∷ []) in
    grind (arith, common_steps, put, more)

pub returns : goal.returns
returns g c = grind (arith, common_steps)
