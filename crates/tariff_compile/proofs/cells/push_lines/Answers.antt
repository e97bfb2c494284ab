use Rattle.std.{specs.List.{slice_get}, proofs.lemmas.{Grind.{common_steps}, Option.{slice_get-map}}}
use Rattle.std.{specs.Option.{option_map, unwrap_or}, proofs.{Common.{refl, suc, take, zero}, lemmas.List.{map-append}}}
use Rattle.std.proofs.Common.{[], ℕ, ◌++◌, ◌+◌, ◌-◌, ◌∙◌, ◌∷◌, ◌≡◌, List, None, Option, Some, ap, arith, get_or, map}
use Rattle.tariff_compile.{specs.Common.{Context, at_hiring, place_number, tree_of}, proofs.Blocks.{at_place}}
use Rattle.tariff_compile.specs.Tables.{lines_at}
use Rattle.tariff_compile.proofs.cells.push_lines.Goals as goal

-- what is read at a place of a list that is made of contexts is made of the context there
read_at : (xs : List Context) (place : ℕ) (x : Context) → slice_get xs place ≡ Some x → (f : Context → ℕ) (d : ℕ)
    → get_or (map f xs) place d ≡ f x
read_at [] place x at f d = absurd cc
read_at (y ∷ xs) zero x at f d = let same : y ≡ x = cc in ap f same
read_at (y ∷ xs) (suc place) x at f d = read_at xs place x at f d

-- the place that a number tells
place_of_number : (o : Option ℕ) → place_number o - 1 ≡ unwrap_or o 0
place_of_number None = refl
place_of_number (Some place) = omega arith

pub loop-place-preserved : goal.loop-place-preserved
loop-place-preserved c =
    let t = tree_of c.args.checked.now in
    let xs = c.args.contexts.now in
    let place = c.loop-place.place in
    let here = at_place xs place c.loop-place-test.true in
    let read = read_at xs place here.0 here.1 in
    let read_hiring = read_at (map at_hiring xs) place (at_hiring here.0)
    (slice_get-map at_hiring xs place ∙ ap (option_map at_hiring) here.1) in
    let more : map (lines_at t) (take (place + 1) xs) ≡ map (lines_at t) (take place xs) ++ lines_at t here.0 ∷ [] =
    ap (map (lines_at t)) here.2 ∙ map-append (lines_at t) (take place xs) (here.0 ∷ []) in
    grind (arith, common_steps, place_of_number, read, read_hiring, more)

pub returns : goal.returns
returns c = grind (arith, common_steps)

pub bounds-as_slice-place : goal.bounds-as_slice-place
bounds-as_slice-place c = grind (arith, common_steps)

pub bounds-as_slice-place-in-loop-place : goal.bounds-as_slice-place-in-loop-place
bounds-as_slice-place-in-loop-place c = grind (arith, common_steps)

pub bounds-as_slice-place-in-loop-place-2 : goal.bounds-as_slice-place-in-loop-place-2
bounds-as_slice-place-in-loop-place-2 c = grind (arith, common_steps)

pub first_numbers-requires-2-clause-contexts : goal.first_numbers-requires-2-clause-contexts
first_numbers-requires-2-clause-contexts c = grind (arith, common_steps)

pub first_numbers-requires-3-clause-contexts : goal.first_numbers-requires-3-clause-contexts
first_numbers-requires-3-clause-contexts c = grind (arith, common_steps)
