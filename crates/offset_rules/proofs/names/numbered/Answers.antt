use Rattle.std.proofs.Common.{[], ℕ, ◌+◌, ◌<◌, ◌∙◌, ◌∷◌, ◌≡◌, Bor, List, Option, ap, arith, drop, get_or, length, map}
use Rattle.std.proofs.{Common.{refl, sym}, Math.ListN.{drop_of_length-le}, lemmas.List.{at_drop_more}}
use Rattle.offset_rules.{specs.Reading.{numbered_at}, proofs.NamesRead.{name_here, name_later}}
use Rattle.offset_rules.proofs.names.numbered.Goals as goal

-- what the names from a place on find at the front of a text
abbrev found_from : (text : List ℕ) (place : ℕ) (names : List (Bor (List ℕ))) → Option (ℕ × List ℕ)
found_from text place names = numbered_at (map (λ (name : Bor (List ℕ)). name.now) names) (place + 1) text

-- the name at a place is the first of those from there on
at_place : (text : List ℕ) (names : List (Bor (List ℕ))) (place : ℕ) → place < length names
    → found_from text place (drop place names)
    ≡ found_from text place (get_or names place (record { ref_ptr = (0, 0); now = [] }) ∷ drop (place + 1) names)
at_place text names place within = at_drop_more (found_from text place) names place _ within

pub loop-place-init : goal.loop-place-init
loop-place-init c = refl

pub returns-in-Some-clause-value : goal.returns-in-Some-clause-value
returns-in-Some-clause-value c =
    sym c.loop-place.invariant ∙ at_place c.args.text.now c.args.names.now c.loop-place.place c.loop-place-test.true
    ∙ name_here _ _ _ _ c.in-Some.ensures

pub loop-place-preserved : goal.loop-place-preserved
loop-place-preserved c =
    sym (name_later _ _ _ _ c.in_default.ensures refl)
    ∙ sym (at_place c.args.text.now c.args.names.now c.loop-place.place c.loop-place-test.true) ∙ c.loop-place.invariant

pub returns-clause-value : goal.returns-clause-value
returns-clause-value c =
    sym c.loop-place.invariant ∙ ap (found_from c.args.text.now c.loop-place.place)
    (drop_of_length-le c.args.names.now (omega (arith, c.loop-place-test.false)))
