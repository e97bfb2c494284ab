use Rattle.{std.{specs.List.{position_from}, proofs.lemmas.List.{at_drop_more}}, tariff_compile.specs.Marks.{is_marked}}
use Rattle.std.proofs.Common.{ℕ, ◌<◌, ◌∙◌, ◌≡◌, List, Some, drop, get_or, length, refl, sym, true}
use Rattle.tariff_compile.specs.Common.{Marks}
use Rattle.tariff_compile.proofs.marking.first_marked.Goals as goal

-- marks at a place from which on is looked are the first that have it
found : (place : ℕ) (all : List Marks) (i : ℕ) (d : Marks) → i < length all
    → is_marked (get_or all i d) place ≡ true → Some i ≡ position_from (λ marks. is_marked marks place) i (drop i all)
found place all i d inside marked =
    sym (at_drop_more (position_from (λ marks. is_marked marks place) i) all i d inside ∙ rw marked refl)

pub returns-then-is_marked : goal.returns-then-is_marked
returns-then-is_marked c =
    found c.args.place c.args.all.now c.loop-i.i _ c.loop-i-test.true (sym c.is_marked.ensures ∙ c.if-is_marked.true)
    ∙ c.loop-i.invariant
