-- How cuts are put among others.
use Rattle.std.{specs.BTreeSet.{insert_key}, proofs.{Common.{map, refl, suc, sym}, lemmas.Grind.{flat_map-append}}}
use Rattle.{std.specs.{List.{flat_map}, Ordering.{nat_cmp}}, tariff_check.specs.Cuts.{all_cuts, atom_cuts, with_each}}
use Rattle.std.proofs.Common.{[], ℕ, ◌++◌, ◌+◌, ◌<◌, ◌∙◌, ◌∷◌, ◌≡◌, List, ap, arith, drop, drop-cons, get_or, length}
use Rattle.tariff_check.specs.{Common.{Condition, Dimension, TariffLine, entry_of, line_of}, Lines.{atoms_in}}

-- numbers that are put among others in two parts
pub with_each-append : (numbers more last : List ℕ)
    → with_each numbers (more ++ last) ≡ with_each (with_each numbers more) last
with_each-append numbers [] last = refl
with_each-append numbers (n ∷ more) last = with_each-append (insert_key nat_cmp numbers n) more last

-- and so the cuts of the atoms of two conditions
pub with_both : (dimension : Dimension) (before middle after : List ℕ) (left right : List Condition)
    → middle ≡ with_each before (flat_map (atom_cuts dimension) left) → after ≡ with_each middle
    (flat_map (atom_cuts dimension) right) → after ≡ with_each before (flat_map (atom_cuts dimension) (left ++ right))
with_both dimension before middle after left right first second =
    second ∙ (ap (λ (ns : List ℕ). with_each ns (flat_map (atom_cuts dimension) right)) first
    ∙ (sym (with_each-append before (flat_map (atom_cuts dimension) left) (flat_map (atom_cuts dimension) right))
    ∙ ap (with_each before) (sym (flat_map-append (atom_cuts dimension) left right))))

-- and those of a line and the lines after it
pub line_step : (dimension : Dimension) (before after : List ℕ) (lines : List TariffLine) (i : ℕ) (l : TariffLine)
    → i < length lines → l ≡ get_or lines i l → after ≡ with_each before (flat_map (atom_cuts dimension)
    (atoms_in (entry_of l.item))) → with_each after (all_cuts dimension (map line_of (drop (i + 1) lines)))
    ≡ with_each before (all_cuts dimension (map line_of (drop i lines)))
line_step dimension before after lines i l within at same =
    let next : i + 1 ≡ suc i = omega arith in
    let tail = all_cuts dimension (map line_of (drop (suc i) lines)) in
    let here : drop i lines ≡ l ∷ drop (suc i) lines =
    drop-cons lines i l within ∙ ap (λ (m : TariffLine). m ∷ drop (suc i) lines) (sym at) in
    rw (next, here, same)
    (sym (with_each-append before (flat_map (atom_cuts dimension) (atoms_in (entry_of l.item))) tail))
