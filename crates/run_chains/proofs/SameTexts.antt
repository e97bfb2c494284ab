-- What acts that are alike print, enter and leave.
use Rattle.std.proofs.Common.{[], ℕ, ◌++◌, ◌∙◌, ◌∷◌, ◌≡◌, List, ap, refl, sym}
use Rattle.{totals_record.specs.declared.entry.Entry.{Entry}, same_tariffs.specs.Alike.{AreActsAlike, IsActAlike}}
use Rattle.{meter_model.specs.declared.act.Act.TheVariants.{Enter, Hold, Refuse, Show}, run_chains.specs.Common.{texts}}
use Rattle.receipt_text.{specs.SealParts.{part_of_seal}, proofs.Laws.{differ_in_tariff}}
use Rattle.{meter_run.specs.Deeds.{act_text}, run_chains.specs.SameRuns.{IsTextAlike}}
use Rattle.run_chains.specs.Common.{Act, Deed, Does, Prints, Receipt, Seal, Setting, changes_of, deeds_of, entries_of}

-- an act prints what one that is alike does
alike-text : (s t : Setting) (seal : Seal) (x y : Act) → IsActAlike s t x y → act_text seal y ≡ act_text seal x
alike-text s t seal (Hold a) (Hold b) same = refl
alike-text s t seal x y same = ap (act_text seal) (sym same)

pub alike-texts : (s t : Setting) (seal : Seal) (xs ys : List Act) → AreActsAlike s t xs ys
    → texts seal (deeds_of ys) ≡ texts seal (deeds_of xs)
alike-texts s t seal [] [] same = refl
alike-texts s t seal (x ∷ xs) (y ∷ ys) same =
    ap (λ (text : List ℕ). text ++ texts seal (deeds_of ys)) (alike-text s t seal x y same.0)
    ∙ ap (λ (text : List ℕ). act_text seal x ++ text) (alike-texts s t seal xs ys same.1)
alike-texts s t seal [] (y ∷ ys) same = absurd same
alike-texts s t seal (x ∷ xs) [] same = absurd same

-- and enters the same
abbrev entered_by : Act → List Entry
entered_by (Enter entry) = entry ∷ []
entered_by act = []

entered-by : (s t : Setting) (x y : Act) → IsActAlike s t x y → entered_by y ≡ entered_by x
entered-by s t (Hold a) (Hold b) same = refl
entered-by s t x y same = ap entered_by (sym same)

entries-more : (x : Act) (xs : List Act) → entries_of (changes_of (deeds_of (x ∷ xs))) ≡ entered_by x ++ entries_of
    (changes_of (deeds_of xs))
entries-more (Show display) xs = refl
entries-more (Refuse why) xs = refl
entries-more (Enter entry) xs = refl
entries-more (Hold trip) xs = refl
entries-more (Receipt receipt) xs = refl

pub alike-entries : (s t : Setting) (xs ys : List Act) → AreActsAlike s t xs ys
    → entries_of (changes_of (deeds_of ys)) ≡ entries_of (changes_of (deeds_of xs))
alike-entries s t [] [] same = refl
alike-entries s t (x ∷ xs) (y ∷ ys) same =
    entries-more y ys ∙ ap (λ (es : List Entry). es ++ entries_of (changes_of (deeds_of ys)))
    (entered-by s t x y same.0)
    ∙ ap (λ (es : List Entry). entered_by x ++ es) (alike-entries s t xs ys same.1) ∙ sym (entries-more x xs)
alike-entries s t [] (y ∷ ys) same = absurd same
alike-entries s t (x ∷ xs) [] same = absurd same

-- a receipt differs in the line of the tariff alone, and any other deed has one text
pub alike-deed : (a b : Seal) (deed : Deed) → record a { digest = b.digest } ≡ b → IsTextAlike a b deed
alike-deed a b (Does (Receipt receipt)) same = differ_in_tariff receipt (part_of_seal a) (part_of_seal b)
    (ap part_of_seal same)
alike-deed a b (Does (Show display)) same = refl
alike-deed a b (Does (Refuse why)) same = refl
alike-deed a b (Does (Enter entry)) same = refl
alike-deed a b (Does (Hold trip)) same = refl
alike-deed a b (Prints line) same = refl
