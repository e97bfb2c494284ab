-- What was handed out of a roll, when no more of it is read.
use Rattle.std.proofs.Common.{[], ℕ, ◌++◌, ◌∙◌, ◌≡◌, List, Option, Some, ap, is_some, subst, sym}
use Rattle.{std.proofs.lemmas.List.{append-nil}, receipt_reading.specs.declared.roll.RollEnd.TheVariants.{Whole}}
use Rattle.receipt_reading.specs.{Printed.{Printed}, Reading.{EndsBy, HasRead, Place}, declared.roll.RollEnd.{RollEnd}}
use Rattle.receipt_reading.{specs.Roll.{AreOnRoll, Reads}, proofs.Rolls.{none_follows}}

-- what was handed out was read from the bytes taken
pub receipts_so_far : (roll : List ℕ) (place : Place) (rest : List ℕ) (receipts : List Printed)
    → (h : HasRead roll place rest receipts) → Reads h.taken receipts place.ahead
receipts_so_far roll place rest receipts h =
    subst (λ (t : List ℕ). Reads t receipts place.ahead) (append-nil h.taken)
    (subst (λ (t : List ℕ). Reads (h.taken ++ []) receipts t) (append-nil place.ahead)
    (h.reads [] (none_follows (is_some place.end))))

-- if nothing is ahead, they are the receipts of the bytes taken
pub receipts_taken : (roll : List ℕ) (place : Place) (rest : List ℕ) (receipts : List Printed)
    → (h : HasRead roll place rest receipts) → place.ahead ≡ [] → AreOnRoll receipts h.taken
receipts_taken roll place rest receipts h none =
    subst (λ (t : List ℕ). Reads h.taken receipts t) none (receipts_so_far roll place rest receipts h)

-- and of the whole roll if it was read to its end
pub receipts_of_all : (roll : List ℕ) (place : Place) (rest : List ℕ) (receipts : List Printed)
    → HasRead roll place rest receipts → place.ahead ≡ [] → place.end ≡ Some Whole → AreOnRoll receipts roll
receipts_of_all roll place rest receipts h none whole =
    let over : rest ≡ [] = subst (λ (e : Option RollEnd). EndsBy e h.taken rest) whole h.ends in
    let all : roll ≡ h.taken = h.split.bytes ∙ (ap (λ (t : List ℕ). h.taken ++ t) over ∙ append-nil h.taken) in
    subst (AreOnRoll receipts) (sym all) (receipts_taken roll place rest receipts h none)
