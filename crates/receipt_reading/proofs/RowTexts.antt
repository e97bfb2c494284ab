-- A receipt's text is made of the fields of its row, so a row is that of one receipt.
use Rattle.std.specs.{List.{slice_split}, Prelude.{◌==◌, codes, decimal, if◌then◌else◌}}
use Rattle.std.proofs.Common.{[], ℕ, ◌++◌, ◌+◌, ◌<◌, ◌^◌, ◌∙◌, ◌∷◌, ◌≡◌, ◌≢◌, ◌≤◌, Bool, List, ap, append_assoc, arith}
use Rattle.std.proofs.{Common.{false, get_or, length, refl, subst, sym, true}, lemmas.Bool.Decides.{nat_tests}}
use Rattle.{taxi_units.proofs.Laws.{amounts_are_short}, receipt_text.proofs.Laws.{receipts_are_their_texts}}
use Rattle.receipt_text.specs.{AmountLines.{total_of}, Receipts.{supplements_text, total_text, trip_text}}
use Rattle.receipt_text.specs.Receipts.{body_text, calculation_text, course_text, day_text, fare_text, heading_text}
use Rattle.receipt_text.specs.Receipts.{hex_text, last_text, optional_text, part_text, receipt_text, stamp_text}
use Rattle.receipt_reading.specs.{Common.{Kind, Part, Receipt, kind_text, money_text}, ReceiptRows.{words_of}}
use Rattle.receipt_reading.{specs.Printed.{IsPrinted, Printed}, proofs.{PlainFields.{row_cut}, RollLaws.{one_printed}}}
use Rattle.receipt_reading.specs.ReceiptRows.{fields_of, in_turn, optional_field, optional_word, row_of, words_before}

-- an optional line is its word and its field, if that has a byte
abbrev optional_line : List ℕ → List ℕ
optional_line [] = []
optional_line (c ∷ cs) = codes "MINIMUM " ++ ((c ∷ cs) ++ codes "\n")

some_line : (field : List ℕ) → 0 < length field → optional_line field ≡ codes "MINIMUM " ++ (field ++ codes "\n")
some_line [] some = absurd (omega (arith, some))
some_line (c ∷ cs) some = refl

optional_is : (decimals amount : ℕ) → decimals ≤ 3 → amount < 10 ^ 20
    → optional_text decimals (codes "MINIMUM ") amount ≡ optional_line (optional_field decimals amount)
unfolding optional_text
optional_is decimals amount few small = by (amount == 0)
  where
    by : (none : Bool) → (if none then [] else codes "MINIMUM " ++ (money_text decimals amount ++ codes "\n"))
        ≡ optional_line (if none then [] else money_text decimals amount)
    by true = refl
    by false = sym (some_line (money_text decimals amount)
        (amounts_are_short decimals 20 amount (omega arith) (omega arith) small).0)

-- the line before an optional one ends before its word
turned : (optional rest : List ℕ) → 10 ∷ (optional_line optional ++ rest)
    ≡ optional_word optional ++ (optional ++ 10 ∷ rest)
turned [] rest = refl
turned (c ∷ cs) rest =
    ap (λ (t : List ℕ). codes "\nMINIMUM " ++ (c ∷ t)) (append_assoc cs (codes "\n") rest)

-- ---- the lines of a receipt, in front of a rest

heading_on : (number : ℕ) (kind : Kind) (rest : List ℕ) → heading_text number kind ++ rest
    ≡ codes "RECEIPT " ++ (decimal number ++ (codes "\nKIND " ++ (kind_text kind ++ 10 ∷ rest)))
unfolding heading_text
heading_on number kind rest = simp append_assoc

part_on : (part : Part) (rest : List ℕ) → part_text part ++ rest
    ≡ codes "TAXI " ++ (part.taxi ++ (codes "\nCONSTANT " ++ (decimal part.constant
    ++ (codes "\nSECURED " ++ (day_text part.secured ++ (codes "\nTARIFF " ++ (hex_text part.digest ++ 10 ∷ rest)))))))
unfolding part_text
part_on part rest = simp append_assoc

trip_on : (r : Receipt) (rest : List ℕ) → trip_text r ++ rest
    ≡ codes "START " ++ (stamp_text r.start ++ (codes "\nFINISH " ++ (stamp_text r.finish
    ++ (codes "\nPOSITION " ++ (decimal r.position
    ++ (codes "\nDISTANCE " ++ (money_text 3 r.hired_mm ++ (codes " m\n" ++ rest))))))))
unfolding trip_text course_text
trip_on r rest = simp append_assoc

calculation_on : (r : Receipt) (rest : List ℕ) → calculation_text r ++ rest
    ≡ codes "CALC " ++ (money_text r.decimals r.initial ++ (codes " + " ++ (decimal r.steps
    ++ (codes " x " ++ (money_text r.decimals r.step ++ 10 ∷ rest)))))
unfolding calculation_text
calculation_on r rest = simp append_assoc

amounts_of : Receipt → List ℕ
amounts_of r = codes "FARE " ++ (money_text r.decimals r.fare ++ (codes "\nSUPPLEMENTS "
    ++ (money_text r.decimals r.supplements ++ (codes "\nTOTAL " ++ (money_text r.decimals (total_of r)
    ++ codes "\nEND\n")))))

amounts_are : (r : Receipt) → fare_text r ++ (supplements_text r ++ total_text r) ≡ amounts_of r
unfolding fare_text supplements_text total_text amounts_of
amounts_are r = simp append_assoc

-- the last lines, behind the end of the line before them
last_on : (r : Receipt) → r.decimals ≤ 3 → r.minimum < 10 ^ 20 → let optional = optional_field r.decimals r.minimum in
    10 ∷ last_text r ≡ optional_word optional ++ (optional ++ 10 ∷ amounts_of r)
unfolding last_text
last_on r few small =
    let optional = optional_field r.decimals r.minimum in
    ap (λ (t : List ℕ). 10 ∷ (t ++ (fare_text r ++ (supplements_text r ++ total_text r))))
    (optional_is r.decimals r.minimum few small)
    ∙ (ap (λ (t : List ℕ). 10 ∷ (optional_line optional ++ t)) (amounts_are r) ∙ turned optional (amounts_of r))

text_turned : (it : Printed) → it.receipt.decimals ≤ 3 → it.receipt.minimum < 10 ^ 20
    → receipt_text it.receipt it.part ≡ in_turn (words_of it) (fields_of it) (codes "\nEND\n")
unfolding receipt_text body_text amounts_of
text_turned it few small =
    let r = it.receipt in
    let p = it.part in
    heading_on r.number r.kind (part_text p ++ (trip_text r ++ (calculation_text r ++ last_text r)))
    ∙ ap (λ (t : List ℕ). codes "RECEIPT " ++ (decimal r.number ++ (codes "\nKIND " ++ (kind_text r.kind ++ 10 ∷ t))))
    (part_on p (trip_text r ++ (calculation_text r ++ last_text r))
    ∙ ap (λ (t : List ℕ). codes "TAXI " ++ (p.taxi ++ (codes "\nCONSTANT " ++ (decimal p.constant
    ++ (codes "\nSECURED " ++ (day_text p.secured ++ (codes "\nTARIFF " ++ (hex_text p.digest ++ 10 ∷ t))))))))
    (trip_on r (calculation_text r ++ last_text r)
    ∙ ap (λ (t : List ℕ). codes "START " ++ (stamp_text r.start ++ (codes "\nFINISH " ++ (stamp_text r.finish
    ++ (codes "\nPOSITION " ++ (decimal r.position
    ++ (codes "\nDISTANCE " ++ (money_text 3 r.hired_mm ++ (codes " m\n" ++ t)))))))))
    (calculation_on r (last_text r)
    ∙ ap (λ (t : List ℕ). codes "CALC " ++ (money_text r.decimals r.initial ++ (codes " + " ++ (decimal r.steps
    ++ (codes " x " ++ (money_text r.decimals r.step ++ t))))))
    (last_on r few small))))

pub text_in_turn : (it : Printed) → IsPrinted it
    → it.text ≡ in_turn (words_of it) (fields_of it) (codes "\nEND\n")
text_in_turn it h =
    let is = (receipts_are_their_texts it.text it.receipt it.part).0 h.is in
    is.text_is ∙ text_turned it h.is.receipt_is.decimals (omega (arith, h.is.receipt_is.minimum))

-- fields are those of one text
abbrev text_of_fields : List (List ℕ) → List ℕ
text_of_fields fields = in_turn (words_before (get_or fields 13 [])) fields (codes "\nEND\n")

pub one_row : (a b : Printed) → IsPrinted a → IsPrinted b → row_of a ≡ row_of b → a ≡ b
one_row a b h k e =
    let fields : fields_of a ≡ fields_of b = sym (row_cut a h) ∙ (ap (slice_split (λ byte. byte == 44)) e
    ∙ row_cut b k) in
    let texts : a.text ≡ b.text = text_in_turn a h ∙ (ap text_of_fields fields ∙ sym (text_in_turn b k)) in
    one_printed a b texts h k
