-- What a scan of the pair of totals finds on a board that is settled.
use Rattle.std.proofs.Common.{ℕ, ◌∙◌, ◌≡◌, Err, List, Ok, Result, ap, sym}
use Rattle.{slot_store.specs.{Scan.{found_at}, Slots.{IsAt}}, totals_record.specs.Reading.{reads}}
use Rattle.slot_store.{specs.declared.found.Found.{Found, TheVariants.{Blank, Latest}}, proofs.Laws.{answer_is}}
use Rattle.slot_store.specs.declared.found.SlotFault.{SlotFault, TheVariants.{BadBody, DeviceFailed, SameNumber}}
use Rattle.meter_run.specs.Common.{Durable, Place, state_number_of}

abbrev latest : Place → Durable → Result (Found Durable) SlotFault
latest place d = Ok (Latest place d)

abbrev nothing : Result (Found Durable) SlotFault
nothing = Ok Blank

abbrev fails : SlotFault → Result (Found Durable) SlotFault
fails fault = Err fault

-- an answer is exact of an image; it is one that no image with a state has; and it is the board's failure
abbrev pub IsExact : Result (Found Durable) SlotFault → List ℕ → Type 0
IsExact r image = r ≡ found_at reads state_number_of 0 image

abbrev pub HasNone : Result (Found Durable) SlotFault → Type 0
HasNone r = (place : Place) (d : Durable) (image : List ℕ) → IsAt reads state_number_of 0 place image d
    → IsExact r image → ⊥

abbrev pub IsFailure : Result (Found Durable) SlotFault → Type 0
IsFailure r = r ≡ fails DeviceFailed

-- the answer to an image in which the latest state is at a place
answered : (place : Place) (d : Durable) (image : List ℕ) → IsAt reads state_number_of 0 place image d
    → found_at reads state_number_of 0 image ≡ Ok (Latest place d)
answered place d image at = (answer_is reads state_number_of 0 image (Ok (Latest place d))).1 at

same_state : (p q : Place) (b d : Durable) (r : Result (Found Durable) SlotFault) → r ≡ Ok (Latest p b)
    → r ≡ Ok (Latest q d) → b ≡ d
same_state p q b d r one other = by (sym one ∙ other)
  where
    by : latest p b ≡ latest q d → b ≡ d
    by is = cc

-- what was found is that state
pub found_is : (f : Found Durable) (p : Place) (b : Durable) (place : Place) (d : Durable) (image : List ℕ) → f
    ≡ Latest p b → IsAt reads state_number_of 0 place image d → Ok f ≡ found_at reads state_number_of 0 image → b ≡ d
found_is f p b place d image is at exact =
    same_state p place b d (found_at reads state_number_of 0 image) (sym exact ∙ ap Ok is) (answered place d image at)

-- it isn't blank
pub not_blank : (f : Found Durable) (place : Place) (d : Durable) (image : List ℕ) → f ≡ Blank
    → IsAt reads state_number_of 0 place image d → Ok f ≡ found_at reads state_number_of 0 image → ⊥
not_blank f place d image is at exact = by (sym (ap Ok is) ∙ exact ∙ answered place d image at)
  where
    by : nothing ≡ latest place d → ⊥
    by same = absurd cc

-- nor is there a fault
pub no_fault : (e : SlotFault) (place : Place) (d : Durable) (image : List ℕ)
    → IsAt reads state_number_of 0 place image d → Err e ≡ found_at reads state_number_of 0 image → ⊥
no_fault e place d image at exact = by (exact ∙ answered place d image at)
  where
    by : fails e ≡ latest place d → ⊥
    by same = absurd cc

-- an answer isn't the board's failure
pub answers : (f : Found Durable) → Ok f ≡ fails DeviceFailed → ⊥
answers f bad = absurd cc

pub bad_body : (e : SlotFault) (slot : ℕ) → e ≡ BadBody slot → fails e ≡ fails DeviceFailed → ⊥
bad_body e slot is bad = by (sym (ap fails is) ∙ bad)
  where
    by : fails (BadBody slot) ≡ fails DeviceFailed → ⊥
    by same = absurd cc

pub same_number : (e : SlotFault) (number : ℕ) → e ≡ SameNumber number → fails e ≡ fails DeviceFailed → ⊥
same_number e number is bad = by (sym (ap fails is) ∙ bad)
  where
    by : fails (SameNumber number) ≡ fails DeviceFailed → ⊥
    by same = absurd cc
